-- Digests of trees, by which equal formulas are found (this project's own; the multiplier is that of Fowler, Noll and Vo). Equal trees have
-- equal digests. Sorts, binders and operations of maps are left out: trees that differ in these alone are told apart by comparing them.
use Rattle.std.specs.Prelude.{ℕ, ◌+◌, ◌*◌, ◌%◌, ◌^◌, ℤ, unsigned_abs, List, [], ◌∷◌, if◌then◌else◌}
use Rattle.mbqi_terms.specs.declared.formula.Formula.{Formula}
use Rattle.mbqi_terms.specs.declared.formula.Formula.TheFolds.{fold-Formula}
use Rattle.mbqi_terms.specs.declared.formula.Formula.TheOpen.{Formula-F}
use Rattle.mbqi_terms.specs.declared.term.ArrayTerm.{ArrayTerm}
use Rattle.mbqi_terms.specs.declared.term.ArrayTerm.TheFolds.{fold-ArrayTerm, fold-Symbol, fold-Term}
use Rattle.mbqi_terms.specs.declared.term.ArrayTerm.TheOpen.{ArrayTerm-F, Symbol-F, Term-F}
use Rattle.mbqi_terms.specs.declared.term.Symbol.{Symbol}
use Rattle.mbqi_terms.specs.declared.term.Term.{Term}

-- A digest with one more number in it.
unfoldable pub mixed : ℕ → ℕ → ℕ
mixed digest part = (digest * 1099511628211 % 2 ^ 64 + part) % 2 ^ 64

-- A digest with these numbers in it, one after the other.
abbrev pub mixed_all : ℕ → List ℕ → ℕ
mixed_all digest [] = digest
mixed_all digest (part ∷ parts) = mixed_all (mixed digest part) parts

-- The low bits of a number's distance from 0.
abbrev pub low_bits : ℤ → ℕ
low_bits n = unsigned_abs n % 2 ^ 64

abbrev pub array_digest_layer : ArrayTerm-F ℕ ℕ ℕ → ℕ
array_digest_layer (ArrayTerm-F.Name f) = mixed 1 f
array_digest_layer (ArrayTerm-F.Store a i v) = mixed (mixed (mixed 2 a) i) v
array_digest_layer (ArrayTerm-F.Const s v) = mixed 3 v
array_digest_layer (ArrayTerm-F.Map f parts) = mixed_all 4 parts

abbrev pub symbol_digest_layer : Symbol-F ℕ ℕ ℕ → ℕ
symbol_digest_layer (Symbol-F.Declared f) = mixed 5 f
symbol_digest_layer (Symbol-F.Skolem assertion place) = mixed (mixed 6 assertion) place
symbol_digest_layer (Symbol-F.Seed s) = mixed 7 s
symbol_digest_layer Symbol-F.Far = 8
symbol_digest_layer (Symbol-F.Diff a b) = mixed (mixed 9 a) b

abbrev pub term_digest_layer : Term-F ℕ ℕ ℕ → ℕ
term_digest_layer (Term-F.Num n) = mixed 10 (low_bits n)
term_digest_layer (Term-F.Plus t n) = mixed (mixed 11 t) (low_bits n)
term_digest_layer (Term-F.Var place) = mixed 12 place
term_digest_layer (Term-F.Truth b) = if b then 13 else 14
term_digest_layer (Term-F.Apply f args) = mixed_all (mixed 15 f) args
term_digest_layer (Term-F.Read a i) = mixed (mixed 16 a) i
term_digest_layer (Term-F.Default a) = mixed 17 a

abbrev pub array_digest : ArrayTerm → ℕ
array_digest a = fold-ArrayTerm ℕ ℕ ℕ array_digest_layer symbol_digest_layer term_digest_layer a

abbrev pub symbol_digest : Symbol → ℕ
symbol_digest s = fold-Symbol ℕ ℕ ℕ array_digest_layer symbol_digest_layer term_digest_layer s

abbrev pub term_digest : Term → ℕ
term_digest t = fold-Term ℕ ℕ ℕ array_digest_layer symbol_digest_layer term_digest_layer t

abbrev pub digest_layer : Formula-F ℕ → ℕ
digest_layer (Formula-F.Truth b) = if b then 18 else 19
digest_layer (Formula-F.Atom t) = mixed 20 (term_digest t)
digest_layer (Formula-F.Equal s t) = mixed (mixed 21 (term_digest s)) (term_digest t)
digest_layer (Formula-F.AtMost s t) = mixed (mixed 22 (term_digest s)) (term_digest t)
digest_layer (Formula-F.SameArray a b) = mixed (mixed 23 (array_digest a)) (array_digest b)
digest_layer (Formula-F.Not f) = mixed 24 f
digest_layer (Formula-F.All parts) = mixed_all 25 parts
digest_layer (Formula-F.Any parts) = mixed_all 26 parts
digest_layer (Formula-F.Iff f g) = mixed (mixed 27 f) g
digest_layer (Formula-F.Choose c f g) = mixed (mixed (mixed 28 c) f) g
digest_layer (Formula-F.Forall binders f) = mixed 29 f
digest_layer (Formula-F.Exists binders f) = mixed 30 f

abbrev pub digest_of : Formula → ℕ
digest_of f = fold-Formula ℕ digest_layer f
