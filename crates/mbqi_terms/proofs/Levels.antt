-- One level of each term, symbol and array term that code makes.
use Rattle.std.proofs.Common.{◌≡◌, ℕ, Bool, ℤ, List, sym, ap, ◌∙◌}
use Rattle.mbqi_terms.specs.declared.term.ArrayTerm.{ArrayTerm}
use Rattle.mbqi_terms.specs.declared.term.ArrayTerm.TheOpen.{Term-F, Symbol-F}
use Rattle.mbqi_terms.specs.declared.term.ArrayTerm.TheViews.{out-roll-Term, out-roll-Symbol}
use Rattle.mbqi_terms.specs.declared.term.Symbol.{Symbol, out-Symbol}
use Rattle.mbqi_terms.specs.declared.term.Symbol.TheVariants as symbol
use Rattle.mbqi_terms.specs.declared.term.Term.{Term, out-Term}
use Rattle.mbqi_terms.specs.declared.term.Term.TheVariants as term

pub out-num : (n : ℤ) → out-Term (term.Num n) ≡ Term-F.Num n
out-num n = ap out-Term (sym (term.rolls-Num n)) ∙ out-roll-Term (Term-F.Num n)

pub out-plus : (t : Term) (n : ℤ) → out-Term (term.Plus t n) ≡ Term-F.Plus t n
out-plus t n = ap out-Term (sym (term.rolls-Plus t n)) ∙ out-roll-Term (Term-F.Plus t n)

pub out-var : (k : ℕ) → out-Term (term.Var k) ≡ Term-F.Var k
out-var k = ap out-Term (sym (term.rolls-Var k)) ∙ out-roll-Term (Term-F.Var k)

pub out-truth : (b : Bool) → out-Term (term.Truth b) ≡ Term-F.Truth b
out-truth b = ap out-Term (sym (term.rolls-Truth b)) ∙ out-roll-Term (Term-F.Truth b)

pub out-apply : (f : Symbol) (ts : List Term) → out-Term (term.Apply f ts) ≡ Term-F.Apply f ts
out-apply f ts = ap out-Term (sym (term.rolls-Apply f ts)) ∙ out-roll-Term (Term-F.Apply f ts)

pub out-read : (a : ArrayTerm) (t : Term) → out-Term (term.Read a t) ≡ Term-F.Read a t
out-read a t = ap out-Term (sym (term.rolls-Read a t)) ∙ out-roll-Term (Term-F.Read a t)

pub out-default : (a : ArrayTerm) → out-Term (term.Default a) ≡ Term-F.Default a
out-default a = ap out-Term (sym (term.rolls-Default a)) ∙ out-roll-Term (Term-F.Default a)

pub out-declared : (f : ℕ) → out-Symbol (symbol.Declared f) ≡ Symbol-F.Declared f
out-declared f = ap out-Symbol (sym (symbol.rolls-Declared f)) ∙ out-roll-Symbol (Symbol-F.Declared f)

pub out-skolem : (assertion place : ℕ) → out-Symbol (symbol.Skolem assertion place) ≡ Symbol-F.Skolem assertion place
out-skolem assertion place = ap out-Symbol (sym (symbol.rolls-Skolem assertion place)) ∙ out-roll-Symbol (Symbol-F.Skolem assertion place)

pub out-seed : (s : ℕ) → out-Symbol (symbol.Seed s) ≡ Symbol-F.Seed s
out-seed s = ap out-Symbol (sym (symbol.rolls-Seed s)) ∙ out-roll-Symbol (Symbol-F.Seed s)

pub out-far : out-Symbol symbol.Far ≡ Symbol-F.Far
out-far = ap out-Symbol (sym symbol.rolls-Far) ∙ out-roll-Symbol Symbol-F.Far

pub out-diff : (a b : ArrayTerm) → out-Symbol (symbol.Diff a b) ≡ Symbol-F.Diff a b
out-diff a b = ap out-Symbol (sym (symbol.rolls-Diff a b)) ∙ out-roll-Symbol (Symbol-F.Diff a b)
