-- Whether two terms, or two array terms, are one tree (this project's own). Each is a fold of the first tree into a test of the second.
use Rattle.std.specs.Prelude.{◌==◌, ◌&&◌, Bool, true, false, if◌then◌else◌, not, List, [], ◌∷◌}
use Rattle.std.specs.Ordering.{int_cmp, is_eq}
use Rattle.mbqi_terms.specs.declared.arrays.ArrayPair.{ArrayPair}
use Rattle.mbqi_terms.specs.declared.term.ArrayTerm.{ArrayTerm, out-ArrayTerm}
use Rattle.mbqi_terms.specs.declared.term.ArrayTerm.TheFolds.{fold-ArrayTerm, fold-Term}
use Rattle.mbqi_terms.specs.declared.term.ArrayTerm.TheOpen.{ArrayTerm-F, Symbol-F, Term-F}
use Rattle.mbqi_terms.specs.declared.term.MapOp.{MapOp}
use Rattle.mbqi_terms.specs.declared.term.MapOp.TheVariants as op
use Rattle.mbqi_terms.specs.declared.term.Symbol.{Symbol, out-Symbol}
use Rattle.mbqi_terms.specs.declared.term.Term.{Term, out-Term}
use Rattle.mbqi_terms.specs.Sort.{is_sort}
use Rattle.mbqi_terms.specs.Tree.{Layer}

-- As many elements as tests, each as its test asks.
abbrev pub all_pass : {X : Type 0} → List (X → Bool) → List X → Bool
all_pass [] [] = true
all_pass (test ∷ tests) (x ∷ xs) = test x && all_pass tests xs
all_pass tests xs = false

abbrev pub same_operation : MapOp → MapOp → Bool
same_operation (op.Declared f) (op.Declared g) = f == g
same_operation op.And op.And = true
same_operation op.Or op.Or = true
same_operation op.Not op.Not = true
same_operation f g = false

abbrev pub array_test : ArrayTerm-F (ArrayTerm → Bool) (Symbol → Bool) (Term → Bool) → ArrayTerm-F ArrayTerm Symbol Term → Bool
array_test (ArrayTerm-F.Name f) (ArrayTerm-F.Name g) = f == g
array_test (ArrayTerm-F.Store a i v) (ArrayTerm-F.Store b j w) = a b && (i j && v w)
array_test (ArrayTerm-F.Const s v) (ArrayTerm-F.Const t w) = is_sort s t && v w
array_test (ArrayTerm-F.Map f tests) (ArrayTerm-F.Map g parts) = same_operation f g && all_pass tests parts
array_test layer other = false

abbrev pub symbol_test : Symbol-F (ArrayTerm → Bool) (Symbol → Bool) (Term → Bool) → Symbol-F ArrayTerm Symbol Term → Bool
symbol_test (Symbol-F.Declared f) (Symbol-F.Declared g) = f == g
symbol_test (Symbol-F.Skolem assertion place) (Symbol-F.Skolem a p) = (assertion == a) && (place == p)
symbol_test (Symbol-F.Seed s) (Symbol-F.Seed t) = s == t
symbol_test Symbol-F.Far Symbol-F.Far = true
symbol_test (Symbol-F.Diff a b) (Symbol-F.Diff c d) = a c && b d
symbol_test layer other = false

abbrev pub term_test : Term-F (ArrayTerm → Bool) (Symbol → Bool) (Term → Bool) → Layer → Bool
term_test (Term-F.Num m) (Term-F.Num n) = is_eq (int_cmp m n)
term_test (Term-F.Plus t m) (Term-F.Plus u n) = t u && is_eq (int_cmp m n)
term_test (Term-F.Var place) (Term-F.Var p) = place == p
term_test (Term-F.Truth b) (Term-F.Truth c) = if b then c else not c
term_test (Term-F.Apply f tests) (Term-F.Apply g ts) = f g && all_pass tests ts
term_test (Term-F.Read a t) (Term-F.Read b u) = a b && t u
term_test (Term-F.Default a) (Term-F.Default b) = a b
term_test layer other = false

unfoldable pub same_array : ArrayTerm → ArrayTerm → Bool
same_array = fold-ArrayTerm (ArrayTerm → Bool) (Symbol → Bool) (Term → Bool)
    (λ layer a. array_test layer (out-ArrayTerm a)) (λ layer f. symbol_test layer (out-Symbol f)) (λ layer t. term_test layer (out-Term t))

unfoldable pub same_term : Term → Term → Bool
same_term = fold-Term (ArrayTerm → Bool) (Symbol → Bool) (Term → Bool)
    (λ layer a. array_test layer (out-ArrayTerm a)) (λ layer f. symbol_test layer (out-Symbol f)) (λ layer t. term_test layer (out-Term t))

abbrev pub same_pair : ArrayPair → ArrayPair → Bool
same_pair p q = same_array p.left q.left && same_array p.right q.right
