-- A sum with a number taken apart.
use Rattle.std.proofs.Common.{◌≡◌, zero, suc, ℤ, pos, negsuc, ◌+ℤ◌, arith, refl, sym, ap, ◌∙◌}
use Rattle.std.proofs.lemmas.Int.{ints}
use Rattle.mbqi_terms.specs.declared.term.ArrayTerm.TheOpen.{Term-F}
use Rattle.mbqi_terms.specs.declared.term.ArrayTerm.TheViews.{out-roll-Term}
use Rattle.mbqi_terms.specs.declared.term.Term.{Term, out-Term, roll-Term}
use Rattle.mbqi_terms.specs.declared.term.Term.TheVariants as term
use Rattle.mbqi_terms.proofs.Levels.{out-num, out-plus}
use Rattle.mbqi_terms.specs.Tree.{Layer, IsBase, sum_of, plus_at, plus_of, number_at}

-- the base of a sum, and its number
abbrev pub unsum_at : Layer → Layer × ℤ
unsum_at (Term-F.Num n) = (Term-F.Num (pos 0), n)
unsum_at (Term-F.Plus t n) = (out-Term t, n)
unsum_at layer = (layer, pos 0)

abbrev pub unsum : Term → Layer × ℤ
unsum t = unsum_at (out-Term t)

pub number-unsum : (x : Layer) → number_at x ≡ (unsum_at x).1
number-unsum (Term-F.Num n) = refl
number-unsum (Term-F.Plus t n) = refl
number-unsum (Term-F.Var k) = refl
number-unsum (Term-F.Truth b) = refl
number-unsum (Term-F.Apply f ts) = refl
number-unsum (Term-F.Read a i) = refl
number-unsum (Term-F.Default a) = refl

base_alone : (x : Layer) → IsBase x → unsum_at x ≡ (x, pos 0)
base_alone (Term-F.Num n) base = absurd base
base_alone (Term-F.Plus t n) base = absurd base
base_alone (Term-F.Var k) base = refl
base_alone (Term-F.Truth b) base = refl
base_alone (Term-F.Apply f ts) base = refl
base_alone (Term-F.Read a i) base = refl
base_alone (Term-F.Default a) base = refl

plus_base : (x : Layer) → IsBase x → (t : Term) (n : ℤ) → plus_at x t n ≡ sum_of t n
plus_base (Term-F.Num m) base t n = absurd base
plus_base (Term-F.Plus u m) base t n = absurd base
plus_base (Term-F.Var k) base t n = refl
plus_base (Term-F.Truth b) base t n = refl
plus_base (Term-F.Apply f ts) base t n = refl
plus_base (Term-F.Read a i) base t n = refl
plus_base (Term-F.Default a) base t n = refl

pub unsum-sum_of : (x : Layer) → IsBase x → (n : ℤ) → unsum (sum_of (roll-Term x) n) ≡ (x, n)
unsum-sum_of x base (pos zero) = ap unsum_at (out-roll-Term x) ∙ base_alone x base
unsum-sum_of x base (pos (suc n)) = ap unsum_at (out-plus (roll-Term x) (pos (suc n))) ∙ ap (λ y. (y, pos (suc n))) (out-roll-Term x)
unsum-sum_of x base (negsuc n) = ap unsum_at (out-plus (roll-Term x) (negsuc n)) ∙ ap (λ y. (y, negsuc n)) (out-roll-Term x)

pub unsum-num : (n : ℤ) → unsum (term.Num n) ≡ (Term-F.Num (pos 0), n)
unsum-num n = ap unsum_at (out-num n)

zero-addℤ : (n : ℤ) → pos 0 +ℤ n ≡ n
zero-addℤ n = omega (arith, ints)

pub plus-sum_of : (x : Layer) → IsBase x → (m n : ℤ) → plus_of (sum_of (roll-Term x) m) n ≡ sum_of (roll-Term x) (m +ℤ n)
plus-sum_of x base (pos zero) n =
    let whole = ap (λ y. plus_at y (roll-Term x) n) (out-roll-Term x) in
    whole ∙ (plus_base x base (roll-Term x) n ∙ ap (sum_of (roll-Term x)) (sym (zero-addℤ n)))
plus-sum_of x base (pos (suc m)) n = ap (λ y. plus_at y (term.Plus (roll-Term x) (pos (suc m))) n) (out-plus (roll-Term x) (pos (suc m)))
plus-sum_of x base (negsuc m) n = ap (λ y. plus_at y (term.Plus (roll-Term x) (negsuc m)) n) (out-plus (roll-Term x) (negsuc m))
