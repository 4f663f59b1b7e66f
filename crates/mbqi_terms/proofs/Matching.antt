-- Which head makes a term, by the lists.
use Rattle.std.proofs.Common.{◌≡◌, ◌≢◌, ℕ, List, Some, slice_get, refl, sym, ap, subst, ◌∙◌}
use Rattle.std.proofs.lemmas.Option.{slice_get_within, slice_get-get_or, get_or_from_slice_get}
use Rattle.mbqi_terms.specs.declared.arrays.ArrayPair.{ArrayPair}
use Rattle.mbqi_terms.specs.declared.store.lists.Lists.{Lists}
use Rattle.mbqi_terms.specs.declared.store.node.Head.TheVariants.{Diff, Read, Default}
use Rattle.mbqi_terms.specs.declared.term.ArrayTerm.{ArrayTerm}
use Rattle.mbqi_terms.specs.declared.term.ArrayTerm.TheVariants as array
use Rattle.mbqi_terms.specs.declared.term.ArrayTerm.TheOpen.{Term-F}
use Rattle.mbqi_terms.specs.declared.term.Symbol.{Symbol}
use Rattle.mbqi_terms.specs.declared.term.Symbol.TheVariants as symbol
use Rattle.mbqi_terms.specs.declared.term.Term.{Term, out-Term}
use Rattle.mbqi_terms.specs.declared.term.Term.TheVariants as term
use Rattle.mbqi_terms.specs.Store.{array_at, pair_at, IsHeadOf, HasNoHead}
use Rattle.mbqi_terms.proofs.Heads.{same_diff}
use Rattle.mbqi_terms.proofs.Levels.{out-read, out-default}

module _ (l : Lists) where
  array_found : (k : ℕ) (a : ArrayTerm) → slice_get l.arrays.terms k ≡ Some a → array_at l k ≡ a
  array_found k a e = get_or_from_slice_get l.arrays.terms k a (array.Name 0) e

  pair_found : (k : ℕ) (p : ArrayPair) → slice_get l.arrays.atoms k ≡ Some p → pair_at l k ≡ p
  pair_found k p e = get_or_from_slice_get l.arrays.atoms k p (record { left = array.Name 0; right = array.Name 0 }) e

  pub read_head : (k : ℕ) (a : ArrayTerm) (i : Term) → slice_get l.arrays.terms k ≡ Some a → IsHeadOf l (Term-F.Read a i) (Read k)
  read_head k a i e = ((slice_get_within l.arrays.terms k a e, refl), ap (λ x. Term-F.Read x i) (array_found k a e))

  pub default_head : (k : ℕ) (a : ArrayTerm) → slice_get l.arrays.terms k ≡ Some a → IsHeadOf l (Term-F.Default a) (Default k)
  default_head k a e = ((slice_get_within l.arrays.terms k a e, refl), ap (λ x. Term-F.Default x) (array_found k a e))

  pub diff_head : (k : ℕ) (p : ArrayPair) (ts : List Term) → slice_get l.arrays.atoms k ≡ Some p
      → IsHeadOf l (Term-F.Apply (symbol.Diff p.left p.right) ts) (Diff k)
  diff_head k p ts e = (slice_get_within l.arrays.atoms k p e, ap (λ (q : ArrayPair). Term-F.Apply (symbol.Diff q.left q.right) ts) (pair_found k p e))

  no_read : (a : ArrayTerm) (i : Term) → ((k : ℕ) → slice_get l.arrays.terms k ≢ Some a) → HasNoHead l (Term-F.Read a i)
  no_read a i none (Read k) ts shape e =
      let same : array_at l k ≡ a = cc in
      none k (slice_get-get_or l.arrays.terms k (array.Name 0) shape.0 ∙ ap Some same)
  no_read a i none head ts shape e = cc

  no_default : (a : ArrayTerm) → ((k : ℕ) → slice_get l.arrays.terms k ≢ Some a) → HasNoHead l (Term-F.Default a)
  no_default a none (Default k) ts shape e =
      let same : array_at l k ≡ a = cc in
      none k (slice_get-get_or l.arrays.terms k (array.Name 0) shape.0 ∙ ap Some same)
  no_default a none head ts shape e = cc

  no_diff : (p : ArrayPair) (us : List Term) → ((k : ℕ) → slice_get l.arrays.atoms k ≢ Some p) → HasNoHead l (Term-F.Apply (symbol.Diff p.left p.right) us)
  no_diff p us none (Diff k) ts shape e =
      let symbols : symbol.Diff (pair_at l k).left (pair_at l k).right ≡ symbol.Diff p.left p.right = cc in
      none k (slice_get-get_or l.arrays.atoms k (record { left = array.Name 0; right = array.Name 0 }) shape ∙ ap Some (same_diff l (pair_at l k) p symbols))
  no_diff p us none head ts shape e = cc

  -- the same of what code finds: the list that it looked through, and what it looked for
  listed : {X : Type 0} (xs ys : List X) (x y : X) (k : ℕ) → xs ≡ ys → x ≡ y → slice_get xs k ≡ Some x → slice_get ys k ≡ Some y
  listed xs ys x y k lists same e = ap (λ zs. slice_get zs k) (sym lists) ∙ (e ∙ ap Some same)

  unlisted : {X : Type 0} (xs ys : List X) (x y : X) → xs ≡ ys → x ≡ y → ((k : ℕ) → slice_get xs k ≢ Some x) → (k : ℕ) → slice_get ys k ≢ Some y
  unlisted xs ys x y lists same none k e = none k (listed ys xs y x k (sym lists) (sym same) e)

  pub read_found : (k : ℕ) (a b : ArrayTerm) (i t : Term) (xs : List ArrayTerm) → t ≡ term.Read a i → xs ≡ l.arrays.terms → b ≡ a → slice_get xs k ≡ Some b
      → IsHeadOf l (out-Term t) (Read k)
  read_found k a b i t xs is lists same e =
      subst (λ x. IsHeadOf l x (Read k)) (sym (ap out-Term is ∙ out-read a i)) (read_head k a i (listed xs l.arrays.terms b a k lists same e))

  pub read_missing : (a b : ArrayTerm) (i t : Term) (xs : List ArrayTerm) → t ≡ term.Read a i → xs ≡ l.arrays.terms → b ≡ a → ((k : ℕ) → slice_get xs k ≢ Some b)
      → HasNoHead l (out-Term t)
  read_missing a b i t xs is lists same none =
      subst (HasNoHead l) (sym (ap out-Term is ∙ out-read a i)) (no_read a i (unlisted xs l.arrays.terms b a lists same none))

  pub default_found : (k : ℕ) (a b : ArrayTerm) (t : Term) (xs : List ArrayTerm) → t ≡ term.Default a → xs ≡ l.arrays.terms → b ≡ a → slice_get xs k ≡ Some b
      → IsHeadOf l (out-Term t) (Default k)
  default_found k a b t xs is lists same e =
      subst (λ x. IsHeadOf l x (Default k)) (sym (ap out-Term is ∙ out-default a)) (default_head k a (listed xs l.arrays.terms b a k lists same e))

  pub default_missing : (a b : ArrayTerm) (t : Term) (xs : List ArrayTerm) → t ≡ term.Default a → xs ≡ l.arrays.terms → b ≡ a → ((k : ℕ) → slice_get xs k ≢ Some b)
      → HasNoHead l (out-Term t)
  default_missing a b t xs is lists same none =
      subst (HasNoHead l) (sym (ap out-Term is ∙ out-default a)) (no_default a (unlisted xs l.arrays.terms b a lists same none))

  pub diff_found : (k : ℕ) (p q : ArrayPair) (f : Symbol) (ts : List Term) (xs : List ArrayPair) → f ≡ symbol.Diff p.left p.right → xs ≡ l.arrays.atoms → q ≡ p
      → slice_get xs k ≡ Some q → IsHeadOf l (Term-F.Apply f ts) (Diff k)
  diff_found k p q f ts xs is lists same e =
      subst (λ g. IsHeadOf l (Term-F.Apply g ts) (Diff k)) (sym is) (diff_head k p ts (listed xs l.arrays.atoms q p k lists same e))

  pub diff_missing : (p q : ArrayPair) (f : Symbol) (ts : List Term) (xs : List ArrayPair) → f ≡ symbol.Diff p.left p.right → xs ≡ l.arrays.atoms → q ≡ p
      → ((k : ℕ) → slice_get xs k ≢ Some q) → HasNoHead l (Term-F.Apply f ts)
  diff_missing p q f ts xs is lists same none =
      subst (λ g. HasNoHead l (Term-F.Apply g ts)) (sym is) (no_diff p ts (unlisted xs l.arrays.atoms q p lists same none))
