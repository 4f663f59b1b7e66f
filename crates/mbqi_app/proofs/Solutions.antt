-- What `solve` takes it doesn't refuse, and it refuses in one way.
use Rattle.std.proofs.Common.{◌≡◌, ℕ, List, sym, subst, ◌∙◌, inl, inr}
use Rattle.mbqi_values.specs.declared.fault.Refusal.{Refusal}
use Rattle.mbqi_terms.specs.declared.script.Script.{Script}
use Rattle.element_atoms.specs.Profile.{IsElementary}
use Rattle.smtlib_decls.specs.Means.{Means, Refused}
use Rattle.mbqi_app.specs.Statuses.{IsOutside, IsTakenBySolve, IsRefusedBySolve}

module _ (not_both : (bytes : List ℕ) (script : Script) (refusal : Refusal) → Means bytes script → Refused bytes refusal → ⊥) where
  -- what means something hasn't a fault
  meant : (bytes : List ℕ) (refusal : Refusal) → IsOutside bytes → Refused bytes refusal → ⊥
  meant bytes refusal outside refused = not_both bytes outside.0 refusal outside.1 refused

  pub taken : ((bytes : List ℕ) (this that : Script) → Means bytes this → Means bytes that → this ≡ that) → (bytes : List ℕ) (refusal : Refusal)
      → IsTakenBySolve bytes → IsRefusedBySolve bytes refusal → ⊥
  taken one_script bytes refusal is (inl refused) = not_both bytes is.0 refusal is.1 refused
  taken one_script bytes refusal is (inr (outside, e)) =
      outside.2 (subst IsElementary (one_script bytes is.0 outside.0 is.1 outside.1) is.2)

  pub one_way : ((bytes : List ℕ) (this that : Refusal) → Refused bytes this → Refused bytes that → this ≡ that) → (bytes : List ℕ) (this that : Refusal)
      → IsRefusedBySolve bytes this → IsRefusedBySolve bytes that → this ≡ that
  one_way one_refusal bytes this that (inl first) (inl second) = one_refusal bytes this that first second
  one_way one_refusal bytes this that (inl first) (inr (outside, e)) = absurd (meant bytes this outside first)
  one_way one_refusal bytes this that (inr (outside, e)) (inl second) = absurd (meant bytes that outside second)
  one_way one_refusal bytes this that (inr (outside, e)) (inr (other, f)) = e ∙ sym f
