-- The values of points that binders and values make.
use Rattle.std.proofs.Common.{◌≡◌, ℕ, zero, suc, ◌+◌, ◌<◌, Bool, true, false, ◌==◌, List, [], ◌∷◌, length, get_or, drop, min, if◌then◌else◌, refl, ap, sym, ◌∙◌, arith, add-one, ne_eqb}
use Rattle.std.specs.Prelude.{All}
use Rattle.std.proofs.lemmas.List.{drop_all}
use Rattle.std.proofs.lemmas.List.Elements.{All-head, All-tail}
use Rattle.mbqi_values.specs.declared.value.Value.{Value}
use Rattle.mbqi_values.specs.declared.value.Value.TheVariants.{Truth}
use Rattle.mbqi_terms.specs.declared.sort.Binder.{Binder}
use Rattle.function_model.specs.Fits.{IsSmall}
use Rattle.function_model.specs.Points.{point_of}

-- they are small where those of the list are
pub point_small : (bs : List Binder) (vs : List Value) → All IsSmall vs → (place : ℕ) → IsSmall (point_of bs vs place)
point_small [] vs all place = tt
point_small (b ∷ bs) [] all place = tt
point_small (b ∷ bs) (v ∷ vs) all place = by (b.place == place) (point_small bs vs (All-tail IsSmall v vs all) place)
  where
    by : (here : Bool) → IsSmall (point_of bs vs place) → IsSmall (if here then v else point_of bs vs place)
    by true rest = All-head IsSmall v vs all
    by false rest = rest

-- a binder of another place is passed over
pub point_behind : (bs : List Binder) (vs : List Value) (place at : ℕ) (b : Binder) → at < length bs → at < length vs → ((get_or bs at b).place ≡ place → ⊥)
    → point_of (drop (at + 1) bs) (drop (at + 1) vs) place ≡ point_of (drop at bs) (drop at vs) place
point_behind bs vs place at b h k other = ap (λ n. point_of (drop n bs) (drop n vs) place) (add-one at) ∙ by bs vs at h k other
  where
    by : (bs : List Binder) (vs : List Value) (at : ℕ) → at < length bs → at < length vs → ((get_or bs at b).place ≡ place → ⊥)
        → point_of (drop (suc at) bs) (drop (suc at) vs) place ≡ point_of (drop at bs) (drop at vs) place
    by [] vs at h k other = absurd (omega arith)
    by (c ∷ bs) [] at h k other = absurd (omega arith)
    by (c ∷ bs) (v ∷ vs) zero h k other = sym (ap (λ (t : Bool). if t then v else point_of bs vs place) (ne_eqb c.place place other))
    by (c ∷ bs) (v ∷ vs) (suc at) h k other = by bs vs at (omega arith) (omega arith) other

-- where binders or values end
pub point_ends : (bs : List Binder) (vs : List Value) (place at : ℕ) → at ≡ min (length bs) (length vs) → point_of (drop at bs) (drop at vs) place ≡ Truth false
point_ends [] vs place at e = ap (λ rest. point_of rest (drop at vs) place) (drop_all at [] (omega arith))
point_ends (b ∷ bs) [] place zero e = refl
point_ends (b ∷ bs) [] place (suc at) e = absurd (omega arith)
point_ends (b ∷ bs) (v ∷ vs) place zero e = absurd (omega arith)
point_ends (b ∷ bs) (v ∷ vs) place (suc at) e = point_ends bs vs place at (omega arith)
