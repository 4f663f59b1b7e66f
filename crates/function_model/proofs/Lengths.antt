-- Places of another number than knots or arguments aren't theirs.
use Rattle.std.proofs.Common.{◌≡◌, suc, Bool, true, false, ◌&&◌, List, [], ◌∷◌, length, refl, ap}
use Rattle.mbqi_values.specs.declared.value.Value.{Value}
use Rattle.function_model.specs.Lookup.{is_at, projected}
use Rattle.mbqi_values.specs.Value.{is_same}

both_false : (a b : Bool) → b ≡ false → (a && b) ≡ false
both_false true b h = h
both_false false b h = refl

pub other_knots : (places : List Value) (knots : List (List Value)) (args : List Value) → (length places ≡ length knots → ⊥) → is_at places knots args ≡ false
other_knots [] [] args h = absurd (h refl)
other_knots [] (ks ∷ kss) [] h = refl
other_knots [] (ks ∷ kss) (v ∷ vs) h = refl
other_knots (place ∷ places) [] [] h = refl
other_knots (place ∷ places) [] (v ∷ vs) h = refl
other_knots (place ∷ places) (ks ∷ kss) [] h = refl
other_knots (place ∷ places) (ks ∷ kss) (v ∷ vs) h =
    both_false (is_same place (projected ks v)) (is_at places kss vs) (other_knots places kss vs (λ e. h (ap suc e)))

pub other_args : (places : List Value) (knots : List (List Value)) (args : List Value) → (length places ≡ length args → ⊥) → is_at places knots args ≡ false
other_args [] [] [] h = absurd (h refl)
other_args [] [] (v ∷ vs) h = refl
other_args [] (ks ∷ kss) [] h = refl
other_args [] (ks ∷ kss) (v ∷ vs) h = refl
other_args (place ∷ places) [] [] h = refl
other_args (place ∷ places) [] (v ∷ vs) h = refl
other_args (place ∷ places) (ks ∷ kss) [] h = refl
other_args (place ∷ places) (ks ∷ kss) (v ∷ vs) h =
    both_false (is_same place (projected ks v)) (is_at places kss vs) (other_args places kss vs (λ e. h (ap suc e)))
