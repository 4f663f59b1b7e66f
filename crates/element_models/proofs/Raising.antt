-- Tables whose rows were brought into order.
use Rattle.std.proofs.Common.{◌≡◌, ℕ, suc, ◌<◌, List, [], ◌∷◌, length, get_or, arith}
use Rattle.std.specs.List.{AllZip}
use Rattle.function_model.specs.declared.model.Table.{Table}
use Rattle.element_models.specs.Filling.{IsRaised}

pub each_raised : (given raised : List Table) → length raised ≡ length given
    → ((k : ℕ) → k < length given → (d : Table) → IsRaised (get_or given k d) (get_or raised k d)) → AllZip IsRaised given raised
each_raised [] [] many each = tt
each_raised [] (r ∷ raised) many each = absurd (omega (arith, many))
each_raised (g ∷ given) [] many each = absurd (omega (arith, many))
each_raised (g ∷ given) (r ∷ raised) many each =
    (each 0 (omega arith) g, each_raised given raised (omega (arith, many)) (λ k h d. each (suc k) (omega arith) d))
