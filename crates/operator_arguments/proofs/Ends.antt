-- Lists of one, two or three items, from their ends.
use Rattle.std.proofs.Common.{◌≡◌, List, [], ◌∷◌, ◌++◌, length, Ok, Err, refl, ◌≢◌, arith}
use Rattle.mbqi_values.specs.declared.fault.FaultKind.TheVariants.{WrongCount}
use Rattle.smtlib_terms.specs.Names.{◌>>=◌}
use Rattle.operator_arguments.specs.Counts.{pair_of, sole_of, triple_of}

pub sole_alone : {A : Type 0} (rest : List A) (a : A) → length rest ≡ 0 → sole_of (rest ++ a ∷ []) ≡ Ok a
sole_alone [] a empty = refl
sole_alone (b ∷ rest) a empty = absurd (omega (arith, empty))

pub sole_more : {A : Type 0} (rest : List A) (a : A) → length rest ≢ 0 → sole_of (rest ++ a ∷ []) ≡ Err WrongCount
sole_more [] a some = absurd (some refl)
sole_more (b ∷ []) a some = refl
sole_more (b ∷ c ∷ rest) a some = refl

pub pair_end : {A : Type 0} (rest : List A) (b : A) → pair_of (rest ++ b ∷ []) ≡ sole_of rest >>= (λ a. Ok (a, b))
pair_end [] b = refl
pair_end (a ∷ []) b = refl
pair_end (a ∷ c ∷ []) b = refl
pair_end (a ∷ c ∷ d ∷ rest) b = refl

pub triple_end : {A : Type 0} (rest : List A) (c : A) → triple_of (rest ++ c ∷ []) ≡ pair_of rest >>= (λ p. Ok (p.0, p.1, c))
triple_end [] c = refl
triple_end (a ∷ []) c = refl
triple_end (a ∷ b ∷ []) c = refl
triple_end (a ∷ b ∷ d ∷ []) c = refl
triple_end (a ∷ b ∷ d ∷ e ∷ rest) c = refl

pub ruleset end_laws = (sole_alone, sole_more, pair_end, triple_end)
