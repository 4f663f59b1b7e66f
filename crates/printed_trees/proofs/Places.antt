-- Where the places of a formula's variables are small, those of its parts are.
use Rattle.std.proofs.Common.{◌≡◌, ◌≤◌, ℕ, ◌+◌, ◌^◌, List, ◌∷◌, length, map, sum, arith}
use Rattle.std.proofs.lemmas.List.Sums.{sum_by-cons}
use Rattle.mbqi_terms.specs.declared.formula.Formula.{Formula}
use Rattle.mbqi_terms.specs.declared.formula.Formula.TheVariants as formula
use Rattle.mbqi_terms.specs.declared.sort.Binder.{Binder}
use Rattle.mbqi_terms.specs.Binders.{variables_in}
use Rattle.measured_terms.proofs.FormulaLaws as measure
use Rattle.printed_trees.specs.Names.{HasSmallPlaces}

-- formulas, each one's variables placed behind those of the formulas before it
abbrev pub HaveSmallPlaces : ℕ → List Formula → Type 0
HaveSmallPlaces next fs = next + sum (map variables_in fs) ≤ 2 ^ 64

sum_more : (n : ℕ) (ns : List ℕ) → sum (n ∷ ns) ≡ n + sum ns
sum_more n ns = sum_by-cons (λ x. x) n ns

pub in_more : (next : ℕ) (f : Formula) (fs : List Formula) → HaveSmallPlaces next (f ∷ fs) → HasSmallPlaces next f × HaveSmallPlaces (next + variables_in f) fs
in_more next f fs small = let count = sum_more (variables_in f) (map variables_in fs) in (omega arith, omega arith)

pub in_not : (next : ℕ) (f : Formula) → HasSmallPlaces next (formula.Not f) → HasSmallPlaces next f
in_not next f small = let count = measure.variables-Not f in omega arith

pub in_all : (next : ℕ) (fs : List Formula) → HasSmallPlaces next (formula.All fs) → HaveSmallPlaces next fs
in_all next fs small = let count = measure.variables-All fs in omega arith

pub in_any : (next : ℕ) (fs : List Formula) → HasSmallPlaces next (formula.Any fs) → HaveSmallPlaces next fs
in_any next fs small = let count = measure.variables-Any fs in omega arith

pub in_iff : (next : ℕ) (f g : Formula) → HasSmallPlaces next (formula.Iff f g) → HasSmallPlaces next f × HasSmallPlaces next g
in_iff next f g small = let count = measure.variables-Iff f g in (omega arith, omega arith)

pub in_choose : (next : ℕ) (c f g : Formula) → HasSmallPlaces next (formula.Choose c f g) → HasSmallPlaces next c × HasSmallPlaces next f × HasSmallPlaces (next + variables_in f) g
in_choose next c f g small = let count = measure.variables-Choose c f g in (omega arith, omega arith, omega arith)

pub in_forall : (next : ℕ) (bs : List Binder) (f : Formula) → HasSmallPlaces next (formula.Forall bs f) → (next + length bs ≤ 2 ^ 64) × HasSmallPlaces (next + length bs) f
in_forall next bs f small = let count = measure.variables-Forall bs f in (omega arith, omega arith)

pub in_exists : (next : ℕ) (bs : List Binder) (f : Formula) → HasSmallPlaces next (formula.Exists bs f) → (next + length bs ≤ 2 ^ 64) × HasSmallPlaces (next + length bs) f
in_exists next bs f small = let count = measure.variables-Exists bs f in (omega arith, omega arith)
