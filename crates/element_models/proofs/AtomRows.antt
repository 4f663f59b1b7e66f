-- The rows of a predicate are those of its atoms, and each place has one.
use Rattle.std.proofs.Common.{◌≡◌, ℕ, zero, suc, ◌<◌, Bool, true, false, true≢false, List, [], ◌∷◌, length, map, get_or, refl, ap, sym, ◌∙◌, arith}
use Rattle.std.specs.Prelude.{◌==◌, if◌then◌else◌, Contains, Some}
use Rattle.std.specs.List.{AllByRecursion}
use Rattle.std.proofs.lemmas.Bool.{eqb-true, eq-eqb}
use Rattle.std.proofs.lemmas.List.Elements.{All-contains, All-from_recursion}
use Rattle.std.proofs.lemmas.Option.{slice_get-get_or}
use Rattle.std.proofs.lemmas.List.{get_or_default}
use Rattle.mbqi_values.specs.declared.value.Value.{Value}
use Rattle.mbqi_values.specs.declared.value.Value.TheVariants as value
use Rattle.mbqi_terms.specs.Distinct.{AreDistinct}
use Rattle.mbqi_terms.specs.declared.term_id.TermId.{TermId}
use Rattle.function_model.specs.Lookup.{is_at, value_at}
use Rattle.function_model.specs.Rising.{AgreeAtSamePlaces}
use Rattle.function_model.specs.declared.model.Row.{Row}
use Rattle.element_atoms.specs.declared.atoms.GroundAtom.{GroundAtom}
use Rattle.element_models.specs.Rows.{element_of, row_of, rows_of}

in_row : (P : Row → Type 0) (b : Bool) (row : Row) (rows : List Row) → (b ≡ true → P row) → AllByRecursion P rows
    → AllByRecursion P (if b then row ∷ rows else rows)
in_row P true row rows here later = (here refl, later)
in_row P false row rows here later = later

-- what holds of the row of each atom of a predicate holds of its rows
pub all_rows : (P : Row → Type 0) (f : ℕ) (atoms : List GroundAtom) (truths : List Bool)
    → ((k : ℕ) (d : GroundAtom) → k < length atoms → f ≡ (get_or atoms k d).predicate → P (row_of (get_or atoms k d) (get_or truths k false)))
    → AllByRecursion P (rows_of atoms truths f)
all_rows P f [] truths each = tt
all_rows P f (atom ∷ atoms) [] each = tt
all_rows P f (atom ∷ atoms) (truth ∷ truths) each =
    in_row P (f == atom.predicate) (row_of atom truth) (rows_of atoms truths f) (λ e. each 0 atom (omega arith) (eqb-true f atom.predicate e))
    (all_rows P f atoms truths (λ k d h e. each (suc k) d (omega arith) e))

-- arguments from their elements
abbrev id_of : Value → TermId
id_of (value.Num n) = record { 0 = 0 }
id_of (value.Elem e) = record { 0 = e }
id_of (value.Truth t) = record { 0 = 0 }

ids_back : (ids : List TermId) → map id_of (map element_of ids) ≡ ids
ids_back [] = refl
ids_back (id ∷ ids) = ap (λ rest. id ∷ rest) (ids_back ids)

same_ids : (xs ys : List TermId) → map element_of xs ≡ map element_of ys → xs ≡ ys
same_ids xs ys e = sym (ids_back xs) ∙ (ap (map id_of) e ∙ ids_back ys)

same_atom : (x y : GroundAtom) → x.predicate ≡ y.predicate → map element_of x.args ≡ map element_of y.args → x ≡ y
same_atom x y p e = let args = same_ids x.args y.args e in λ i. record { predicate = p i; args = args i }

-- the same by reads within the list
same_place : (atoms : List GroundAtom) → AreDistinct atoms → (i j : ℕ) (d : GroundAtom) → i < length atoms → j < length atoms
    → get_or atoms i d ≡ get_or atoms j d → i ≡ j
same_place atoms distinct i j d h k e =
    distinct i j (get_or atoms j d) (slice_get-get_or atoms i d h ∙ ap Some e) (slice_get-get_or atoms j d k)

abbrev IsFrom : List GroundAtom → List Bool → ℕ → Row → Type 0
IsFrom atoms truths f row =
    (k : ℕ) × (d : GroundAtom) × (k < length atoms) × (f ≡ (get_or atoms k d).predicate) × (row ≡ row_of (get_or atoms k d) (get_or truths k false))

pub rows_agree : (atoms : List GroundAtom) (truths : List Bool) (f : ℕ) → AreDistinct atoms → AgreeAtSamePlaces (rows_of atoms truths f)
rows_agree atoms truths f distinct a b in_a in_b places =
    let from = λ (row : Row) (c : Contains (rows_of atoms truths f) row). All-contains (IsFrom atoms truths f) (rows_of atoms truths f) row
    (All-from_recursion (IsFrom atoms truths f) (rows_of atoms truths f)
    (all_rows (IsFrom atoms truths f) f atoms truths (λ k d h e. (k, d, h, e, refl)))) c in
    let x = from a in_a in
    let y = from b in_b in
    let at_x : get_or atoms x.0 y.1 ≡ get_or atoms x.0 x.1 = get_or_default atoms x.0 y.1 x.1 x.2 in
    let p : (get_or atoms x.0 x.1).predicate ≡ (get_or atoms y.0 y.1).predicate = sym x.3 ∙ y.3 in
    let args : map element_of (get_or atoms x.0 x.1).args ≡ map element_of (get_or atoms y.0 y.1).args =
    ap (λ (row : Row). row.places) (sym x.4) ∙ (places ∙ ap (λ (row : Row). row.places) y.4) in
    let same : x.0 ≡ y.0 = same_place atoms distinct x.0 y.0 y.1 x.2 y.2
    (at_x ∙ same_atom (get_or atoms x.0 x.1) (get_or atoms y.0 y.1) p args) in
    ap (λ (row : Row). row.value) x.4
    ∙ (ap (λ k. value.Truth (get_or truths k false)) same ∙ ap (λ (row : Row). row.value) (sym y.4))

-- a look-up at an atom's elements, where only these places are their knots
module _ (knots : List (List Value)) (args : List Value) (default : Value) where
  at_first : (b : Bool) (row : Row) (rows : List Row) → b ≡ true → is_at row.places knots args ≡ true
      → value_at (if b then row ∷ rows else rows) knots args default ≡ row.value
  at_first true row rows is here = ap (λ b. if b then row.value else value_at rows knots args default) here
  at_first false row rows is here = absurd (true≢false (sym is))

  beyond : (b : Bool) (row : Row) (rows : List Row) (v : Value) → (b ≡ true → is_at row.places knots args ≡ true → ⊥)
      → value_at rows knots args default ≡ v → value_at (if b then row ∷ rows else rows) knots args default ≡ v
  beyond false row rows v never later = later
  beyond true row rows v never later =
      elim (is_at row.places knots args) as (λ b. is_at row.places knots args ≡ b → (if b then row.value else value_at rows knots args default) ≡ v) [
        | true ↦ λ e. absurd (never refl e)
        | false ↦ λ e. later
      ] refl

tail_distinct : (atom : GroundAtom) (atoms : List GroundAtom) → AreDistinct (atom ∷ atoms) → AreDistinct atoms
tail_distinct atom atoms distinct i j x a b = omega (arith, distinct (suc i) (suc j) x a b)

pub found : (knots : List (List Value)) (default : Value) (atoms : List GroundAtom) (truths : List Bool) (k : ℕ) (d : GroundAtom)
    → AreDistinct atoms → length truths ≡ length atoms → k < length atoms
    → is_at (map element_of (get_or atoms k d).args) knots (map element_of (get_or atoms k d).args) ≡ true
    → ((places : List Value) → is_at places knots (map element_of (get_or atoms k d).args) ≡ true → places ≡ map element_of (get_or atoms k d).args)
    → value_at (rows_of atoms truths (get_or atoms k d).predicate) knots (map element_of (get_or atoms k d).args) default
    ≡ value.Truth (get_or truths k false)
found knots default [] truths k d distinct many h self only = absurd (omega arith)
found knots default (atom ∷ atoms) [] k d distinct many h self only = absurd (omega (arith, many))
found knots default (atom ∷ atoms) (truth ∷ truths) zero d distinct many h self only =
    at_first knots (map element_of atom.args) default (atom.predicate == atom.predicate) (row_of atom truth) (rows_of atoms truths atom.predicate)
    (eq-eqb atom.predicate atom.predicate refl) self
found knots default (atom ∷ atoms) (truth ∷ truths) (suc k) d distinct many h self only =
    let wanted = get_or atoms k d in
    beyond knots (map element_of wanted.args) default (wanted.predicate == atom.predicate) (row_of atom truth) (rows_of atoms truths wanted.predicate)
    (value.Truth (get_or truths k false))
    (λ b e.
    let same : atom ≡ wanted = same_atom atom wanted (sym (eqb-true wanted.predicate atom.predicate b)) (only (map element_of atom.args) e) in
    let place : 0 ≡ suc k = same_place (atom ∷ atoms) distinct 0 (suc k) d (omega arith) h same in
    absurd (omega (arith, place)))
    (found knots default atoms truths k d (tail_distinct atom atoms distinct) (omega (arith, many)) (omega arith) self only)

-- a look-up at the elements of an atom that isn't there
pub not_found : (knots : List (List Value)) (default : Value) (atoms : List GroundAtom) (truths : List Bool) (wanted : GroundAtom)
    → (Contains atoms wanted → ⊥)
    → ((places : List Value) → is_at places knots (map element_of wanted.args) ≡ true → places ≡ map element_of wanted.args)
    → value_at (rows_of atoms truths wanted.predicate) knots (map element_of wanted.args) default ≡ default
not_found knots default [] truths wanted missing only = refl
not_found knots default (atom ∷ atoms) [] wanted missing only = refl
not_found knots default (atom ∷ atoms) (truth ∷ truths) wanted missing only =
    beyond knots (map element_of wanted.args) default (wanted.predicate == atom.predicate) (row_of atom truth) (rows_of atoms truths wanted.predicate) default
    (λ b e.
    let same : atom ≡ wanted = same_atom atom wanted (sym (eqb-true wanted.predicate atom.predicate b)) (only (map element_of atom.args) e) in
    missing (0, omega arith, same))
    (not_found knots default atoms truths wanted (λ there. missing (suc there.0, omega (arith, there.1), there.2)) only)
