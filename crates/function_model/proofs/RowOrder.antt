-- Sorted rows without repeats rise, are the given rows, and fit a table.
use Rattle.std.proofs.Common.{◌≡◌, ℕ, List, [], ◌∷◌, All, Contains, ◌↔◌, refl, ap, sym, subst, ◌∙◌}
use Rattle.std.specs.List.{AllByRecursion, dedup}
use Rattle.std.specs.List.Sorted.{IsPermutation, IsSorted, IsStrictlySortedBy}
use Rattle.std.specs.Ordering.{is_lt, eq_by_cmp}
use Rattle.std.proofs.lemmas.Cmp.{eq_by_cmp_equiv}
use Rattle.std.proofs.lemmas.List.Elements.{All-contains, All-contains_itself, All-from_recursion, All-weaker, recursion_from_All}
use Rattle.std.proofs.lemmas.List.Kept.{Any-dedup, Contains-from_dedup, IsStrictlySortedBy-dedup}
use Rattle.std.proofs.lemmas.List.Sorted.{Contains-permutation, IsPermutation-sym}
use Rattle.mbqi_terms.specs.declared.sort.Sort.{Sort}
use Rattle.mbqi_values.specs.declared.value.Value.{Value}
use Rattle.function_model.specs.declared.model.Row.{Row}
use Rattle.function_model.specs.Fits.{IsRow, RowsRiseFrom, AreRows}
use Rattle.function_model.specs.Rising.{AgreeAtSamePlaces, RowsRise, rank_of_rows}
use Rattle.function_model.proofs.PlaceRanks.{rows_total, same_places}

-- rows whose values a function of their places gives
pub agree_by : (value_of : List Value → Value) (rows : List Row) → All (λ row. row.value ≡ value_of row.places) rows → AgreeAtSamePlaces rows
agree_by value_of rows all a b in_a in_b same =
    let told = λ (row : Row) (c : Contains rows row). All-contains (λ row. row.value ≡ value_of row.places) rows row all c in
    told a in_a ∙ ap value_of same ∙ sym (told b in_b)

rise : (rows : List Row) → IsStrictlySortedBy rank_of_rows rows → RowsRise rows
unfolding IsStrictlySortedBy
rise [] up = tt
rise (row ∷ []) up = tt
rise (row ∷ next ∷ rows) up = (ap is_lt up.0.0, rise (next ∷ rows) up.1)

pub once_rises : (rows : List Row) → IsSorted rank_of_rows rows → RowsRise (dedup (eq_by_cmp rank_of_rows) rows)
once_rises rows up = rise (dedup (eq_by_cmp rank_of_rows) rows) (IsStrictlySortedBy-dedup rows_total (λ a b. refl) rows up)

same_row : (a b : Row) → a.places ≡ b.places → a.value ≡ b.value → a ≡ b
same_row a b p v = λ i. record { places = p i; value = v i }

kept : (rows : List Row) → AgreeAtSamePlaces rows → (row : Row) → Contains rows row → Contains (dedup (eq_by_cmp rank_of_rows) rows) row
kept rows agree row c =
    let a = Any-dedup (eq_by_cmp_equiv rows_total) rows row c in
    let places = same_places row.places a.1.places a.4 in
    let given = Contains-from_dedup (eq_by_cmp rank_of_rows) rows a.1 (a.0, a.2, a.3) in
    subst (Contains (dedup (eq_by_cmp rank_of_rows) rows)) (sym (same_row row a.1 places (agree row a.1 c given places))) (a.0, a.2, a.3)

pub once_contains : (rows moved : List Row) → AgreeAtSamePlaces rows → IsPermutation rows moved → (row : Row) → Contains (dedup (eq_by_cmp rank_of_rows) moved) row ↔ Contains rows row
once_contains rows moved agree move row =
    let back = λ (one : Row) (c : Contains moved one). Contains-permutation moved rows one (IsPermutation-sym rows moved move) c in (
      λ c. back row (Contains-from_dedup (eq_by_cmp rank_of_rows) moved row c),
      λ c. kept moved (λ a b in_a in_b. agree a b (back a in_a) (back b in_b)) row (Contains-permutation rows moved row move c),
    )

behind : (sizes : List ℕ) (knots : List (List Value)) (s : Sort) (row : Row) (rows : List Row)
    → RowsRise (row ∷ rows) → AllByRecursion (IsRow sizes knots s) rows → RowsRiseFrom sizes knots s row rows
behind sizes knots s row [] up all = tt
behind sizes knots s row (next ∷ rows) up all = (all.0, up.0, behind sizes knots s next rows up.1 all.1)

pub rows_fit : (sizes : List ℕ) (knots : List (List Value)) (s : Sort) (rows : List Row)
    → RowsRise rows → AllByRecursion (IsRow sizes knots s) rows → AreRows sizes knots s rows
rows_fit sizes knots s [] up all = tt
rows_fit sizes knots s (row ∷ rows) up all = (all.0, behind sizes knots s row rows up all.1)

-- each of them is one of rows that each may stand in the table
pub given_rows_fit : (sizes : List ℕ) (knots : List (List Value)) (s : Sort) (given rising : List Row)
    → RowsRise rising → ((row : Row) → Contains rising row ↔ Contains given row)
    → AllByRecursion (IsRow sizes knots s) given → AreRows sizes knots s rising
given_rows_fit sizes knots s given rising up same all =
    let each = λ (row : Row) (c : Contains rising row). All-contains (IsRow sizes knots s) given row (All-from_recursion (IsRow sizes knots s) given all) ((same row).0 c) in
    rows_fit sizes knots s rising up
    (recursion_from_All (IsRow sizes knots s) rising (All-weaker (Contains rising) (IsRow sizes knots s) each rising (All-contains_itself rising)))
