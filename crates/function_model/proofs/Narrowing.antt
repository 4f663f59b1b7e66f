-- Each argument narrows the rows of a sound table to those that agree with it, and the first that agrees with all is the one that counts.
use Rattle.std.proofs.Common.{◌≡◌, ℕ, zero, suc, ◌<◌, Bool, true, false, true≢false, cond, ◌&&◌, List, [], ◌∷◌, ◌++◌, length, get_or, ⊎_elim, if◌then◌else◌, refl, ap, sym, subst, ◌∙◌, arith, add-one}
use Rattle.std.specs.Prelude.{All, filter, slice_get}
use Rattle.std.specs.List.Sorted.{IsStrictlySortedBy}
use Rattle.std.specs.declared.cmp.Ordering.TheVariants.{Less}
use Rattle.std.specs.Ordering.{ordering_then}
use Rattle.std.proofs.Math.Bool.{and-true, and_assoc}
use Rattle.std.proofs.lemmas.Bool.{and_parts, cases_lt}
use Rattle.std.proofs.lemmas.Cmp.{tied_itself}
use Rattle.std.proofs.lemmas.List.Elements.{All-filter, All-head, All-tail, filter_agree, filter_passes}
use Rattle.std.proofs.lemmas.List.Kept.{IsStrictlySortedBy-filter}
use Rattle.std.proofs.lemmas.Map.Keys.{Less-from_sorted, sorted_from_all_adjacent}
use Rattle.mbqi_values.specs.Value.{is_same, rank_of}
use Rattle.mbqi_values.specs.declared.value.Value.{Value}
use Rattle.mbqi_values.specs.declared.value.Value.TheVariants.{Truth}
use Rattle.function_model.specs.Fits.{StandOn, rank_of_places}
use Rattle.function_model.specs.Lookup.{is_at, looked_up_in, projected, value_at}
use Rattle.function_model.specs.Narrowing.{IsDownward, NeverFallAt, agrees, first_value, passes, passes_at, rows_for}
use Rattle.function_model.specs.Rising.{RowsRise, rank_of_rows}
use Rattle.function_model.specs.Sound.{IsSoundTable}
use Rattle.function_model.specs.declared.model.Row.{Row}
use Rattle.function_model.specs.declared.model.Table.{Table}
use Rattle.function_model.proofs.Lengths.{other_args}
use Rattle.function_model.proofs.PlaceRanks.{rows_total, same_value, values_total}
use Rattle.function_model.proofs.ValueOrder.{first_le, less_from}

stand_length : (kss : List (List Value)) (vs : List Value) → StandOn kss vs → length vs ≡ length kss
stand_length [] [] stand = refl
stand_length [] (v ∷ vs) stand = absurd stand
stand_length (ks ∷ kss) [] stand = absurd stand
stand_length (ks ∷ kss) (v ∷ vs) stand = ap suc (stand_length kss vs stand.1)

-- rows that rise are sorted
adjacent : (rows : List Row) → RowsRise rows → (k : ℕ) (d : Row) → suc k < length rows → rank_of_rows (get_or rows k d) (get_or rows (suc k) d) ≡ Less
adjacent [] up k d h = absurd (omega arith)
adjacent (row ∷ []) up k d h = absurd (omega arith)
adjacent (row ∷ next ∷ rows) up zero d h = less_from (rank_of_rows row next) up.0
adjacent (row ∷ next ∷ rows) up (suc k) d h = adjacent (next ∷ rows) up.1 k d (omega arith)

some_row : Row
some_row = record { places = []; value = Truth false }

sorted : (rows : List Row) → RowsRise rows → IsStrictlySortedBy rank_of_rows rows
sorted rows up =
    sorted_from_all_adjacent rows_total rows some_row
    (λ k h. ap (λ n. rank_of_rows (get_or rows k some_row) (get_or rows n some_row)) (add-one k) ∙ adjacent rows up k some_row (omega (arith, h)))

-- of two rows that agree with the arguments so far, the first has no greater value at the next place
module _ (test : Value → Bool) (down : IsDownward test) where
  pair_down : (ps qs : List Value) (kss : List (List Value)) (vs : List Value) → agrees ps kss vs ≡ true → agrees qs kss vs ≡ true
      → rank_of_places ps qs ≡ Less → length vs < length ps → passes test (slice_get qs (length vs)) ≡ true → passes test (slice_get ps (length vs)) ≡ true
  pair_down [] qs kss [] a b less h t = absurd (omega arith)
  pair_down (p ∷ ps) [] kss [] a b less h t = absurd (true≢false (sym t))
  pair_down (p ∷ ps) (q ∷ qs) kss [] a b less h t = down p q (first_le (rank_of p q) (rank_of_places ps qs) less) t
  pair_down [] qs kss (v ∷ vs) a b less h t = absurd (omega arith)
  pair_down (p ∷ ps) [] [] (v ∷ vs) a b less h t = absurd (true≢false (sym b))
  pair_down (p ∷ ps) [] (ks ∷ kss) (v ∷ vs) a b less h t = absurd (true≢false (sym b))
  pair_down (p ∷ ps) (q ∷ qs) [] (v ∷ vs) a b less h t = absurd (true≢false (sym a))
  pair_down (p ∷ ps) (q ∷ qs) (ks ∷ kss) (v ∷ vs) a b less h t =
      let one = and_parts (is_same p (projected ks v)) (agrees ps kss vs) a in
      let two = and_parts (is_same q (projected ks v)) (agrees qs kss vs) b in
      let same : p ≡ q = same_value p (projected ks v) one.0 ∙ sym (same_value q (projected ks v) two.0) in
      let equal = ap (rank_of p) (sym same) ∙ tied_itself values_total p in
      let rest = sym (ap (λ o. ordering_then o (rank_of_places ps qs)) equal) ∙ less in
      pair_down ps qs kss vs one.1 two.1 rest (omega arith) t

module _ (table : Table) (sound : IsSoundTable table) (args : List Value) (more : length args < length table.knots) where
  kept : List Row
  kept = rows_for table args

  pub never_fall : NeverFallAt (length args) (rows_for table args)
  never_fall test down i j d le h t =
      ⊎_elim
      (λ less.
      let agree = filter_passes (λ (row : Row). agrees row.places table.knots args) table.rows in
      let stand = All-filter (λ (row : Row). agrees row.places table.knots args) (λ (row : Row). StandOn table.knots row.places) table.rows sound.places in
      let long = stand_length table.knots (get_or (rows_for table args) i d).places (stand i d (omega (arith, le, h, less))) in
      pair_down test down (get_or (rows_for table args) i d).places (get_or (rows_for table args) j d).places table.knots args
      (agree i d (omega (arith, le, h, less))) (agree j d h)
      (Less-from_sorted rank_of_rows (rows_for table args) i j d
      (IsStrictlySortedBy-filter rank_of_rows (λ (row : Row). agrees row.places table.knots args) table.rows (sorted table.rows sound.rise)) less h)
      (omega (arith, long, more)) t)
      (λ not_less. let same : j ≡ i = omega (arith, le, not_less) in subst (λ n. passes_at (length args) test (get_or (rows_for table args) n d) ≡ true) same t)
      (cases_lt i j)

-- one more argument
filter_filter : {X : Type 0} → (p q : X → Bool) (xs : List X) → filter p (filter q xs) ≡ filter (λ x. q x && p x) xs
filter_filter p q [] = refl
filter_filter {X} p q (x ∷ xs) = by (q x) (filter q xs) (filter (λ y. q y && p y) xs) (filter_filter p q xs)
  where
    by : (b : Bool) (ys zs : List X) → filter p ys ≡ zs → filter p (cond b (x ∷ ys) ys) ≡ cond (b && p x) (x ∷ zs) zs
    by true ys zs same = ap (λ rest. cond (p x) (x ∷ rest) rest) same
    by false ys zs same = same

agrees_more : (ps : List Value) (kss : List (List Value)) (vs : List Value) (v : Value) (d : List Value) → length vs < length kss
    → agrees ps kss (vs ++ v ∷ []) ≡ (agrees ps kss vs && passes (λ own. is_same own (projected (get_or kss (length vs) d) v)) (slice_get ps (length vs)))
agrees_more ps [] vs v d h = absurd (omega arith)
agrees_more [] (ks ∷ kss) [] v d h = refl
agrees_more (p ∷ ps) (ks ∷ kss) [] v d h = and-true (is_same p (projected ks v))
agrees_more [] (ks ∷ kss) (u ∷ vs) v d h = refl
agrees_more (p ∷ ps) (ks ∷ kss) (u ∷ vs) v d h =
    let rest = passes (λ own. is_same own (projected (get_or kss (length vs) d) v)) (slice_get ps (length vs)) in
    ap (λ b. is_same p (projected ks u) && b) (agrees_more ps kss vs v d (omega arith)) ∙ sym (and_assoc (is_same p (projected ks u)) (agrees ps kss vs) rest)

pub rows_more : (table : Table) (args : List Value) (v : Value) (d : List Value) → length args < length table.knots
    → filter (passes_at (length args) (λ own. is_same own (projected (get_or table.knots (length args) d) v))) (rows_for table args) ≡ rows_for table (args ++ v ∷ [])
rows_more table args v d h =
    let test = passes_at (length args) (λ own. is_same own (projected (get_or table.knots (length args) d) v)) in
    filter_filter test (λ (row : Row). agrees row.places table.knots args) table.rows
    ∙ filter_agree (λ (row : Row). agrees row.places table.knots args && test row) (λ (row : Row). agrees row.places table.knots (args ++ v ∷ []))
    (λ row. sym (agrees_more row.places table.knots args v d h)) table.rows

-- without arguments so far
pub rows_first : (table : Table) → rows_for table [] ≡ table.rows
rows_first table = all table.rows
  where
    all : (rows : List Row) → filter (λ (row : Row). agrees row.places table.knots []) rows ≡ rows
    all [] = refl
    all (row ∷ rows) = ap (λ rest. row ∷ rest) (all rows)

-- with all of them
agrees_all : (ps : List Value) (kss : List (List Value)) (vs : List Value) → length ps ≡ length kss → length vs ≡ length kss → agrees ps kss vs ≡ is_at ps kss vs
agrees_all [] [] [] e f = refl
agrees_all [] [] (v ∷ vs) e f = absurd (omega arith)
agrees_all [] (ks ∷ kss) vs e f = absurd (omega arith)
agrees_all (p ∷ ps) [] vs e f = absurd (omega arith)
agrees_all (p ∷ ps) (ks ∷ kss) [] e f = absurd (omega arith)
agrees_all (p ∷ ps) (ks ∷ kss) (v ∷ vs) e f = ap (λ b. is_same p (projected ks v) && b) (agrees_all ps kss vs (omega arith) (omega arith))

module _ (knots : List (List Value)) (args : List Value) (default : Value) where
  abbrev Stand : Row → Type 0
  Stand row = StandOn knots row.places

  first_row : (rows : List Row) → All Stand rows → length args ≡ length knots
      → first_value (filter (λ (row : Row). agrees row.places knots args) rows) default ≡ value_at rows knots args default
  first_row [] stand e = refl
  first_row (row ∷ rows) stand e =
      by (agrees row.places knots args) (is_at row.places knots args)
      (agrees_all row.places knots args (stand_length knots row.places (All-head Stand row rows stand)) e)
      (first_row rows (All-tail Stand row rows stand) e)
    where
      by : (b c : Bool) → b ≡ c
          → first_value (filter (λ (other : Row). agrees other.places knots args) rows) default ≡ value_at rows knots args default
          → first_value (cond b (row ∷ filter (λ (other : Row). agrees other.places knots args) rows) (filter (λ (other : Row). agrees other.places knots args) rows)) default
          ≡ (if c then row.value else value_at rows knots args default)
      by true true same rest = refl
      by true false same rest = absurd (true≢false same)
      by false true same rest = absurd (true≢false (sym same))
      by false false same rest = rest

  no_row : (rows : List Row) → All Stand rows → (length args ≡ length knots → ⊥) → value_at rows knots args default ≡ default
  no_row [] stand other = refl
  no_row (row ∷ rows) stand other =
      let long = stand_length knots row.places (All-head Stand row rows stand) in
      ap (λ b. if b then row.value else value_at rows knots args default) (other_args row.places knots args (λ e. other (sym e ∙ long)))
      ∙ no_row rows (All-tail Stand row rows stand) other

pub found_first : (table : Table) → IsSoundTable table → (args : List Value) → length args ≡ length table.knots
    → first_value (rows_for table args) table.default ≡ looked_up_in table args
found_first table sound args e = first_row table.knots args table.default table.rows sound.places e

pub found_none : (table : Table) → IsSoundTable table → (args : List Value) → (length args ≡ length table.knots → ⊥) → table.default ≡ looked_up_in table args
found_none table sound args other = sym (no_row table.knots args table.default table.rows sound.places other)
