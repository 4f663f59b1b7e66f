-- The tables of the hidden names: they fit, and no declared function has its table among them.
use Rattle.std.proofs.Common.{◌≡◌, ℕ, zero, suc, ◌+◌, ◌-◌, ◌<◌, ◌≤◌, Bool, true, false, List, [], ◌∷◌, ◌++◌, length, cond, refl, ap, ◌∙◌, arith}
use Rattle.std.specs.Prelude.{Some, None, pos, slice_index, if◌then◌else◌}
use Rattle.std.specs.List.{AllZip, find}
use Rattle.std.proofs.lemmas.Int.{ints}
use Rattle.mbqi_values.specs.Sum.{IsBelow}
use Rattle.mbqi_values.specs.declared.value.Value.TheVariants as value
use Rattle.mbqi_terms.specs.declared.script.Function.{Function}
use Rattle.mbqi_terms.specs.declared.sort.Sort.{Sort}
use Rattle.function_model.specs.Fits.{FitsSignature, far_signature, seed_signatures}
use Rattle.function_model.specs.Lookup.{is_declared, is_seed}
use Rattle.function_model.specs.declared.model.Row.{Row}
use Rattle.function_model.specs.declared.model.Table.{Table}
use Rattle.function_model.specs.declared.model.TableName.TheVariants.{Seed}
use Rattle.element_atoms.specs.Profile.{is_constant}
use Rattle.element_models.specs.Elements.{bare_table, constant_table, predicate_table, next_element, tables_from, hidden_from}
use Rattle.element_models.specs.Filling.{IsRaised}

-- the table of the next seed
pub hidden_next : (e s n : ℕ) → s < n → hidden_from e s (n - s) ≡ bare_table (Seed s) (value.Elem e) ∷ hidden_from e (s + 1) (n - (s + 1))
hidden_next e s n h = let k : n - s ≡ suc (n - (s + 1)) = omega arith in ap (hidden_from e s) k

small : IsBelow (pos 0) 124
small = (omega (arith, ints), omega (arith, ints))

pub hidden_fit : (sizes : List ℕ) (e s : ℕ) (sorts : List (List ℕ)) → ((k : ℕ) → s ≤ k → k < s + length sorts → e < slice_index sizes k)
    → AllZip (FitsSignature sizes) (seed_signatures s sorts ++ (far_signature ∷ [])) (hidden_from e s (length sorts))
hidden_fit sizes e s [] below = (record { name = refl; fits = record { knots = tt; rows = tt; default = (tt, small) } }, tt)
hidden_fit sizes e s (name ∷ names) below = (
  record { name = refl; fits = record { knots = tt; rows = tt; default = (below s (omega arith) (omega arith), tt) } },
  hidden_fit sizes e (s + 1) names (λ k h l. below k (omega arith) (omega arith)),
)

-- a declared function has its table before them
none_declared : (g e s n : ℕ) → find (λ (table : Table). is_declared g table.name) (hidden_from e s n) ≡ None
none_declared g e s zero = refl
none_declared g e s (suc n) = none_declared g e (s + 1) n

pub declared_before : (g e s n : ℕ) (tables : List Table)
    → find (λ (table : Table). is_declared g table.name) (tables ++ hidden_from e s n) ≡ find (λ (table : Table). is_declared g table.name) tables
declared_before g e s n [] = none_declared g e s n
declared_before g e s n (table ∷ tables) = ap (cond (is_declared g table.name) (Some table)) (declared_before g e s n tables)

-- and no table of a declared function is a seed's
not_seed : (b : Bool) (s : ℕ) (rows : List Row) (f e size : ℕ) (args : List Sort)
    → is_seed s (if b then constant_table f e else predicate_table rows f size args).name ≡ false
not_seed true s rows f e size args = refl
not_seed false s rows f e size args = refl

pub seed_behind : (s : ℕ) (rows : ℕ → List Row) (f e size : ℕ) (functions : List Function) (raised others : List Table)
    → AllZip IsRaised (tables_from rows f e size functions) raised
    → find (λ (table : Table). is_seed s table.name) (raised ++ others) ≡ find (λ (table : Table). is_seed s table.name) others
seed_behind s rows f e size [] [] others each = refl
seed_behind s rows f e size [] (r ∷ raised) others each = absurd each
seed_behind s rows f e size (function ∷ functions) [] others each = absurd each
seed_behind s rows f e size (function ∷ functions) (r ∷ raised) others each =
    let other : is_seed s r.name ≡ false =
    ap (is_seed s) each.0.name ∙ not_seed (is_constant function) s (rows f) f e size function.args in
    ap (λ b. cond b (Some r) (find (λ (table : Table). is_seed s table.name) (raised ++ others))) other
    ∙ seed_behind s rows (f + 1) (next_element function e) size functions raised others each.1

-- the first seed's table
pub first_seed : (e n : ℕ) → 1 ≤ n → find (λ (table : Table). is_seed 0 table.name) (hidden_from e 0 n) ≡ Some (bare_table (Seed 0) (value.Elem e))
first_seed e zero h = absurd (omega arith)
first_seed e (suc n) h = refl
