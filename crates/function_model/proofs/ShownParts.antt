-- The shown part of a model: its tables are those of shown names, and it isn't full.
use Rattle.std.proofs.Common.{◌≡◌, ℕ, ◌+◌, Bool, true, false, List, [], ◌∷◌, ◌++◌, append_assoc, map, cond, refl, sym, ap, subst, ◌∙◌, ◌⊎◌, inl, inr, ⊎_elim}
use Rattle.std.specs.Prelude.{Option, filter, None, Some}
use Rattle.std.specs.List.{AllByRecursion, AllZip, find}
use Rattle.std.specs.Option.{is_some}
use Rattle.mbqi_terms.specs.declared.script.Function.{Function}
use Rattle.mbqi_terms.specs.declared.script.Script.{Script}
use Rattle.mbqi_terms.specs.declared.store.lists.Lists.{Lists}
use Rattle.mbqi_terms.specs.ScriptLists.{lists_of, skolems_of}
use Rattle.function_model.specs.Fits.{Fits, FitsFull, FitsSignature, Signature, array_signatures, default_signature, difference_signature, far_signature, function_signatures, hidden_signatures, read_signature, sameness_signature, seed_signatures, shown_signatures, skolem_signature}
use Rattle.function_model.specs.Lookup.{is_declared, is_far, is_full, is_skolem, table_where}
use Rattle.function_model.specs.Shown.{is_shown, shown_of}
use Rattle.function_model.specs.ValueOf.{is_compound}
use Rattle.function_model.specs.declared.model.FunctionModel.{FunctionModel}
use Rattle.function_model.specs.declared.model.Table.{Table}
use Rattle.function_model.specs.declared.model.TableName.{TableName}
use Rattle.function_model.specs.declared.model.TableName.TheVariants.{Declared, Skolem, Seed, Far, Diff, Default, Read, Same}

abbrev shown_in : List Table → List Table
shown_in tables = filter (λ table. is_shown table.name) tables

-- the names of the lists of signatures are shown, or hidden
abbrev AreShown : Bool → List Signature → Type 0
AreShown b signatures = AllByRecursion (λ (s : Signature). is_shown s.name ≡ b) signatures

both_shown : (b : Bool) (front back : List Signature) → AreShown b front → AreShown b back → AreShown b (front ++ back)
both_shown b [] back all more = more
both_shown b (s ∷ front) back all more = (all.0, both_shown b front back all.1 more)

each_shown : {X : Type 0} → (b : Bool) (signature : X → Signature) → ((x : X) → is_shown (signature x).name ≡ b) → (xs : List X) → AreShown b (map signature xs)
each_shown b signature is [] = tt
each_shown b signature is (x ∷ xs) = (is x, each_shown b signature is xs)

functions_shown : (f : ℕ) (functions : List Function) → AreShown true (function_signatures f functions)
functions_shown f [] = tt
functions_shown f (function ∷ functions) = (refl, functions_shown (f + 1) functions)

names_shown : (script : Script) → AreShown true (shown_signatures script)
names_shown script =
    both_shown true (function_signatures 0 script.functions) (map skolem_signature (skolems_of script)) (functions_shown 0 script.functions)
    (each_shown true skolem_signature (λ skolem. refl) (skolems_of script))

seeds_hidden : (s : ℕ) (sorts : List (List ℕ)) → AreShown false (seed_signatures s sorts)
seeds_hidden s [] = tt
seeds_hidden s (name ∷ names) = (refl, seeds_hidden (s + 1) names)

arrays_hidden : (l : Lists) → AreShown false (array_signatures l)
arrays_hidden l =
    let differences = map (difference_signature l) l.arrays.atoms in
    let defaults = map (default_signature l) l.arrays.defaults in
    let reads = map (read_signature l) (filter is_compound l.arrays.terms) in
    let samenesses = map sameness_signature l.arrays.atoms in
    both_shown false differences (defaults ++ (reads ++ samenesses)) (each_shown false (difference_signature l) (λ pair. refl) l.arrays.atoms)
    (both_shown false defaults (reads ++ samenesses) (each_shown false (default_signature l) (λ a. refl) l.arrays.defaults)
    (both_shown false reads samenesses (each_shown false (read_signature l) (λ a. refl) (filter is_compound l.arrays.terms))
    (each_shown false sameness_signature (λ pair. refl) l.arrays.atoms)))

names_hidden : (script : Script) → AreShown false (hidden_signatures script)
names_hidden script =
    both_shown false (seed_signatures 0 script.sorts) (far_signature ∷ array_signatures (lists_of script)) (seeds_hidden 0 script.sorts)
    (refl, arrays_hidden (lists_of script))

-- of tables for shown and hidden names the shown ones are those for the shown names
module _ (sizes : List ℕ) where
  none_shown : (hidden : List Signature) (tables : List Table) → AreShown false hidden → AllZip (FitsSignature sizes) hidden tables → shown_in tables ≡ []
  none_shown [] [] all fit = refl
  none_shown [] (table ∷ tables) all fit = absurd fit
  none_shown (s ∷ hidden) [] all fit = absurd fit
  none_shown (s ∷ hidden) (table ∷ tables) all fit =
      ap (λ b. cond b (table ∷ shown_in tables) (shown_in tables)) (ap is_shown fit.0.name ∙ all.0) ∙ none_shown hidden tables all.1 fit.1

  shown_fit : (shown hidden : List Signature) (tables : List Table) → AreShown true shown → AreShown false hidden
      → AllZip (FitsSignature sizes) (shown ++ hidden) tables → AllZip (FitsSignature sizes) shown (shown_in tables)
  shown_fit [] hidden tables all none fit = subst (AllZip (FitsSignature sizes) []) (sym (none_shown hidden tables none fit)) tt
  shown_fit (s ∷ shown) hidden [] all none fit = absurd fit
  shown_fit (s ∷ shown) hidden (table ∷ tables) all none fit =
      let there : is_shown table.name ≡ true = ap is_shown fit.0.name ∙ all.0 in
      subst (AllZip (FitsSignature sizes) (s ∷ shown)) (sym (ap (λ b. cond b (table ∷ shown_in tables) (shown_in tables)) there))
      (fit.0, shown_fit shown hidden tables all.1 none fit.1)

pub shown_fits : (script : Script) (model : FunctionModel) → FitsFull script model → Fits script (shown_of model)
shown_fits script model fit = record {
  sorts = fit.sorts;
  sizes = fit.sizes;
  tables = shown_fit model.sizes (shown_signatures script) (hidden_signatures script) model.tables (names_shown script) (names_hidden script) fit.tables;
}

-- the table of a name that is shown is found in the shown part
module _ (is_it : TableName → Bool) (shown_or_other : (name : TableName) → (is_shown name ≡ true) ⊎ (is_it name ≡ false)) where
  abbrev found_in : List Table → Option Table
  found_in tables = find (λ (table : Table). is_it table.name) tables

  skipped : (b : Bool) (table : Table) (kept : List Table) → is_it table.name ≡ false → found_in (cond b (table ∷ kept) kept) ≡ found_in kept
  skipped true table kept other = ap (λ b. cond b (Some table) (found_in kept)) other
  skipped false table kept other = refl

  found : (tables : List Table) → found_in (shown_in tables) ≡ found_in tables
  found [] = refl
  found (table ∷ tables) =
      ⊎_elim
      (λ shown.
      ap (λ b. found_in (cond b (table ∷ shown_in tables) (shown_in tables))) shown
      ∙ ap (cond (is_it table.name) (Some table)) (found tables))
      (λ other.
      skipped (is_shown table.name) table (shown_in tables) other
      ∙ (found tables ∙ sym (ap (λ b. cond b (Some table) (found_in tables)) other)))
      (shown_or_other table.name)

shown_or_undeclared : (f : ℕ) (name : TableName) → (is_shown name ≡ true) ⊎ (is_declared f name ≡ false)
shown_or_undeclared f (Declared g) = inl refl
shown_or_undeclared f (Skolem assertion place) = inl refl
shown_or_undeclared f (Seed s) = inr refl
shown_or_undeclared f Far = inr refl
shown_or_undeclared f (Diff a b) = inr refl
shown_or_undeclared f (Default a) = inr refl
shown_or_undeclared f (Read a) = inr refl
shown_or_undeclared f (Same a b) = inr refl

pub shown_has_declared : (model : FunctionModel) (f : ℕ) → table_where (is_declared f) (shown_of model) ≡ table_where (is_declared f) model
shown_has_declared model f = found (is_declared f) (shown_or_undeclared f) model.tables

shown_or_no_skolem : (assertion place : ℕ) (name : TableName) → (is_shown name ≡ true) ⊎ (is_skolem assertion place name ≡ false)
shown_or_no_skolem assertion place (Declared g) = inl refl
shown_or_no_skolem assertion place (Skolem other at) = inl refl
shown_or_no_skolem assertion place (Seed s) = inr refl
shown_or_no_skolem assertion place Far = inr refl
shown_or_no_skolem assertion place (Diff a b) = inr refl
shown_or_no_skolem assertion place (Default a) = inr refl
shown_or_no_skolem assertion place (Read a) = inr refl
shown_or_no_skolem assertion place (Same a b) = inr refl

pub shown_has_skolem : (model : FunctionModel) (assertion place : ℕ)
    → table_where (is_skolem assertion place) (shown_of model) ≡ table_where (is_skolem assertion place) model
shown_has_skolem model assertion place = found (is_skolem assertion place) (shown_or_no_skolem assertion place) model.tables

-- no table of the far integer is shown
shown_or_far : (name : TableName) → (is_shown name ≡ false) ⊎ (is_far name ≡ false)
shown_or_far (Declared g) = inr refl
shown_or_far (Skolem assertion place) = inr refl
shown_or_far (Seed s) = inl refl
shown_or_far Far = inl refl
shown_or_far (Diff a b) = inl refl
shown_or_far (Default a) = inl refl
shown_or_far (Read a) = inl refl
shown_or_far (Same a b) = inl refl

abbrev far_in : List Table → Option Table
far_in tables = find (λ (table : Table). is_far table.name) tables

not_far : (b : Bool) (table : Table) (kept : List Table) → is_far table.name ≡ false → far_in kept ≡ None → far_in (cond b (table ∷ kept) kept) ≡ None
not_far true table kept other none = ap (λ b. cond b (Some table) (far_in kept)) other ∙ none
not_far false table kept other none = none

far_hidden : (tables : List Table) → far_in (shown_in tables) ≡ None
far_hidden [] = refl
far_hidden (table ∷ tables) =
    ⊎_elim
    (λ hidden. ap (λ b. far_in (cond b (table ∷ shown_in tables) (shown_in tables))) hidden ∙ far_hidden tables)
    (λ other. not_far (is_shown table.name) table (shown_in tables) other (far_hidden tables))
    (shown_or_far table.name)

pub shown_is_not_full : (model : FunctionModel) → is_full (shown_of model) ≡ false
shown_is_not_full model = ap is_some (far_hidden model.tables)

-- a full model has the table of the far integer, behind those of other names
named_far : (table : Table) (tables : List Table) → is_far table.name ≡ true → is_some (far_in (table ∷ tables)) ≡ true
named_far table tables e = ap (λ b. is_some (cond b (Some table) (far_in tables))) e

or_later : (b : Bool) (table : Table) (tables : List Table) → is_some (far_in tables) ≡ true → is_some (cond b (Some table) (far_in tables)) ≡ true
or_later true table tables there = refl
or_later false table tables there = there

has_far : (sizes : List ℕ) (front back : List Signature) (tables : List Table)
    → AllZip (FitsSignature sizes) (front ++ (far_signature ∷ back)) tables → is_some (far_in tables) ≡ true
has_far sizes [] back [] fit = absurd fit
has_far sizes [] back (table ∷ tables) fit = named_far table tables (ap is_far fit.0.name)
has_far sizes (s ∷ front) back [] fit = absurd fit
has_far sizes (s ∷ front) back (table ∷ tables) fit = or_later (is_far table.name) table tables (has_far sizes front back tables fit.1)

pub full_is_full : (script : Script) (model : FunctionModel) → FitsFull script model → is_full model ≡ true
full_is_full script model fit =
    let shown = shown_signatures script in
    let seeds = seed_signatures 0 script.sorts in
    let behind = array_signatures (lists_of script) in
    has_far model.sizes (shown ++ seeds) behind model.tables
    (subst (λ (signatures : List Signature). AllZip (FitsSignature model.sizes) signatures model.tables)
    (sym (append_assoc shown seeds (far_signature ∷ behind))) fit.tables)

-- a shown one that fits has none
all_shown : (sizes : List ℕ) (shown : List Signature) (tables : List Table) → AreShown true shown → AllZip (FitsSignature sizes) shown tables → shown_in tables ≡ tables
all_shown sizes [] [] all fit = refl
all_shown sizes [] (table ∷ tables) all fit = absurd fit
all_shown sizes (s ∷ shown) [] all fit = absurd fit
all_shown sizes (s ∷ shown) (table ∷ tables) all fit =
    ap (λ b. cond b (table ∷ shown_in tables) (shown_in tables)) (ap is_shown fit.0.name ∙ all.0)
    ∙ ap (λ rest. table ∷ rest) (all_shown sizes shown tables all.1 fit.1)

pub fitting_is_not_full : (script : Script) (model : FunctionModel) → Fits script model → is_full model ≡ false
fitting_is_not_full script model fit =
    ap (λ (tables : List Table). is_some (far_in tables)) (sym (all_shown model.sizes (shown_signatures script) model.tables (names_shown script) fit.tables))
    ∙ shown_is_not_full model
