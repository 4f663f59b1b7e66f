-- The binders of a quantifier: their places, their sorts, and what their names stand for in its body.
use Rattle.std.proofs.Common.{◌≡◌, ◌≢◌, ◌≤◌, ◌<◌, ℕ, ◌+◌, Bool, true, false, cond, eqb, List, [], ◌∷◌, ◌++◌, length, map, Option, Some, Ok, Err, refl, subst, arith}
use Rattle.std.proofs.lemmas.Bool.Decides.{nat_tests}
use Rattle.mbqi_values.specs.declared.fault.FaultKind.TheVariants.{BadForm}
use Rattle.mbqi_terms.specs.declared.script.Script.{Script}
use Rattle.mbqi_terms.specs.declared.sort.Binder.{Binder}
use Rattle.mbqi_terms.specs.declared.sort.Sort.{Sort}
use Rattle.sexpr_text.specs.declared.tree.Sexpr.{Sexpr}
use Rattle.smtlib_terms.specs.declared.names.Binding.{Binding}
use Rattle.smtlib_terms.specs.declared.names.Variable.{Variable}
use Rattle.smtlib_terms.specs.Reading.{are_binders, bindable, binder_name, binder_sort, binders_of, binding_of, quantifiable, quantifier_binders, second_sort, trees_in}
use Rattle.mbqi_terms.specs.HasSort.{sort_at}
use Rattle.mbqi_terms.specs.InForm.{AreBinders, ArePlaced, IsResultSort, IsVariableSort}
use Rattle.read_in_form.proofs.Placed.{Extends, IsBelow, IsScope}
use Rattle.read_in_form.proofs.SameSorts.{same_number}
use Rattle.read_in_form.proofs.Scopes.{scope_more}
use Rattle.read_in_form.proofs.SortsRead.{quantifiable_is, sort_read_is}
use Rattle.read_in_form.proofs.Steps.{passed, same_ok, stepped}

abbrev pub binders_in : List Variable → List Binder
binders_in vs = map (λ (v : Variable). v.binder) vs

-- the sort behind a binder's name
pub second_sort_is : (script : Script) (sorts : List (List ℕ)) (trees : List Sexpr) (s : Sort) → length sorts ≤ length script.sorts → second_sort trees sorts ≡ Ok s → IsResultSort (length script.sorts) s
second_sort_is script sorts [] s fewer is = cc
second_sort_is script sorts (a ∷ []) s fewer is = cc
second_sort_is script sorts (a ∷ b ∷ []) s fewer is = sort_read_is script sorts b s fewer is
second_sort_is script sorts (a ∷ b ∷ c ∷ ts) s fewer is = cc

-- the first binder of a list, and the others
record IsFirst (sorts : List (List ℕ)) (t : Sexpr) (ts : List Sexpr) (place : ℕ) (seen : List (List ℕ)) (vs : List Variable) : Type 0 where
  pub named : Sort
  pub variable : Variable
  pub rest : List Variable
  pub sort : binder_sort t sorts ≡ Ok named
  pub kept : quantifiable named ≡ Ok variable.binder.sort
  pub at : variable.binder.place ≡ place
  pub more : binders_of ts sorts (place + 1) (seen ++ variable.name ∷ []) ≡ Ok rest
  pub all : variable ∷ rest ≡ vs

first_binder : (sorts : List (List ℕ)) (t : Sexpr) (ts : List Sexpr) (place : ℕ) (seen : List (List ℕ)) (vs : List Variable) → binders_of (t ∷ ts) sorts place seen ≡ Ok vs → IsFirst sorts t ts place seen vs
first_binder sorts t ts place seen vs is =
    let any = stepped (binder_sort t sorts) _ vs is in
    let own = stepped (quantifiable any.value) _ vs any.rest in
    let name = stepped (bindable (binder_name t) seen) _ vs own.rest in
    let more = stepped (binders_of ts sorts (place + 1) (seen ++ name.value ∷ [])) _ vs name.rest in
    record {
      named = any.value;
      variable = record { name = name.value; binder = record { place = place; sort = own.value } };
      rest = more.value;
      sort = any.first;
      kept = own.first;
      at = refl;
      more = more.first;
      all = same_ok _ vs more.rest;
    }

-- binders have places in order, and sorts that a variable may have
binders_placed : (script : Script) (sorts : List (List ℕ)) (ts : List Sexpr) (place : ℕ) (seen : List (List ℕ)) (vs : List Variable) → length sorts ≤ length script.sorts → binders_of ts sorts place seen ≡ Ok vs → ArePlaced (length script.sorts) place (binders_in vs)
binders_placed script sorts [] place seen [] fewer is = tt
binders_placed script sorts [] place seen (v ∷ vs) fewer is = cc
binders_placed script sorts (t ∷ ts) place seen vs fewer is =
    let first = first_binder sorts t ts place seen vs is in
    subst (λ (us : List Variable). ArePlaced (length script.sorts) place (binders_in us)) {x = first.variable ∷ first.rest} first.all (
      first.at,
      quantifiable_is script first.named first.variable.binder.sort (second_sort_is script sorts (trees_in t) first.named fewer first.sort) first.kept,
      binders_placed script sorts ts (place + 1) (seen ++ first.variable.name ∷ []) first.rest fewer first.more,
    )

-- there is at least one
some_read : (sorts : List (List ℕ)) (t : Sexpr) (ts : List Sexpr) (place : ℕ) (seen : List (List ℕ)) (vs : List Variable) → binders_of (t ∷ ts) sorts place seen ≡ Ok vs → 0 < length (binders_in vs)
some_read sorts t ts place seen (v ∷ vs) is = omega arith
some_read sorts t ts place seen [] is = let none = (first_binder sorts t ts place seen [] is).all in cc

binders_listed : (script : Script) (sorts : List (List ℕ)) (ts : List Sexpr) (place : ℕ) (vs : List Variable) → length sorts ≤ length script.sorts → cond (are_binders ts) (binders_of ts sorts place []) (Err BadForm) ≡ Ok vs → AreBinders (length script.sorts) place (binders_in vs)
binders_listed script sorts [] place vs fewer is = cc
binders_listed script sorts (t ∷ ts) place vs fewer is =
    let read = (passed (are_binders (t ∷ ts)) (binders_of (t ∷ ts) sorts place []) BadForm vs is).1 in
    record { some = some_read sorts t ts place [] vs read; placed = binders_placed script sorts (t ∷ ts) place [] vs fewer read }

pub binders_are_read : (script : Script) (sorts : List (List ℕ)) (t : Sexpr) (place : ℕ) (vs : List Variable) → length sorts ≤ length script.sorts → quantifier_binders t sorts place ≡ Ok vs → AreBinders (length script.sorts) place (binders_in vs)
binders_are_read script sorts t place vs fewer is = binders_listed script sorts (trees_in t) place vs fewer is

-- places that are the same, and others
other_place : (a b : ℕ) → a ≢ b → eqb a b ≡ false
other_place a b differ = grind (arith, nat_tests)

same_place : (a b : ℕ) → a ≡ b → eqb a b ≡ true
same_place a b same = grind (arith, nat_tests)

-- the places of the body's scope are below what comes next
below_step : (b : Binder) (place next : ℕ) (s : Sort) (more : Option Sort) (own : Bool) → b.place < next → eqb b.place place ≡ own → (more ≡ Some s → place < next) → cond own (Some b.sort) more ≡ Some s → place < next
below_step b place next s more true before is later found = let same = same_number b.place place is in omega arith
below_step b place next s more false before is later found = later found

pub body_below : (script : Script) (next : ℕ) (bs scope : List Binder) → ArePlaced (length script.sorts) next bs → IsBelow next scope → IsBelow (next + length bs) (bs ++ scope)
body_below script next [] scope placed below place s found = let before = below place s found in omega arith
body_below script next (b ∷ bs) scope placed below place s found =
    let at : b.place ≡ next = placed.0 in
    below_step b place (next + length (b ∷ bs)) s (sort_at (bs ++ scope) place) (eqb b.place place) (omega arith) refl
    (λ e. let before = body_below script (next + 1) bs scope placed.2 (λ p r f. let earlier = below p r f in omega arith) place s e in omega arith)
    found

-- the variables outside are there in the body
pub body_extends : (script : Script) (next : ℕ) (bs scope : List Binder) → ArePlaced (length script.sorts) next bs → IsBelow next scope → Extends scope (bs ++ scope)
body_extends script next [] scope placed below place s found = found
body_extends script next (b ∷ bs) scope placed below place s found =
    let at : b.place ≡ next = placed.0 in
    let before = below place s found in
    rw (other_place b.place place (λ same. absurd (omega arith)))
    (body_extends script (next + 1) bs scope placed.2 (λ p r f. let earlier = below p r f in omega arith) place s found)

-- variables that are found in a scope
abbrev AreFound : Script → List Binder → List Variable → Type 0
AreFound script scope [] = Unit {0}
AreFound script scope (v ∷ vs) = IsVariableSort (length script.sorts) v.binder.sort × (sort_at scope v.binder.place ≡ Some v.binder.sort) × AreFound script scope vs

found_behind : (script : Script) (next : ℕ) (b : Binder) (scope : List Binder) (vs : List Variable) → b.place < next → ArePlaced (length script.sorts) next (binders_in vs) → AreFound script scope vs → AreFound script (b ∷ scope) vs
found_behind script next b scope [] before placed found = tt
found_behind script next b scope (v ∷ vs) before placed found =
    let at : v.binder.place ≡ next = placed.0 in
    (found.0, rw (other_place b.place v.binder.place (λ same. absurd (omega arith))) found.1, found_behind script (next + 1) b scope vs (omega arith) placed.2 found.2)

all_found : (script : Script) (next : ℕ) (scope : List Binder) (vs : List Variable) → ArePlaced (length script.sorts) next (binders_in vs) → AreFound script (binders_in vs ++ scope) vs
all_found script next scope [] placed = tt
all_found script next scope (v ∷ vs) placed =
    let at : v.binder.place ≡ next = placed.0 in
    (placed.1, rw (same_place v.binder.place v.binder.place refl) refl, found_behind script (next + 1) v.binder (binders_in vs ++ scope) vs (omega arith) placed.2 (all_found script (next + 1) scope vs placed.2))

found_bound : (script : Script) (scope : List Binder) (next : ℕ) (vs : List Variable) (bindings : List Binding) → AreFound script scope vs → IsScope script scope next bindings → IsScope script scope next (map binding_of vs ++ bindings)
found_bound script scope next [] bindings found is = is
found_bound script scope next (v ∷ vs) bindings found is =
    scope_more script scope next (binding_of v) (map binding_of vs ++ bindings) (record { sort = found.0; bound = found.1 }) (found_bound script scope next vs bindings found.2 is)

pub variables_bound : (script : Script) (scope : List Binder) (next later : ℕ) (vs : List Variable) (bindings : List Binding) → ArePlaced (length script.sorts) next (binders_in vs) → IsScope script (binders_in vs ++ scope) later bindings → IsScope script (binders_in vs ++ scope) later (map binding_of vs ++ bindings)
variables_bound script scope next later vs bindings placed is = found_bound script (binders_in vs ++ scope) later vs bindings (all_found script next scope vs placed) is
