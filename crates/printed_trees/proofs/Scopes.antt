-- What names stand for in the scope of a script's variables.
use Rattle.std.proofs.Common.{◌≡◌, ◌≢◌, ◌<◌, ◌≤◌, ℕ, ◌+◌, ◌^◌, Bool, true, false, cond, eqb, List, [], ◌∷◌, ◌++◌, length, Option, Some, None, slice_get, refl, ap, ◌∙◌, subst, arith}
use Rattle.std.proofs.lemmas.Bool.{or_parts}
use Rattle.std.proofs.lemmas.Bool.Decides.{nat_tests}
use Rattle.mbqi_terms.specs.declared.script.Function.{Function}
use Rattle.mbqi_terms.specs.declared.script.Script.{Script}
use Rattle.mbqi_terms.specs.declared.sort.Binder.{Binder}
use Rattle.mbqi_terms.specs.declared.sort.Sort.{Sort}
use Rattle.smtlib_printer.specs.Names.{begins_with, is_begun, variable_text}
use Rattle.smtlib_terms.specs.declared.meaning.Bound.TheVariants.{Variable}
use Rattle.smtlib_terms.specs.Names.{bound_to, function_named}
use Rattle.smtlib_terms.specs.Words.{is_reserved_word, is_text}
use Rattle.smtlib_terms.proofs.Texts.{other_text, own_text}
use Rattle.mbqi_terms.specs.HasSort.{sort_at}
use Rattle.mbqi_terms.specs.InForm.{AreBinders, ArePlaced, function_names}
use Rattle.smtlib_terms.specs.InForm.{IsName}
use Rattle.smtlib_terms.proofs.Tests.{all_get, none_passes}
use Rattle.printed_trees.specs.Names.{AreSmall, AreToldApart, bindings_of}
use Rattle.printed_trees.proofs.Lists.{function_at, get_map}
use Rattle.printed_trees.proofs.Decimals.{variable_begins, variables_differ}
use Rattle.printed_trees.proofs.Words.{no_reserved_word}

eqb_true : (a b : ℕ) → eqb a b ≡ true → a ≡ b
eqb_true a b e = grind (arith, nat_tests)

eqb_false : (a b : ℕ) → eqb a b ≡ false → b ≢ a
eqb_false a b e same = grind (arith, nat_tests)

-- the place of a variable in scope is one of its binders'
at_step : (b : Binder) (place : ℕ) (s : Sort) (more : Option Sort) (t : Bool) → b.place < 2 ^ 64 → eqb b.place place ≡ t → (more ≡ Some s → place < 2 ^ 64) → cond t (Some b.sort) more ≡ Some s → place < 2 ^ 64
at_step b place s more true small is later e = subst (λ (n : ℕ). n < 2 ^ 64) (eqb_true b.place place is) small
at_step b place s more false small is later e = later e

pub small_at : (bs : List Binder) (place : ℕ) (s : Sort) → AreSmall bs → sort_at bs place ≡ Some s → place < 2 ^ 64
small_at [] place s small e = cc
small_at (b ∷ bs) place s small e =
    at_step b place s (sort_at bs place) (eqb b.place place) small.0 refl (small_at bs place s small.1) e

-- a variable's name stands for it
found_step : (marks : ℕ) (b : Binder) (bs : List Binder) (place : ℕ) (s : Sort) (t : Bool) → AreSmall (b ∷ bs) → eqb b.place place ≡ t →
    (sort_at bs place ≡ Some s → bound_to (variable_text marks place) (bindings_of marks bs) ≡ Some (Variable place s)) →
    cond t (Some b.sort) (sort_at bs place) ≡ Some s → bound_to (variable_text marks place) (bindings_of marks (b ∷ bs)) ≡ Some (Variable place s)
found_step marks b bs place s true small is later e =
    let same : b.place ≡ place = eqb_true b.place place is in
    let own : is_text (variable_text marks place) (variable_text marks b.place) ≡ true =
    subst (λ (n : ℕ). is_text (variable_text marks n) (variable_text marks b.place) ≡ true) same (own_text (variable_text marks b.place)) in
    let sort : b.sort ≡ s = cc in
    rw own (ap (λ (n : ℕ). Some (Variable n b.sort)) same ∙ ap (λ (r : Sort). Some (Variable place r)) sort)
found_step marks b bs place s false small is later e =
    let other : is_text (variable_text marks place) (variable_text marks b.place) ≡ false =
    other_text (variable_text marks place) (variable_text marks b.place) (variables_differ marks place b.place (small_at bs place s small.1 e) small.0 (eqb_false b.place place is)) in
    rw other (later e)

pub variable_found : (marks : ℕ) (bs : List Binder) (place : ℕ) (s : Sort) → AreSmall bs → sort_at bs place ≡ Some s → bound_to (variable_text marks place) (bindings_of marks bs) ≡ Some (Variable place s)
variable_found marks [] place s small e = cc
variable_found marks (b ∷ bs) place s small e =
    found_step marks b bs place s (eqb b.place place) small refl (variable_found marks bs place s small.1) e

-- a name that isn't like a variable's stands for none
pub name_unbound : (marks : ℕ) (name : List ℕ) (bs : List Binder) → begins_with marks name ≡ false → AreSmall bs → bound_to name (bindings_of marks bs) ≡ None
name_unbound marks name [] apart small = refl
name_unbound marks name (b ∷ bs) apart small =
    let begun = variable_begins marks b.place small.0 in
    let other : is_text name (variable_text marks b.place) ≡ false =
    other_text name (variable_text marks b.place) (λ same. let e : begins_with marks name ≡ begins_with marks (variable_text marks b.place) = ap (begins_with marks) same in cc) in
    rw other (name_unbound marks name bs apart small.1)

-- no name of a script is like a variable's
function_apart : (script : Script) (marks i : ℕ) (f : Function) → is_begun script marks ≡ false → slice_get script.functions i ≡ Some f → begins_with marks f.name ≡ false
unfolding is_begun
function_apart script marks i f apart e =
    none_passes (λ (f : Function). begins_with marks f.name) script.functions i f (or_parts _ _ apart).1 e

-- what is known of a function that a tree names
pub record IsFound (script : Script) (marks number : ℕ) (f : Function) : Type 0 where
  pub is_name : IsName f.name
  pub no_word : is_reserved_word f.name ≡ false
  pub found : function_named f.name 0 script.functions ≡ Some (number, f)
  pub unbound : (bs : List Binder) → AreSmall bs → bound_to f.name (bindings_of marks bs) ≡ None

pub function_found : (script : Script) (marks number : ℕ) (f : Function) → AreToldApart script marks → slice_get script.functions number ≡ Some f → IsFound script marks number f
function_found script marks number f told e =
    let is_name : IsName f.name = all_get IsName (function_names script) number f.name told.named.functions (get_map (λ (f : Function). f.name) script.functions number f e) in
    let at : 0 + number ≡ number = omega arith in
    record {
      is_name = is_name;
      no_word = no_reserved_word f.name is_name.free;
      found = function_at script.functions 0 number f told.named.functions_differ e ∙ ap (λ (n : ℕ). Some (n, f)) at;
      unbound = λ bs small. name_unbound marks f.name bs (function_apart script marks number f told.apart e) small;
    }

-- the binders of a quantifier are small
placed_small : (script : Script) (next : ℕ) (bs scope : List Binder) → ArePlaced (length script.sorts) next bs → next + length bs ≤ 2 ^ 64 → AreSmall scope → AreSmall (bs ++ scope)
placed_small script next [] scope placed within small = small
placed_small script next (b ∷ bs) scope placed within small =
    let below : b.place < 2 ^ 64 = let at = placed.0 in omega arith in
    (below, placed_small script (next + 1) bs scope placed.2 (omega arith) small)

pub bound_small : (script : Script) (next : ℕ) (bs scope : List Binder) → AreBinders (length script.sorts) next bs → next + length bs ≤ 2 ^ 64 → AreSmall scope → AreSmall (bs ++ scope)
bound_small script next bs scope bound within small = placed_small script next bs scope bound.placed within small
