-- Names found in tables are the names that the definitions find.
use Rattle.std.proofs.Common.{◌≡◌, ◌≢◌, ℕ, zero, suc, ◌+◌, ◌<◌, Bool, true, false, ◌||◌, List, [], ◌∷◌, ◌++◌, map, take, None, Some, position, slice_get, refl, sym, ap, subst, ◌∙◌, cond, true≢false, ◌≤◌, arith}
use Rattle.std.specs.Prelude.{if◌then◌else◌}
use Rattle.std.specs.List.{fold, list_any, position_from}
use Rattle.std.proofs.lemmas.Iterator.Adapters.{position_from-zero}
use Rattle.std.proofs.lemmas.List.{map-append}
use Rattle.name_tables.specs.Names.{with_name}
use Rattle.mbqi_terms.specs.declared.script.Function.{Function}
use Rattle.smtlib_terms.specs.declared.names.Macro.{Macro}
use Rattle.smtlib_terms.specs.Declaring.{Declarations, is_function, names_before, reader_of, signature_of, with_macro}
use Rattle.smtlib_terms.specs.Names.{Signature, function_named, macro_named}
use Rattle.smtlib_terms.specs.Words.{is_one_of, is_text}
use Rattle.smtlib_terms.proofs.Texts.{other_text, own_text}

-- a name that is none of the list comes last
pub new_name : (names : List (List ℕ)) (name : List ℕ) → is_one_of names name ≡ false → with_name names name ≡ names ++ name ∷ []
new_name names name new = ap (λ (there : Bool). if there then names else names ++ name ∷ []) new

-- a test beside one that fails
pub or_false : (b : Bool) → (b || false) ≡ b
or_false true = refl
or_false false = refl

-- one of the functions, or of the macros, has the name
pub any_function : (fs : List Function) (name : List ℕ)
    → list_any (λ (f : Function). is_one_of (f.name ∷ []) name) fs ≡ is_one_of (map (λ (f : Function). f.name) fs) name
any_function [] name = refl
any_function (f ∷ fs) name = (λ j. or_false (is_text f.name name) j || any_function fs name j)

pub any_macro : (ms : List Macro) (name : List ℕ)
    → list_any (λ (m : Macro). is_one_of (m.name ∷ []) name) ms ≡ is_one_of (map (λ (m : Macro). m.name) ms) name
any_macro [] name = refl
any_macro (m ∷ ms) name = (λ j. or_false (is_text m.name name) j || any_macro ms name j)

-- a name that is at no place, and one that is at a place alone
abbrev pub IsNowhere : List ℕ → List (List ℕ) → Type 0
IsNowhere name names = (k : ℕ) (x : List ℕ) → slice_get names k ≡ Some x → is_text name x ≡ false

abbrev pub IsOnlyAt : List ℕ → List (List ℕ) → ℕ → Type 0
IsOnlyAt name names i = (k : ℕ) → slice_get names k ≡ Some name → k ≡ i

nowhere_from : (name : List ℕ) (at : ℕ) (names : List (List ℕ)) → position_from (is_text name) at names ≡ None → IsNowhere name names
nowhere_from name at [] none k x there = cc
nowhere_from name at (y ∷ ys) none k x there = go (is_text name y) refl none (λ found later in_rest. nowhere_from name (at + 1) ys found later x in_rest) k there
  where
    go : (t : Bool) → is_text name y ≡ t → cond t (Some at) (position_from (is_text name) (at + 1) ys) ≡ None
        → (position_from (is_text name) (at + 1) ys ≡ None → (k : ℕ) → slice_get ys k ≡ Some x → is_text name x ≡ false)
        → (k : ℕ) → slice_get (y ∷ ys) k ≡ Some x → is_text name x ≡ false
    go true e found rest k there = cc
    go false e found rest zero there = let same : y ≡ x = cc in subst (λ z. is_text name z ≡ false) same e
    go false e found rest (suc k) there = rest found k there

pub nowhere : (name : List ℕ) (names : List (List ℕ)) → position (is_text name) names ≡ None → IsNowhere name names
nowhere name names none = nowhere_from name 0 names (sym (position_from-zero (is_text name) names) ∙ none)

-- a function that is nowhere, and one at its place
pub function_nowhere : (name : List ℕ) (at : ℕ) (fs : List Function) → IsNowhere name (map (λ (f : Function). f.name) fs) → function_named name at fs ≡ None
function_nowhere name at [] none = refl
function_nowhere name at (f ∷ fs) none =
    let other : is_text name f.name ≡ false = none 0 f.name refl in
    rw other (function_nowhere name (at + 1) fs (λ k. none (suc k)))

pub function_at : (name : List ℕ) (at : ℕ) (fs : List Function) (i : ℕ) (f : Function)
    → slice_get fs i ≡ Some f → name ≡ f.name → IsOnlyAt name (map (λ (f : Function). f.name) fs) i → function_named name at fs ≡ Some (at + i, f)
function_at name at [] i f there named only = cc
function_at name at (g ∷ gs) zero f there named only =
    let same : g ≡ f = cc in
    let own : is_text name g.name ≡ true = subst (λ (h : Function). is_text name h.name ≡ true) (sym same) (subst (λ n. is_text name n ≡ true) named (own_text name)) in
    let number : at ≡ at + 0 = omega arith in
    let found : Some (at, g) ≡ Some (at + 0, f) = (λ j. Some (number j, same j)) in
    rw own found
function_at name at (g ∷ gs) (suc i) f there named only =
    let other : is_text name g.name ≡ false = other_text name g.name (λ same. let first : 0 ≡ suc i = only 0 (ap Some (sym same)) in absurd (omega arith)) in
    let later = function_at name (at + 1) gs i f there named (λ k e. let at_k : suc k ≡ suc i = only (suc k) e in omega arith) in
    let number : at + 1 + i ≡ at + suc i = omega arith in
    let found : function_named name (at + 1) gs ≡ Some (at + suc i, f) = later ∙ ap (λ (n : ℕ). Some (n, f)) number in
    rw other found

-- macros of other names bring no macro of the name
macro_behind : (name : List ℕ) (names : Signature) (ms : List Macro) → IsNowhere name (map (λ (m : Macro). m.name) ms)
    → macro_named name (fold with_macro names ms).macros ≡ macro_named name names.macros
macro_behind name names [] none = refl
macro_behind name names (m ∷ ms) none =
    let other : is_text name m.name ≡ false = none 0 m.name refl in
    macro_behind name (with_macro names m) ms (λ k. none (suc k)) ∙ rw other refl

-- a macro at its place, the last of its name
macro_at : (name : List ℕ) (names : Signature) (ms : List Macro) (i : ℕ) (m : Macro)
    → slice_get ms i ≡ Some m → name ≡ m.name → IsOnlyAt name (map (λ (m : Macro). m.name) ms) i
    → macro_named name (fold with_macro names ms).macros ≡ Some (reader_of (fold with_macro names (take i ms)) m)
macro_at name names [] i m there named only = cc
macro_at name names (n ∷ ms) zero m there named only =
    let same : n ≡ m = cc in
    let own : is_text name n.name ≡ true = subst (λ (h : Macro). is_text name h.name ≡ true) (sym same) (subst (λ x. is_text name x ≡ true) named (own_text name)) in
    let later : IsNowhere name (map (λ (m : Macro). m.name) ms) =
    (λ k x e. other_text name x (λ named_x. let first : suc k ≡ 0 = only (suc k) (e ∙ ap Some (sym named_x)) in absurd (omega arith))) in
    macro_behind name (with_macro names n) ms later ∙ rw own (ap (λ (h : Macro). Some (reader_of names h)) same)
macro_at name names (n ∷ ms) (suc i) m there named only =
    macro_at name (with_macro names n) ms i m there named (λ k e. let at_k : suc k ≡ suc i = only (suc k) e in omega arith)

-- the first items of a list are at their places in it
front_get : {A : Type 0} (xs : List A) (n k : ℕ) (x : A) → slice_get (take n xs) k ≡ Some x → slice_get xs k ≡ Some x
front_get xs zero k x e = cc
front_get [] (suc n) k x e = cc
front_get (y ∷ ys) (suc n) zero x e = e
front_get (y ∷ ys) (suc n) (suc k) x e = front_get ys n k x e

front_within : {A : Type 0} (xs : List A) (n k : ℕ) (x : A) → slice_get xs k ≡ Some x → k < n → slice_get (take n xs) k ≡ Some x
front_within xs zero k x e within = absurd (omega arith)
front_within [] (suc n) k x e within = cc
front_within (y ∷ ys) (suc n) zero x e within = e
front_within (y ∷ ys) (suc n) (suc k) x e within = front_within ys n k x e (omega arith)

front_of_front : {A : Type 0} (xs : List A) (n i : ℕ) → i ≤ n → take i (take n xs) ≡ take i xs
front_of_front xs n zero within = refl
front_of_front xs zero (suc i) within = absurd (omega arith)
front_of_front [] (suc n) (suc i) within = refl
front_of_front (x ∷ xs) (suc n) (suc i) within = ap (λ ys. x ∷ ys) (front_of_front xs n i (omega arith))

-- the names of the first items of a table
front_map : {A : Type 0} (h : A → List ℕ) (n : ℕ) (xs : List A) → take n (map h xs) ≡ map h (take n xs)
front_map h zero xs = refl
front_map h (suc n) [] = refl
front_map h (suc n) (x ∷ xs) = ap (λ ys. h x ∷ ys) (front_map h n xs)

-- the macro of a name among the first so many
pub macro_nowhere : (d : Declarations) (name : List ℕ) (first : ℕ) → IsNowhere name (map (λ (m : Macro). m.name) d.macros)
    → macro_named name (names_before d first).macros ≡ None
macro_nowhere d name first none =
    macro_behind name (signature_of d []) (take first d.macros)
    (λ k x e. none k x (front_get (map (λ (m : Macro). m.name) d.macros) first k x (subst (λ ys. slice_get ys k ≡ Some x) (sym (front_map (λ (m : Macro). m.name) first d.macros)) e)))

pub macro_past : (d : Declarations) (name : List ℕ) (first i : ℕ) → IsOnlyAt name (map (λ (m : Macro). m.name) d.macros) i → first ≤ i
    → macro_named name (names_before d first).macros ≡ None
macro_past d name first i only past =
    macro_behind name (signature_of d []) (take first d.macros)
    (λ k x e. other_text name x (λ named.
    let in_front : slice_get (take first (map (λ (m : Macro). m.name) d.macros)) k ≡ Some x = subst (λ ys. slice_get ys k ≡ Some x) (sym (front_map (λ (m : Macro). m.name) first d.macros)) e in
    let at : k ≡ i = only k (front_get (map (λ (m : Macro). m.name) d.macros) first k x in_front ∙ ap Some (sym named)) in
    let within : k < first = front_is_within (map (λ (m : Macro). m.name) d.macros) first k x in_front in
    absurd (omega arith)))
  where
    front_is_within : {A : Type 0} (xs : List A) (n k : ℕ) (x : A) → slice_get (take n xs) k ≡ Some x → k < n
    front_is_within xs zero k x e = cc
    front_is_within [] (suc n) k x e = cc
    front_is_within (y ∷ ys) (suc n) zero x e = omega arith
    front_is_within (y ∷ ys) (suc n) (suc k) x e = let later : k < n = front_is_within ys n k x e in omega arith

pub macro_before : (d : Declarations) (name : List ℕ) (first i : ℕ) (m : Macro)
    → slice_get d.macros i ≡ Some m → name ≡ m.name → IsOnlyAt name (map (λ (m : Macro). m.name) d.macros) i → i < first
    → macro_named name (names_before d first).macros ≡ Some (reader_of (names_before d i) m)
macro_before d name first i m there named only within =
    let front_only : IsOnlyAt name (map (λ (m : Macro). m.name) (take first d.macros)) i =
    (λ k e. only k (front_get (map (λ (m : Macro). m.name) d.macros) first k name (subst (λ ys. slice_get ys k ≡ Some name) (sym (front_map (λ (m : Macro). m.name) first d.macros)) e))) in
    let found = macro_at name (signature_of d []) (take first d.macros) i m (front_within d.macros first i m there within) named front_only in
    let at_most : i ≤ first = omega arith in
    found ∙ ap (λ (ms : List Macro). Some (reader_of (signature_of d ms) m)) (front_of_front d.macros first i at_most)

-- an item at a place of a table has its name there
unfound_item : {A : Type 0} (h : A → List ℕ) (xs : List A) (i : ℕ) (name : List ℕ) → slice_get xs i ≡ None → slice_get (map h xs) i ≡ Some name → ⊥
unfound_item h [] i name none there = cc
unfound_item h (x ∷ xs) zero name none there = cc
unfound_item h (x ∷ xs) (suc i) name none there = unfound_item h xs i name none there

named_item : {A : Type 0} (h : A → List ℕ) (xs : List A) (i : ℕ) (x : A) (name : List ℕ) → slice_get xs i ≡ Some x → slice_get (map h xs) i ≡ Some name → name ≡ h x
named_item h [] i x name at there = cc
named_item h (y ∷ ys) zero x name at there = let same : y ≡ x = cc in let named : h y ≡ name = cc in sym named ∙ ap h same
named_item h (y ∷ ys) (suc i) x name at there = named_item h ys i x name at there

pub no_item : {A : Type 0} (h : A → List ℕ) (xs : List A) (names : List (List ℕ)) (i : ℕ) (name : List ℕ) → names ≡ map h xs → None ≡ slice_get xs i → slice_get names i ≡ Some name → ⊥
no_item h xs names i name are none there = unfound_item h xs i name (sym none) (subst (λ ns. slice_get ns i ≡ Some name) are there)

-- the look-up of a function in its table
pub function_missing : (name : List ℕ) (fs : List Function) (names : List (List ℕ)) → names ≡ map (λ (f : Function). f.name) fs → None ≡ position (is_text name) names → function_named name 0 fs ≡ None
function_missing name fs names are none = function_nowhere name 0 fs (subst (IsNowhere name) are (nowhere name names (sym none)))

pub function_found : (name : List ℕ) (fs : List Function) (names : List (List ℕ)) (i : ℕ) (f : Function)
    → names ≡ map (λ (f : Function). f.name) fs → Some f ≡ slice_get fs i → slice_get names i ≡ Some name → IsOnlyAt name names i → function_named name 0 fs ≡ Some (i, f)
function_found name fs names i f are item there only =
    let named : name ≡ f.name = named_item (λ (f : Function). f.name) fs i f name (sym item) (subst (λ ns. slice_get ns i ≡ Some name) are there) in
    let found = function_at name 0 fs i f (sym item) named (subst (λ ns. IsOnlyAt name ns i) are only) in
    let number : 0 + i ≡ i = omega arith in
    found ∙ ap (λ (n : ℕ). Some (n, f)) number

-- the look-up of a macro in its table
pub macro_missing : (d : Declarations) (name : List ℕ) (first : ℕ) (names : List (List ℕ)) → names ≡ map (λ (m : Macro). m.name) d.macros → None ≡ position (is_text name) names
    → macro_named name (names_before d first).macros ≡ None
macro_missing d name first names are none = macro_nowhere d name first (subst (IsNowhere name) are (nowhere name names (sym none)))

pub macro_late : (d : Declarations) (name : List ℕ) (first i : ℕ) (names : List (List ℕ)) → names ≡ map (λ (m : Macro). m.name) d.macros → IsOnlyAt name names i → first ≤ i
    → macro_named name (names_before d first).macros ≡ None
macro_late d name first i names are only late = macro_past d name first i (subst (λ ns. IsOnlyAt name ns i) are only) late

pub macro_found : (d : Declarations) (name : List ℕ) (first i : ℕ) (names : List (List ℕ)) (m : Macro)
    → names ≡ map (λ (m : Macro). m.name) d.macros → Some m ≡ slice_get d.macros i → slice_get names i ≡ Some name → IsOnlyAt name names i → i < first
    → macro_named name (names_before d first).macros ≡ Some (reader_of (names_before d i) m)
macro_found d name first i names m are item there only within =
    let named : name ≡ m.name = named_item (λ (m : Macro). m.name) d.macros i m name (sym item) (subst (λ ns. slice_get ns i ≡ Some name) are there) in
    macro_before d name first i m (sym item) named (subst (λ ns. IsOnlyAt name ns i) are only) within

-- one of two that are both false
first_false : (a b : Bool) → (a || b) ≡ false → a ≡ false
first_false true b e = e
first_false false b e = refl

second_false : (a b : Bool) → (a || b) ≡ false → b ≡ false
second_false true b e = absurd (true≢false e)
second_false false b e = e

-- the names of a table with one more item, of a new name
pub functions_with : (d : Declarations) (names : List (List ℕ)) (name : List ℕ) (f : Function) → names ≡ map (λ (f : Function). f.name) d.functions
    → f.name ≡ name → is_function d name ≡ false → with_name names name ≡ map (λ (f : Function). f.name) (d.functions ++ f ∷ [])
functions_with d names name f are named new =
    let other : is_one_of (map (λ (f : Function). f.name) d.functions) name ≡ false =
    sym (any_function d.functions name) ∙ first_false _ _ new in
    new_name names name (ap (λ ns. is_one_of ns name) are ∙ other)
    ∙ ((λ j. are j ++ sym named j ∷ []) ∙ sym (map-append (λ (f : Function). f.name) d.functions (f ∷ [])))

pub macros_with : (d : Declarations) (names : List (List ℕ)) (m : Macro) → names ≡ map (λ (m : Macro). m.name) d.macros
    → is_function d m.name ≡ false → with_name names m.name ≡ map (λ (m : Macro). m.name) (d.macros ++ m ∷ [])
macros_with d names m are new =
    let other : is_one_of (map (λ (m : Macro). m.name) d.macros) m.name ≡ false =
    sym (any_macro d.macros m.name) ∙ second_false _ _ new in
    new_name names m.name (ap (λ ns. is_one_of ns m.name) are ∙ other)
    ∙ (ap (λ ns. ns ++ m.name ∷ []) are ∙ sym (map-append (λ (m : Macro). m.name) d.macros (m ∷ [])))

pub named_front : {A : Type 0} (h : A → List ℕ) (n : ℕ) (xs : List A) (names : List (List ℕ)) → names ≡ map h xs → take n names ≡ map h (take n xs)
named_front h n xs names are = ap (take n) are ∙ front_map h n xs
