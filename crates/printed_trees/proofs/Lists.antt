-- Names by their places in lists where each stands once.
use Rattle.std.proofs.Common.{◌≡◌, ◌≢◌, ◌<◌, ℕ, zero, suc, ◌+◌, Bool, true, false, cond, not, ltb, List, [], ◌∷◌, map, length, Some, None, slice_get, refl, sym, ap, ◌∙◌, subst, arith}
use Rattle.std.specs.List.{prefix_len}
use Rattle.std.proofs.lemmas.Bool.Decides.{nat_tests}
use Rattle.mbqi_terms.specs.Distinct.{AreDistinct}
use Rattle.mbqi_terms.specs.declared.script.Function.{Function}
use Rattle.smtlib_terms.specs.Names.{function_named, place_of}
use Rattle.smtlib_terms.specs.Words.{is_text}
use Rattle.smtlib_terms.proofs.Texts.{other_text, own_text}

-- the tail of such a list is such a list, and its head isn't in it
pub distinct_tail : {X : Type 0} (x : X) (xs : List X) → AreDistinct (x ∷ xs) → AreDistinct xs
distinct_tail x xs distinct i j y e f = let same : suc i ≡ suc j = distinct (suc i) (suc j) y e f in omega arith

pub distinct_head : {X : Type 0} (x : X) (xs : List X) (i : ℕ) (y : X) → AreDistinct (x ∷ xs) → slice_get xs i ≡ Some y → y ≢ x
distinct_head x xs i y distinct e same = let at : 0 ≡ suc i = distinct 0 (suc i) x refl (e ∙ ap Some same) in absurd (omega arith)

-- the place of a name
prefix_at : (name : List ℕ) (names : List (List ℕ)) (i : ℕ) → AreDistinct names → slice_get names i ≡ Some name → (prefix_len (λ other. not (is_text name other)) names ≡ i) × (i < length names)
prefix_at name [] i distinct e = cc
prefix_at name (x ∷ xs) zero distinct e =
    let same : x ≡ name = cc in
    let own : is_text name x ≡ true = subst (λ (y : List ℕ). is_text name y ≡ true) (sym same) (own_text name) in
    (rw own refl, omega arith)
prefix_at name (x ∷ xs) (suc i) distinct e =
    let later = prefix_at name xs i (distinct_tail x xs distinct) e in
    let other : is_text name x ≡ false = other_text name x (distinct_head x xs i name distinct e) in
    (rw other (omega (arith, later.0)), omega (arith, later.1))

pub place_at : (name : List ℕ) (names : List (List ℕ)) (i : ℕ) → AreDistinct names → slice_get names i ≡ Some name → place_of name names ≡ Some i
place_at name names i distinct e =
    let found = prefix_at name names i distinct e in
    let within : ltb i (length names) ≡ true = let inside : i < length names = found.1 in grind (arith, nat_tests) in
    ap (λ (n : ℕ). cond (ltb n (length names)) (Some n) None) found.0 ∙ ap (λ (t : Bool). cond t (Some i) None) within

pub get_map : {A B : Type 0} (h : A → B) (xs : List A) (i : ℕ) (x : A) → slice_get xs i ≡ Some x → slice_get (map h xs) i ≡ Some (h x)
get_map h [] i x e = cc
get_map h (y ∷ ys) zero x e = let same : y ≡ x = cc in ap (λ z. Some (h z)) same
get_map h (y ∷ ys) (suc i) x e = get_map h ys i x e

-- the function of a name, with its number
pub function_at : (functions : List Function) (at i : ℕ) (f : Function) → AreDistinct (map (λ (f : Function). f.name) functions) → slice_get functions i ≡ Some f → function_named f.name at functions ≡ Some (at + i, f)
function_at [] at i f distinct e = cc
function_at (g ∷ gs) at zero f distinct e =
    let same : g ≡ f = cc in
    let own : is_text f.name g.name ≡ true = subst (λ (h : Function). is_text f.name h.name ≡ true) (sym same) (own_text f.name) in
    let number : at ≡ at + 0 = omega arith in
    let found : Some (at, g) ≡ Some (at + 0, f) = ap (λ (h : Function). Some (at, h)) same ∙ ap (λ (n : ℕ). Some (n, f)) number in
    rw own found
function_at (g ∷ gs) at (suc i) f distinct e =
    let later = function_at gs (at + 1) i f (distinct_tail g.name (map (λ (f : Function). f.name) gs) distinct) e in
    let other : is_text f.name g.name ≡ false =
    other_text f.name g.name (distinct_head g.name (map (λ (f : Function). f.name) gs) i f.name distinct (get_map (λ (f : Function). f.name) gs i f e)) in
    let number : at + 1 + i ≡ at + suc i = omega arith in
    let found : function_named f.name (at + 1) gs ≡ Some (at + suc i, f) = later ∙ ap (λ (n : ℕ). Some (n, f)) number in
    rw other found
