-- Parts of a list that each read as something in form: what several of them read as.
use Rattle.std.proofs.Common.{◌≡◌, ℕ, ◌+◌, true, false, List, [], ◌∷◌, length, ◌==◌, Result, Ok, Err, if◌then◌else◌, subst, arith}
use Rattle.std.specs.List.{list_any}
use Rattle.mbqi_values.specs.declared.fault.FaultKind.{FaultKind}
use Rattle.mbqi_values.specs.declared.fault.FaultKind.TheVariants.{WrongCount}
use Rattle.mbqi_terms.specs.declared.script.Script.{Script}
use Rattle.mbqi_terms.specs.declared.sort.Binder.{Binder}
use Rattle.smtlib_terms.specs.declared.meaning.Meaning.{Meaning}
use Rattle.smtlib_terms.specs.declared.meaning.Side.{Side}
use Rattle.smtlib_terms.specs.declared.meaning.Side.TheVariants.{Meant, Difference}
use Rattle.smtlib_terms.specs.declared.names.Binding.{Binding}
use Rattle.smtlib_terms.specs.declared.word.Word.{Word}
use Rattle.smtlib_terms.specs.Meaning.{variables_of}
use Rattle.smtlib_terms.specs.Names.{◌>>=◌, Signature}
use Rattle.smtlib_terms.specs.Operators.{applied, is_relation, is_wide, plainly, two_sides}
use Rattle.smtlib_terms.specs.Reading.{Part, Reading, body_read, first_read, parts_read, relation_read, sides_read, value_read, values_read, variables_of_side}
use Rattle.read_in_form.proofs.Placed.{AreMeanings, AreValues, IsBelow, IsMeaning, IsRead, IsReadSide, IsScope, IsSideMeaning, IsSignature}
use Rattle.read_in_form.proofs.Scopes.{below_later, extends_itself, scope_later}
use Rattle.read_in_form.proofs.Sides.{two_sides_placed}
use Rattle.read_in_form.proofs.Steps.{passed, plain_side, same_ok, stepped}
use Rattle.read_in_form.proofs.Words.{applied_placed, relation_narrow}

-- where something is read
pub record IsPlace (script : Script) (names : Signature) (scope : List Binder) (bindings : List Binding) (next : ℕ) : Type 0 where
  pub signature : IsSignature script names
  pub below : IsBelow next scope
  pub scoped : IsScope script scope next bindings

pub later_place : (script : Script) (names : Signature) (scope : List Binder) (bindings : List Binding) (next more : ℕ) → IsPlace script names scope bindings next → IsPlace script names scope bindings (next + more)
later_place script names scope bindings next more at = record {
  signature = at.signature;
  below = below_later scope next (next + more) (omega arith) at.below;
  scoped = scope_later script scope scope next (next + more) bindings (extends_itself scope) (omega arith) at.scoped;
}

-- a reading gives what is in form, wherever it stands
abbrev pub IsGood : Script → Reading → Type 0
IsGood script reads =
    (names : Signature) (scope : List Binder) (bindings : List Binding) (next : ℕ) (s : Side) → IsPlace script names scope bindings next → reads names bindings next ≡ Ok s → IsReadSide script scope next s

abbrev pub AreGood : Script → List Reading → Type 0
AreGood script [] = Unit {0}
AreGood script (r ∷ rs) = IsGood script r × AreGood script rs

abbrev pub AreGoodLists : Script → List (List Reading) → Type 0
AreGoodLists script [] = Unit {0}
AreGoodLists script (rs ∷ more) = AreGood script rs × AreGoodLists script more

pub record IsGoodPart (script : Script) (p : Part) : Type 0 where
  pub reads : IsGood script p.reads
  pub inner : AreGoodLists script p.inner

abbrev pub AreGoodParts : Script → List Part → Type 0
AreGoodParts script [] = Unit {0}
AreGoodParts script (p ∷ ps) = IsGoodPart script p × AreGoodParts script ps

-- one part
pub one_is_read : (script : Script) (reads : Reading) (names : Signature) (scope : List Binder) (bindings : List Binding) (next : ℕ) (m : Meaning) → IsGood script reads → IsPlace script names scope bindings next → (reads names bindings next >>= plainly) ≡ Ok m → IsRead script scope next m
one_is_read script reads names scope bindings next m good at is = good names scope bindings next (Meant m) at (plain_side (reads names bindings next) m is)

pub side_is_meant : (script : Script) (scope : List Binder) (next : ℕ) (s : Side) → IsReadSide script scope next s → IsSideMeaning script scope next s
side_is_meant script scope next (Meant m) is = is.meaning
side_is_meant script scope next (Difference s t) is = is

-- parts, one behind the other
pub parts_are_read : (script : Script) (ps : List Part) (names : Signature) (scope : List Binder) (bindings : List Binding) (next : ℕ) (ms : List Meaning) → AreGoodParts script ps → IsPlace script names scope bindings next → parts_read ps names bindings next ≡ Ok ms → AreMeanings script scope next ms
parts_are_read script [] names scope bindings next [] good at is = tt
parts_are_read script [] names scope bindings next (m ∷ ms) good at is = cc
parts_are_read script (p ∷ ps) names scope bindings next ms good at is =
    let one = stepped (p.reads names bindings next >>= plainly) (λ (m : Meaning). parts_read ps names bindings (next + variables_of m) >>= (λ (rest : List Meaning). Ok (m ∷ rest))) ms is in
    let more = stepped (parts_read ps names bindings (next + variables_of one.value)) (λ (rest : List Meaning). Ok (one.value ∷ rest)) ms one.rest in
    let all : one.value ∷ more.value ≡ ms = cc in
    let first = one_is_read script p.reads names scope bindings next one.value good.0.reads at one.first in
    subst (AreMeanings script scope next) all
    (first.meaning, parts_are_read script ps names scope bindings (next + variables_of one.value) more.value good.1 (later_place script names scope bindings next (variables_of one.value) at) more.first)

-- values
pub values_are_read : (script : Script) (ps : List Part) (names : Signature) (scope : List Binder) (bindings : List Binding) (next : ℕ) (ms : List Meaning) → AreGoodParts script ps → IsPlace script names scope bindings next → values_read ps names bindings next ≡ Ok ms → AreValues script scope next ms
values_are_read script [] names scope bindings next [] good at is = tt
values_are_read script [] names scope bindings next (m ∷ ms) good at is = cc
values_are_read script (p ∷ ps) names scope bindings next ms good at is =
    let one = stepped (p.reads names bindings next >>= plainly) (λ (m : Meaning). values_read ps names bindings next >>= (λ (rest : List Meaning). Ok (m ∷ rest))) ms is in
    let more = stepped (values_read ps names bindings next) (λ (rest : List Meaning). Ok (one.value ∷ rest)) ms one.rest in
    let all : one.value ∷ more.value ≡ ms = cc in
    subst (AreValues script scope next) all
    (one_is_read script p.reads names scope bindings next one.value good.0.reads at one.first, values_are_read script ps names scope bindings next more.value good.1 at more.first)

-- the sides of an atom
sides_are_read : (script : Script) (a b : Part) (names : Signature) (scope : List Binder) (bindings : List Binding) (next : ℕ) (ms : List Meaning) → IsGoodPart script a → IsGoodPart script b → IsPlace script names scope bindings next → sides_read a b names bindings next ≡ Ok ms → list_any is_wide ms ≡ false → AreMeanings script scope next ms
sides_are_read script a b names scope bindings next ms good also at is narrow =
    let left = stepped (a.reads names bindings next) (λ (left : Side). two_sides left (b.reads names bindings (next + variables_of_side left))) ms is in
    two_sides_placed script scope next left.value (b.reads names bindings (next + variables_of_side left.value)) ms
    (side_is_meant script scope next left.value (good.reads names scope bindings next left.value at left.first))
    (λ s e. side_is_meant script scope (next + variables_of_side left.value) s (also.reads names scope bindings (next + variables_of_side left.value) s (later_place script names scope bindings next (variables_of_side left.value) at) e))
    left.rest narrow

-- a word over meanings that are read
word_is_read : (script : Script) (w : Word) (r : Result (List Meaning) FaultKind) (scope : List Binder) (next : ℕ) (m : Meaning) → ((ms : List Meaning) → r ≡ Ok ms → AreMeanings script scope next ms) → (r >>= applied w) ≡ Ok m → IsMeaning script scope next m
word_is_read script w r scope next m are is =
    let args = stepped r (applied w) m is in
    applied_placed script scope next w args.value m (are args.value args.first) args.rest

pub word_over_parts : (script : Script) (w : Word) (ps : List Part) (names : Signature) (scope : List Binder) (bindings : List Binding) (next : ℕ) (m : Meaning) → AreGoodParts script ps → IsPlace script names scope bindings next → (parts_read ps names bindings next >>= applied w) ≡ Ok m → IsMeaning script scope next m
word_over_parts script w ps names scope bindings next m good at is =
    word_is_read script w (parts_read ps names bindings next) scope next m (λ ms e. parts_are_read script ps names scope bindings next ms good at e) is

pub relation_is_read : (script : Script) (w : Word) (ps : List Part) (names : Signature) (scope : List Binder) (bindings : List Binding) (next : ℕ) (m : Meaning) → is_relation w ≡ true → AreGoodParts script ps → IsPlace script names scope bindings next → relation_read w ps names bindings next ≡ Ok m → IsMeaning script scope next m
relation_is_read script w [] names scope bindings next m relation good at is = word_over_parts script w [] names scope bindings next m good at is
relation_is_read script w (a ∷ []) names scope bindings next m relation good at is = word_over_parts script w (a ∷ []) names scope bindings next m good at is
relation_is_read script w (a ∷ b ∷ []) names scope bindings next m relation good at is =
    let args = stepped (sides_read a b names bindings next) (applied w) m is in
    applied_placed script scope next w args.value m
    (sides_are_read script a b names scope bindings next args.value good.0 good.1.0 at args.first (relation_narrow w args.value m relation args.rest))
    args.rest
relation_is_read script w (a ∷ b ∷ c ∷ ps) names scope bindings next m relation good at is = word_over_parts script w (a ∷ b ∷ c ∷ ps) names scope bindings next m good at is

-- the first part, and a body
pub first_is_read : (script : Script) (ps : List Part) (names : Signature) (scope : List Binder) (bindings : List Binding) (next : ℕ) (m : Meaning) → AreGoodParts script ps → IsPlace script names scope bindings next → first_read ps names bindings next ≡ Ok m → IsRead script scope next m
first_is_read script [] names scope bindings next m good at is = cc
first_is_read script (p ∷ ps) names scope bindings next m good at is = one_is_read script p.reads names scope bindings next m good.0.reads at is

pub body_is_read : (script : Script) (ps : List Part) (names : Signature) (scope : List Binder) (bindings : List Binding) (next : ℕ) (m : Meaning) → AreGoodParts script ps → IsPlace script names scope bindings next → body_read ps names bindings next ≡ Ok m → IsRead script scope next m
body_is_read script ps names scope bindings next m good at is =
    let one = stepped (first_read ps names bindings next) (λ (m : Meaning). if length ps == 1 then Ok m else Err WrongCount) m is in
    let whole = same_ok one.value m (passed (length ps == 1) (Ok one.value) WrongCount m one.rest).1 in
    first_is_read script ps names scope bindings next m good at (subst (λ (n : Meaning). first_read ps names bindings next ≡ Ok n) whole one.first)

-- the value of a binding
pub value_is_read : (script : Script) (rs : List Reading) (names : Signature) (scope : List Binder) (bindings : List Binding) (next : ℕ) (m : Meaning) → AreGood script rs → IsPlace script names scope bindings next → value_read rs names bindings next ≡ Ok m → IsRead script scope next m
value_is_read script [] names scope bindings next m good at is = cc
value_is_read script (r ∷ []) names scope bindings next m good at is = cc
value_is_read script (r ∷ q ∷ []) names scope bindings next m good at is = one_is_read script q names scope bindings next m good.1.0 at is
value_is_read script (r ∷ q ∷ p ∷ rs) names scope bindings next m good at is = cc
