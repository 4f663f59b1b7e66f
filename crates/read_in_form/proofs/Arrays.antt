-- What the words of arrays make of meanings in form is in form.
use Rattle.std.proofs.Common.{◌≡◌, ℕ, ◌+◌, true, false, cond, List, [], ◌∷◌, Ok, Err, refl, sym, subst, length}
use Rattle.mbqi_values.specs.declared.fault.FaultKind.TheVariants.{WrongSort}
use Rattle.mbqi_terms.specs.declared.formula.Formula.{Formula}
use Rattle.mbqi_terms.specs.declared.formula.Formula.TheBlock.{hidden-the_row-Formula-0}
use Rattle.mbqi_terms.specs.declared.script.Script.{Script}
use Rattle.mbqi_terms.specs.declared.sort.Binder.{Binder}
use Rattle.mbqi_terms.specs.declared.sort.Plain.{Plain}
use Rattle.mbqi_terms.specs.declared.sort.Plain.TheVariants as plain
use Rattle.mbqi_terms.specs.declared.sort.Sort.{Sort}
use Rattle.mbqi_terms.specs.declared.sort.Sort.TheVariants as sort
use Rattle.mbqi_terms.specs.declared.term.ArrayTerm.{ArrayTerm}
use Rattle.mbqi_terms.specs.declared.term.ArrayTerm.TheVariants as array
use Rattle.mbqi_terms.specs.declared.term.Term.{Term}
use Rattle.mbqi_terms.specs.declared.term.Term.TheVariants as term
use denote.Hole.Carrier.{hidden}
use Rattle.smtlib_terms.specs.declared.meaning.Meaning.{Meaning}
use Rattle.smtlib_terms.specs.declared.meaning.Meaning.TheVariants as meaning
use Rattle.smtlib_terms.specs.Meaning.{variables_of}
use Rattle.smtlib_terms.specs.Names.{◌>>=◌}
use Rattle.smtlib_terms.specs.Operators.{as_plain, constant, constant_of, default_of, defaulting, read_at, selection, stored_at, storing, term_meant, truth_value, unbound}
use Rattle.mbqi_terms.specs.HasSort.{HasSortIn, IsArrayIn, IsIndexSort, IsNoTruth, IsPlainSort}
use Rattle.mbqi_terms.specs.InForm.{IsPlaced, IsResultSort}
use Rattle.smtlib_terms.specs.InForm.{HasSort, IsArray, IsFormula}
use Rattle.read_in_form.proofs.Placed.{AreMeanings, IsMeaning, IsTermOf}
use Rattle.read_in_form.proofs.NoTruths.{default_no_truth, read_no_truth}
use Rattle.read_in_form.proofs.SameSorts.{one_plain, same_sort}
use Rattle.read_in_form.proofs.Steps.{not_refused, passed, same_ok, stepped}
use Rattle.mbqi_terms.specs.Varies.{varies}
use Rattle.mbqi_terms.specs.Sort.{plain_sort, is_sort}

-- a term as what it means
pub term_meant_is : (script : Script) (scope : List Binder) (next : ℕ) (e : Plain) (t : Term) → IsPlainSort (length script.sorts) e → IsNoTruth t → HasSort script scope t e → IsMeaning script scope next (term_meant e t)
term_meant_is script scope next plain.Truth t is other h = IsPlaced.atom scope next t (record { sort = h; other = other })
term_meant_is script scope next plain.Int t is other h = record { is = plain.Int; sort = refl; index = tt; term = h }
term_meant_is script scope next (plain.Elem s) t is other h = record { is = plain.Elem s; sort = refl; index = is; term = h }

-- what may be an element of an array
truth_has : (script : Script) (scope : List Binder) (next : ℕ) (f : Formula) (v : Term) → IsFormula script scope next f → truth_value f ≡ Ok v → HasSort script scope v plain.Truth
unfolding hidden-the_row-Formula-0 hidden
truth_has script scope next f v (IsPlaced.truth sc n b) is = subst (λ (u : Term). HasSort script sc u plain.Truth) (same_ok (term.Truth b) v is) (HasSortIn.truth b)
truth_has script scope next f v (IsPlaced.atom sc n t h) is = subst (λ (u : Term). HasSort script sc u plain.Truth) (same_ok t v is) h.sort
truth_has script scope next f v (IsPlaced.equal sc n s t e index hs ht) is = cc
truth_has script scope next f v (IsPlaced.at_most sc n s t hs ht) is = cc
truth_has script scope next f v (IsPlaced.same sc n a b i e ha hb) is = cc
truth_has script scope next f v (IsPlaced.negation sc n g h) is = cc
truth_has script scope next f v (IsPlaced.conjunction sc n g k gs hs) is = cc
truth_has script scope next f v (IsPlaced.disjunction sc n g k gs hs) is = cc
truth_has script scope next f v (IsPlaced.equivalence sc n g k hg hk ng nk) is = cc
truth_has script scope next f v (IsPlaced.choice sc n c g k nc hc hg hk) is = cc
truth_has script scope next f v (IsPlaced.universal sc n bs g hs h) is = cc
truth_has script scope next f v (IsPlaced.existential sc n bs g hs h) is = cc

sorted_element : (script : Script) (scope : List Binder) (e : Plain) (s : Sort) (t v : Term) → IsTermOf script scope s t → cond (is_sort (plain_sort e) s) (Ok t) (Err WrongSort) ≡ Ok v → HasSort script scope v e
sorted_element script scope e s t v h is =
    let test = passed (is_sort (plain_sort e) s) (Ok t) WrongSort v is in
    let same : e ≡ h.is = one_plain e h.is (same_sort (plain_sort e) (plain_sort h.is) (subst (λ (r : Sort). is_sort (plain_sort e) r ≡ true) h.sort test.0)) in
    subst (λ (u : Term). HasSort script scope u e) (same_ok t v test.1) (subst (λ (p : Plain). HasSort script scope t p) (sym same) h.term)

element_of : (script : Script) (scope : List Binder) (next : ℕ) (e : Plain) (m : Meaning) (v : Term) → IsMeaning script scope next m → as_plain e m ≡ Ok v → HasSort script scope v e
element_of script scope next plain.Truth (meaning.Formula f) v h is = truth_has script scope next f v h is
element_of script scope next plain.Int (meaning.Formula f) v h is = cc
element_of script scope next (plain.Elem k) (meaning.Formula f) v h is = cc
element_of script scope next plain.Truth (meaning.Term s t) v h is = sorted_element script scope plain.Truth s t v h is
element_of script scope next plain.Int (meaning.Term s t) v h is = sorted_element script scope plain.Int s t v h is
element_of script scope next (plain.Elem k) (meaning.Term s t) v h is = sorted_element script scope (plain.Elem k) s t v h is
element_of script scope next plain.Truth (meaning.Array i f a) v h is = cc
element_of script scope next plain.Int (meaning.Array i f a) v h is = cc
element_of script scope next (plain.Elem k) (meaning.Array i f a) v h is = cc

-- elements that arrays have
read_placed : (script : Script) (scope : List Binder) (next other : ℕ) (a i m : Meaning) → IsMeaning script scope next a → IsMeaning script scope other i → read_at a i ≡ Ok m → IsMeaning script scope next m
read_placed script scope next other (meaning.Formula f) i m ha hi is = cc
read_placed script scope next other (meaning.Term s t) i m ha hi is = cc
read_placed script scope next other (meaning.Array j e a) i m ha hi is =
    let index = stepped (as_plain j i) (λ (t : Term). Ok (term_meant e (term.Read a t))) m is in
    subst (IsMeaning script scope next) (same_ok (term_meant e (term.Read a index.value)) m index.rest)
    (term_meant_is script scope next e (term.Read a index.value) ha.element (read_no_truth a index.value)
    (HasSortIn.reading a index.value j e ha.array ha.index (element_of script scope other j i index.value hi index.first)))

pub selection_placed : (script : Script) (scope : List Binder) (next : ℕ) (args : List Meaning) (m : Meaning) → AreMeanings script scope next args → selection args ≡ Ok m → IsMeaning script scope next m
selection_placed script scope next [] m hs is = cc
selection_placed script scope next (a ∷ []) m hs is = cc
selection_placed script scope next (a ∷ i ∷ []) m hs is = read_placed script scope next (next + variables_of a) a i m hs.0 hs.1.0 is
selection_placed script scope next (a ∷ i ∷ v ∷ args) m hs is = cc

last_placed : (script : Script) (scope : List Binder) (next : ℕ) (e : Plain) (a : ArrayTerm) (m : Meaning) → IsMeaning script scope next (meaning.Array plain.Int e a) → default_of (meaning.Array plain.Int e a) ≡ Ok m → IsMeaning script scope next m
last_placed script scope next e a m h is =
    let test = not_refused (varies a) (Ok (term_meant e (term.Default a))) _ m is in
    subst (IsMeaning script scope next) (same_ok (term_meant e (term.Default a)) m test.1)
    (term_meant_is script scope next e (term.Default a) h.element (default_no_truth a) (HasSortIn.last a e h.array test.0))

default_placed : (script : Script) (scope : List Binder) (next : ℕ) (a m : Meaning) → IsMeaning script scope next a → default_of a ≡ Ok m → IsMeaning script scope next m
default_placed script scope next (meaning.Formula f) m h is = cc
default_placed script scope next (meaning.Term s t) m h is = cc
default_placed script scope next (meaning.Array plain.Truth e a) m h is = cc
default_placed script scope next (meaning.Array plain.Int e a) m h is = last_placed script scope next e a m h is
default_placed script scope next (meaning.Array (plain.Elem s) e a) m h is = cc

pub defaulting_placed : (script : Script) (scope : List Binder) (next : ℕ) (args : List Meaning) (m : Meaning) → AreMeanings script scope next args → defaulting args ≡ Ok m → IsMeaning script scope next m
defaulting_placed script scope next [] m hs is = cc
defaulting_placed script scope next (a ∷ []) m hs is = default_placed script scope next a m hs.0 is
defaulting_placed script scope next (a ∷ b ∷ args) m hs is = cc

-- arrays without variables
unbound_placed : (script : Script) (scope : List Binder) (next : ℕ) (i e : Plain) (a : ArrayTerm) (m : Meaning) → IsIndexSort (length script.sorts) i → IsPlainSort (length script.sorts) e → (varies a ≡ false → IsArray script scope a i e) → unbound i e a ≡ Ok m → IsMeaning script scope next m
unbound_placed script scope next i e a m index element has is =
    let test = not_refused (varies a) (Ok (meaning.Array i e a)) _ m is in
    subst (IsMeaning script scope next) (same_ok (meaning.Array i e a) m test.1)
    (record { index = index; element = element; array = has test.0; closed = test.0 })

stored_placed : (script : Script) (scope : List Binder) (next other more : ℕ) (a i v m : Meaning) → IsMeaning script scope next a → IsMeaning script scope other i → IsMeaning script scope more v → stored_at a i v ≡ Ok m → IsMeaning script scope next m
stored_placed script scope next other more (meaning.Formula f) i v m ha hi hv is = cc
stored_placed script scope next other more (meaning.Term s t) i v m ha hi hv is = cc
stored_placed script scope next other more (meaning.Array j e a) i v m ha hi hv is =
    let value = stepped (as_plain e v) (λ (u : Term). as_plain j i >>= (λ (t : Term). unbound j e (array.Store a t u))) m is in
    let index = stepped (as_plain j i) (λ (t : Term). unbound j e (array.Store a t value.value)) m value.rest in
    unbound_placed script scope next j e (array.Store a index.value value.value) m ha.index ha.element
    (λ closed. IsArrayIn.store a index.value value.value j e ha.array ha.index (element_of script scope other j i index.value hi index.first) (element_of script scope more e v value.value hv value.first) closed)
    index.rest

pub storing_placed : (script : Script) (scope : List Binder) (next : ℕ) (args : List Meaning) (m : Meaning) → AreMeanings script scope next args → storing args ≡ Ok m → IsMeaning script scope next m
storing_placed script scope next [] m hs is = cc
storing_placed script scope next (a ∷ []) m hs is = cc
storing_placed script scope next (a ∷ i ∷ []) m hs is = cc
storing_placed script scope next (a ∷ i ∷ v ∷ []) m hs is =
    stored_placed script scope next (next + variables_of a) (next + variables_of a + variables_of i) a i v m hs.0 hs.1.0 hs.1.1.0 is
storing_placed script scope next (a ∷ i ∷ v ∷ b ∷ args) m hs is = cc

constant_of_placed : (script : Script) (scope : List Binder) (next : ℕ) (s : Sort) (v m : Meaning) → IsResultSort (length script.sorts) s → IsMeaning script scope next v → constant_of s v ≡ Ok m → IsMeaning script scope next m
constant_of_placed script scope next sort.Truth v m sorts hv is = cc
constant_of_placed script scope next sort.Int v m sorts hv is = cc
constant_of_placed script scope next (sort.Elem k) v m sorts hv is = cc
constant_of_placed script scope next (sort.Array i e) v m sorts hv is =
    let value = stepped (as_plain e v) (λ (u : Term). unbound i e (array.Const (sort.Array i e) u)) m is in
    unbound_placed script scope next i e (array.Const (sort.Array i e) value.value) m sorts.0 sorts.1
    (λ closed. IsArrayIn.constant value.value i e sorts.0 sorts.1 (element_of script scope next e v value.value hv value.first) closed)
    value.rest

pub constant_placed : (script : Script) (scope : List Binder) (next : ℕ) (s : Sort) (args : List Meaning) (m : Meaning) → IsResultSort (length script.sorts) s → AreMeanings script scope next args → constant s args ≡ Ok m → IsMeaning script scope next m
constant_placed script scope next s [] m sorts hs is = cc
constant_placed script scope next s (v ∷ []) m sorts hs is = constant_of_placed script scope next s v m sorts hs.0 is
constant_placed script scope next s (v ∷ w ∷ args) m sorts hs is = cc
