-- Lists by their heads: each reads as something in form, if its parts do.
use Rattle.std.proofs.Common.{◌≡◌, ◌≤◌, ℕ, suc, ◌+◌, Bool, true, false, cond, nat_le, if◌then◌else◌, List, [], ◌∷◌, ◌++◌, length, map, Result, Ok, Err, refl, ap, subst, sym, arith}
use Rattle.std.proofs.lemmas.Bool.Decides.{nat_tests}
use Rattle.mbqi_values.specs.declared.fault.FaultKind.{FaultKind}
use Rattle.mbqi_values.specs.declared.fault.FaultKind.TheVariants.{BadForm, TooDeep}
use Rattle.mbqi_terms.specs.declared.formula.Formula.{Formula}
use Rattle.mbqi_terms.specs.declared.formula.Formula.TheVariants as formula
use Rattle.mbqi_terms.specs.declared.script.Script.{Script}
use Rattle.mbqi_terms.specs.declared.sort.Binder.{Binder}
use Rattle.mbqi_terms.specs.declared.sort.Sort.{Sort}
use Rattle.sexpr_text.specs.declared.tree.Sexpr.{Sexpr}
use Rattle.smtlib_terms.specs.declared.meaning.Bound.TheVariants as Bound
use Rattle.smtlib_terms.specs.declared.meaning.Meaning.{Meaning}
use Rattle.smtlib_terms.specs.declared.meaning.Meaning.TheVariants as meaning
use Rattle.smtlib_terms.specs.declared.meaning.Side.{Side}
use Rattle.smtlib_terms.specs.declared.meaning.Side.TheVariants.{Meant, Difference}
use Rattle.smtlib_terms.specs.declared.names.Binding.{Binding}
use Rattle.smtlib_terms.specs.declared.names.Variable.{Variable}
use Rattle.smtlib_terms.specs.declared.word.Word.{Word}
use Rattle.smtlib_terms.specs.declared.word.Word.TheVariants as word
use Rattle.smtlib_terms.specs.Applying.{mapped, name_applied}
use Rattle.smtlib_terms.specs.Meaning.{depth_of, shallow}
use Rattle.smtlib_terms.specs.Names.{◌>>=◌, Signature, sort_meant}
use Rattle.smtlib_terms.specs.Operators.{applied, as_formula, constant, is_relation, meant, subtraction}
use Rattle.smtlib_terms.specs.Reading.{Head, Named, Constant, Mapped, NoHead, Part, Reading, are_binders, bindable, binder_name, binding_of, bindings_read, body_read, call_read, first_read, head_of, headed_read, is_forall, let_read, list_read, named_read, parts_read, quantified, quantified_meant, quantifier_binders, quantifier_read, relation_read, shallow_side, trees_in, value_read, values_read}
use Rattle.read_in_form.proofs.Arrays.{constant_placed}
use Rattle.read_in_form.proofs.Binders.{binders_are_read, binders_in, body_below, body_extends, variables_bound}
use Rattle.read_in_form.proofs.Maps.{mapped_placed}
use Rattle.read_in_form.proofs.MovedFormulas.{bound_read}
use Rattle.read_in_form.proofs.NamesApplied.{name_placed}
use Rattle.read_in_form.proofs.Parts.{AreGoodLists, AreGoodParts, IsGood, IsPlace, body_is_read, first_is_read, parts_are_read, relation_is_read, value_is_read, values_are_read, word_over_parts}
use Rattle.mbqi_terms.specs.InForm.{AreBinders, IsPlaced}
use Rattle.smtlib_terms.specs.InForm.{IsFormula}
use Rattle.read_in_form.proofs.Placed.{IsMeaning, IsRead, IsReadSide, IsScope, IsSideMeaning}
use Rattle.read_in_form.proofs.Scopes.{extends_itself, scope_later, scope_more}
use Rattle.read_in_form.proofs.SortsRead.{sort_read_is}
use Rattle.read_in_form.proofs.Steps.{meant_by, passed, same_ok, stepped}
use Rattle.read_in_form.proofs.Sums.{subtraction_placed}

-- what reads where
abbrev GivesMeaning : (script : Script) → (Signature → List Binding → ℕ → Result Meaning FaultKind) → Type 0
GivesMeaning script reads =
    (names : Signature) (scope : List Binder) (bindings : List Binding) (next : ℕ) (m : Meaning) → IsPlace script names scope bindings next → reads names bindings next ≡ Ok m → IsMeaning script scope next m

abbrev GivesSide : (script : Script) → Reading → Type 0
GivesSide script reads =
    (names : Signature) (scope : List Binder) (bindings : List Binding) (next : ℕ) (s : Side) → IsPlace script names scope bindings next → reads names bindings next ≡ Ok s → IsSideMeaning script scope next s

-- the bindings of a `let`, before those outside
bindings_are_read : (script : Script) (ts : List Sexpr) (rs : List (List Reading)) (names : Signature) (scope : List Binder) (bindings : List Binding) (next : ℕ) (seen : List (List ℕ)) (bs : List Binding) → AreGoodLists script rs → IsPlace script names scope bindings next → bindings_read ts rs names bindings next seen ≡ Ok bs → IsScope script scope next (bs ++ bindings)
bindings_are_read script [] rs names scope bindings next seen [] good at is = at.scoped
bindings_are_read script [] rs names scope bindings next seen (b ∷ bs) good at is = cc
bindings_are_read script (t ∷ ts) [] names scope bindings next seen bs good at is = cc
bindings_are_read script (t ∷ ts) (r ∷ rs) names scope bindings next seen bs good at is =
    let value = stepped (value_read r names bindings next) (λ (m : Meaning). bindable (binder_name t) seen >>= (λ (name : List ℕ). bindings_read ts rs names bindings next (seen ++ name ∷ []) >>= (λ (more : List Binding). Ok (record { name = name; bound = Bound.Value next m } ∷ more)))) bs is in
    let name = stepped (bindable (binder_name t) seen) (λ (name : List ℕ). bindings_read ts rs names bindings next (seen ++ name ∷ []) >>= (λ (more : List Binding). Ok (record { name = name; bound = Bound.Value next value.value } ∷ more))) bs value.rest in
    let more = stepped (bindings_read ts rs names bindings next (seen ++ name.value ∷ [])) (λ (more : List Binding). Ok (record { name = name.value; bound = Bound.Value next value.value } ∷ more)) bs name.rest in
    let first : Binding = record { name = name.value; bound = Bound.Value next value.value } in
    let all : first ∷ more.value ≡ bs = cc in
    subst (λ (cs : List Binding). IsScope script scope next (cs ++ bindings)) {x = first ∷ more.value} all
    (scope_more script scope next first (more.value ++ bindings)
    (record { outside = scope; before = omega arith; below = at.below; extends = extends_itself scope; read = value_is_read script r names scope bindings next value.value good.0 at value.first })
    (bindings_are_read script ts rs names scope bindings next (seen ++ name.value ∷ []) more.value good.1 at more.first))

-- `let`
let_by_test : (script : Script) (test : Bool) (p : Part) (ps : List Part) (names : Signature) (scope : List Binder) (bindings : List Binding) (next : ℕ) (m : Meaning) → AreGoodParts script (p ∷ ps) → IsPlace script names scope bindings next →
    (let r : Result Meaning FaultKind = elim test [
      | true ↦ bindings_read (trees_in p.tree) p.inner names bindings next [] >>= (λ (bs : List Binding). body_read ps names (bs ++ bindings) next)
      | false ↦ Err BadForm
    ] in r) ≡ Ok m → IsRead script scope next m
let_by_test script false p ps names scope bindings next m good at is = cc
let_by_test script true p ps names scope bindings next m good at is =
    let bound = stepped (bindings_read (trees_in p.tree) p.inner names bindings next []) (λ (bs : List Binding). body_read ps names (bs ++ bindings) next) m is in
    let scoped = bindings_are_read script (trees_in p.tree) p.inner names scope bindings next [] bound.value good.0.inner at bound.first in
    body_is_read script ps names scope (bound.value ++ bindings) next m good.1 (record { signature = at.signature; below = at.below; scoped = scoped }) bound.rest

let_is_read : (script : Script) (ps : List Part) → AreGoodParts script ps → GivesMeaning script (let_read ps)
let_is_read script [] good names scope bindings next m at is = cc
let_is_read script (p ∷ ps) good names scope bindings next m at is = (let_by_test script (are_binders (trees_in p.tree)) p ps names scope bindings next m good at is).meaning

-- a quantifier
formula_is_placed : (script : Script) (scope : List Binder) (next : ℕ) (m : Meaning) (f : Formula) → IsMeaning script scope next m → as_formula m ≡ Ok f → IsFormula script scope next f
formula_is_placed script scope next (meaning.Formula g) f placed is = let same : g ≡ f = cc in subst (IsFormula script scope next) same placed
formula_is_placed script scope next (meaning.Term s t) f placed is = cc
formula_is_placed script scope next (meaning.Array i e a) f placed is = cc

quantified_placed : (script : Script) (w : Bool) (scope : List Binder) (next : ℕ) (bs : List Binder) (f : Formula) → AreBinders (length script.sorts) next bs → IsFormula script (bs ++ scope) (next + length bs) f → IsFormula script scope next (if w then formula.Forall bs f else formula.Exists bs f)
quantified_placed script true scope next bs f binders placed = IsPlaced.universal scope next bs f binders placed
quantified_placed script false scope next bs f binders placed = IsPlaced.existential scope next bs f binders placed

count_own : (vs : List Variable) → length vs ≡ length (binders_in vs)
count_own [] = refl
count_own (v ∷ vs) = ap suc (count_own vs)

body_place : (script : Script) (names : Signature) (scope : List Binder) (bindings : List Binding) (next : ℕ) (vs : List Variable) → AreBinders (length script.sorts) next (binders_in vs) → IsPlace script names scope bindings next → IsPlace script names (binders_in vs ++ scope) (map binding_of vs ++ bindings) (next + length (binders_in vs))
body_place script names scope bindings next vs binders at =
    let wider = body_extends script next (binders_in vs) scope binders.placed at.below in
    let later = scope_later script scope (binders_in vs ++ scope) next (next + length (binders_in vs)) bindings wider (omega arith) at.scoped in
    record { signature = at.signature; below = body_below script next (binders_in vs) scope binders.placed at.below; scoped = variables_bound script scope next (next + length (binders_in vs)) vs bindings binders.placed later }

quantifier_is_read : (script : Script) (w : Word) (ps : List Part) → AreGoodParts script ps → GivesMeaning script (quantifier_read w ps)
quantifier_is_read script w [] good names scope bindings next m at is = cc
quantifier_is_read script w (p ∷ ps) good names scope bindings next m at is =
    let bound = stepped (quantifier_binders p.tree names.sorts next) (λ (bs : List Variable). body_read ps names (map binding_of bs ++ bindings) (next + length bs) >>= quantified_meant w bs) m is in
    let binders = binders_are_read script names.sorts p.tree next bound.value at.signature.sorts bound.first in
    let body = stepped (body_read ps names (map binding_of bound.value ++ bindings) (next + length bound.value)) (quantified_meant w bound.value) m bound.rest in
    let here = subst (λ (n : ℕ). body_read ps names (map binding_of bound.value ++ bindings) (next + n) ≡ Ok body.value) (count_own bound.value) body.first in
    let read = body_is_read script ps names (binders_in bound.value ++ scope) (map binding_of bound.value ++ bindings) (next + length (binders_in bound.value)) body.value good.1 (body_place script names scope bindings next bound.value binders at) here in
    let whole = stepped (as_formula body.value) (λ (f : Formula). Ok (meaning.Formula (quantified w bound.value f))) m body.rest in
    let same : meaning.Formula (quantified w bound.value whole.value) ≡ m = cc in
    subst (IsMeaning script scope next) same
    (quantified_placed script (is_forall w) scope next (binders_in bound.value) whole.value binders (formula_is_placed script (binders_in bound.value ++ scope) (next + length (binders_in bound.value)) body.value whole.value read.meaning whole.first))

-- a name with arguments
call_is_read : (script : Script) (name : List ℕ) (ps : List Part) → AreGoodParts script ps → GivesMeaning script (call_read name ps)
call_is_read script name [] good names scope bindings next m at is = cc
call_is_read script name (p ∷ ps) good names scope bindings next m at is =
    let args = stepped (values_read (p ∷ ps) names bindings next) (name_applied names bindings name next) m is in
    name_placed script names scope next bindings name args.value m at.signature at.below (bound_read script scope next) at.scoped (values_are_read script (p ∷ ps) names scope bindings next args.value good at args.first) args.rest

-- a side that is a meaning
meant_is_side : (script : Script) (scope : List Binder) (next : ℕ) (r : Result Meaning FaultKind) (s : Side) → ((m : Meaning) → r ≡ Ok m → IsMeaning script scope next m) → meant r ≡ Ok s → IsSideMeaning script scope next s
meant_is_side script scope next r s gives is =
    let by = meant_by r s is in
    subst (IsSideMeaning script scope next) (sym by.side) (gives by.value by.first)

-- a word with what stands behind it
operation_by_test : (script : Script) (test : Bool) (w : Word) (ps : List Part) (names : Signature) (scope : List Binder) (bindings : List Binding) (next : ℕ) (s : Side) → is_relation w ≡ test → AreGoodParts script ps → IsPlace script names scope bindings next →
    (let r : Result Side FaultKind = elim test [
      | true ↦ meant (relation_read w ps names bindings next)
      | false ↦ meant (parts_read ps names bindings next >>= applied w)
    ] in r) ≡ Ok s → IsSideMeaning script scope next s
operation_by_test script true w ps names scope bindings next s relation good at is =
    meant_is_side script scope next (relation_read w ps names bindings next) s (λ m e. relation_is_read script w ps names scope bindings next m relation good at e) is
operation_by_test script false w ps names scope bindings next s relation good at is =
    meant_is_side script scope next (parts_read ps names bindings next >>= applied w) s (λ m e. word_over_parts script w ps names scope bindings next m good at e) is

named_is_read : (script : Script) (w : Word) (text : List ℕ) (ps : List Part) → AreGoodParts script ps → GivesSide script (named_read w text ps)
named_is_read script word.Let text ps good names scope bindings next s at is =
    meant_is_side script scope next (let_read ps names bindings next) s (λ m e. let_is_read script ps good names scope bindings next m at e) is
named_is_read script word.Forall text ps good names scope bindings next s at is =
    meant_is_side script scope next (quantifier_read word.Forall ps names bindings next) s (λ m e. quantifier_is_read script word.Forall ps good names scope bindings next m at e) is
named_is_read script word.Exists text ps good names scope bindings next s at is =
    meant_is_side script scope next (quantifier_read word.Exists ps names bindings next) s (λ m e. quantifier_is_read script word.Exists ps good names scope bindings next m at e) is
named_is_read script word.Annotated text ps good names scope bindings next s at is =
    meant_is_side script scope next (first_read ps names bindings next) s (λ m e. (first_is_read script ps names scope bindings next m good at e).meaning) is
named_is_read script word.Unread text ps good names scope bindings next s at is = cc
named_is_read script word.Minus text ps good names scope bindings next s at is =
    let args = stepped (parts_read ps names bindings next) subtraction s is in
    subtraction_placed script scope next args.value s (parts_are_read script ps names scope bindings next args.value good at args.first) args.rest
named_is_read script word.Name text ps good names scope bindings next s at is =
    meant_is_side script scope next (call_read text ps names bindings next) s (λ m e. call_is_read script text ps good names scope bindings next m at e) is
named_is_read script word.Not text ps good names scope bindings next s at is = operation_by_test script false word.Not ps names scope bindings next s refl good at is
named_is_read script word.And text ps good names scope bindings next s at is = operation_by_test script false word.And ps names scope bindings next s refl good at is
named_is_read script word.Or text ps good names scope bindings next s at is = operation_by_test script false word.Or ps names scope bindings next s refl good at is
named_is_read script word.Implies text ps good names scope bindings next s at is = operation_by_test script false word.Implies ps names scope bindings next s refl good at is
named_is_read script word.Xor text ps good names scope bindings next s at is = operation_by_test script false word.Xor ps names scope bindings next s refl good at is
named_is_read script word.Equal text ps good names scope bindings next s at is = operation_by_test script true word.Equal ps names scope bindings next s refl good at is
named_is_read script word.Distinct text ps good names scope bindings next s at is = operation_by_test script true word.Distinct ps names scope bindings next s refl good at is
named_is_read script word.Choose text ps good names scope bindings next s at is = operation_by_test script false word.Choose ps names scope bindings next s refl good at is
named_is_read script word.AtMost text ps good names scope bindings next s at is = operation_by_test script true word.AtMost ps names scope bindings next s refl good at is
named_is_read script word.Below text ps good names scope bindings next s at is = operation_by_test script true word.Below ps names scope bindings next s refl good at is
named_is_read script word.AtLeast text ps good names scope bindings next s at is = operation_by_test script true word.AtLeast ps names scope bindings next s refl good at is
named_is_read script word.Above text ps good names scope bindings next s at is = operation_by_test script true word.Above ps names scope bindings next s refl good at is
named_is_read script word.Plus text ps good names scope bindings next s at is = operation_by_test script false word.Plus ps names scope bindings next s refl good at is
named_is_read script word.Select text ps good names scope bindings next s at is = operation_by_test script false word.Select ps names scope bindings next s refl good at is
named_is_read script word.Store text ps good names scope bindings next s at is = operation_by_test script false word.Store ps names scope bindings next s refl good at is
named_is_read script word.Default text ps good names scope bindings next s at is = operation_by_test script false word.Default ps names scope bindings next s refl good at is
named_is_read script word.Arithmetic text ps good names scope bindings next s at is = operation_by_test script false word.Arithmetic ps names scope bindings next s refl good at is

-- a head that is no symbol
headed_is_read : (script : Script) (h : Head) (ps : List Part) → AreGoodParts script ps → GivesSide script (headed_read h ps)
headed_is_read script NoHead ps good names scope bindings next s at is = cc
headed_is_read script (Constant t) ps good names scope bindings next s at is =
    let sort = stepped (sort_meant t names.sorts) (λ (s : Sort). meant (parts_read ps names bindings next >>= constant s)) s is in
    meant_is_side script scope next (parts_read ps names bindings next >>= constant sort.value) s
    (λ m e.
    let args = stepped (parts_read ps names bindings next) (constant sort.value) m e in
    constant_placed script scope next sort.value args.value m (sort_read_is script names.sorts t sort.value at.signature.sorts sort.first) (parts_are_read script ps names scope bindings next args.value good at args.first) args.rest)
    sort.rest
headed_is_read script (Mapped f) ps good names scope bindings next s at is =
    meant_is_side script scope next (parts_read ps names bindings next >>= mapped names bindings f) s
    (λ m e.
    let args = stepped (parts_read ps names bindings next) (mapped names bindings f) m e in
    mapped_placed script names scope next bindings f args.value m at.signature (parts_are_read script ps names scope bindings next args.value good at args.first) args.rest)
    is
headed_is_read script (Named w text) ps good names scope bindings next s at is = named_is_read script w text ps good names scope bindings next s at is

-- what isn't too deep
within_depth : (test : Bool) (depth : ℕ) → nat_le depth 1000 ≡ test → (m : Meaning) (n : Meaning) → cond test (Ok m) (Err TooDeep) ≡ Ok n → depth ≤ 1000
within_depth true depth is m n e = grind (arith, nat_tests)
within_depth false depth is m n e = cc

shallow_is_read : (script : Script) (scope : List Binder) (next : ℕ) (s r : Side) → IsSideMeaning script scope next s → shallow_side s ≡ Ok r → IsReadSide script scope next r
shallow_is_read script scope next (Meant m) r is e =
    let by = meant_by (shallow m) r e in
    let same : m ≡ by.value = same_ok m by.value (passed (nat_le (depth_of m) 1000) (Ok m) TooDeep by.value by.first).1 in
    let deep : depth_of m ≤ 1000 = within_depth (nat_le (depth_of m) 1000) (depth_of m) refl m by.value by.first in
    subst (IsReadSide script scope next) (sym by.side) (subst (IsRead script scope next) same (record { meaning = is; depth = deep }))
shallow_is_read script scope next (Difference s t) r is e =
    let same : Difference s t ≡ r = cc in
    subst (IsReadSide script scope next) same is

pub list_is_good : (script : Script) (ps : List Part) → AreGoodParts script ps → IsGood script (list_read ps)
list_is_good script [] good names scope bindings next s at is = cc
list_is_good script (p ∷ ps) good names scope bindings next s at is =
    let headed = stepped (headed_read (head_of p.tree) ps names bindings next) shallow_side s is in
    shallow_is_read script scope next headed.value s (headed_is_read script (head_of p.tree) ps good.1 names scope bindings next headed.value at headed.first) headed.rest
