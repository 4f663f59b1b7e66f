-- What a command adds to what was read so far, where it has a meaning.
use Rattle.std.proofs.Common.{◌≡◌, ℕ, zero, suc, ◌+◌, Bool, true, false, ◌&&◌, List, [], ◌∷◌, drop, Option, None, Some, IfSome, Result, Ok, Err, ap, ◌∙◌, subst}
use Rattle.std.specs.Prelude.{codes, if◌then◌else◌}
use Rattle.std.specs.List.{AllByRecursion, list_all, list_any, position}
use Rattle.mbqi_values.specs.declared.fault.FaultKind.{FaultKind}
use Rattle.mbqi_values.specs.declared.fault.FaultKind.TheVariants.{BadForm, ReservedName, Twice, Unsupported}
use Rattle.mbqi_terms.specs.declared.formula.Formula.{Formula}
use Rattle.mbqi_terms.specs.declared.script.Function.{Function}
use Rattle.mbqi_terms.specs.declared.sort.Sort.{Sort}
use Rattle.sexpr_text.specs.Bytes.{is_quoted_content}
use Rattle.sexpr_text.specs.declared.tree.Sexpr.{Sexpr}
use Rattle.smtlib_terms.specs.declared.meaning.Meaning.{Meaning}
use Rattle.smtlib_terms.specs.declared.names.Definition.{Definition}
use Rattle.smtlib_terms.specs.declared.names.Macro.{Macro}
use Rattle.smtlib_terms.specs.Declaring.{Declarations, body_meant, declarable, definition_of, definition_parts, formula_read, function_declared, is_function, is_supported, macro_defined, macro_meant, macro_of, may_define, sort_declared, sort_read, with_definition, with_function, with_sort, term_read}
use Rattle.smtlib_terms.specs.Meaning.{sort_of}
use Rattle.smtlib_terms.specs.Names.{◌>>=◌, is_symbol}
use Rattle.smtlib_terms.specs.Operators.{as_formula}
use Rattle.smtlib_terms.specs.Reading.{is_list, is_some_symbol, text_of, trees_in}
use Rattle.smtlib_terms.specs.Words.{is_one_of, is_reserved}
use Rattle.smtlib_decls.specs.declared.command.Command.{Command}
use Rattle.smtlib_decls.specs.declared.command.Command.TheVariants as command
use Rattle.smtlib_decls.specs.declared.progress.Progress.{Progress}
use Rattle.smtlib_decls.specs.Commands.{asserted, assertion_command, by_command, command_meant, command_of, constant_command, constant_declared, definition_behind, definition_command, function_command, headed, is_numeral, is_zero, question_command, renamed, signature_command, signature_declared, sort_command, sorts_read, with_assertion, with_names}
use Rattle.smtlib_decls.specs.Labels.{attributes_in, first_symbol, is_named, is_taken, label_at, label_of}
use Rattle.read_in_form.proofs.LegalNames.{AreLegal, text_legal, trees_legal}
use Rattle.read_in_form.proofs.Steps.{not_refused, passed, same_ok, stepped}

-- A text that a symbol may have.
abbrev pub IsLegalText : List ℕ → Type 0
IsLegalText text = list_all is_quoted_content text ≡ true

-- A name that may be declared and isn't there yet.
pub record IsNew (taken : Bool) (name : List ℕ) : Type 0 where
  pub legal : IsLegalText name
  pub free : is_reserved name ≡ false
  pub new : taken ≡ false

-- A sort that some tree names.
pub record IsNamedSort (d : Declarations) (s : Sort) : Type 0 where
  pub tree : Sexpr
  pub read : sort_read d tree ≡ Ok s

-- A function that may be declared.
pub record IsNewFunction (d : Declarations) (f : Function) : Type 0 where
  pub name : IsNew (is_function d f.name) f.name
  pub supported : is_supported f.args f.result ≡ true
  pub args : AllByRecursion (IsNamedSort d) f.args
  pub result : IsNamedSort d f.result

-- An assertion that may be added.
pub record IsNewAssertion (p : Progress) (label : Option (List ℕ)) (f : Formula) : Type 0 where
  pub tree : Sexpr
  pub read : formula_read p.names tree ≡ Ok f
  pub legal : IfSome label IsLegalText
  pub new : is_taken label p.assertions ≡ false

abbrev pub with_question : Progress → Progress
with_question p = record { names = p.names; assertions = p.assertions; asks = true }

-- The steps that commands take.
pub data IsStep (p : Progress) : Progress → Type 0 where
  passed_over : IsStep p p
  sort : (name : List ℕ) → IsNew (is_one_of p.names.sorts name) name → IsStep p (with_names p (with_sort p.names name))
  function : (f : Function) → IsNewFunction p.names f → IsStep p (with_names p (with_function p.names f))
  definition : (given : Definition) (m : Meaning) → body_meant p.names given ≡ Ok m → IsStep p (with_names p (with_definition p.names (macro_of given m)))
  assertion : (label : Option (List ℕ)) (f : Formula) → IsNewAssertion p label f → IsStep p (with_assertion p label f)
  question : IsStep p (with_question p)

declared_new : {A : Type 0} (name : List ℕ) (taken : Bool) (result after : A) → IsLegalText name → declarable name taken result ≡ Ok after → IsNew taken name × (result ≡ after)
declared_new name taken result after legal e =
    let free = not_refused (is_reserved name) _ ReservedName after e in
    let new = not_refused taken _ Twice after free.1 in
    (record { legal = legal; free = free.0; new = new.0 }, same_ok result after new.1)

renamed_back : (p : Progress) (meant : Result Declarations FaultKind) (next : Progress) → renamed p meant ≡ Ok next → (d : Declarations) × (meant ≡ Ok d) × (with_names p d ≡ next)
renamed_back p meant next e = let one = stepped meant (λ names. Ok (with_names p names)) next e in (one.value, one.first, same_ok _ _ one.rest)

-- Sorts.
sort_new : (d : Declarations) (name : List ℕ) (after : Declarations) → IsLegalText name → sort_declared d name ≡ Ok after → IsNew (is_one_of d.sorts name) name × (with_sort d name ≡ after)
unfolding sort_declared
sort_new d name after legal e = declared_new name (is_one_of d.sorts name) (with_sort d name) after legal e

sort_steps : (p : Progress) (parts : List Sexpr) (next : Progress) → AllByRecursion AreLegal parts → sort_command p parts ≡ Ok next → IsStep p next
sort_steps p [] next legal e = cc
sort_steps p (name ∷ []) next legal e = cc
sort_steps p (name ∷ arity ∷ []) next legal e =
    let shaped = passed (is_some_symbol name && is_numeral arity) _ BadForm next e in
    let flat = passed (is_zero arity) _ Unsupported next shaped.1 in
    let before = not_refused p.asks _ Unsupported next flat.1 in
    let back = renamed_back p (sort_declared p.names (text_of name)) next before.1 in
    let new = sort_new p.names (text_of name) back.0 (text_legal name legal.0) back.1 in
    subst (IsStep p) (ap (with_names p) new.1 ∙ back.2) (IsStep.sort (text_of name) new.0)
sort_steps p (name ∷ arity ∷ part ∷ parts) next legal e = cc

-- Functions.
function_new : (d : Declarations) (f : Function) (after : Declarations) → IsLegalText f.name → AllByRecursion (IsNamedSort d) f.args → IsNamedSort d f.result → function_declared d f ≡ Ok after → IsNewFunction d f × (with_function d f ≡ after)
unfolding function_declared
function_new d f after legal args result e =
    let supported = passed (is_supported f.args f.result) _ Unsupported after e in
    let new = declared_new f.name (is_function d f.name) (with_function d f) after legal supported.1 in
    (record { name = new.0; supported = supported.0; args = args; result = result }, new.1)

function_steps : (p : Progress) (name : List ℕ) (args : List Sort) (result : Sort) (next : Progress) → IsLegalText name → AllByRecursion (IsNamedSort p.names) args → IsNamedSort p.names result → function_command p name args result ≡ Ok next → IsStep p next
unfolding function_command
function_steps p name args result next legal are is e =
    let f : Function = record { name = name; args = args; result = result } in
    let before = not_refused p.asks _ Unsupported next e in
    let back = renamed_back p (function_declared p.names f) next before.1 in
    let new = function_new p.names f back.0 legal are is back.1 in
    subst (IsStep p) (ap (with_names p) new.1 ∙ back.2) (IsStep.function f new.0)

constant_read : (p : Progress) (name : List ℕ) (t : Sexpr) (next : Progress) → IsLegalText name → constant_declared p name t ≡ Ok next → IsStep p next
unfolding constant_declared
constant_read p name t next legal e =
    let one = stepped (sort_read p.names t) (λ s. function_command p name [] s) next e in
    function_steps p name [] one.value next legal tt (record { tree = t; read = one.first }) one.rest

constant_steps : (p : Progress) (parts : List Sexpr) (next : Progress) → AllByRecursion AreLegal parts → constant_command p parts ≡ Ok next → IsStep p next
constant_steps p [] next legal e = cc
constant_steps p (name ∷ []) next legal e = cc
constant_steps p (name ∷ t ∷ []) next legal e =
    constant_read p (text_of name) t next (text_legal name legal.0) (passed (is_some_symbol name) _ BadForm next e).1
constant_steps p (name ∷ t ∷ part ∷ parts) next legal e = cc

sorts_are_read : (d : Declarations) (ts : List Sexpr) (ss : List Sort) → sorts_read d ts ≡ Ok ss → AllByRecursion (IsNamedSort d) ss
sorts_are_read d [] ss e = let same : [] ≡ ss = same_ok _ _ e in subst (AllByRecursion (IsNamedSort d)) same tt
sorts_are_read d (t ∷ ts) ss e =
    let one = stepped (sort_read d t) (λ s. sorts_read d ts >>= (λ more. Ok (s ∷ more))) ss e in
    let two = stepped (sorts_read d ts) (λ more. Ok (one.value ∷ more)) ss one.rest in
    subst (AllByRecursion (IsNamedSort d)) (same_ok _ _ two.rest) (record { tree = t; read = one.first }, sorts_are_read d ts two.value two.first)

signature_read : (p : Progress) (name : List ℕ) (args : List Sexpr) (result : Sexpr) (next : Progress) → IsLegalText name → signature_declared p name args result ≡ Ok next → IsStep p next
unfolding signature_declared
signature_read p name args result next legal e =
    let one = stepped (sorts_read p.names args) (λ ss. sort_read p.names result >>= (λ s. function_command p name ss s)) next e in
    let two = stepped (sort_read p.names result) (λ s. function_command p name one.value s) next one.rest in
    function_steps p name one.value two.value next legal (sorts_are_read p.names args one.value one.first) (record { tree = result; read = two.first }) two.rest

signature_steps : (p : Progress) (parts : List Sexpr) (next : Progress) → AllByRecursion AreLegal parts → signature_command p parts ≡ Ok next → IsStep p next
signature_steps p [] next legal e = cc
signature_steps p (name ∷ []) next legal e = cc
signature_steps p (name ∷ args ∷ []) next legal e = cc
signature_steps p (name ∷ args ∷ result ∷ []) next legal e =
    signature_read p (text_of name) (trees_in args) result next (text_legal name legal.0) (passed (is_some_symbol name && is_list args) _ BadForm next e).1
signature_steps p (name ∷ args ∷ result ∷ part ∷ parts) next legal e = cc

-- Definitions.
record IsDefined (d : Declarations) (after : Declarations) : Type 0 where
  given : Definition
  meaning : Meaning
  read : body_meant d given ≡ Ok meaning
  same : with_definition d (macro_of given meaning) ≡ after

macro_back : (d : Declarations) (given : Definition) (m : Macro) → macro_meant d given ≡ Ok m → (meaning : Meaning) × (body_meant d given ≡ Ok meaning) × (macro_of given meaning ≡ m)
macro_back d given m e =
    let one = stepped (body_meant d given) (λ (meaning : Meaning). may_define d given (sort_of meaning) >>= (λ u. Ok (macro_of given meaning))) m e in
    let two = stepped (may_define d given (sort_of one.value)) (λ u. Ok (macro_of given one.value)) m one.rest in
    (one.value, one.first, same_ok _ _ two.rest)

definition_back : (d : Declarations) (t : Sexpr) (after : Declarations) → macro_defined d t ≡ Ok after → IsDefined d after
definition_back d t after e =
    let one = stepped (definition_of d (trees_in t)) (λ (given : Definition). macro_meant d given >>= (λ (m : Macro). Ok (with_definition d m))) after e in
    let two = stepped (macro_meant d one.value) (λ (m : Macro). Ok (with_definition d m)) after one.rest in
    let m = macro_back d one.value two.value two.first in
    record { given = one.value; meaning = m.0; read = m.1; same = ap (with_definition d) m.2 ∙ same_ok _ _ two.rest }

never_behind : (p : Progress) (t : Sexpr) (next : Progress) → definition_behind p t ≡ Ok next → ⊥
unfolding definition_behind
never_behind p t next e =
    let one = stepped (definition_parts p.names t) (λ u. Err Unsupported) next e in
    let other : ◌≡◌ {A = Result Progress FaultKind} (Err Unsupported) (Ok next) = one.rest in cc

definition_steps : (p : Progress) (t : Sexpr) (next : Progress) → definition_command p t ≡ Ok next → IsStep p next
definition_steps p t next e = go p.asks e
  where
    go : (asks : Bool) → (if asks then definition_behind p t else renamed p (macro_defined p.names t)) ≡ Ok next → IsStep p next
    go true e = absurd (never_behind p t next e)
    go false e =
        let back = renamed_back p (macro_defined p.names t) next e in
        let m = definition_back p.names t back.0 back.1 in
        subst (IsStep p) (ap (with_names p) m.same ∙ back.2) (IsStep.definition m.given m.meaning m.read)

-- Labels.
attributes_legal : (ts : List Sexpr) → AllByRecursion AreLegal ts → AllByRecursion AreLegal (attributes_in ts)
attributes_legal [] legal = tt
attributes_legal (head ∷ []) legal = tt
attributes_legal (head ∷ term ∷ attributes) legal = go (is_symbol (codes "!") head) legal.1.1
  where
    go : (test : Bool) → AllByRecursion AreLegal attributes → AllByRecursion AreLegal (if test then attributes else [])
    go true all = all
    go false all = tt

drop_legal : (n : ℕ) (ts : List Sexpr) → AllByRecursion AreLegal ts → AllByRecursion AreLegal (drop n ts)
drop_legal zero ts legal = legal
drop_legal (suc n) [] legal = tt
drop_legal (suc n) (t ∷ ts) legal = drop_legal n ts legal.1

label_first : (ts : List Sexpr) (label : Option (List ℕ)) → AllByRecursion AreLegal ts → first_symbol ts ≡ Ok label → IfSome label IsLegalText
label_first [] label legal e = cc
label_first (t ∷ ts) label legal e =
    let same : Some (text_of t) ≡ label = same_ok _ _ (passed (is_some_symbol t) _ BadForm label e).1 in
    subst (λ (l : Option (List ℕ)). IfSome l IsLegalText) same (text_legal t legal.0)

label_legal_at : (ts : List Sexpr) (at : Option ℕ) (label : Option (List ℕ)) → AllByRecursion AreLegal ts → label_at ts at ≡ Ok label → IfSome label IsLegalText
label_legal_at ts None label legal e = let same : None ≡ label = same_ok _ _ e in subst (λ (l : Option (List ℕ)). IfSome l IsLegalText) same tt
label_legal_at ts (Some at) label legal e =
    label_first (drop (at + 1) ts) label (drop_legal (at + 1) ts legal) (not_refused (list_any is_named (drop (at + 1) ts)) _ BadForm label e).1

label_legal : (t : Sexpr) (label : Option (List ℕ)) → AreLegal t → label_of t ≡ Ok label → IfSome label IsLegalText
unfolding label_of
label_legal t label legal e =
    label_legal_at (attributes_in (trees_in t)) (position is_named (attributes_in (trees_in t))) label (attributes_legal (trees_in t) (trees_legal t legal)) e

-- Assertions.
term_is_formula : (d : Declarations) (t : Sexpr) (m : Meaning) (f : Formula) → term_read d t ≡ Ok m → as_formula m ≡ Ok f → formula_read d t ≡ Ok f
unfolding term_read formula_read
term_is_formula d t m f read is = ap (λ (r : Result Meaning FaultKind). r >>= as_formula) read ∙ is

asserted_step : (p : Progress) (label : Option (List ℕ)) (m : Meaning) (t : Sexpr) (next : Progress) → term_read p.names t ≡ Ok m → IfSome label IsLegalText → asserted p label m ≡ Ok next → IsStep p next
asserted_step p label m t next read legal e =
    let before = not_refused p.asks _ Unsupported next e in
    let new = not_refused (is_taken label p.assertions) _ Twice next before.1 in
    let formula = stepped (as_formula m) (λ (f : Formula). Ok (with_assertion p label f)) next new.1 in
    subst (IsStep p) (same_ok _ _ formula.rest)
    (IsStep.assertion label formula.value (record { tree = t; read = term_is_formula p.names t m formula.value read formula.first; legal = legal; new = new.0 }))

assertion_steps : (p : Progress) (parts : List Sexpr) (next : Progress) → AllByRecursion AreLegal parts → assertion_command p parts ≡ Ok next → IsStep p next
assertion_steps p [] next legal e = cc
assertion_steps p (t ∷ []) next legal e =
    let one = stepped (label_of t) (λ label. term_read p.names t >>= asserted p label) next e in
    let two = stepped (term_read p.names t) (asserted p one.value) next one.rest in
    asserted_step p one.value two.value t next two.first (label_legal t one.value legal.0 one.first) two.rest
assertion_steps p (t ∷ part ∷ parts) next legal e = cc

question_steps : (p : Progress) (parts : List Sexpr) (next : Progress) → question_command p parts ≡ Ok next → IsStep p next
question_steps p [] next e = subst (IsStep p) (same_ok _ _ (not_refused p.asks _ Unsupported next e).1) (IsStep.question)
question_steps p (part ∷ parts) next e = cc

-- Any command.
command_steps_by : (c : Command) (p : Progress) (t : Sexpr) (parts : List Sexpr) (next : Progress) → AllByRecursion AreLegal parts → by_command c p t parts ≡ Ok next → IsStep p next
command_steps_by command.PassedOver p t parts next legal e = subst (IsStep p) (same_ok p next e) (IsStep.passed_over)
command_steps_by command.DeclareSort p t parts next legal e = sort_steps p parts next legal e
command_steps_by command.DeclareConst p t parts next legal e = constant_steps p parts next legal e
command_steps_by command.DeclareFun p t parts next legal e = signature_steps p parts next legal e
command_steps_by command.DefineFun p t parts next legal e = definition_steps p t next e
command_steps_by command.Assert p t parts next legal e = assertion_steps p parts next legal e
command_steps_by command.CheckSat p t parts next legal e = question_steps p parts next e
command_steps_by command.Exit p t parts next legal e = cc
command_steps_by command.Unknown p t parts next legal e = cc

headed_steps : (p : Progress) (t : Sexpr) (ts : List Sexpr) (next : Progress) → AllByRecursion AreLegal ts → headed p t ts ≡ Ok next → IsStep p next
headed_steps p t [] next legal e = cc
headed_steps p t (head ∷ parts) next legal e =
    command_steps_by (command_of (text_of head)) p t parts next legal.1 (passed (is_some_symbol head) _ BadForm next e).1

pub command_steps : (p : Progress) (t : Sexpr) (next : Progress) → AreLegal t → command_meant p t ≡ Ok next → IsStep p next
unfolding command_meant
command_steps p t next legal e = headed_steps p t (trees_in t) next (trees_legal t legal) e
