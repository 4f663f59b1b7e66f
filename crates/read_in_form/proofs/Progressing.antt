-- The script that forms mean is in form, where each formula that is read is.
use Rattle.std.proofs.Common.{◌≡◌, ◌≤◌, ℕ, suc, Bool, true, false, not, ◌||◌, eqb, List, [], ◌∷◌, ◌++◌, length, map, All, Some, IfSome, Result, Ok, Err, slice_get, refl, sym, ap, ◌∙◌, subst, arith, ◌⊎◌, inl, inr, length-append}
use Rattle.std.specs.Prelude.{if◌then◌else◌}
use Rattle.std.specs.List.{AllByRecursion, list_all}
use Rattle.std.proofs.lemmas.Bool.{and_parts, or_parts}
use Rattle.std.proofs.lemmas.Bool.Decides.{nat_tests}
use Rattle.std.proofs.lemmas.List.Elements.{All-from_recursion, All-nil}
use Rattle.mbqi_values.specs.declared.fault.FaultKind.{FaultKind}
use Rattle.mbqi_values.specs.declared.fault.Refusal.{Refusal}
use Rattle.mbqi_terms.specs.Distinct.{AreDistinct}
use Rattle.mbqi_terms.specs.declared.formula.Formula.{Formula}
use Rattle.mbqi_terms.specs.declared.script.Assertion.{Assertion}
use Rattle.mbqi_terms.specs.declared.script.Function.{Function}
use Rattle.mbqi_terms.specs.declared.script.Script.{Script}
use Rattle.mbqi_terms.specs.declared.sort.Sort.{Sort}
use Rattle.mbqi_terms.specs.declared.sort.Sort.TheVariants as sort
use Rattle.sexpr_text.specs.declared.tree.Form.{Form}
use Rattle.sexpr_text.specs.declared.tree.Sexpr.{Sexpr}
use Rattle.smtlib_terms.specs.declared.meaning.Meaning.{Meaning}
use Rattle.smtlib_terms.specs.declared.names.Definition.{Definition}
use Rattle.smtlib_terms.specs.declared.names.Macro.{Macro}
use Rattle.smtlib_terms.specs.Declaring.{Declarations, body_meant, declarations_of, formula_read, is_first_order, is_function, kept_body, macro_of}
use Rattle.mbqi_terms.specs.Depth.{depth_of_formula}
use Rattle.mbqi_terms.specs.Sort.{is_array}
use Rattle.smtlib_terms.specs.Words.{is_one_of}
use Rattle.smtlib_names.proofs.Named.{any_function}
use Rattle.smtlib_decls.specs.declared.progress.Progress.{Progress}
use Rattle.smtlib_decls.specs.Commands.{command_meant, with_assertion}
use Rattle.smtlib_decls.specs.Scripts.{behind_form, is_exit, nothing, script_from, script_meant, script_of}
use Rattle.mbqi_terms.specs.InForm.{DifferInLabels, IsRanked, IsResultSort, IsVariableSort}
use Rattle.smtlib_terms.specs.InForm.{AreNamed, IsFormula, IsInForm, IsName}
use Rattle.smtlib_terms.proofs.Tests.{all_get}
use Rattle.read_in_form.proofs.Placed.{IsFunction, IsKeptBody}
use Rattle.read_in_form.proofs.CommandSteps.{IsLegalText, IsNamedSort, IsNewFunction, IsStep, command_steps, with_question}
use Rattle.read_in_form.proofs.LegalNames.{IsLegalForm}
use Rattle.read_in_form.proofs.OneMore.{all_more, get_before, labels_differ, names_differ}
use Rattle.read_in_form.proofs.SortsRead.{sort_read_is}

-- What was declared so far is a first part of the script.
pub record IsPart (script : Script) (d : Declarations) : Type 0 where
  pub sorts : length d.sorts ≤ length script.sorts
  pub functions : (i : ℕ) (f : Function) → slice_get d.functions i ≡ Some f → IsFunction script i f
  pub macros : All (λ (m : Macro). IsKeptBody script m.body) d.macros

-- Declarations before others.
record IsBefore (d after : Declarations) : Type 0 where
  sorts : length d.sorts ≤ length after.sorts
  functions : (i : ℕ) (f : Function) → slice_get d.functions i ≡ Some f → slice_get after.functions i ≡ Some f

before_both : (a b c : Declarations) → IsBefore a b → IsBefore b c → IsBefore a c
before_both a b c one two = record {
  sorts = omega (arith, one.sorts, two.sorts);
  functions = λ i f e. two.functions i f (one.functions i f e);
}

own_before : (d : Declarations) → IsBefore d d
own_before d = record { sorts = omega arith; functions = λ i f e. e }

step_grows : (p next : Progress) → IsStep p next → IsBefore p.names next.names
step_grows p next (IsStep.passed_over) = own_before p.names
step_grows p next (IsStep.sort name new) = record { sorts = omega (arith, length-append p.names.sorts (name ∷ [])); functions = λ i f e. e }
step_grows p next (IsStep.function f new) = record { sorts = omega arith; functions = λ i g e. get_before p.names.functions f i g e }
step_grows p next (IsStep.definition given m read) = record { sorts = omega arith; functions = λ i f e. e }
step_grows p next (IsStep.assertion label f new) = own_before p.names
step_grows p next (IsStep.question) = own_before p.names

-- A form ends a script, or is read.
form_back : (exits : Bool) (at : ℕ) (meant : Result Progress FaultKind) (rest : Progress → Result Script Refusal) (whole script : Script) →
    (if exits then Ok whole else behind_form at meant rest) ≡ Ok script → (whole ≡ script) ⊎ ((next : Progress) × (meant ≡ Ok next) × (rest next ≡ Ok script))
form_back true at meant rest whole script e = inl cc
form_back false at (Ok next) rest whole script e = inr (next, refl, e)
form_back false at (Err kind) rest whole script e = cc

same_script : (a b : Script) → ◌≡◌ {A = Result Script Refusal} (Ok a) (Ok b) → a ≡ b
same_script a b e = cc

-- What is declared stays.
script_grows : (forms : List Form) (p : Progress) (script : Script) → AllByRecursion IsLegalForm forms → script_from p forms ≡ Ok script → IsBefore p.names (declarations_of script)
script_grows [] p script legal e =
    subst (λ (s : Script). IsBefore p.names (declarations_of s)) (same_script (script_of p) script e) (record { sorts = omega arith; functions = λ i f e. e })
script_grows (form ∷ forms) p script legal e =
    elim (form_back (is_exit form.tree) form.from (command_meant p form.tree) (λ next. script_from next forms) (script_of p) script e) [
      | inl same ↦ subst (λ (s : Script). IsBefore p.names (declarations_of s)) same (record { sorts = omega arith; functions = λ i f e. e })
      | inr more ↦ before_both p.names more.0.names (declarations_of script)
          (step_grows p more.0 (command_steps p form.tree more.0 legal.0 more.1)) (script_grows forms more.0 script legal.1 more.2)
    ]

-- An assertion that was read.
record IsGiven (script : Script) (a : Assertion) : Type 0 where
  declarations : Declarations
  tree : Sexpr
  part : IsPart script declarations
  read : formula_read declarations tree ≡ Ok a.formula
  label : IfSome a.label IsLegalText

-- What holds of what was read so far.
record IsKept (script : Script) (own : Script) : Type 0 where
  named : AreNamed own
  ranked : All (IsRanked (length script.sorts)) own.functions
  given : All (IsGiven script) own.assertions
  labels : DifferInLabels own.assertions

-- A function that was declared has sorts of the profile.
variable_sort : (script : Script) (s : Sort) → IsResultSort (length script.sorts) s → is_first_order s ≡ true → IsVariableSort (length script.sorts) s
variable_sort script sort.Truth is first = cc
variable_sort script sort.Int is first = tt
variable_sort script (sort.Elem s) is first = is
variable_sort script (sort.Array i e) is first = cc

named_sort_is : (script : Script) (d : Declarations) (s : Sort) → length d.sorts ≤ length script.sorts → IsNamedSort d s → IsResultSort (length script.sorts) s
named_sort_is script d s le is = sort_read_is script d.sorts is.tree s le is.read

variable_sorts : (script : Script) (d : Declarations) (ss : List Sort) → length d.sorts ≤ length script.sorts → AllByRecursion (IsNamedSort d) ss → list_all is_first_order ss ≡ true → AllByRecursion (IsVariableSort (length script.sorts)) ss
variable_sorts script d [] le are first = tt
variable_sorts script d (s ∷ ss) le are first =
    let parts = and_parts (is_first_order s) (list_all is_first_order ss) first in
    (variable_sort script s (named_sort_is script d s le are.0) parts.0, variable_sorts script d ss le are.1 parts.1)

no_arguments : (args : List Sort) → eqb (length args) 0 ≡ true → args ≡ []
no_arguments [] e = refl
no_arguments (s ∷ args) e = let none : suc (length args) ≡ 0 = grind (arith, nat_tests) in absurd (omega arith)

or_not : (a b : Bool) → (a || not b) ≡ true → b ≡ true → a ≡ true
or_not true b e there = refl
or_not false true e there = cc
or_not false false e there = cc

function_ranked : (script : Script) (d : Declarations) (f : Function) → length d.sorts ≤ length script.sorts → IsNewFunction d f → IsRanked (length script.sorts) f
function_ranked script d f le new =
    let parts = and_parts (list_all is_first_order f.args) ((eqb (length f.args) 0) || not (is_array f.result)) new.supported in
    record {
      args = All-from_recursion (IsVariableSort (length script.sorts)) f.args (variable_sorts script d f.args le new.args parts.0);
      result = named_sort_is script d f.result le new.result;
      array = λ array. no_arguments f.args (or_not (eqb (length f.args) 0) (is_array f.result) parts.1 array);
    }

-- A function of a new name, among those that are there.
more_names : (fs : List Function) (f : Function) → map (λ (f : Function). f.name) (fs ++ f ∷ []) ≡ map (λ (f : Function). f.name) fs ++ f.name ∷ []
more_names [] f = refl
more_names (g ∷ fs) f = ap (λ (names : List (List ℕ)). g.name ∷ names) (more_names fs f)

name_is_new : (d : Declarations) (name : List ℕ) → is_function d name ≡ false → is_one_of (map (λ (f : Function). f.name) d.functions) name ≡ false
name_is_new d name new = sym (any_function d.functions name) ∙ (or_parts _ _ new).0

-- The names of a script that has the same ones.
quantifier_free_named : (a b : Script) → a.sorts ≡ b.sorts → a.functions ≡ b.functions → AreNamed a → AreNamed b
quantifier_free_named a b sorts functions named = record {
  sorts = subst (λ (xs : List (List ℕ)). All IsName xs) sorts named.sorts;
  functions = subst (λ (fs : List Function). All IsName (map (λ (f : Function). f.name) fs)) functions named.functions;
  sorts_differ = subst (λ (xs : List (List ℕ)). AreDistinct xs) sorts named.sorts_differ;
  functions_differ = subst (λ (fs : List Function). AreDistinct (map (λ (f : Function). f.name) fs)) functions named.functions_differ;
}

-- What was read so far is a first part of the script.
part_so_far : (script : Script) (p : Progress) → length p.names.sorts ≤ length script.sorts → ((i : ℕ) (f : Function) → slice_get p.names.functions i ≡ Some f → slice_get script.functions i ≡ Some f) →
    IsKept script (script_of p) → All (λ (m : Macro). IsKeptBody script m.body) p.names.macros → IsPart script p.names
part_so_far script p sorts functions kept macros = record {
  sorts = sorts;
  functions = λ i g e. record { there = functions i g e; ranked = all_get (IsRanked (length script.sorts)) p.names.functions i g kept.ranked e };
  macros = macros;
}

-- What is kept of definitions is in form.
abbrev pub KeepsBodies : Script → Type 0
KeepsBodies script = (d : Declarations) (given : Definition) (m : Meaning) → IsPart script d → body_meant d given ≡ Ok m → IsKeptBody script (kept_body given.parameters given.body m)

macros_keep : (script : Script) (p next : Progress) → KeepsBodies script → IsStep p next → IsBefore next.names (declarations_of script) → IsKept script (script_of p) → All (λ (m : Macro). IsKeptBody script m.body) p.names.macros → All (λ (m : Macro). IsKeptBody script m.body) next.names.macros
macros_keep script p next bodies (IsStep.passed_over) before kept macros = macros
macros_keep script p next bodies (IsStep.sort name new) before kept macros = macros
macros_keep script p next bodies (IsStep.function f new) before kept macros = macros
macros_keep script p next bodies (IsStep.definition given m read) before kept macros =
    all_more (λ (m : Macro). IsKeptBody script m.body) p.names.macros (macro_of given m) macros
    (bodies p.names given m (part_so_far script p before.sorts before.functions kept macros) read)
macros_keep script p next bodies (IsStep.assertion label f new) before kept macros = macros
macros_keep script p next bodies (IsStep.question) before kept macros = macros

-- Each step keeps what holds.
step_keeps : (script : Script) (p next : Progress) → IsStep p next → IsBefore next.names (declarations_of script) → IsKept script (script_of p) → All (λ (m : Macro). IsKeptBody script m.body) p.names.macros → IsKept script (script_of next)
step_keeps script p next (IsStep.passed_over) before kept macros = kept
step_keeps script p next (IsStep.sort name new) before kept macros = record {
  named = record {
    sorts = all_more IsName p.names.sorts name kept.named.sorts (record { legal = new.legal; free = new.free });
    functions = kept.named.functions;
    sorts_differ = names_differ p.names.sorts name kept.named.sorts_differ new.new;
    functions_differ = kept.named.functions_differ;
  };
  ranked = kept.ranked;
  given = kept.given;
  labels = kept.labels;
}
step_keeps script p next (IsStep.function f new) before kept macros =
    let names = map (λ (f : Function). f.name) p.names.functions in
    let more = more_names p.names.functions f in
    record {
      named = record {
        sorts = kept.named.sorts;
        functions = subst (All IsName) (sym more) (all_more IsName names f.name kept.named.functions (record { legal = new.name.legal; free = new.name.free }));
        sorts_differ = kept.named.sorts_differ;
        functions_differ = subst (λ (xs : List (List ℕ)). AreDistinct xs) (sym more) (names_differ names f.name kept.named.functions_differ (name_is_new p.names f.name new.name.new));
      };
      ranked = all_more (IsRanked (length script.sorts)) p.names.functions f kept.ranked (function_ranked script p.names f before.sorts new);
      given = kept.given;
      labels = kept.labels;
    }
step_keeps script p next (IsStep.definition given m read) before kept macros = record { named = kept.named; ranked = kept.ranked; given = kept.given; labels = kept.labels }
step_keeps script p next (IsStep.assertion label f new) before kept macros =
    let part : IsPart script p.names = part_so_far script p before.sorts before.functions kept macros in
    record {
      named = quantifier_free_named (script_of p) (script_of (with_assertion p label f)) refl refl kept.named;
      ranked = kept.ranked;
      given = all_more (IsGiven script) p.assertions (record { label = label; formula = f }) kept.given
          (record { declarations = p.names; tree = new.tree; part = part; read = new.read; label = new.legal });
      labels = labels_differ p.assertions (record { label = label; formula = f }) kept.labels new.new;
    }
step_keeps script p next (IsStep.question) before kept macros = record { named = quantifier_free_named (script_of p) (script_of (with_question p)) refl refl kept.named; ranked = kept.ranked; given = kept.given; labels = kept.labels }

-- So it holds of the script.
forms_keep : (script : Script) (forms : List Form) (p : Progress) → KeepsBodies script → AllByRecursion IsLegalForm forms → script_from p forms ≡ Ok script → IsKept script (script_of p) → All (λ (m : Macro). IsKeptBody script m.body) p.names.macros → IsKept script script
forms_keep script [] p bodies legal e kept macros = subst (IsKept script) (same_script (script_of p) script e) kept
forms_keep script (form ∷ forms) p bodies legal e kept macros =
    elim (form_back (is_exit form.tree) form.from (command_meant p form.tree) (λ next. script_from next forms) (script_of p) script e) [
      | inl same ↦ subst (IsKept script) same kept
      | inr more ↦
          let step = command_steps p form.tree more.0 legal.0 more.1 in
          let before = script_grows forms more.0 script legal.1 more.2 in
          forms_keep script forms more.0 bodies legal.1 more.2 (step_keeps script p more.0 step before kept macros) (macros_keep script p more.0 bodies step before kept macros)
    ]

nothing_kept : (script : Script) → IsKept script (script_of nothing)
nothing_kept script = record {
  named = record { sorts = All-nil IsName; functions = All-nil IsName; sorts_differ = λ i j x e f. cc; functions_differ = λ i j x e f. cc };
  ranked = All-nil (IsRanked (length script.sorts));
  given = All-nil (IsGiven script);
  labels = λ i j a b label e f at_a at_b. cc;
}

pub script_in_form : (forms : List Form) (script : Script) → AllByRecursion IsLegalForm forms → script_meant forms ≡ Ok script →
    ((d : Declarations) (t : Sexpr) (f : Formula) → IsPart script d → formula_read d t ≡ Ok f → IsFormula script [] 0 f × (depth_of_formula f ≤ 1000)) → KeepsBodies script → IsInForm script
script_in_form forms script legal e reads bodies =
    let kept = forms_keep script forms nothing bodies legal e (nothing_kept script) (All-nil (λ (m : Macro). IsKeptBody script m.body)) in
    record {
      named = kept.named;
      ranked = kept.ranked;
      asserted = λ i d within.
          let given = kept.given i d within in
          let read = reads given.declarations given.tree _ given.part given.read in
          record { formula = read.0; depth = read.1; label = given.label };
      labels = kept.labels;
    }
