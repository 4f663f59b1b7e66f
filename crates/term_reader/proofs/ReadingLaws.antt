-- What a tree means, in the steps of its reading.
use Rattle.std.proofs.Common.{◌≡◌, ℕ, Bool, true, false, List, [], ◌∷◌, map, codes, Option, None, Some, Result, Ok, refl, ap, sym, subst, ◌∙◌, if◌then◌else◌}
use Rattle.mbqi_values.specs.declared.fault.FaultKind.{FaultKind}
use Rattle.mbqi_values.specs.declared.fault.ReadError.{ReadError}
use Rattle.mbqi_values.specs.declared.fault.ReadError.TheVariants.{Refused, Memory}
use Rattle.mbqi_terms.specs.declared.formula.Formula.TheVariants as formula
use Rattle.sexpr_text.specs.declared.tree.Sexpr.{Sexpr}
use Rattle.sexpr_text.specs.declared.tree.Sexpr.TheVariants as tree
use Rattle.smtlib_terms.specs.declared.meaning.Meaning.{Meaning}
use Rattle.smtlib_terms.specs.declared.meaning.Meaning.TheVariants as meaning
use Rattle.smtlib_terms.specs.declared.meaning.Side.{Side}
use Rattle.smtlib_terms.specs.declared.names.Binding.{Binding}
use Rattle.smtlib_terms.specs.Declaring.{Declarations, names_before}
use Rattle.smtlib_terms.specs.Answers.{IsFault}
use Rattle.smtlib_terms.specs.Applying.{bound_applied, declared_applied, function_applied, name_applied}
use Rattle.smtlib_terms.specs.Names.{◌>>=◌, Signature, bound_to, function_named, macro_named}
use Rattle.smtlib_terms.specs.Operators.{meant}
use Rattle.smtlib_terms.specs.Reading.{head_of, list_read, part_of, shallow_side, side, symbol, text_of}
use Rattle.smtlib_terms.specs.Words.{is_text}
use Rattle.term_reader.specs.declared.plan.Plan as plan_type
use Rattle.term_reader.specs.Plans.{headed_plan, planned, truth_named}
use Rattle.smtlib_terms.proofs.TermTrees.{side-Symbol}
use Rattle.term_reader.proofs.Ends.{before_functions, before_sorts}
use Rattle.term_reader.proofs.PlanLaws.{list_is}

-- a list by its plan
pub list_by_plan : (h : Sexpr) (ts : List Sexpr) (names : Declarations) (macros : ℕ) (scope : List Binding) (next : ℕ)
    → list_read (map part_of (h ∷ ts)) (names_before names macros) scope next
    ≡ headed_plan (head_of h) ts names.sorts next >>= (λ (p : plan_type.Plan). planned p (text_of h) (map part_of ts) (names_before names macros) scope next) >>= shallow_side
list_by_plan h ts names macros scope next =
    list_is h ts (names_before names macros) scope next
    ∙ ap (λ (sorts : List (List ℕ)). headed_plan (head_of h) ts sorts next >>= (λ (p : plan_type.Plan). planned p (text_of h) (map part_of ts) (names_before names macros) scope next) >>= shallow_side) (before_sorts names macros)

-- a name that is neither in scope nor a macro's
pub name_of_function : (names : Declarations) (macros : ℕ) (scope : List Binding) (name : List ℕ) (next : ℕ) (args : List Meaning)
    → bound_to name scope ≡ None → macro_named name (names_before names macros).macros ≡ None
    → name_applied (names_before names macros) scope name next args ≡ function_applied args (function_named name 0 names.functions)
name_of_function names macros scope name next args unbound undefined =
    ap (bound_applied (names_before names macros) name next args) unbound
    ∙ (ap (declared_applied (names_before names macros) name next args) undefined
    ∙ ap (λ fs. function_applied args (function_named name 0 fs)) (before_functions names macros))

-- a symbol that is a truth, and one that is not
truth_or_name : (a b : Bool) (r : Result Meaning FaultKind) (truth : Bool)
    → (let o : Option Bool = if a then Some true else (if b then Some false else None) in o) ≡ Some truth
    → (if a then Ok (meaning.Formula (formula.Truth true)) else (if b then Ok (meaning.Formula (formula.Truth false)) else r)) ≡ Ok (meaning.Formula (formula.Truth truth))
truth_or_name true b r true is = refl
truth_or_name true b r false is = cc
truth_or_name false true r true is = cc
truth_or_name false true r false is = refl
truth_or_name false false r truth is = cc

pub symbol_of_truth : (names : Signature) (scope : List Binding) (text : List ℕ) (next : ℕ) (truth : Bool) → truth_named text ≡ Some truth
    → symbol names scope text next ≡ Ok (meaning.Formula (formula.Truth truth))
symbol_of_truth names scope text next truth is =
    truth_or_name (is_text text (codes "true")) (is_text text (codes "false")) (name_applied names scope text next []) truth is

no_truth : (a b : Bool) (r : Result Meaning FaultKind) → (let o : Option Bool = if a then Some true else (if b then Some false else None) in o) ≡ None
    → (if a then Ok (meaning.Formula (formula.Truth true)) else (if b then Ok (meaning.Formula (formula.Truth false)) else r)) ≡ r
no_truth true b r is = cc
no_truth false true r is = cc
no_truth false false r is = refl

pub symbol_of_name : (names : Signature) (scope : List Binding) (text : List ℕ) (next : ℕ) → truth_named text ≡ None
    → symbol names scope text next ≡ name_applied names scope text next []
symbol_of_name names scope text next is =
    no_truth (is_text text (codes "true")) (is_text text (codes "false")) (name_applied names scope text next []) is

pub ruleset symbol_laws = (symbol_of_truth, symbol_of_name)

-- a list whose plan has a fault, one whose parts have a fault, and what another means
pub list_without_plan : (error : ReadError) (trees : List Sexpr) (h : Sexpr) (ts : List Sexpr) (names : Declarations) (macros : ℕ) (scope : List Binding) (next : ℕ)
    → trees ≡ h ∷ ts → IsFault error (headed_plan (head_of h) ts names.sorts next) → IsFault error (list_read (map part_of trees) (names_before names macros) scope next)
list_without_plan (Refused refusal) trees h ts names macros scope next same fault = (
  ap (λ (trees : List Sexpr). list_read (map part_of trees) (names_before names macros) scope next) same
      ∙ (list_by_plan h ts names macros scope next
      ∙ ap (λ (r : Result plan_type.Plan FaultKind). r >>= (λ (p : plan_type.Plan). planned p (text_of h) (map part_of ts) (names_before names macros) scope next) >>= shallow_side) fault.0),
  fault.1,
)
list_without_plan Memory trees h ts names macros scope next same fault = tt

pub list_of_plan : (trees : List Sexpr) (h : Sexpr) (ts : List Sexpr) (p : plan_type.Plan) (names : Declarations) (macros : ℕ) (scope : List Binding) (next : ℕ)
    → trees ≡ h ∷ ts → headed_plan (head_of h) ts names.sorts next ≡ Ok p
    → list_read (map part_of trees) (names_before names macros) scope next ≡ planned p (text_of h) (map part_of ts) (names_before names macros) scope next >>= shallow_side
list_of_plan trees h ts p names macros scope next same plans =
    ap (λ (trees : List Sexpr). list_read (map part_of trees) (names_before names macros) scope next) same
    ∙ (list_by_plan h ts names macros scope next
    ∙ ap (λ (r : Result plan_type.Plan FaultKind). r >>= (λ (p : plan_type.Plan). planned p (text_of h) (map part_of ts) (names_before names macros) scope next) >>= shallow_side) plans)

fault_behind : (error : ReadError) (r : Result Side FaultKind) → IsFault error r → IsFault error (r >>= shallow_side)
fault_behind (Refused refusal) r fault = (ap (λ (r : Result Side FaultKind). r >>= shallow_side) fault.0, fault.1)
fault_behind Memory r fault = tt

pub list_without_side : (error : ReadError) (trees : List Sexpr) (h : Sexpr) (ts : List Sexpr) (p : plan_type.Plan) (names : Declarations) (macros : ℕ) (scope : List Binding) (next : ℕ)
    → trees ≡ h ∷ ts → headed_plan (head_of h) ts names.sorts next ≡ Ok p
    → IsFault error (planned p (text_of h) (map part_of ts) (names_before names macros) scope next) → IsFault error (list_read (map part_of trees) (names_before names macros) scope next)
list_without_side error trees h ts p names macros scope next same plans fault =
    subst (IsFault error) (sym (list_of_plan trees h ts p names macros scope next same plans)) (fault_behind error _ fault)

pub list_of_side : (trees : List Sexpr) (h : Sexpr) (ts : List Sexpr) (p : plan_type.Plan) (s : Side) (names : Declarations) (macros : ℕ) (scope : List Binding) (next : ℕ)
    → trees ≡ h ∷ ts → headed_plan (head_of h) ts names.sorts next ≡ Ok p
    → planned p (text_of h) (map part_of ts) (names_before names macros) scope next ≡ Ok s
    → list_read (map part_of trees) (names_before names macros) scope next ≡ shallow_side s
list_of_side trees h ts p s names macros scope next same plans is =
    list_of_plan trees h ts p names macros scope next same plans ∙ ap (λ (r : Result Side FaultKind). r >>= shallow_side) is

-- a symbol that is a name with a fault
pub symbol_fault : (error : ReadError) (names : Signature) (scope : List Binding) (text : List ℕ) (next : ℕ) → truth_named text ≡ None
    → IsFault error (name_applied names scope text next []) → IsFault error (side (tree.Symbol text) names scope next)
symbol_fault (Refused refusal) names scope text next none fault =
    (side-Symbol text names scope next ∙ ap meant (symbol_of_name names scope text next none ∙ fault.0), fault.1)
symbol_fault Memory names scope text next none fault = tt
