-- How a list is read behind its head. No public clause cites it.
use Rattle.std.specs.Prelude.{ℕ, ◌+◌, Bool, true, false, ◌&&◌, List, [], ◌∷◌, ◌++◌, length, map, codes, Option, None, Some, Result, Ok, Err, if◌then◌else◌}
use Rattle.mbqi_values.specs.declared.fault.FaultKind.{FaultKind}
use Rattle.mbqi_values.specs.declared.fault.FaultKind.TheVariants.{BadForm, NotDifference, Unsupported, WrongCount}
use Rattle.sexpr_text.specs.declared.tree.Sexpr.{Sexpr}
use Rattle.smtlib_terms.specs.declared.meaning.Meaning.{Meaning}
use Rattle.smtlib_terms.specs.declared.meaning.Side.{Side}
use Rattle.smtlib_terms.specs.declared.meaning.Side.TheVariants.{Meant, Difference}
use Rattle.smtlib_terms.specs.declared.names.Binding.{Binding}
use Rattle.smtlib_terms.specs.declared.names.Variable.{Variable}
use Rattle.smtlib_terms.specs.declared.word.Word.{Word}
use Rattle.smtlib_terms.specs.declared.word.Word.TheVariants as word
use Rattle.smtlib_terms.specs.declared.meaning.Bound.TheVariants.{Value}
use Rattle.smtlib_terms.specs.Applying.{fitting, mapped, name_applied}
use Rattle.smtlib_terms.specs.Names.{◌>>=◌, Reader, Signature, is_symbol, sort_meant}
use Rattle.smtlib_terms.specs.Operators.{applied, constant, is_relation, meant, subtraction}
use Rattle.smtlib_terms.specs.Steps.{behind}
use Rattle.smtlib_terms.specs.Words.{is_text}
use Rattle.smtlib_terms.specs.Reading.{Head, Named, Constant, Mapped, NoHead, Part, are_binders, bindable, binder_name, binding_of, body_read, meant_by, first_read, parts_read, quantified_meant, is_some_symbol, quantifier_binders, sides_read, text_of, trees_in, values_read}
use Rattle.term_reader.specs.declared.plan.Maker as maker_type
use Rattle.term_reader.specs.declared.plan.Maker.TheVariants as maker
use Rattle.term_reader.specs.declared.plan.Plan as plan_type
use Rattle.term_reader.specs.declared.plan.Plan.TheVariants as plan

-- What comes of arguments that were read.
abbrev pub made : maker_type.Maker → Signature → List Binding → List Meaning → Result Side FaultKind
made (maker.Operator w) names scope args = meant (applied w args)
made maker.Difference names scope args = subtraction args
made (maker.Constant s) names scope args = meant (constant s args)
made (maker.Map f) names scope args = meant (mapped names scope f args)

abbrev pub is_paired : maker_type.Maker → Bool
is_paired (maker.Operator w) = is_relation w
is_paired other = false

-- Arguments whose variables are counted one behind the other, or each from the same place on.
abbrev pub arguments_read : Bool → List Part → Signature → List Binding → ℕ → Result (List Meaning) FaultKind
arguments_read counted ps names scope next = if counted then parts_read ps names scope next else values_read ps names scope next

-- The two items of a list that are paired.
abbrev pub two_of : {A : Type 0} → Bool → List A → Option (A × A)
two_of true (a ∷ b ∷ []) = Some (a, b)
two_of paired items = None

abbrev pub sides_or_parts : Option (Part × Part) → List Part → Signature → List Binding → ℕ → Result (List Meaning) FaultKind
sides_or_parts (Some two) ps names scope next = sides_read two.0 two.1 names scope next
sides_or_parts None ps names scope next = parts_read ps names scope next

-- The arguments of an operator: those that are paired are the sides of an atom.
abbrev pub operator_read : Bool → List Part → Signature → List Binding → ℕ → Result (List Meaning) FaultKind
operator_read paired ps names scope next = sides_or_parts (two_of paired ps) ps names scope next

-- The second side of an atom: a difference before it is at fault first.
abbrev pub is_difference : Side → Bool
is_difference (Meant m) = false
is_difference (Difference s t) = true

abbrev pub second_side : Bool → Result Side FaultKind → Result Side FaultKind
second_side behind_difference (Ok s) = Ok s
second_side behind_difference (Err kind) = Err (if behind_difference then NotDifference else kind)

-- `true` and `false`.
abbrev pub truth_named : List ℕ → Option Bool
truth_named text =
    if is_text text (codes "true") then Some true else (if is_text text (codes "false") then Some false else None)

-- A macro with its arguments.
abbrev pub macro_applied : Reader → List Meaning → ℕ → Result Meaning FaultKind
macro_applied m args next = fitting m.parameters args (m.reads args next)

-- What a body means that is the one part.
abbrev pub only_part : List Part → Meaning → Result Meaning FaultKind
only_part (p ∷ []) m = Ok m
only_part ps m = Err WrongCount

-- A binding of a `let`, whose name is none of those seen, by the trees in it.
abbrev pub binding_among : List Sexpr → List ℕ → Signature → List Binding → ℕ → List (List ℕ) → Result Binding FaultKind
binding_among (first ∷ second ∷ []) name names scope next seen =
    meant_by second names scope next >>= (λ m. bindable name seen >>= (λ n. Ok (record { name = n; bound = Value next m })))
binding_among trees name names scope next seen = Err BadForm

-- The bindings of a `let`: parallel, each value read in the scope outside.
abbrev pub bindings_among : List Sexpr → Signature → List Binding → ℕ → List (List ℕ) → Result (List Binding) FaultKind
bindings_among [] names scope next seen = Ok []
bindings_among (t ∷ ts) names scope next seen =
    binding_among (trees_in t) (binder_name t) names scope next seen >>= (λ (b : Binding).
    bindings_among ts names scope next (seen ++ b.name ∷ []) >>= (λ bs. Ok (b ∷ bs)))

abbrev pub let_planned : List Part → Signature → List Binding → ℕ → Result Meaning FaultKind
let_planned [] names scope next = Err WrongCount
let_planned (p ∷ ps) names scope next =
    bindings_among (trees_in p.tree) names scope next [] >>= (λ bs. body_read ps names (bs ++ scope) next)

abbrev pub quantifier_planned : Word → List Variable → List Part → Signature → List Binding → ℕ → Result Meaning FaultKind
quantifier_planned w bs [] names scope next = Err WrongCount
quantifier_planned w bs (p ∷ ps) names scope next =
    body_read ps names (map binding_of bs ++ scope) (next + length bs) >>= quantified_meant w bs

-- What is read by a plan, behind a head of this text.
abbrev pub planned : plan_type.Plan → List ℕ → List Part → Signature → List Binding → ℕ → Result Side FaultKind
planned (plan.Arguments m) text ps names scope next = operator_read (is_paired m) ps names scope next >>= made m names scope
planned plan.Call text ps names scope next = meant (values_read ps names scope next >>= name_applied names scope text next)
planned plan.Let text ps names scope next = meant (let_planned ps names scope next)
planned (plan.Quantifier w bs) text ps names scope next = meant (quantifier_planned w bs ps names scope next)
planned plan.First text ps names scope next = meant (first_read ps names scope next)

-- The plan of a list whose head is a word.
abbrev pub let_plan : List Sexpr → Result plan_type.Plan FaultKind
let_plan [] = Err WrongCount
let_plan (t ∷ ts) = if are_binders (trees_in t) then Ok plan.Let else Err BadForm

abbrev pub quantifier_plan : Word → List Sexpr → List (List ℕ) → ℕ → Result plan_type.Plan FaultKind
quantifier_plan w [] sorts next = Err WrongCount
quantifier_plan w (t ∷ ts) sorts next = quantifier_binders t sorts next >>= (λ bs. Ok (plan.Quantifier w bs))

abbrev pub call_plan : List Sexpr → Result plan_type.Plan FaultKind
call_plan [] = Err BadForm
call_plan (t ∷ ts) = Ok plan.Call

abbrev pub named_plan : Word → List Sexpr → List (List ℕ) → ℕ → Result plan_type.Plan FaultKind
named_plan word.Let ts sorts next = let_plan ts
named_plan word.Forall ts sorts next = quantifier_plan word.Forall ts sorts next
named_plan word.Exists ts sorts next = quantifier_plan word.Exists ts sorts next
named_plan word.Annotated ts sorts next = Ok plan.First
named_plan word.Unread ts sorts next = Err Unsupported
named_plan word.Minus ts sorts next = Ok (plan.Arguments maker.Difference)
named_plan word.Name ts sorts next = call_plan ts
named_plan w ts sorts next = Ok (plan.Arguments (maker.Operator w))

abbrev pub headed_plan : Head → List Sexpr → List (List ℕ) → ℕ → Result plan_type.Plan FaultKind
headed_plan NoHead ts sorts next = Err BadForm
headed_plan (Constant t) ts sorts next = sort_meant t sorts >>= (λ s. Ok (plan.Arguments (maker.Constant s)))
headed_plan (Mapped f) ts sorts next = Ok (plan.Arguments (maker.Map f))
headed_plan (Named w text) ts sorts next = named_plan w ts sorts next

-- What comes of arguments behind a head in brackets.
abbrev pub map_maker : Sexpr → Result maker_type.Maker FaultKind
map_maker f = if is_some_symbol f then Ok (maker.Map (text_of f)) else Err BadForm

abbrev pub qualified_maker : List Sexpr → List (List ℕ) → Result maker_type.Maker FaultKind
qualified_maker (first ∷ second ∷ third ∷ []) sorts =
    if is_symbol (codes "as") first && is_symbol (codes "const") second then sort_meant third sorts >>= (λ s. Ok (maker.Constant s))
    else (if is_symbol (codes "_") first && is_symbol (codes "map") second then map_maker third
    else Err BadForm)
qualified_maker trees sorts = Err BadForm

-- What is read of arguments and bindings behind those that were read.
unfoldable pub arguments_behind : List Meaning → Bool → List Part → Signature → List Binding → ℕ → Result (List Meaning) FaultKind
arguments_behind before counted ps names scope next = behind before (arguments_read counted ps names scope next)

unfoldable pub bindings_behind : List Binding → List Sexpr → Signature → List Binding → ℕ → List (List ℕ) → Result (List Binding) FaultKind
bindings_behind before ts names scope next seen = behind before (bindings_among ts names scope next seen)
