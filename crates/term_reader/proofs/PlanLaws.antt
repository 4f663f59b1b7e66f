-- A list by its plan.
use Rattle.std.proofs.Common.{◌≡◌, ℕ, ◌+◌, Bool, true, false, List, [], ◌∷◌, ◌++◌, map, Result, Ok, Err, refl, ap, sym, ◌∙◌, if◌then◌else◌}
use Rattle.mbqi_values.specs.declared.fault.FaultKind.{FaultKind}
use Rattle.mbqi_values.specs.declared.fault.FaultKind.TheVariants.{BadForm}
use Rattle.mbqi_terms.specs.declared.sort.Sort.{Sort}
use Rattle.sexpr_text.specs.declared.tree.Sexpr.{Sexpr}
use Rattle.sexpr_text.specs.declared.tree.Sexpr.TheVariants as tree
use Rattle.smtlib_terms.specs.declared.meaning.Meaning.{Meaning}
use Rattle.smtlib_terms.specs.declared.meaning.Side.{Side}
use Rattle.smtlib_terms.specs.declared.names.Binding.{Binding}
use Rattle.smtlib_terms.specs.declared.names.Variable.{Variable}
use Rattle.smtlib_terms.specs.declared.word.Word.{Word}
use Rattle.smtlib_terms.specs.declared.word.Word.TheVariants as word
use Rattle.smtlib_terms.specs.Names.{◌>>=◌, Signature, sort_meant}
use Rattle.smtlib_terms.specs.Operators.{applied, constant, meant, subtraction}
use Rattle.smtlib_terms.specs.Applying.{mapped}
use Rattle.smtlib_terms.specs.Reading.{Head, Named, Constant, Mapped, NoHead, Part, are_binders, body_read, headed_read, head_of, is_some_symbol, let_read, list_head, list_read, mapped_head, named_read, part_of, parts_read, quantifier_binders, quantifier_read, relation_read, shallow_side, sides_read, text_of, trees_in}
use Rattle.smtlib_terms.specs.Words.{word_of}
use Rattle.term_reader.specs.declared.plan.Plan as plan_type
use Rattle.term_reader.specs.declared.plan.Plan.TheVariants as plan
use Rattle.term_reader.specs.declared.plan.Maker as maker_type
use Rattle.term_reader.specs.declared.plan.Maker.TheVariants as maker
use Rattle.term_reader.proofs.ArgumentsRead.{bindings_inner}
use Rattle.term_reader.specs.Plans.{headed_plan, let_plan, made, map_maker, named_plan, operator_read, planned, qualified_maker, quantifier_plan}

-- reading on behind a step is reading on behind what follows it
pub then_is : {A B C : Type 0} (r : Result A FaultKind) (f : A → Result B FaultKind) (g : B → Result C FaultKind) → (r >>= f) >>= g ≡ r >>= (λ a. f a >>= g)
then_is (Ok a) f g = refl
then_is (Err kind) f g = refl

abbrev Planned : List ℕ → List Sexpr → Signature → List Binding → ℕ → Result plan_type.Plan FaultKind → Result Side FaultKind
Planned text ts names scope next r = r >>= (λ (p : plan_type.Plan). planned p text (map part_of ts) names scope next)

-- `let` where its bindings have their shape, and where they don't
shaped : (b : Bool) (p : plan_type.Plan) (text : List ℕ) (ts : List Sexpr) (names : Signature) (scope : List Binding) (next : ℕ) (r : Result Meaning FaultKind)
    → meant r ≡ planned p text (map part_of ts) names scope next
    → meant (elim b [ true ↦ r | false ↦ Err BadForm ]) ≡ Planned text ts names scope next (if b then Ok p else Err BadForm)
shaped true p text ts names scope next r same = same
shaped false p text ts names scope next r same = refl

let_is : (text : List ℕ) (ts : List Sexpr) (names : Signature) (scope : List Binding) (next : ℕ)
    → meant (let_read (map part_of ts) names scope next) ≡ Planned text ts names scope next (let_plan ts)
let_is text [] names scope next = refl
let_is text (t ∷ ts) names scope next =
    shaped (are_binders (trees_in t)) plan.Let text (t ∷ ts) names scope next _
    (ap (λ (r : Result (List Binding) FaultKind). meant (r >>= (λ bs. body_read (map part_of ts) names (bs ++ scope) next))) (bindings_inner t names scope next))

bound : (r : Result (List Variable) FaultKind) (w : Word) (text : List ℕ) (ts : List Sexpr) (names : Signature) (scope : List Binding) (next : ℕ) (body : List Variable → Result Meaning FaultKind)
    → ((bs : List Variable) → meant (body bs) ≡ planned (plan.Quantifier w bs) text (map part_of ts) names scope next)
    → meant (r >>= body) ≡ Planned text ts names scope next (r >>= (λ bs. Ok (plan.Quantifier w bs)))
bound (Ok bs) w text ts names scope next body same = same bs
bound (Err kind) w text ts names scope next body same = refl

quantifier_is : (w : Word) (text : List ℕ) (ts : List Sexpr) (names : Signature) (scope : List Binding) (next : ℕ)
    → meant (quantifier_read w (map part_of ts) names scope next) ≡ Planned text ts names scope next (quantifier_plan w ts names.sorts next)
quantifier_is w text [] names scope next = refl
quantifier_is w text (t ∷ ts) names scope next = bound (quantifier_binders t names.sorts next) w text (t ∷ ts) names scope next _ (λ bs. refl)

-- a word by its plan
relation_is : (w : Word) (ps : List Part) (names : Signature) (scope : List Binding) (next : ℕ)
    → meant (relation_read w ps names scope next) ≡ operator_read true ps names scope next >>= made (maker.Operator w) names scope
relation_is w [] names scope next = then_is (parts_read [] names scope next) (applied w) _
relation_is w (a ∷ []) names scope next = then_is (parts_read (a ∷ []) names scope next) (applied w) _
relation_is w (a ∷ b ∷ []) names scope next = then_is (sides_read a b names scope next) (applied w) _
relation_is w (a ∷ b ∷ c ∷ ps) names scope next = then_is (parts_read (a ∷ b ∷ c ∷ ps) names scope next) (applied w) _

unpaired : (ps : List Part) (names : Signature) (scope : List Binding) (next : ℕ) → operator_read false ps names scope next ≡ parts_read ps names scope next
unpaired [] names scope next = refl
unpaired (a ∷ []) names scope next = refl
unpaired (a ∷ b ∷ []) names scope next = refl
unpaired (a ∷ b ∷ c ∷ ps) names scope next = refl

-- arguments of which none may be a difference
arguments_are : (ps : List Part) (names : Signature) (scope : List Binding) (next : ℕ) (f : List Meaning → Result Meaning FaultKind)
    → meant (parts_read ps names scope next >>= f) ≡ operator_read false ps names scope next >>= (λ args. meant (f args))
arguments_are ps names scope next f =
    then_is (parts_read ps names scope next) f _ ∙ sym (ap (λ (r : Result (List Meaning) FaultKind). r >>= (λ args. meant (f args))) (unpaired ps names scope next))

named_is : (w : Word) (text : List ℕ) (ts : List Sexpr) (names : Signature) (scope : List Binding) (next : ℕ)
    → named_read w text (map part_of ts) names scope next ≡ Planned text ts names scope next (named_plan w ts names.sorts next)
named_is word.Let text ts names scope next = let_is text ts names scope next
named_is word.Forall text ts names scope next = quantifier_is word.Forall text ts names scope next
named_is word.Exists text ts names scope next = quantifier_is word.Exists text ts names scope next
named_is word.Annotated text ts names scope next = refl
named_is word.Unread text ts names scope next = refl
named_is word.Minus text ts names scope next =
    sym (ap (λ (r : Result (List Meaning) FaultKind). r >>= subtraction) (unpaired (map part_of ts) names scope next))
named_is word.Name text [] names scope next = refl
named_is word.Name text (t ∷ ts) names scope next = refl
named_is word.Equal text ts names scope next = relation_is word.Equal (map part_of ts) names scope next
named_is word.Distinct text ts names scope next = relation_is word.Distinct (map part_of ts) names scope next
named_is word.AtMost text ts names scope next = relation_is word.AtMost (map part_of ts) names scope next
named_is word.Below text ts names scope next = relation_is word.Below (map part_of ts) names scope next
named_is word.AtLeast text ts names scope next = relation_is word.AtLeast (map part_of ts) names scope next
named_is word.Above text ts names scope next = relation_is word.Above (map part_of ts) names scope next
named_is word.Not text ts names scope next = arguments_are (map part_of ts) names scope next (applied word.Not)
named_is word.And text ts names scope next = arguments_are (map part_of ts) names scope next (applied word.And)
named_is word.Or text ts names scope next = arguments_are (map part_of ts) names scope next (applied word.Or)
named_is word.Implies text ts names scope next = arguments_are (map part_of ts) names scope next (applied word.Implies)
named_is word.Xor text ts names scope next = arguments_are (map part_of ts) names scope next (applied word.Xor)
named_is word.Choose text ts names scope next = arguments_are (map part_of ts) names scope next (applied word.Choose)
named_is word.Plus text ts names scope next = arguments_are (map part_of ts) names scope next (applied word.Plus)
named_is word.Select text ts names scope next = arguments_are (map part_of ts) names scope next (applied word.Select)
named_is word.Store text ts names scope next = arguments_are (map part_of ts) names scope next (applied word.Store)
named_is word.Default text ts names scope next = arguments_are (map part_of ts) names scope next (applied word.Default)
named_is word.Arithmetic text ts names scope next = arguments_are (map part_of ts) names scope next (applied word.Arithmetic)

-- the text behind which a plan is read is that of the head, where it is a word
abbrev HasText : Head → List ℕ → Type 0
HasText (Named w name) text = name ≡ text
HasText (Constant t) text = Unit {0}
HasText (Mapped f) text = Unit {0}
HasText NoHead text = Unit {0}

constant_is : (s : Result Sort FaultKind) (text : List ℕ) (ts : List Sexpr) (names : Signature) (scope : List Binding) (next : ℕ)
    → s >>= (λ s. meant (parts_read (map part_of ts) names scope next >>= constant s)) ≡ Planned text ts names scope next (s >>= (λ s. Ok (plan.Arguments (maker.Constant s))))
constant_is (Ok s) text ts names scope next = arguments_are (map part_of ts) names scope next (constant s)
constant_is (Err kind) text ts names scope next = refl

headed_is : (head : Head) (text : List ℕ) (ts : List Sexpr) (names : Signature) (scope : List Binding) (next : ℕ) → HasText head text
    → headed_read head (map part_of ts) names scope next ≡ Planned text ts names scope next (headed_plan head ts names.sorts next)
headed_is NoHead text ts names scope next has = refl
headed_is (Constant t) text ts names scope next has = constant_is (sort_meant t names.sorts) text ts names scope next
headed_is (Mapped f) text ts names scope next has = arguments_are (map part_of ts) names scope next (mapped names scope f)
headed_is (Named w name) text ts names scope next has =
    named_is w name ts names scope next ∙ ap (λ (t : List ℕ). Planned t ts names scope next (named_plan w ts names.sorts next)) has

mapped_text : (f : Sexpr) (text : List ℕ) → HasText (mapped_head f) text
mapped_text (tree.Symbol f) text = tt
mapped_text (tree.Numeral f) text = tt
mapped_text (tree.Decimal f) text = tt
mapped_text (tree.Hex f) text = tt
mapped_text (tree.Binary f) text = tt
mapped_text (tree.Str f) text = tt
mapped_text (tree.Keyword f) text = tt
mapped_text (tree.List' n row) text = tt

qualified_text : (a b : Bool) (t : Sexpr) (text : List ℕ) → HasText (if a then Constant t else (if b then mapped_head t else NoHead)) text
qualified_text true b t text = tt
qualified_text false true t text = mapped_text t text
qualified_text false false t text = tt

list_text : (ts : List Sexpr) (text : List ℕ) → HasText (list_head ts) text
list_text [] text = tt
list_text (a ∷ []) text = tt
list_text (a ∷ b ∷ []) text = tt
list_text (a ∷ b ∷ c ∷ []) text = qualified_text _ _ c text
list_text (a ∷ b ∷ c ∷ d ∷ ts) text = tt

head_text : (h : Sexpr) → HasText (head_of h) (text_of h)
head_text (tree.Symbol f) = refl
head_text (tree.Numeral f) = list_text (trees_in (tree.Numeral f)) []
head_text (tree.Decimal f) = list_text (trees_in (tree.Decimal f)) []
head_text (tree.Hex f) = list_text (trees_in (tree.Hex f)) []
head_text (tree.Binary f) = list_text (trees_in (tree.Binary f)) []
head_text (tree.Str f) = list_text (trees_in (tree.Str f)) []
head_text (tree.Keyword f) = list_text (trees_in (tree.Keyword f)) []
head_text (tree.List' n row) = list_text (trees_in (tree.List' n row)) []

-- a list by its plan
pub list_is : (h : Sexpr) (ts : List Sexpr) (names : Signature) (scope : List Binding) (next : ℕ)
    → list_read (map part_of (h ∷ ts)) names scope next
    ≡ headed_plan (head_of h) ts names.sorts next >>= (λ (p : plan_type.Plan). planned p (text_of h) (map part_of ts) names scope next) >>= shallow_side
list_is h ts names scope next = ap (λ (r : Result Side FaultKind). r >>= shallow_side) (headed_is (head_of h) (text_of h) ts names scope next (head_text h))

-- the plan of a head in brackets
mapped_plan : (f : Sexpr) (ts : List Sexpr) (sorts : List (List ℕ)) (next : ℕ)
    → headed_plan (mapped_head f) ts sorts next ≡ map_maker f >>= (λ (m : maker_type.Maker). Ok (plan.Arguments m))
mapped_plan (tree.Symbol f) ts sorts next = refl
mapped_plan (tree.Numeral f) ts sorts next = refl
mapped_plan (tree.Decimal f) ts sorts next = refl
mapped_plan (tree.Hex f) ts sorts next = refl
mapped_plan (tree.Binary f) ts sorts next = refl
mapped_plan (tree.Str f) ts sorts next = refl
mapped_plan (tree.Keyword f) ts sorts next = refl
mapped_plan (tree.List' n row) ts sorts next = refl

qualified_plan : (a b : Bool) (t : Sexpr) (ts : List Sexpr) (sorts : List (List ℕ)) (next : ℕ)
    → headed_plan (if a then Constant t else (if b then mapped_head t else NoHead)) ts sorts next
    ≡ (if a then sort_meant t sorts >>= (λ s. Ok (maker.Constant s)) else (if b then map_maker t else Err BadForm)) >>= (λ (m : maker_type.Maker). Ok (plan.Arguments m))
qualified_plan true b t ts sorts next = sym (then_is (sort_meant t sorts) _ _)
qualified_plan false true t ts sorts next = mapped_plan t ts sorts next
qualified_plan false false t ts sorts next = refl

pub list_plan : (trees ts : List Sexpr) (sorts : List (List ℕ)) (next : ℕ)
    → headed_plan (list_head trees) ts sorts next ≡ qualified_maker trees sorts >>= (λ (m : maker_type.Maker). Ok (plan.Arguments m))
list_plan [] ts sorts next = refl
list_plan (a ∷ []) ts sorts next = refl
list_plan (a ∷ b ∷ []) ts sorts next = refl
list_plan (a ∷ b ∷ c ∷ []) ts sorts next = qualified_plan _ _ c ts sorts next
list_plan (a ∷ b ∷ c ∷ d ∷ rest) ts sorts next = refl

pub symbol_head : (h : Sexpr) → is_some_symbol h ≡ true → head_of h ≡ Named (word_of (text_of h)) (text_of h)
symbol_head (tree.Symbol f) is = refl
symbol_head (tree.Numeral f) is = cc
symbol_head (tree.Decimal f) is = cc
symbol_head (tree.Hex f) is = cc
symbol_head (tree.Binary f) is = cc
symbol_head (tree.Str f) is = cc
symbol_head (tree.Keyword f) is = cc
symbol_head (tree.List' n row) is = cc

pub other_head : (h : Sexpr) → is_some_symbol h ≡ false → head_of h ≡ list_head (trees_in h)
other_head (tree.Symbol f) is = cc
other_head (tree.Numeral f) is = refl
other_head (tree.Decimal f) is = refl
other_head (tree.Hex f) is = refl
other_head (tree.Binary f) is = refl
other_head (tree.Str f) is = refl
other_head (tree.Keyword f) is = refl
other_head (tree.List' n row) is = refl

pub ruleset head_laws = (list_plan, symbol_head, other_head)
