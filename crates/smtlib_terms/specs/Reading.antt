use Rattle.std.specs.Prelude.{ℕ, ◌+◌, ◌^◌, ◌==◌, Bool, true, false, ◌&&◌, pos, nat_lt, List, [], ◌∷◌, ◌++◌, length, map, codes, Result, Ok, Err, is_some, unwrap_or, if◌then◌else◌}
use Rattle.std.specs.List.{list_all}
use Rattle.std.specs.Str.Parse.{digits_value}
use Rattle.mbqi_values.specs.declared.fault.FaultKind.{FaultKind}
use Rattle.mbqi_values.specs.declared.fault.FaultKind.TheVariants.{BadForm, Unsupported, ReservedName, Twice, WrongCount, NumeralTooWide}
use Rattle.mbqi_terms.specs.declared.formula.Formula.{Formula}
use Rattle.mbqi_terms.specs.declared.formula.Formula.TheVariants as formula
use Rattle.mbqi_terms.specs.declared.sort.Sort.{Sort}
use Rattle.mbqi_terms.specs.declared.sort.Sort.TheVariants as sort
use Rattle.mbqi_terms.specs.declared.term.Term.TheVariants as term
use Rattle.sexpr_text.specs.declared.tree.Sexpr.{Sexpr, Row_of-Sexpr, end_of-Sexpr, more_of-Sexpr}
use Rattle.sexpr_text.specs.declared.tree.Sexpr.TheVariants as tree
use Rattle.sexpr_text.specs.Trees.{list_in, symbol_in}
use Rattle.smtlib_terms.specs.declared.meaning.Bound.TheVariants as Bound
use Rattle.smtlib_terms.specs.declared.meaning.Meaning.{Meaning}
use Rattle.smtlib_terms.specs.declared.meaning.Meaning.TheVariants as meaning
use Rattle.smtlib_terms.specs.declared.meaning.Side.{Side}
use Rattle.smtlib_terms.specs.declared.meaning.Side.TheVariants.{Meant, Difference}
use Rattle.smtlib_terms.specs.declared.names.Binding.{Binding}
use Rattle.smtlib_terms.specs.declared.names.Variable.{Variable}
use Rattle.smtlib_terms.specs.declared.word.Word.{Word}
use Rattle.smtlib_terms.specs.declared.word.Word.TheVariants as word
use Rattle.smtlib_terms.specs.Applying.{mapped, name_applied}
use Rattle.smtlib_terms.specs.Meaning.{shallow, variables_of}
use Rattle.smtlib_terms.specs.Names.{◌>>=◌, Signature, is_symbol, sort_meant}
use Rattle.smtlib_terms.specs.Operators.{applied, as_formula, constant, is_relation, meant, plainly, subtraction, two_sides}
use Rattle.smtlib_terms.specs.Words.{is_one_of, is_reserved, is_text, word_of}

-- A numeral (SMT-LIB 2.6, section 3.1), up to the profile's limit.
abbrev pub numeral : List ℕ → Result Meaning FaultKind
numeral digits =
    if nat_lt (digits_value 10 digits) (2 ^ 63) then Ok (meaning.Term sort.Int (term.Num (pos (digits_value 10 digits))))
    else Err NumeralTooWide

-- A symbol that stands alone.
abbrev pub symbol : Signature → List Binding → List ℕ → ℕ → Result Meaning FaultKind
symbol names scope text next =
    if is_text text (codes "true") then Ok (meaning.Formula (formula.Truth true))
    else (if is_text text (codes "false") then Ok (meaning.Formula (formula.Truth false))
    else name_applied names scope text next [])

-- The trees in a list, in order.
unfoldable pub trees_in : Sexpr → List Sexpr
trees_in t = unwrap_or (list_in t) []

abbrev pub is_list : Sexpr → Bool
is_list t = is_some (list_in t)

abbrev pub is_some_symbol : Sexpr → Bool
is_some_symbol t = is_some (symbol_in t)

abbrev pub text_of : Sexpr → List ℕ
text_of t = unwrap_or (symbol_in t) []

-- The head of a list that is a term: a symbol, `(as const S)` or `(_ map f)`.
pub data Head : Type 0 where
  Named : Word → List ℕ → Head
  Constant : Sexpr → Head
  Mapped : List ℕ → Head
  NoHead : Head

abbrev pub mapped_head : Sexpr → Head
mapped_head (tree.Symbol f) = Mapped f
mapped_head other = NoHead

abbrev pub qualified_head : Sexpr → Sexpr → Sexpr → Head
qualified_head first second third =
    if is_symbol (codes "as") first && is_symbol (codes "const") second then Constant third
    else (if is_symbol (codes "_") first && is_symbol (codes "map") second then mapped_head third
    else NoHead)

abbrev pub list_head : List Sexpr → Head
list_head (first ∷ second ∷ third ∷ []) = qualified_head first second third
list_head trees = NoHead

abbrev pub head_of : Sexpr → Head
head_of (tree.Symbol text) = Named (word_of text) text
head_of other = list_head (trees_in other)

-- A binder or binding: a list of a symbol and one more tree.
abbrev pub is_pair : List Sexpr → Bool
is_pair (first ∷ second ∷ []) = is_some_symbol first
is_pair trees = false

abbrev pub is_binder : Sexpr → Bool
is_binder t = is_pair (trees_in t)

-- A list of at least one binder.
abbrev pub are_binders : List Sexpr → Bool
are_binders [] = false
are_binders (t ∷ ts) = list_all is_binder (t ∷ ts)

abbrev pub first_text : List Sexpr → List ℕ
first_text [] = []
first_text (t ∷ ts) = text_of t

-- The name that a binder binds.
abbrev pub binder_name : Sexpr → List ℕ
binder_name t = first_text (trees_in t)

-- A name may be bound unless it is reserved or was bound before in one list.
abbrev pub bindable : List ℕ → List (List ℕ) → Result (List ℕ) FaultKind
bindable name seen =
    if is_reserved name then Err ReservedName else (if is_one_of seen name then Err Twice else Ok name)

-- A sort that a quantified variable may have (this project's own).
abbrev pub quantifiable : Sort → Result Sort FaultKind
quantifiable sort.Int = Ok sort.Int
quantifiable (sort.Elem s) = Ok (sort.Elem s)
quantifiable sort.Truth = Err Unsupported
quantifiable (sort.Array i e) = Err Unsupported

-- The sort that a binder names, behind its name.
abbrev pub second_sort : List Sexpr → List (List ℕ) → Result Sort FaultKind
second_sort (first ∷ second ∷ []) sorts = sort_meant second sorts
second_sort trees sorts = Err BadForm

abbrev pub binder_sort : Sexpr → List (List ℕ) → Result Sort FaultKind
binder_sort t sorts = second_sort (trees_in t) sorts

-- The binders of a quantifier, with places from `place` on.
abbrev pub binders_of : List Sexpr → List (List ℕ) → ℕ → List (List ℕ) → Result (List Variable) FaultKind
binders_of [] sorts place seen = Ok []
binders_of (t ∷ ts) sorts place seen =
    binder_sort t sorts >>= (λ any. quantifiable any >>= (λ s. bindable (binder_name t) seen >>= (λ name.
    binders_of ts sorts (place + 1) (seen ++ name ∷ []) >>= (λ bs. Ok (record { name = name; binder = record { place = place; sort = s } } ∷ bs)))))

abbrev pub quantifier_binders : Sexpr → List (List ℕ) → ℕ → Result (List Variable) FaultKind
quantifier_binders t sorts place = if are_binders (trees_in t) then binders_of (trees_in t) sorts place [] else Err BadForm

abbrev pub binding_of : Variable → Binding
binding_of v = record { name = v.name; bound = Bound.Variable v.binder.place v.binder.sort }

abbrev pub is_forall : Word → Bool
is_forall word.Forall = true
is_forall other = false

-- A quantifier over a formula.
abbrev pub quantified : Word → List Variable → Formula → Formula
quantified w bs f =
    if is_forall w then formula.Forall (map (λ (v : Variable). v.binder) bs) f else formula.Exists (map (λ (v : Variable). v.binder) bs) f

abbrev pub quantified_meant : Word → List Variable → Meaning → Result Meaning FaultKind
quantified_meant w bs m = as_formula m >>= (λ f. Ok (meaning.Formula (quantified w bs f)))

-- How a tree reads: by what names stand for and what is in scope, where `next` is the next place of a variable.
abbrev pub Reading : Type 0
Reading = Signature → List Binding → ℕ → Result Side FaultKind

-- A tree that stands in a list: the tree, how it reads as a term, and, of each tree in it, how the trees in that
-- one read.
pub record Part : Type 0 where
  pub tree : Sexpr
  pub reads : Reading
  pub inner : List (List Reading)

-- The parts' meanings, each part's variables counted behind those of the parts before it.
abbrev pub parts_read : List Part → Signature → List Binding → ℕ → Result (List Meaning) FaultKind
parts_read [] names scope next = Ok []
parts_read (p ∷ ps) names scope next =
    p.reads names scope next >>= plainly >>= (λ m. parts_read ps names scope (next + variables_of m) >>= (λ ms. Ok (m ∷ ms)))

-- The parts' meanings as values, each part's variables counted from the next place on.
abbrev pub values_read : List Part → Signature → List Binding → ℕ → Result (List Meaning) FaultKind
values_read [] names scope next = Ok []
values_read (p ∷ ps) names scope next =
    p.reads names scope next >>= plainly >>= (λ m. values_read ps names scope next >>= (λ ms. Ok (m ∷ ms)))

abbrev pub variables_of_side : Side → ℕ
variables_of_side (Meant m) = variables_of m
variables_of_side (Difference s t) = 0

-- The two sides of an atom.
abbrev pub sides_read : Part → Part → Signature → List Binding → ℕ → Result (List Meaning) FaultKind
sides_read a b names scope next =
    a.reads names scope next >>= (λ left. two_sides left (b.reads names scope (next + variables_of_side left)))

-- A relation of two sides, one of which may be a difference, or of any other number of arguments.
abbrev pub relation_read : Word → List Part → Signature → List Binding → ℕ → Result Meaning FaultKind
relation_read w (a ∷ b ∷ []) names scope next = sides_read a b names scope next >>= applied w
relation_read w ps names scope next = parts_read ps names scope next >>= applied w

-- The first part alone.
abbrev pub first_read : List Part → Signature → List Binding → ℕ → Result Meaning FaultKind
first_read [] names scope next = Err WrongCount
first_read (p ∷ ps) names scope next = p.reads names scope next >>= plainly

-- The body behind bindings or binders: one part, behind which nothing stands.
abbrev pub body_read : List Part → Signature → List Binding → ℕ → Result Meaning FaultKind
body_read ps names scope next =
    first_read ps names scope next >>= (λ m. if length ps == 1 then Ok m else Err WrongCount)

-- What a binding binds, behind its name.
abbrev pub value_read : List Reading → Signature → List Binding → ℕ → Result Meaning FaultKind
value_read (first ∷ second ∷ []) names scope next = second names scope next >>= plainly
value_read readings names scope next = Err BadForm

-- The bindings of a `let`: parallel, each value read in the scope outside.
abbrev pub bindings_read : List Sexpr → List (List Reading) → Signature → List Binding → ℕ → List (List ℕ) → Result (List Binding) FaultKind
bindings_read (t ∷ ts) (r ∷ rs) names scope next seen =
    value_read r names scope next >>= (λ m. bindable (binder_name t) seen >>= (λ name.
    bindings_read ts rs names scope next (seen ++ name ∷ []) >>= (λ bs. Ok (record { name = name; bound = Bound.Value next m } ∷ bs))))
bindings_read [] rs names scope next seen = Ok []
bindings_read (t ∷ ts) [] names scope next seen = Err BadForm

abbrev pub let_read : List Part → Signature → List Binding → ℕ → Result Meaning FaultKind
let_read [] names scope next = Err WrongCount
let_read (p ∷ ps) names scope next =
    elim (are_binders (trees_in p.tree)) [
      | true ↦ bindings_read (trees_in p.tree) p.inner names scope next [] >>= (λ bs. body_read ps names (bs ++ scope) next)
      | false ↦ Err BadForm
    ]

abbrev pub quantifier_read : Word → List Part → Signature → List Binding → ℕ → Result Meaning FaultKind
quantifier_read w [] names scope next = Err WrongCount
quantifier_read w (p ∷ ps) names scope next =
    quantifier_binders p.tree names.sorts next >>= (λ bs.
    body_read ps names (map binding_of bs ++ scope) (next + length bs) >>= quantified_meant w bs)

-- A name with arguments: at least one.
abbrev pub call_read : List ℕ → List Part → Signature → List Binding → ℕ → Result Meaning FaultKind
call_read name [] names scope next = Err BadForm
call_read name (p ∷ ps) names scope next = values_read (p ∷ ps) names scope next >>= name_applied names scope name next

-- A list whose head is a symbol.
abbrev pub named_read : Word → List ℕ → List Part → Signature → List Binding → ℕ → Result Side FaultKind
named_read word.Let text ps names scope next = meant (let_read ps names scope next)
named_read word.Forall text ps names scope next = meant (quantifier_read word.Forall ps names scope next)
named_read word.Exists text ps names scope next = meant (quantifier_read word.Exists ps names scope next)
named_read word.Annotated text ps names scope next = meant (first_read ps names scope next)
named_read word.Unread text ps names scope next = Err Unsupported
named_read word.Minus text ps names scope next = parts_read ps names scope next >>= subtraction
named_read word.Name text ps names scope next = meant (call_read text ps names scope next)
named_read w text ps names scope next =
    elim (is_relation w) [
      | true ↦ meant (relation_read w ps names scope next)
      | false ↦ meant (parts_read ps names scope next >>= applied w)
    ]

-- A list by its head.
abbrev pub headed_read : Head → List Part → Signature → List Binding → ℕ → Result Side FaultKind
headed_read NoHead ps names scope next = Err BadForm
headed_read (Constant t) ps names scope next =
    sort_meant t names.sorts >>= (λ s. meant (parts_read ps names scope next >>= constant s))
headed_read (Mapped f) ps names scope next = meant (parts_read ps names scope next >>= mapped names scope f)
headed_read (Named w text) ps names scope next = named_read w text ps names scope next

-- A meaning that isn't too deep.
abbrev pub shallow_side : Side → Result Side FaultKind
shallow_side (Meant m) = meant (shallow m)
shallow_side (Difference s t) = Ok (Difference s t)

abbrev pub list_read : List Part → Reading
list_read [] names scope next = Err BadForm
list_read (p ∷ ps) names scope next = headed_read (head_of p.tree) ps names scope next >>= shallow_side

-- What a tree means, or its first fault (SMT-LIB 2.6, section 3.6, in this project's profile and order of kinds).
unfoldable mutual
  pub side : Sexpr → Reading
  side (tree.Symbol text) = λ names scope next. meant (symbol names scope text next)
  side (tree.Numeral digits) = λ names scope next. meant (numeral digits)
  side (tree.Decimal text) = λ names scope next. Err Unsupported
  side (tree.Hex text) = λ names scope next. Err Unsupported
  side (tree.Binary text) = λ names scope next. Err Unsupported
  side (tree.Str text) = λ names scope next. Err Unsupported
  side (tree.Keyword text) = λ names scope next. Err BadForm
  side (tree.List' n row) = list_read (parts_of row)

  pub parts_of : {n : _} → Row_of-Sexpr n → List Part
  parts_of end_of-Sexpr = []
  parts_of (more_of-Sexpr t row) = record { tree = t; reads = side t; inner = inner t } ∷ parts_of row

  -- How the trees in the trees in a list read.
  pub inner : Sexpr → List (List Reading)
  inner (tree.List' n row) = inner_of row
  inner other = []

  pub inner_of : {n : _} → Row_of-Sexpr n → List (List Reading)
  inner_of end_of-Sexpr = []
  inner_of (more_of-Sexpr t row) = readings t ∷ inner_of row

  -- How the trees in a list read.
  pub readings : Sexpr → List Reading
  readings (tree.List' n row) = readings_of row
  readings other = []

  pub readings_of : {n : _} → Row_of-Sexpr n → List Reading
  readings_of end_of-Sexpr = []
  readings_of (more_of-Sexpr t row) = side t ∷ readings_of row

-- A tree as a part of a list.
abbrev pub part_of : Sexpr → Part
part_of t = record { tree = t; reads = side t; inner = inner t }

-- What a tree means where no difference may stand.
abbrev pub meant_by : Sexpr → Signature → List Binding → ℕ → Result Meaning FaultKind
meant_by t names scope next = side t names scope next >>= plainly
