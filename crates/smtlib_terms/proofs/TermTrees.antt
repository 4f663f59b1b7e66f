-- What a tree means, by the variant of the tree; a list by the list of its trees.
use Rattle.std.proofs.Common.{◌≡◌, ℕ, List, [], ◌∷◌, map, Err, refl, ap}
use Rattle.mbqi_values.specs.declared.fault.FaultKind.TheVariants.{BadForm, Unsupported}
use Rattle.sexpr_text.specs.declared.tree.Sexpr.{Sexpr}
use Rattle.sexpr_text.specs.declared.tree.Sexpr.TheVariants as tree
use Rattle.sexpr_text.specs.declared.tree.Sexpr.TheBlock.{hidden-the_row-Sexpr-0}
use denote.Hole.Carrier.{hidden}
use Rattle.smtlib_terms.specs.declared.names.Binding.{Binding}
use Rattle.smtlib_terms.specs.Names.{Signature}
use Rattle.smtlib_terms.specs.Operators.{meant}
use Rattle.smtlib_terms.specs.Reading.{Part, Reading, inner, list_read, numeral, part_of, parts_of, readings, side, symbol, trees_in}

-- the trees of a list
pub trees_in-List : (items : List Sexpr) → trees_in (tree.List items) ≡ items
unfolding trees_in hidden-the_row-Sexpr-0 hidden
trees_in-List [] = refl
trees_in-List (t ∷ ts) = ap (λ (xs : List Sexpr). t ∷ xs) (trees_in-List ts)

abbrev parts_in : Sexpr → List Part
parts_in (tree.List' n row) = parts_of row
parts_in other = []

parts_in-List : (items : List Sexpr) → parts_in (tree.List items) ≡ map part_of items
unfolding side hidden-the_row-Sexpr-0 hidden
parts_in-List [] = refl
parts_in-List (t ∷ ts) = ap (λ (xs : List Part). part_of t ∷ xs) (parts_in-List ts)

-- a list as a term
pub side-List : (items : List Sexpr) → side (tree.List items) ≡ list_read (map part_of items)
unfolding side hidden-the_row-Sexpr-0 hidden
side-List items = ap list_read (parts_in-List items)

-- how the trees of a list read, and those in its trees
pub readings-List : (items : List Sexpr) → readings (tree.List items) ≡ map side items
unfolding side hidden-the_row-Sexpr-0 hidden
readings-List [] = refl
readings-List (t ∷ ts) = ap (λ (xs : List Reading). side t ∷ xs) (readings-List ts)

pub inner-List : (items : List Sexpr) → inner (tree.List items) ≡ map readings items
unfolding side hidden-the_row-Sexpr-0 hidden
inner-List [] = refl
inner-List (t ∷ ts) = ap (λ (xs : List (List Reading)). readings t ∷ xs) (inner-List ts)

pub side-Symbol : (text : List ℕ) (names : Signature) (scope : List Binding) (next : ℕ) → side (tree.Symbol text) names scope next ≡ meant (symbol names scope text next)
unfolding side
side-Symbol text names scope next = refl

pub side-Numeral : (text : List ℕ) (names : Signature) (scope : List Binding) (next : ℕ) → side (tree.Numeral text) names scope next ≡ meant (numeral text)
unfolding side
side-Numeral text names scope next = refl

pub side-Decimal : (text : List ℕ) (names : Signature) (scope : List Binding) (next : ℕ) → side (tree.Decimal text) names scope next ≡ Err Unsupported
unfolding side
side-Decimal text names scope next = refl

pub side-Hex : (text : List ℕ) (names : Signature) (scope : List Binding) (next : ℕ) → side (tree.Hex text) names scope next ≡ Err Unsupported
unfolding side
side-Hex text names scope next = refl

pub side-Binary : (text : List ℕ) (names : Signature) (scope : List Binding) (next : ℕ) → side (tree.Binary text) names scope next ≡ Err Unsupported
unfolding side
side-Binary text names scope next = refl

pub side-Str : (text : List ℕ) (names : Signature) (scope : List Binding) (next : ℕ) → side (tree.Str text) names scope next ≡ Err Unsupported
unfolding side
side-Str text names scope next = refl

pub side-Keyword : (text : List ℕ) (names : Signature) (scope : List Binding) (next : ℕ) → side (tree.Keyword text) names scope next ≡ Err BadForm
unfolding side
side-Keyword text names scope next = refl

pub trees_in-Symbol : (text : List ℕ) → trees_in (tree.Symbol text) ≡ []
unfolding trees_in
trees_in-Symbol text = refl

pub trees_in-Numeral : (text : List ℕ) → trees_in (tree.Numeral text) ≡ []
unfolding trees_in
trees_in-Numeral text = refl

pub trees_in-Decimal : (text : List ℕ) → trees_in (tree.Decimal text) ≡ []
unfolding trees_in
trees_in-Decimal text = refl

pub trees_in-Hex : (text : List ℕ) → trees_in (tree.Hex text) ≡ []
unfolding trees_in
trees_in-Hex text = refl

pub trees_in-Binary : (text : List ℕ) → trees_in (tree.Binary text) ≡ []
unfolding trees_in
trees_in-Binary text = refl

pub trees_in-Str : (text : List ℕ) → trees_in (tree.Str text) ≡ []
unfolding trees_in
trees_in-Str text = refl

pub trees_in-Keyword : (text : List ℕ) → trees_in (tree.Keyword text) ≡ []
unfolding trees_in
trees_in-Keyword text = refl

pub ruleset term_laws = (trees_in-List, side-List, readings-List, inner-List, side-Symbol, side-Numeral, side-Decimal, side-Hex, side-Binary, side-Str, side-Keyword, trees_in-Symbol, trees_in-Numeral, trees_in-Decimal, trees_in-Hex, trees_in-Binary, trees_in-Str, trees_in-Keyword)
