-- How pointwise maps read.
use Rattle.std.proofs.Common.{◌≡◌, ℕ, zero, suc, Bool, true, false, cond, eqb, List, [], ◌∷◌, length, map, replicate, Option, slice_get, Result, Ok, Err, refl, ap, ◌∙◌, arith}
use Rattle.std.specs.Prelude.{codes}
use Rattle.std.proofs.lemmas.Bool.Decides.{nat_tests}
use Rattle.mbqi_values.specs.declared.fault.FaultKind.{FaultKind}
use Rattle.mbqi_values.specs.declared.fault.FaultKind.TheVariants.{WrongCount, WrongSort}
use Rattle.mbqi_terms.specs.declared.script.Function.{Function}
use Rattle.mbqi_terms.specs.declared.script.Script.{Script}
use Rattle.mbqi_terms.specs.declared.sort.Binder.{Binder}
use Rattle.mbqi_terms.specs.declared.sort.Plain.{Plain}
use Rattle.mbqi_terms.specs.declared.sort.Plain.TheVariants as plain
use Rattle.mbqi_terms.specs.declared.sort.Sort.{Sort}
use Rattle.mbqi_terms.specs.declared.sort.Sort.TheVariants as sort
use Rattle.mbqi_terms.specs.declared.term.ArrayTerm.{ArrayTerm}
use Rattle.mbqi_terms.specs.declared.term.ArrayTerm.TheVariants as array
use Rattle.mbqi_terms.specs.declared.term.MapOp.{MapOp}
use Rattle.mbqi_terms.specs.declared.term.MapOp.TheVariants as op
use Rattle.sexpr_text.specs.declared.tree.Sexpr.{Sexpr}
use Rattle.sexpr_text.specs.declared.tree.Sexpr.TheVariants as tree
use Rattle.smtlib_printer.specs.Names.{name_in}
use Rattle.smtlib_terms.specs.declared.meaning.Meaning.{Meaning}
use Rattle.smtlib_terms.specs.declared.meaning.Meaning.TheVariants as meaning
use Rattle.smtlib_terms.specs.Applying.{Pointwise, are_over, arrays_of, bound_pointwise, function_pointwise, mapped, mapped_over, plain_of, pointwise_named}
use Rattle.mbqi_terms.specs.Varies.{varies}
use Rattle.smtlib_terms.specs.Names.{◌>>=◌}
use Rattle.smtlib_terms.specs.Operators.{unbound}
use Rattle.smtlib_terms.specs.Reading.{Mapped, head_of, mapped_head}
use Rattle.smtlib_terms.specs.Words.{is_reserved_word}
use Rattle.mbqi_terms.specs.HasSort.{IsDeclared, IsPointwise}
use Rattle.mbqi_terms.specs.InForm.{plain_lists}
use Rattle.smtlib_terms.specs.InForm.{AreArrays}
use Rattle.printed_trees.specs.Names.{AreSmall, AreToldApart, bindings_of, signature_of}
use Rattle.printed_trees.proofs.ReadParts.{list_is_head}
use Rattle.printed_trees.proofs.Scopes.{function_found}
use Rattle.printed_trees.specs.Trees.{map_tree, word_tree}
use Rattle.printed_trees.proofs.Meanings.{arrays_count, arrays_meant, arrays_over, arrays_terms, unbound_ok}
use Rattle.printed_trees.proofs.Words.{no_word}
use Rattle.mbqi_terms.specs.Sort.{plain_sort}

and_reserved : is_reserved_word (codes "and") ≡ true
unfolding is_reserved_word
and_reserved = refl

or_reserved : is_reserved_word (codes "or") ≡ true
unfolding is_reserved_word
or_reserved = refl

not_reserved : is_reserved_word (codes "not") ≡ true
unfolding is_reserved_word
not_reserved = refl

-- the word of the function or connective
abbrev pub op_name : Script → MapOp → List ℕ
op_name script (op.Declared f) = name_in (slice_get script.functions f)
op_name script op.And = codes "and"
op_name script op.Or = codes "or"
op_name script op.Not = codes "not"

op_tree : (script : Script) (f : MapOp) → map_tree script f ≡ tree.Symbol (op_name script f)
op_tree script (op.Declared f) = refl
op_tree script op.And = refl
op_tree script op.Or = refl
op_tree script op.Not = refl

pub map_head : (script : Script) (f : MapOp) → head_of (tree.List (word_tree (codes "_") ∷ word_tree (codes "map") ∷ map_tree script f ∷ [])) ≡ Mapped (op_name script f)
map_head script f =
    list_is_head (word_tree (codes "_") ∷ word_tree (codes "map") ∷ map_tree script f ∷ [])
    ∙ ap (λ (t : Sexpr). mapped_head t) (op_tree script f)

-- what it takes
abbrev pub op_pointwise : MapOp → List Plain → Plain → Pointwise
op_pointwise f es e = record { op = f; places = map plain_sort es; result = e }

plain_own : (e : Plain) → plain_of (plain_sort e) ≡ e
plain_own plain.Truth = refl
plain_own plain.Int = refl
plain_own (plain.Elem s) = refl

truths : (n : ℕ) (ms : List Meaning) → length ms ≡ length (map plain_sort (replicate n plain.Truth)) → map (λ (m : Meaning). sort.Truth) ms ≡ map plain_sort (replicate n plain.Truth)
truths zero [] e = refl
truths zero (m ∷ ms) e = absurd (omega arith)
truths (suc n) [] e = absurd (omega arith)
truths (suc n) (m ∷ ms) e = ap (λ (more : List Sort). sort.Truth ∷ more) (truths n ms (omega arith))

declared_read : (script : Script) (marks : ℕ) (told : AreToldApart script marks) (scope : List Binder) (small : AreSmall scope) (number : ℕ) (es : List Plain) (e : Plain) (ms : List Meaning) →
    IsDeclared (plain_lists script.functions) number (map plain_sort es) (plain_sort e) → pointwise_named (signature_of script) (bindings_of marks scope) (op_name script (op.Declared number)) ms ≡ Ok (op_pointwise (op.Declared number) es e)
declared_read script marks told scope small number es e ms d =
    let is = function_found script marks number d.function told d.there in
    let one = no_word d.function.name (codes "and") is.no_word and_reserved in
    let two = no_word d.function.name (codes "or") is.no_word or_reserved in
    let three = no_word d.function.name (codes "not") is.no_word not_reserved in
    let four = is.no_word in
    let named : pointwise_named (signature_of script) (bindings_of marks scope) d.function.name ms ≡ Ok (op_pointwise (op.Declared number) es e) =
    rw (one, two, three, four)
    (ap (bound_pointwise (signature_of script) d.function.name) (is.unbound scope small)
    ∙ (ap function_pointwise is.found
    ∙ (ap (λ (sorts : List Sort). Ok (record { op = op.Declared number; places = sorts; result = plain_of d.function.result })) d.takes
    ∙ ap (λ (p : Plain). Ok (op_pointwise (op.Declared number) es p)) (ap plain_of d.gives ∙ plain_own e)))) in
    ap (λ (o : Option Function). pointwise_named (signature_of script) (bindings_of marks scope) (name_in o) ms) d.there ∙ named

pub pointwise_read : (script : Script) (marks : ℕ) (told : AreToldApart script marks) (scope : List Binder) (small : AreSmall scope) (f : MapOp) (es : List Plain) (e : Plain) (ms : List Meaning) →
    IsPointwise (plain_lists script.functions) f es e → length ms ≡ length (map plain_sort es) → pointwise_named (signature_of script) (bindings_of marks scope) (op_name script f) ms ≡ Ok (op_pointwise f es e)
pointwise_read script marks told scope small f es e ms (IsPointwise.declared number args result d) count = declared_read script marks told scope small number args result ms d
pointwise_read script marks told scope small f es e ms (IsPointwise.conjunction n) count =
    ap (λ (sorts : List Sort). Ok (record { op = op.And; places = sorts; result = plain.Truth })) (truths n ms count)
pointwise_read script marks told scope small f es e ms (IsPointwise.disjunction n) count =
    ap (λ (sorts : List Sort). Ok (record { op = op.Or; places = sorts; result = plain.Truth })) (truths n ms count)
pointwise_read script marks told scope small f es e ms IsPointwise.negation count = refl

-- over arrays of their sorts
eqb_same : (a b : ℕ) → a ≡ b → eqb a b ≡ true
eqb_same a b e = grind (arith, nat_tests)

over_ok : (f : MapOp) (i e : Plain) (es : List Plain) (a : ArrayTerm) (arrays : List ArrayTerm) (g : Plain) (gs : List Plain) →
    are_over i (map plain_sort (g ∷ gs)) (arrays_meant (a ∷ arrays) i (g ∷ gs)) ≡ true → arrays_of (arrays_meant (a ∷ arrays) i (g ∷ gs)) ≡ a ∷ arrays → varies (array.Map f (a ∷ arrays)) ≡ false →
    mapped_over (op_pointwise f (g ∷ gs) e) (arrays_meant (a ∷ arrays) i (g ∷ gs)) ≡ Ok (meaning.Array i e (array.Map f (a ∷ arrays)))
over_ok f i e es a arrays g gs over terms is =
    ap (λ (t : Bool). cond t (unbound i e (array.Map f (arrays_of (arrays_meant (a ∷ arrays) i (g ∷ gs))))) (Err WrongSort)) over
    ∙ (ap (λ (bs : List ArrayTerm). unbound i e (array.Map f bs)) terms ∙ unbound_ok i e (array.Map f (a ∷ arrays)) is)

some_over : (script : Script) (scope : List Binder) (f : MapOp) (i e : Plain) (es : List Plain) (a : ArrayTerm) (arrays : List ArrayTerm) → AreArrays script scope (a ∷ arrays) i es → varies (array.Map f (a ∷ arrays)) ≡ false →
    mapped_over (op_pointwise f es e) (arrays_meant (a ∷ arrays) i es) ≡ Ok (meaning.Array i e (array.Map f (a ∷ arrays)))
some_over script scope f i e [] a arrays hs is = elim hs [ ]
some_over script scope f i e (g ∷ gs) a arrays hs is =
    over_ok f i e (g ∷ gs) a arrays g gs (arrays_over script scope (a ∷ arrays) i (g ∷ gs) hs) (arrays_terms script scope (a ∷ arrays) i (g ∷ gs) hs) is

pub mapped_ok : (script : Script) (marks : ℕ) (told : AreToldApart script marks) (scope : List Binder) (small : AreSmall scope) (f : MapOp) (i e : Plain) (es : List Plain) (a : ArrayTerm) (arrays : List ArrayTerm) →
    IsPointwise (plain_lists script.functions) f es e → AreArrays script scope (a ∷ arrays) i es → varies (array.Map f (a ∷ arrays)) ≡ false →
    mapped (signature_of script) (bindings_of marks scope) (op_name script f) (arrays_meant (a ∷ arrays) i es) ≡ Ok (meaning.Array i e (array.Map f (a ∷ arrays)))
mapped_ok script marks told scope small f i e es a arrays p hs is =
    let ms = arrays_meant (a ∷ arrays) i es in
    let count = arrays_count script scope (a ∷ arrays) i es hs in
    ap (λ (r : Result Pointwise FaultKind). r >>= (λ (q : Pointwise). cond (eqb (length ms) (length q.places)) (mapped_over q ms) (Err WrongCount))) (pointwise_read script marks told scope small f es e ms p count)
    ∙ (ap (λ (t : Bool). cond t (mapped_over (op_pointwise f es e) ms) (Err WrongCount)) (eqb_same (length ms) (length (map plain_sort es)) count)
    ∙ some_over script scope f i e es a arrays hs is)
