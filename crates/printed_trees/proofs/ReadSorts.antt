-- How sorts read.
use Rattle.std.proofs.Common.{◌≡◌, ◌<◌, ℕ, true, false, List, [], ◌∷◌, length, Option, Some, slice_get, unwrap_or, Result, Ok, refl, sym, ap, ◌∙◌, subst}
use Rattle.std.specs.Prelude.{codes}
use Rattle.std.proofs.lemmas.Option.{slice_get-get_or}
use Rattle.mbqi_values.specs.declared.fault.FaultKind.{FaultKind}
use Rattle.mbqi_terms.specs.declared.script.Script.{Script}
use Rattle.mbqi_terms.specs.declared.sort.Plain.{Plain}
use Rattle.mbqi_terms.specs.declared.sort.Plain.TheVariants as plain
use Rattle.mbqi_terms.specs.declared.sort.Sort.{Sort}
use Rattle.mbqi_terms.specs.declared.sort.Sort.TheVariants as sort
use Rattle.smtlib_terms.specs.Names.{◌>>=◌, array_sort, found_sort, place_of, sort_meant, sort_named}
use Rattle.smtlib_terms.specs.Words.{is_reserved_word}
use Rattle.smtlib_terms.proofs.SortTrees.{sort_meant-List, sort_meant-Symbol}
use Rattle.mbqi_terms.specs.HasSort.{IsIndexSort, IsPlainSort}
use Rattle.mbqi_terms.specs.InForm.{IsVariableSort}
use Rattle.printed_trees.specs.Names.{AreToldApart}
use Rattle.printed_trees.proofs.Lists.{place_at}
use Rattle.printed_trees.specs.Trees.{plain_tree, sort_name_tree, sort_tree, word_tree}
use Rattle.printed_trees.proofs.Spelled.{index_plain, sort_is_name}
use Rattle.printed_trees.proofs.Words.{no_reserved_word, no_word}
use Rattle.mbqi_terms.specs.Sort.{plain_sort}

bool_reserved : is_reserved_word (codes "Bool") ≡ true
unfolding is_reserved_word
bool_reserved = refl

int_reserved : is_reserved_word (codes "Int") ≡ true
unfolding is_reserved_word
int_reserved = refl

-- a declared sort, by its name
name_read : (sorts : List (List ℕ)) (name : List ℕ) (s : ℕ) → is_reserved_word name ≡ false → place_of name sorts ≡ Some s → sort_named sorts name ≡ Ok (sort.Elem s)
name_read sorts name s free at =
    let one = no_word name (codes "Bool") free bool_reserved in
    let two = no_word name (codes "Int") free int_reserved in
    rw (one, two) (ap found_sort at)

sort_at_place : (script : Script) (s : ℕ) → s < length script.sorts → slice_get script.sorts s ≡ Some (unwrap_or (slice_get script.sorts s) [])
sort_at_place script s there =
    let at = slice_get-get_or script.sorts s [] there in
    subst (λ (o : Option (List ℕ)). o ≡ Some (unwrap_or o [])) (sym at) refl

pub sort_name_means : (script : Script) (marks s : ℕ) → AreToldApart script marks → s < length script.sorts → sort_meant (sort_name_tree script s) script.sorts ≡ Ok (sort.Elem s)
sort_name_means script marks s told there =
    let name = unwrap_or (slice_get script.sorts s) [] in
    sort_meant-Symbol name script.sorts
    ∙ name_read script.sorts name s (no_reserved_word name (sort_is_name script marks s told there).free) (place_at name script.sorts s told.named.sorts_differ (sort_at_place script s there))

pub plain_means : (script : Script) (marks : ℕ) (s : Plain) → AreToldApart script marks → IsPlainSort (length script.sorts) s → sort_meant (plain_tree script s) script.sorts ≡ Ok (plain_sort s)
plain_means script marks plain.Truth told is = sort_meant-Symbol (codes "Bool") script.sorts
plain_means script marks plain.Int told is = sort_meant-Symbol (codes "Int") script.sorts
plain_means script marks (plain.Elem s) told is = sort_name_means script marks s told is

array_is : (script : Script) (i e : Plain) → IsIndexSort (length script.sorts) i → array_sort (plain_sort i) (plain_sort e) ≡ Ok (sort.Array i e)
array_is script plain.Truth e is = absurd is
array_is script plain.Int plain.Truth is = refl
array_is script plain.Int plain.Int is = refl
array_is script plain.Int (plain.Elem t) is = refl
array_is script (plain.Elem s) plain.Truth is = refl
array_is script (plain.Elem s) plain.Int is = refl
array_is script (plain.Elem s) (plain.Elem t) is = refl

pub array_sort_means : (script : Script) (marks : ℕ) (i e : Plain) → AreToldApart script marks → IsIndexSort (length script.sorts) i → IsPlainSort (length script.sorts) e → sort_meant (sort_tree script (sort.Array i e)) script.sorts ≡ Ok (sort.Array i e)
array_sort_means script marks i e told index element =
    sort_meant-List (word_tree (codes "Array") ∷ plain_tree script i ∷ plain_tree script e ∷ []) script.sorts
    ∙ (ap (λ (r : Result Sort FaultKind). r >>= (λ (index : Sort). sort_meant (plain_tree script e) script.sorts >>= (λ (element : Sort). array_sort index element))) (plain_means script marks i told (index_plain script i index))
    ∙ (ap (λ (r : Result Sort FaultKind). r >>= (λ (element : Sort). array_sort (plain_sort i) element)) (plain_means script marks e told element)
    ∙ array_is script i e index))

pub variable_sort_means : (script : Script) (marks : ℕ) (s : Sort) → AreToldApart script marks → IsVariableSort (length script.sorts) s → sort_meant (sort_tree script s) script.sorts ≡ Ok s
variable_sort_means script marks sort.Truth told is = absurd is
variable_sort_means script marks sort.Int told is = sort_meant-Symbol (codes "Int") script.sorts
variable_sort_means script marks (sort.Elem s) told is = sort_name_means script marks s told is
variable_sort_means script marks (sort.Array i e) told is = absurd is
