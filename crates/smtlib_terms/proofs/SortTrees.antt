-- The sort that a tree means, by the variant of the tree.
use Rattle.std.proofs.Common.{◌≡◌, ℕ, List, [], ◌∷◌, Result, Err, refl}
use Rattle.std.specs.Prelude.{codes, if◌then◌else◌}
use Rattle.mbqi_values.specs.declared.fault.FaultKind.{FaultKind}
use Rattle.mbqi_values.specs.declared.fault.FaultKind.TheVariants.{BadForm}
use Rattle.mbqi_terms.specs.declared.sort.Sort.{Sort}
use Rattle.sexpr_text.specs.declared.tree.Sexpr.{Sexpr}
use Rattle.sexpr_text.specs.declared.tree.Sexpr.TheVariants as tree
use Rattle.sexpr_text.specs.declared.tree.Sexpr.TheBlock.{hidden-the_row-Sexpr-0}
use denote.Hole.Carrier.{hidden}
use Rattle.smtlib_terms.specs.Names.{◌>>=◌, array_sort, is_symbol, sort_meant, sort_named}

-- a list of these trees as a sort
abbrev pub list_meant : List Sexpr → List (List ℕ) → Result Sort FaultKind
list_meant (head ∷ i ∷ e ∷ []) sorts =
    if is_symbol (codes "Array") head then sort_meant i sorts >>= (λ index. sort_meant e sorts >>= (λ element. array_sort index element))
    else Err BadForm
list_meant items sorts = Err BadForm

pub sort_meant-List : (items : List Sexpr) (sorts : List (List ℕ)) → sort_meant (tree.List items) sorts ≡ list_meant items sorts
unfolding sort_meant hidden-the_row-Sexpr-0 hidden
sort_meant-List [] sorts = refl
sort_meant-List (a ∷ []) sorts = refl
sort_meant-List (a ∷ b ∷ []) sorts = refl
sort_meant-List (a ∷ b ∷ c ∷ []) sorts = refl
sort_meant-List (a ∷ b ∷ c ∷ d ∷ items) sorts = refl

pub sort_meant-Symbol : (name : List ℕ) (sorts : List (List ℕ)) → sort_meant (tree.Symbol name) sorts ≡ sort_named sorts name
unfolding sort_meant
sort_meant-Symbol name sorts = refl

pub sort_meant-Numeral : (text : List ℕ) (sorts : List (List ℕ)) → sort_meant (tree.Numeral text) sorts ≡ Err BadForm
unfolding sort_meant
sort_meant-Numeral text sorts = refl

pub sort_meant-Decimal : (text : List ℕ) (sorts : List (List ℕ)) → sort_meant (tree.Decimal text) sorts ≡ Err BadForm
unfolding sort_meant
sort_meant-Decimal text sorts = refl

pub sort_meant-Hex : (text : List ℕ) (sorts : List (List ℕ)) → sort_meant (tree.Hex text) sorts ≡ Err BadForm
unfolding sort_meant
sort_meant-Hex text sorts = refl

pub sort_meant-Binary : (text : List ℕ) (sorts : List (List ℕ)) → sort_meant (tree.Binary text) sorts ≡ Err BadForm
unfolding sort_meant
sort_meant-Binary text sorts = refl

pub sort_meant-Str : (text : List ℕ) (sorts : List (List ℕ)) → sort_meant (tree.Str text) sorts ≡ Err BadForm
unfolding sort_meant
sort_meant-Str text sorts = refl

pub sort_meant-Keyword : (text : List ℕ) (sorts : List (List ℕ)) → sort_meant (tree.Keyword text) sorts ≡ Err BadForm
unfolding sort_meant
sort_meant-Keyword text sorts = refl

pub ruleset sort_laws = (sort_meant-List, sort_meant-Symbol, sort_meant-Numeral, sort_meant-Decimal, sort_meant-Hex, sort_meant-Binary, sort_meant-Str, sort_meant-Keyword)
