-- Which terms are in form over lists of functions, Skolem symbols and arrays (this project's own).
use Rattle.std.specs.Prelude.{◌≡◌, ◌≢◌, pos, List, [], ◌∷◌, Option, Some, None, IfSome, IsSome, All, Contains}
use Rattle.mbqi_terms.specs.declared.arrays.ArrayPair.{ArrayPair}
use Rattle.mbqi_terms.specs.declared.formula.Formula.{Formula}
use Rattle.std.specs.List.{AllZip}
use Rattle.std.specs.Option.{option_map}
use Rattle.mbqi_terms.specs.declared.sort.Sort.{Sort}
use Rattle.mbqi_terms.specs.declared.sort.Sort.TheVariants.{Int}
use Rattle.mbqi_terms.specs.declared.store.lists.Lists.{Lists}
use Rattle.mbqi_terms.specs.declared.term.ArrayTerm.TheOpen.{Symbol-F, Term-F}
use Rattle.mbqi_terms.specs.declared.term.ArrayTerm.{ArrayTerm}
use Rattle.mbqi_terms.specs.declared.term.Symbol.{Symbol, out-Symbol}
use Rattle.mbqi_terms.specs.declared.term.Term.{Term, out-Term}
use Rattle.mbqi_terms.specs.Parts.{pairs_in, terms_in}
use Rattle.mbqi_terms.specs.ScriptLists.{arrays_in_array}
use Rattle.mbqi_terms.specs.Lists.{symbol_layer_places, index_sort, element_sort, sort_of_term}
use Rattle.mbqi_terms.specs.Tree.{Layer, IsBase, IsPart}

-- A term in the place of a sort: a variable, or a term of that sort.
abbrev pub Suits : Lists → Sort → Term → Type 0
Suits l sort t = IfSome (sort_of_term l t) (λ own. own ≡ sort)

-- As many arguments as there are places, each in a place of its sort. Where the lists have no places, there are none.
abbrev pub FitPlaces : Lists → Option (List Sort) → List Term → Type 0
FitPlaces l None ts = ⊥
FitPlaces l (Some sorts) ts = AllZip (Suits l) sorts ts

-- A difference index is of a listed pair.
abbrev pub IsPairListed : Lists → Symbol-F ArrayTerm Symbol Term → Type 0
IsPairListed l (Symbol-F.Diff a b) = Contains l.arrays.atoms (record { left = a; right = b })
IsPairListed l symbol = Unit {0}

-- One level of a term is in form: a sum is of an integer term that is no numeral and no sum, with a number that isn't 0; a symbol has
-- its arguments by number and sort; an array term that is read, or whose default is named, is listed and has the sorts of an array.
abbrev pub IsLayerInForm : Lists → Layer → Type 0
IsLayerInForm l (Term-F.Num n) = Unit {0}
IsLayerInForm l (Term-F.Plus t n) = IsBase (out-Term t) × (n ≢ pos 0) × Suits l Int t
IsLayerInForm l (Term-F.Var k) = Unit {0}
IsLayerInForm l (Term-F.Truth b) = Unit {0}
IsLayerInForm l (Term-F.Apply f ts) = FitPlaces l (symbol_layer_places l (out-Symbol f)) ts × IsPairListed l (out-Symbol f)
IsLayerInForm l (Term-F.Read a i) = Contains l.arrays.terms a × FitPlaces l (option_map (λ sort. sort ∷ []) (index_sort l a)) (i ∷ [])
IsLayerInForm l (Term-F.Default a) = Contains l.arrays.terms a × IsSome (element_sort l a)

-- Each part of the term is in form.
abbrev pub IsTermInForm : Lists → Term → Type 0
IsTermInForm l t = (part : Term) → IsPart part t → IsLayerInForm l (out-Term part)

-- Listing apart from sorts: the arrays that one level of a term names are listed, those that are read, or whose default is named, and the
-- pair of a difference index.
abbrev pub IsLayerListed : Lists → Layer → Type 0
IsLayerListed l (Term-F.Num n) = Unit {0}
IsLayerListed l (Term-F.Plus t n) = Unit {0}
IsLayerListed l (Term-F.Var k) = Unit {0}
IsLayerListed l (Term-F.Truth b) = Unit {0}
IsLayerListed l (Term-F.Apply f ts) = IsPairListed l (out-Symbol f)
IsLayerListed l (Term-F.Read a i) = Contains l.arrays.terms a
IsLayerListed l (Term-F.Default a) = Contains l.arrays.terms a

-- So are those of each part of a term. A term that has a sort and whose arrays are listed is what a store takes.
abbrev pub IsTermListed : Lists → Term → Type 0
IsTermListed l t = (part : Term) → IsPart part t → IsLayerListed l (out-Term part)

-- So are the sides of a formula's equalities of arrays, and the pairs themselves.
pub record IsPairOf (l : Lists) (pair : ArrayPair) : Type 0 where
  pub atom : Contains l.arrays.atoms pair
  pub left : Contains l.arrays.terms pair.left
  pub right : Contains l.arrays.terms pair.right

pub record IsFormulaListed (l : Lists) (f : Formula) : Type 0 where
  pub terms : All (IsTermListed l) (terms_in f)
  pub pairs : All (IsPairOf l) (pairs_in f)

-- The array terms that stand in listed ones are listed too.
abbrev pub AreClosed : Lists → Type 0
AreClosed l = (a b : ArrayTerm) → Contains l.arrays.terms a → Contains (arrays_in_array a).terms b → Contains l.arrays.terms b
