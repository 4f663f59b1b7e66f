-- The lists of a script that number what its terms speak of: its functions, the Skolem symbols of its existential variables, and its arrays
-- (this project's own).
use Rattle.std.specs.Prelude.{ℕ, ◌+◌, Bool, true, List, [], ◌∷◌, ◌++◌, map, if◌then◌else◌}
use Rattle.std.specs.List.{fold, list_any}
use Rattle.mbqi_terms.specs.declared.arrays.Arrays.{Arrays}
use Rattle.mbqi_terms.specs.declared.arrays.SkolemSort.{SkolemSort}
use Rattle.mbqi_terms.specs.declared.formula.Formula.{Formula}
use Rattle.mbqi_terms.specs.declared.formula.Formula.TheFolds.{fold-Formula}
use Rattle.mbqi_terms.specs.declared.formula.Formula.TheOpen.{Formula-F}
use Rattle.mbqi_terms.specs.declared.script.Assertion.{Assertion}
use Rattle.mbqi_terms.specs.declared.script.Script.{Script}
use Rattle.mbqi_terms.specs.declared.store.lists.Lists.{Lists}
use Rattle.mbqi_terms.specs.declared.term.ArrayTerm.{ArrayTerm}
use Rattle.mbqi_terms.specs.declared.term.ArrayTerm.TheFolds.{fold-ArrayTerm, fold-Term}
use Rattle.mbqi_terms.specs.declared.term.ArrayTerm.TheOpen.{ArrayTerm-F, Symbol-F, Term-F}
use Rattle.mbqi_terms.specs.declared.term.ArrayTerm.TheViews.{roll-ArrayTerm, roll-Symbol, roll-Term}
use Rattle.mbqi_terms.specs.declared.term.Symbol.{Symbol}
use Rattle.mbqi_terms.specs.declared.term.Term.{Term}
use Rattle.mbqi_terms.specs.Binders.{skolems_at}
use Rattle.mbqi_terms.specs.SameTree.{same_array, same_pair}

-- The Skolem symbols of assertions, from number k on: by assertion and place.
abbrev pub skolems_from : ℕ → List Assertion → List SkolemSort
skolems_from k [] = []
skolems_from k (assertion ∷ assertions) = skolems_at k assertion.formula true [] ++ skolems_from (k + 1) assertions

abbrev pub skolems_of : Script → List SkolemSort
skolems_of script = skolems_from 0 script.assertions

abbrev pub no_arrays : Arrays
no_arrays = record { terms = []; atoms = []; defaults = [] }

-- Arrays that were found at two places, in order, and at several.
abbrev pub joined : Arrays → Arrays → Arrays
joined a b = record { terms = a.terms ++ b.terms; atoms = a.atoms ++ b.atoms; defaults = a.defaults ++ b.defaults }

abbrev pub all_joined : List Arrays → Arrays
all_joined found = fold joined no_arrays found

-- A tree beside the arrays that stand anywhere in it, inner ones first: also in the indices and values of array terms.
pub record WithArrays (X : Type 0) : Type 0 where
  pub tree : X
  pub found : Arrays

abbrev pub trees_in : {X : Type 0} → List (WithArrays X) → List X
trees_in {X} parts = map (λ (part : WithArrays X). part.tree) parts

abbrev pub found_in : {X : Type 0} → List (WithArrays X) → Arrays
found_in {X} parts = all_joined (map (λ (part : WithArrays X). part.found) parts)

-- The array term itself comes behind those in it.
abbrev pub with_itself : ArrayTerm → Arrays → WithArrays ArrayTerm
with_itself a inner = record { tree = a; found = joined inner (record { terms = a ∷ []; atoms = []; defaults = [] }) }

abbrev pub array_arrays : ArrayTerm-F (WithArrays ArrayTerm) (WithArrays Symbol) (WithArrays Term) → WithArrays ArrayTerm
array_arrays (ArrayTerm-F.Name f) = with_itself (roll-ArrayTerm (ArrayTerm-F.Name f)) no_arrays
array_arrays (ArrayTerm-F.Store a i v) =
    with_itself (roll-ArrayTerm (ArrayTerm-F.Store a.tree i.tree v.tree)) (joined a.found (joined i.found v.found))
array_arrays (ArrayTerm-F.Const s v) = with_itself (roll-ArrayTerm (ArrayTerm-F.Const s v.tree)) v.found
array_arrays (ArrayTerm-F.Map f parts) = with_itself (roll-ArrayTerm (ArrayTerm-F.Map f (trees_in parts))) (found_in parts)

-- The pair of a difference index is an equality that a store has to list.
abbrev pub symbol_arrays : Symbol-F (WithArrays ArrayTerm) (WithArrays Symbol) (WithArrays Term) → WithArrays Symbol
symbol_arrays (Symbol-F.Declared f) = record { tree = roll-Symbol (Symbol-F.Declared f); found = no_arrays }
symbol_arrays (Symbol-F.Skolem assertion place) = record { tree = roll-Symbol (Symbol-F.Skolem assertion place); found = no_arrays }
symbol_arrays (Symbol-F.Seed s) = record { tree = roll-Symbol (Symbol-F.Seed s); found = no_arrays }
symbol_arrays Symbol-F.Far = record { tree = roll-Symbol Symbol-F.Far; found = no_arrays }
symbol_arrays (Symbol-F.Diff a b) = record {
  tree = roll-Symbol (Symbol-F.Diff a.tree b.tree);
  found = joined (joined a.found b.found) (record { terms = []; atoms = record { left = a.tree; right = b.tree } ∷ []; defaults = [] });
}

-- An array term under `default` is an array whose default is named, too.
abbrev pub term_arrays : Term-F (WithArrays ArrayTerm) (WithArrays Symbol) (WithArrays Term) → WithArrays Term
term_arrays (Term-F.Num n) = record { tree = roll-Term (Term-F.Num n); found = no_arrays }
term_arrays (Term-F.Plus t n) = record { tree = roll-Term (Term-F.Plus t.tree n); found = t.found }
term_arrays (Term-F.Var place) = record { tree = roll-Term (Term-F.Var place); found = no_arrays }
term_arrays (Term-F.Truth b) = record { tree = roll-Term (Term-F.Truth b); found = no_arrays }
term_arrays (Term-F.Apply f ts) = record { tree = roll-Term (Term-F.Apply f.tree (trees_in ts)); found = joined f.found (found_in ts) }
term_arrays (Term-F.Read a i) = record { tree = roll-Term (Term-F.Read a.tree i.tree); found = joined a.found i.found }
term_arrays (Term-F.Default a) = record {
  tree = roll-Term (Term-F.Default a.tree);
  found = joined a.found (record { terms = []; atoms = []; defaults = a.tree ∷ [] });
}

unfoldable pub arrays_in_term : Term → Arrays
arrays_in_term t =
    (fold-Term (WithArrays ArrayTerm) (WithArrays Symbol) (WithArrays Term) array_arrays symbol_arrays term_arrays t).found

unfoldable pub arrays_in_array : ArrayTerm → Arrays
arrays_in_array a =
    (fold-ArrayTerm (WithArrays ArrayTerm) (WithArrays Symbol) (WithArrays Term) array_arrays symbol_arrays term_arrays a).found

-- An equality of arrays is a pair.
abbrev pub formula_arrays : Formula-F Arrays → Arrays
formula_arrays (Formula-F.Truth b) = no_arrays
formula_arrays (Formula-F.Atom t) = arrays_in_term t
formula_arrays (Formula-F.Equal s t) = joined (arrays_in_term s) (arrays_in_term t)
formula_arrays (Formula-F.AtMost s t) = joined (arrays_in_term s) (arrays_in_term t)
formula_arrays (Formula-F.SameArray a b) = joined (joined (arrays_in_array a) (arrays_in_array b))
    (record { terms = []; atoms = record { left = a; right = b } ∷ []; defaults = [] })
formula_arrays (Formula-F.Not f) = f
formula_arrays (Formula-F.All parts) = all_joined parts
formula_arrays (Formula-F.Any parts) = all_joined parts
formula_arrays (Formula-F.Iff f g) = joined f g
formula_arrays (Formula-F.Choose c f g) = joined c (joined f g)
formula_arrays (Formula-F.Forall binders f) = f
formula_arrays (Formula-F.Exists binders f) = f

unfoldable pub arrays_in : Formula → Arrays
arrays_in f = fold-Formula Arrays formula_arrays f

-- Each element once, where it stands first.
abbrev pub once_behind : {X : Type 0} → (X → X → Bool) → List X → List X → List X
once_behind same seen [] = []
once_behind same seen (x ∷ xs) = if list_any (same x) seen then once_behind same seen xs else x ∷ once_behind same (x ∷ seen) xs

abbrev pub each_once : Arrays → Arrays
each_once a = record {
  terms = once_behind same_array [] a.terms;
  atoms = once_behind same_pair [] a.atoms;
  defaults = once_behind same_array [] a.defaults;
}

-- The array terms, the equalities of arrays and the arrays under `default` of a script, each once, in order of first appearance.
abbrev pub arrays_of : Script → Arrays
arrays_of script = each_once (all_joined (map (λ (assertion : Assertion). arrays_in assertion.formula) script.assertions))

abbrev pub lists_of : Script → Lists
lists_of script = record { functions = script.functions; skolems = skolems_of script; arrays = arrays_of script }
