-- The variables that the quantifiers of a formula bind (SMT-LIB 2.6, section 3.6), and their Skolem symbols (Skolem form, with this
-- project's numbers for Skolem symbols).
use Rattle.std.specs.Prelude.{ℕ, ◌+◌, ◌≡◌, Bool, true, false, not, ◌||◌, nat_lt, List, [], ◌++◌, length, map, sum, if◌then◌else◌}
use Rattle.std.specs.List.{flat_map, list_any}
use Rattle.mbqi_terms.specs.declared.arrays.SkolemSort.{SkolemSort}
use Rattle.mbqi_terms.specs.declared.formula.Formula.{Formula}
use Rattle.mbqi_terms.specs.declared.formula.Formula.TheFolds.{fold-Formula}
use Rattle.mbqi_terms.specs.declared.formula.Formula.TheOpen.{Formula-F}
use Rattle.mbqi_terms.specs.declared.sort.Binder.{Binder}
use Rattle.mbqi_terms.specs.declared.sort.Sort.{Sort}

-- How many variables the quantifiers of a formula bind.
abbrev pub formula_variables : Formula-F ℕ → ℕ
formula_variables (Formula-F.Truth b) = 0
formula_variables (Formula-F.Atom t) = 0
formula_variables (Formula-F.Equal s t) = 0
formula_variables (Formula-F.AtMost s t) = 0
formula_variables (Formula-F.SameArray a b) = 0
formula_variables (Formula-F.Not f) = f
formula_variables (Formula-F.All parts) = sum parts
formula_variables (Formula-F.Any parts) = sum parts
formula_variables (Formula-F.Iff f g) = f + g
formula_variables (Formula-F.Choose c f g) = c + (f + g)
formula_variables (Formula-F.Forall binders f) = length binders + f
formula_variables (Formula-F.Exists binders f) = length binders + f

unfoldable pub variables_in : Formula → ℕ
variables_in f = fold-Formula ℕ formula_variables f

-- Whether its quantifiers bind a variable. In a formula in form each quantifier does.
abbrev pub is_quantified : Formula → Bool
is_quantified f = nat_lt 0 (variables_in f)

-- Whether a quantifier stands in a formula, also one that binds nothing.
abbrev pub quantifier_layer : Formula-F Bool → Bool
quantifier_layer (Formula-F.Truth b) = false
quantifier_layer (Formula-F.Atom t) = false
quantifier_layer (Formula-F.Equal s t) = false
quantifier_layer (Formula-F.AtMost s t) = false
quantifier_layer (Formula-F.SameArray a b) = false
quantifier_layer (Formula-F.Not f) = f
quantifier_layer (Formula-F.All parts) = list_any (λ part. part) parts
quantifier_layer (Formula-F.Any parts) = list_any (λ part. part) parts
quantifier_layer (Formula-F.Iff f g) = f || g
quantifier_layer (Formula-F.Choose c f g) = c || (f || g)
quantifier_layer (Formula-F.Forall binders f) = true
quantifier_layer (Formula-F.Exists binders f) = true

unfoldable pub has_quantifier : Formula → Bool
has_quantifier f = fold-Formula Bool quantifier_layer f

abbrev pub IsQuantifierFree : Formula → Type 0
IsQuantifierFree f = has_quantifier f ≡ false

-- The universal variables of a formula at a polarity, in order of the text: those of a `forall` at positive and of an `exists` at
-- negative polarity. The others are existential.
abbrev pub universal_layer : Formula-F (Bool → List Binder) → Bool → List Binder
universal_layer (Formula-F.Truth t) b = []
universal_layer (Formula-F.Atom t) b = []
universal_layer (Formula-F.Equal s t) b = []
universal_layer (Formula-F.AtMost s t) b = []
universal_layer (Formula-F.SameArray s t) b = []
universal_layer (Formula-F.Not f) b = f (not b)
universal_layer (Formula-F.All parts) b = flat_map (λ (part : Bool → List Binder). part b) parts
universal_layer (Formula-F.Any parts) b = flat_map (λ (part : Bool → List Binder). part b) parts
universal_layer (Formula-F.Iff f g) b = []
universal_layer (Formula-F.Choose c f g) b = f b ++ g b
universal_layer (Formula-F.Forall binders f) b = (if b then binders else []) ++ f b
universal_layer (Formula-F.Exists binders f) b = (if b then [] else binders) ++ f b

unfoldable pub universals_at : Formula → Bool → List Binder
universals_at f = fold-Formula (Bool → List Binder) universal_layer f

-- The existential variables at a polarity are the universal ones at the other.
abbrev pub existentials_at : Formula → Bool → List Binder
existentials_at f b = universals_at f (not b)

abbrev pub binder_sorts : List Binder → List Sort
binder_sorts binders = map (λ (binder : Binder). binder.sort) binders

-- The Skolem symbols of existential variables below universal ones of these sorts, outermost first.
abbrev pub skolem_sorts : ℕ → List Sort → List Binder → List SkolemSort
skolem_sorts assertion outer binders =
    map (λ (binder : Binder). record { assertion = assertion; place = binder.place; args = outer; result = binder.sort }) binders

-- The Skolem symbols of the existential variables of an assertion at a polarity, in order of the text. One has the variable's sort, and an
-- argument for each universal variable whose quantifier encloses that of its own, outermost first; `outer` has the sorts of these.
abbrev pub skolem_layer : ℕ → Formula-F (Bool → List Sort → List SkolemSort) → Bool → List Sort → List SkolemSort
skolem_layer assertion (Formula-F.Truth t) b outer = []
skolem_layer assertion (Formula-F.Atom t) b outer = []
skolem_layer assertion (Formula-F.Equal s t) b outer = []
skolem_layer assertion (Formula-F.AtMost s t) b outer = []
skolem_layer assertion (Formula-F.SameArray s t) b outer = []
skolem_layer assertion (Formula-F.Not f) b outer = f (not b) outer
skolem_layer assertion (Formula-F.All parts) b outer = flat_map (λ (part : Bool → List Sort → List SkolemSort). part b outer) parts
skolem_layer assertion (Formula-F.Any parts) b outer = flat_map (λ (part : Bool → List Sort → List SkolemSort). part b outer) parts
skolem_layer assertion (Formula-F.Iff f g) b outer = []
skolem_layer assertion (Formula-F.Choose c f g) b outer = f b outer ++ g b outer
skolem_layer assertion (Formula-F.Forall binders f) b outer =
    if b then f b (outer ++ binder_sorts binders) else skolem_sorts assertion outer binders ++ f b outer
skolem_layer assertion (Formula-F.Exists binders f) b outer =
    if b then skolem_sorts assertion outer binders ++ f b outer else f b (outer ++ binder_sorts binders)

unfoldable pub skolems_at : ℕ → Formula → Bool → List Sort → List SkolemSort
skolems_at assertion f = fold-Formula (Bool → List Sort → List SkolemSort) (skolem_layer assertion) f
