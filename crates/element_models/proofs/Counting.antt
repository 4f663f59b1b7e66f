-- How many constants and elements there are.
use Rattle.std.proofs.Common.{◌≡◌, ℕ, ◌+◌, Bool, true, false, List, [], ◌∷◌, ◌++◌, length, length-append, refl, cond, arith}
use Rattle.mbqi_terms.specs.declared.script.Function.{Function}
use Rattle.mbqi_terms.specs.declared.term.Term.{Term}
use Rattle.element_atoms.specs.Profile.{is_constant, constant, constants_from, constants_of, seed}

-- The terms of the pool.
abbrev pub terms_of : List Function → List Term
terms_of functions = constants_of functions ++ seed ∷ []

-- How many elements the universe has: one for each constant, and one more.
abbrev pub size_of : List Function → ℕ
size_of functions = length (constants_of functions) + 1

abbrev pub constants_in : List Function → ℕ
constants_in [] = 0
constants_in (function ∷ functions) = cond (is_constant function) (1 + constants_in functions) (constants_in functions)

more : (b : Bool) (t : Term) (ts : List Term) (n : ℕ) → length ts ≡ n → length (cond b (t ∷ ts) ts) ≡ cond b (1 + n) n
more true t ts n is = omega (arith, is)
more false t ts n is = is

pub length_constants : (f : ℕ) (functions : List Function) → length (constants_from f functions) ≡ constants_in functions
length_constants f [] = refl
length_constants f (function ∷ functions) =
    more (is_constant function) (constant f) (constants_from (f + 1) functions) (constants_in functions) (length_constants (f + 1) functions)

-- each element is that of a term
pub length_terms : (functions : List Function) → length (terms_of functions) ≡ size_of functions
length_terms functions = length-append (constants_of functions) (seed ∷ [])
