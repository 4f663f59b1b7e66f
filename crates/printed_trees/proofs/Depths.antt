-- The depths of parts, and of what terms mean.
use Rattle.std.proofs.Common.{◌≡◌, ◌≤◌, ℕ, max, List, [], ◌∷◌, refl, arith}
use Rattle.std.specs.List.{fold}
use Rattle.mbqi_terms.specs.declared.sort.Plain.{Plain}
use Rattle.mbqi_terms.specs.declared.sort.Plain.TheVariants as plain
use Rattle.mbqi_terms.specs.declared.term.Term.{Term}
use Rattle.smtlib_terms.specs.Meaning.{depth_of, sort_of}
use Rattle.mbqi_terms.specs.Depth.{deepest, depth_of_term}
use Rattle.smtlib_terms.specs.Operators.{term_meant}
use Rattle.measured_terms.proofs.FormulaLaws.{depth-Atom}
use Rattle.mbqi_terms.specs.Sort.{plain_sort}

more_deep : (n m : ℕ) (ds : List ℕ) → n ≤ m → fold max n ds ≤ fold max m ds
more_deep n m [] le = le
more_deep n m (d ∷ ds) le = more_deep (max n d) (max m d) ds (omega arith)

from_deep : (n : ℕ) (ds : List ℕ) → n ≤ fold max n ds
from_deep n [] = omega arith
from_deep n (d ∷ ds) = let later = from_deep (max n d) ds in omega arith

pub first_deep : (d : ℕ) (ds : List ℕ) → d ≤ deepest (d ∷ ds)
first_deep d ds = let later = from_deep (max 0 d) ds in omega arith

pub rest_deep : (d : ℕ) (ds : List ℕ) → deepest ds ≤ deepest (d ∷ ds)
rest_deep d ds = more_deep 0 (max 0 d) ds (omega arith)

pub meant_deep : (s : Plain) (t : Term) → depth_of (term_meant s t) ≡ depth_of_term t
meant_deep plain.Truth t = depth-Atom t
meant_deep plain.Int t = refl
meant_deep (plain.Elem s) t = refl

pub meant_sort : (s : Plain) (t : Term) → sort_of (term_meant s t) ≡ plain_sort s
meant_sort plain.Truth t = refl
meant_sort plain.Int t = refl
meant_sort (plain.Elem s) t = refl
