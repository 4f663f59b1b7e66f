use Rattle.std.specs.Prelude.{ℕ, ◌+◌, Bool, false, nat_le, map, Result, Ok, Err, if◌then◌else◌}
use Rattle.mbqi_values.specs.declared.fault.FaultKind.{FaultKind}
use Rattle.mbqi_values.specs.declared.fault.FaultKind.TheVariants.{TooDeep}
use Rattle.mbqi_terms.specs.declared.formula.Formula.{Formula}
use Rattle.mbqi_terms.specs.declared.formula.Formula.TheFolds.{fold-Formula}
use Rattle.mbqi_terms.specs.declared.formula.Formula.TheOpen.{Formula-F}
use Rattle.mbqi_terms.specs.declared.formula.Formula.TheVariants as formula
use Rattle.mbqi_terms.specs.declared.sort.Binder.{Binder}
use Rattle.mbqi_terms.specs.declared.sort.Sort.{Sort}
use Rattle.mbqi_terms.specs.declared.sort.Sort.TheVariants as sort
use Rattle.mbqi_terms.specs.declared.term.ArrayTerm.{ArrayTerm}
use Rattle.mbqi_terms.specs.declared.term.ArrayTerm.TheFolds.{fold-Term}
use Rattle.mbqi_terms.specs.declared.term.ArrayTerm.TheOpen.{Term-F}
use Rattle.mbqi_terms.specs.declared.term.ArrayTerm.TheViews.{roll-ArrayTerm, roll-Symbol, roll-Term}
use Rattle.mbqi_terms.specs.declared.term.Symbol.{Symbol}
use Rattle.mbqi_terms.specs.declared.term.Term.{Term}
use Rattle.mbqi_terms.specs.declared.term.Term.TheVariants as term
use Rattle.mbqi_terms.specs.Binders.{variables_in}
use Rattle.mbqi_terms.specs.Depth.{depth_of_array, depth_of_formula, depth_of_term}
use Rattle.mbqi_terms.specs.Limits.{depth_limit}
use Rattle.mbqi_terms.specs.Varies.{varies, varies_term}
use Rattle.smtlib_terms.specs.declared.meaning.Meaning.{Meaning}
use Rattle.smtlib_terms.specs.declared.meaning.Meaning.TheVariants as meaning

-- The sort of what a tree means.
abbrev pub sort_of : Meaning → Sort
sort_of (meaning.Formula f) = sort.Truth
sort_of (meaning.Term s t) = s
sort_of (meaning.Array i e a) = sort.Array i e

abbrev pub depth_of : Meaning → ℕ
depth_of (meaning.Formula f) = depth_of_formula f
depth_of (meaning.Term s t) = depth_of_term t
depth_of (meaning.Array i e a) = depth_of_array a

-- What is too deep is refused.
abbrev pub shallow : Meaning → Result Meaning FaultKind
shallow m = if nat_le (depth_of m) depth_limit then Ok m else Err TooDeep

-- The kind of a refusal of what has a tree all the same: where the tree is too deep, this comes first.
abbrev pub unless_deep : FaultKind → ℕ → FaultKind
unless_deep kind depth = if nat_le depth depth_limit then kind else TooDeep

abbrev pub variables_of : Meaning → ℕ
variables_of (meaning.Formula f) = variables_in f
variables_of (meaning.Term s t) = 0
variables_of (meaning.Array i e a) = 0

-- The place of a variable where those from `from` on move up by so many places.
abbrev pub shifted_place : ℕ → ℕ → ℕ → ℕ
shifted_place from by place = if nat_le from place then place + by else place

abbrev pub shifted_binder : ℕ → ℕ → Binder → Binder
shifted_binder from by binder = record binder { place = shifted_place from by binder.place }

abbrev pub shift_term : ℕ → ℕ → Term-F ArrayTerm Symbol Term → Term
shift_term from by (Term-F.Var place) = term.Var (shifted_place from by place)
shift_term from by (Term-F.Num n) = roll-Term (Term-F.Num n)
shift_term from by (Term-F.Plus t n) = roll-Term (Term-F.Plus t n)
shift_term from by (Term-F.Truth b) = roll-Term (Term-F.Truth b)
shift_term from by (Term-F.Apply symbol args) = roll-Term (Term-F.Apply symbol args)
shift_term from by (Term-F.Read a i) = roll-Term (Term-F.Read a i)
shift_term from by (Term-F.Default a) = roll-Term (Term-F.Default a)

-- The term with its variables moved.
unfoldable pub shifted_term : ℕ → ℕ → Term → Term
shifted_term from by t = fold-Term ArrayTerm Symbol Term roll-ArrayTerm roll-Symbol (shift_term from by) t

abbrev pub shift_formula : ℕ → ℕ → Formula-F Formula → Formula
shift_formula from by (Formula-F.Truth b) = formula.Truth b
shift_formula from by (Formula-F.Atom t) = formula.Atom (shifted_term from by t)
shift_formula from by (Formula-F.Equal s t) = formula.Equal (shifted_term from by s) (shifted_term from by t)
shift_formula from by (Formula-F.AtMost s t) = formula.AtMost (shifted_term from by s) (shifted_term from by t)
shift_formula from by (Formula-F.SameArray a b) = formula.SameArray a b
shift_formula from by (Formula-F.Not f) = formula.Not f
shift_formula from by (Formula-F.All parts) = formula.All parts
shift_formula from by (Formula-F.Any parts) = formula.Any parts
shift_formula from by (Formula-F.Iff f g) = formula.Iff f g
shift_formula from by (Formula-F.Choose c f g) = formula.Choose c f g
shift_formula from by (Formula-F.Forall binders f) = formula.Forall (map (shifted_binder from by) binders) f
shift_formula from by (Formula-F.Exists binders f) = formula.Exists (map (shifted_binder from by) binders) f

-- The formula with its variables from `from` on moved up by so many places: array terms have none.
unfoldable pub shifted_formula : ℕ → ℕ → Formula → Formula
shifted_formula from by f = fold-Formula Formula (shift_formula from by) f

-- What was read where `from` was the next place, as it reads so many places on. Terms bind no variables.
abbrev pub shifted : ℕ → ℕ → Meaning → Meaning
shifted from by (meaning.Formula f) = meaning.Formula (shifted_formula from by f)
shifted from by (meaning.Term s t) = meaning.Term s t
shifted from by (meaning.Array i e a) = meaning.Array i e a

abbrev pub varies_of : Meaning → Bool
varies_of (meaning.Formula f) = false
varies_of (meaning.Term s t) = varies_term t
varies_of (meaning.Array i e a) = varies a
