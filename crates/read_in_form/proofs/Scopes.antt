-- Scopes that grow, by places and by bindings.
use Rattle.std.proofs.Common.{◌≤◌, ℕ, List, [], ◌∷◌, arith}
use Rattle.mbqi_terms.specs.declared.script.Script.{Script}
use Rattle.mbqi_terms.specs.declared.sort.Binder.{Binder}
use Rattle.smtlib_terms.specs.declared.meaning.Bound.{Bound}
use Rattle.smtlib_terms.specs.declared.meaning.Bound.TheVariants.{Variable, Value}
use Rattle.smtlib_terms.specs.declared.names.Binding.{Binding}
use Rattle.smtlib_terms.specs.Names.{bound_to}
use Rattle.smtlib_terms.specs.Words.{is_text}
use Rattle.read_in_form.proofs.Placed.{Extends, IsBelow, IsBound, IsScope}
use Rattle.read_in_form.proofs.Steps.{first_or_rest}

pub extends_itself : (scope : List Binder) → Extends scope scope
extends_itself scope place s found = found

pub below_later : (scope : List Binder) (next later : ℕ) → next ≤ later → IsBelow next scope → IsBelow later scope
below_later scope next later more below place s found = let before = below place s found in omega arith

pub bound_later : (script : Script) (scope wider : List Binder) (next later : ℕ) (bound : Bound) → Extends scope wider → next ≤ later → IsBound script scope next bound → IsBound script wider later bound
bound_later script scope wider next later (Variable place s) extends more is = record { sort = is.sort; bound = extends place s is.bound }
bound_later script scope wider next later (Value from m) extends more is =
    let before = is.before in
    record { outside = is.outside; before = omega arith; below = is.below; extends = λ place s found. extends place s (is.extends place s found); read = is.read }

pub scope_later : (script : Script) (scope wider : List Binder) (next later : ℕ) (bindings : List Binding) → Extends scope wider → next ≤ later → IsScope script scope next bindings → IsScope script wider later bindings
scope_later script scope wider next later bindings extends more is name bound found = bound_later script scope wider next later bound extends more (is name bound found)

-- a binding before others
pub scope_more : (script : Script) (scope : List Binder) (next : ℕ) (b : Binding) (bindings : List Binding) → IsBound script scope next b.bound → IsScope script scope next bindings → IsScope script scope next (b ∷ bindings)
scope_more script scope next b bindings is rest name bound found =
    first_or_rest (IsBound script scope next) (is_text name b.name) b.bound bound (bound_to name bindings) is (rest name bound) found

pub no_bindings : (script : Script) (scope : List Binder) (next : ℕ) → IsScope script scope next []
no_bindings script scope next name bound found = cc
