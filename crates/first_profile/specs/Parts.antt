-- The parts of the first profile's definition that functions of this crate decide one by one (this project's own).
use Rattle.std.specs.Prelude.{◌≡◌, ℕ, ◌≤◌, ◌⊎◌, List, [], length, Some, slice_get}
use Rattle.std.specs.List.{AllByRecursion}
use Rattle.mbqi_terms.specs.declared.script.Function.{Function}
use Rattle.mbqi_terms.specs.declared.script.Script.{Script}
use Rattle.mbqi_terms.specs.declared.sort.Binder.{Binder}
use Rattle.mbqi_terms.specs.declared.term.Symbol.TheVariants as symbol
use Rattle.mbqi_terms.specs.declared.term.Term.{Term}
use Rattle.mbqi_terms.specs.declared.term.Term.TheVariants as term
use Rattle.element_atoms.specs.Profile.{IsConstant, IsPredicate, variables_from}

-- The number is that of a predicate that takes so many arguments.
abbrev pub NamesPredicate : List Function → ℕ → ℕ → Type 0
NamesPredicate functions p args =
    (function : Function) × (slice_get functions p ≡ Some function) × IsPredicate function × (args ≡ length function.args)

-- The term applies no declared function.
abbrev pub IsUndeclared : Term → Type 0
IsUndeclared t = (number : ℕ) (args : List Term) → t ≡ term.Apply (symbol.Declared number) args → ⊥

-- The binders are those of some variables, of which there is one at least.
pub record AreVariables (binders : List Binder) : Type 0 where
  pub some : 1 ≤ length binders
  pub all : binders ≡ variables_from 0 (length binders)

-- One sort at most, and no function and no assertion without it.
pub record HasOneSort (script : Script) : Type 0 where
  pub sorts : length script.sorts ≤ 1
  pub named : script.sorts ≡ [] → (script.functions ≡ []) × (script.assertions ≡ [])

-- The sorts and functions of the profile.
abbrev pub AreDeclarations : Script → Type 0
AreDeclarations script = HasOneSort script × AllByRecursion (λ function. IsConstant function ⊎ IsPredicate function) script.functions
