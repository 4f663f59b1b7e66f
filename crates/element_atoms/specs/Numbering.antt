-- What numbers of terms and atoms stand for (this project's own).
use Rattle.std.specs.Prelude.{◌≡◌, ℕ, ◌-◌, ◌<◌, ◌≤◌, ◌⊎◌, List, [], ◌∷◌, length, take, Some, slice_get, slice_index, if◌then◌else◌}
use Rattle.std.specs.List.{AllZip}
use Rattle.mbqi_values.specs.declared.lit.Lit.{Lit}
use Rattle.mbqi_terms.specs.declared.formula.Formula.{Formula}
use Rattle.mbqi_terms.specs.declared.formula.Formula.TheVariants as formula
use Rattle.mbqi_terms.specs.declared.term.ArrayTerm.{ArrayTerm}
use Rattle.mbqi_terms.specs.declared.term.ArrayTerm.TheOpen.{Symbol-F, Term-F}
use Rattle.mbqi_terms.specs.declared.term.Symbol.{Symbol, out-Symbol}
use Rattle.mbqi_terms.specs.declared.term.Symbol.TheVariants as symbol
use Rattle.mbqi_terms.specs.declared.term.Term.{Term, out-Term}
use Rattle.mbqi_terms.specs.declared.term.Term.TheVariants as term
use Rattle.mbqi_terms.specs.declared.term_id.TermId.{TermId}
use Rattle.element_atoms.specs.Atoms.{atom_tree}
use Rattle.element_atoms.specs.Profile.{constant, seed}
use Rattle.element_atoms.specs.declared.atoms.GroundAtom.{GroundAtom}
use Rattle.element_atoms.specs.declared.pool.Pool.{Pool}

-- The new list has the old one's atoms first.
pub record Extends (old : List GroundAtom) (new : List GroundAtom) : Type 0 where
  pub front : take (length old) new ≡ old

-- A declared function is applied.
pub record IsDeclared (t : Term) : Type 0 where
  pub number : ℕ
  pub args : List Term
  pub is : t ≡ term.Apply (symbol.Declared number) args

-- The term is a constant to which the pool gives the number of its place.
pub record IsNumberedConstant (pool : Pool) (t : Term) : Type 0 where
  pub number : ℕ
  pub is : t ≡ constant number
  pub within : number < length pool.numbers
  pub place : slice_get pool.terms (slice_index pool.numbers number) ≡ Some (constant number)

-- The term is the seed, with which the pool ends.
pub record IsLastSeed (pool : Pool) (t : Term) : Type 0 where
  pub is : t ≡ seed
  pub some : 1 ≤ length pool.terms
  pub place : slice_get pool.terms (length pool.terms - 1) ≡ Some seed

abbrev pub IsNumbered : Pool → Term → Type 0
IsNumbered pool t = IsNumberedConstant pool t ⊎ IsLastSeed pool t

-- The term stands at the number among the terms.
abbrev pub IsNumberOf : List Term → TermId → Term → Type 0
IsNumberOf terms id t = slice_get terms id.0 ≡ Some t

-- The term is that of the atom of the number.
pub record IsAtomOf (terms : List Term) (atoms : List GroundAtom) (number : ℕ) (t : Term) : Type 0 where
  pub atom : GroundAtom
  pub place : slice_get atoms number ≡ Some atom
  pub tree : atom_tree terms atom ≡ t

-- The formula is the literal's atom or the negation of it.
pub record IsLitOf (terms : List Term) (atoms : List GroundAtom) (lit : Lit) (f : Formula) : Type 0 where
  pub term : Term
  pub atom : IsAtomOf terms atoms lit.atom term
  pub is : f ≡ (if lit.yes then formula.Atom term else formula.Not (formula.Atom term))

-- The formula is the clause's one literal, or the disjunction of its literals.
abbrev pub IsClauseOf : List Term → List GroundAtom → List Lit → Formula → Type 0
IsClauseOf terms atoms lits f =
    AllZip (IsLitOf terms atoms) lits (f ∷ []) ⊎ ((literals : List Formula) × (f ≡ formula.Any literals) × AllZip (IsLitOf terms atoms) lits literals)

-- The number of a ground term in the pool: a constant's is kept for its function, and the seed comes last.
abbrev pub number_of_symbol : Pool → Symbol-F ArrayTerm Symbol Term → ℕ
number_of_symbol pool (Symbol-F.Declared c) = slice_index pool.numbers c
number_of_symbol pool other = length pool.terms - 1

abbrev pub number_layer : Pool → Term-F ArrayTerm Symbol Term → ℕ
number_layer pool (Term-F.Apply symbol args) = number_of_symbol pool (out-Symbol symbol)
number_layer pool other = length pool.terms - 1

abbrev pub number_in : Pool → Term → ℕ
number_in pool t = number_layer pool (out-Term t)
