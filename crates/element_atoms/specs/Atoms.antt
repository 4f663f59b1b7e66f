-- Ground atoms by the numbers of their arguments in a pool of ground terms (this project's own).
use Rattle.std.specs.Prelude.{◌≡◌, ℕ, ◌<◌, ◌==◌, Bool, true, false, ◌&&◌, List, [], ◌∷◌, ◌++◌, length, map, All, Contains, Some, slice_get, slice_index, slice_index_or, if◌then◌else◌}
use Rattle.mbqi_values.specs.declared.value.Value.TheVariants.{Truth}
use Rattle.mbqi_terms.specs.Meanings.{Meanings}
use Rattle.mbqi_values.specs.Value.{is_true}
use Rattle.mbqi_terms.specs.Store.{tree_at}
use Rattle.mbqi_terms.specs.declared.formula.Formula.{Formula}
use Rattle.mbqi_terms.specs.declared.instance.InstanceLine.{InstanceLine}
use Rattle.mbqi_terms.specs.declared.script.Function.{Function}
use Rattle.mbqi_terms.specs.declared.term.Symbol.TheVariants as symbol
use Rattle.mbqi_terms.specs.declared.term.Term.{Term}
use Rattle.mbqi_terms.specs.declared.term.Term.TheVariants as term
use Rattle.mbqi_terms.specs.declared.term_id.TermId.{TermId}
use Rattle.element_atoms.specs.Profile.{IsPredicate, NamesConstant, constant, constants_of, seed}
use Rattle.element_atoms.specs.declared.atoms.GroundAtom.{GroundAtom}
use Rattle.element_atoms.specs.declared.pool.Pool.{Pool}

-- The term of an atom over a pool.
abbrev pub atom_tree : List Term → GroundAtom → Term
atom_tree terms atom = term.Apply (symbol.Declared atom.predicate) (map (tree_at terms) atom.args)

-- The atom of a number in a list of them.
abbrev pub atom_at : List GroundAtom → ℕ → GroundAtom
atom_at atoms i = slice_index_or atoms i (record { predicate = 0; args = [] })

-- The truths that a valuation of terms gives to the atoms of a list.
abbrev pub truths_by : Meanings → List Term → List GroundAtom → ℕ → Bool
truths_by m terms atoms i = is_true (m.value (atom_tree terms (atom_at atoms i)))

-- A predicate of as many terms of the pool as it takes.
pub record IsOver (functions : List Function) (terms : List Term) (atom : GroundAtom) : Type 0 where
  pub predicate : (function : Function) × (slice_get functions atom.predicate ≡ Some function) × IsPredicate function
      × (length atom.args ≡ length function.args)
  pub args : All (λ id. id.0 < length terms) atom.args

-- The pool of the functions: their constants in order and then the seed, and each constant's number among them.
pub record IsPool (functions : List Function) (pool : Pool) : Type 0 where
  pub terms : pool.terms ≡ constants_of functions ++ seed ∷ []
  pub numbers : length pool.numbers ≡ length functions
  pub places : (c : ℕ) → NamesConstant functions c → slice_get pool.terms (slice_index pool.numbers c) ≡ Some (constant c)

-- Whether two atoms are one: the same predicate of the same terms.
abbrev pub same_ids : List TermId → List TermId → Bool
same_ids [] [] = true
same_ids [] (id ∷ ids) = false
same_ids (id ∷ ids) [] = false
same_ids (id ∷ ids) (other ∷ others) = (id.0 == other.0) && same_ids ids others

abbrev pub same_atom : GroundAtom → GroundAtom → Bool
same_atom a b = (a.predicate == b.predicate) && same_ids a.args b.args

-- The truth of an atom by those of a list: false where it isn't there.
abbrev pub truth_in : List GroundAtom → List Bool → GroundAtom → Bool
truth_in [] truths atom = false
truth_in (a ∷ atoms) [] atom = false
truth_in (a ∷ atoms) (truth ∷ truths) atom = if same_atom atom a then truth else truth_in atoms truths atom

-- The valuation gives each atom of the list its truth, and each other atom over the terms is false in it.
pub record Decides (functions : List Function) (terms : List Term) (atoms : List GroundAtom) (truths : List Bool) (m : Meanings) : Type 0 where
  pub listed : (i : ℕ) → i < length atoms → m.value (atom_tree terms (atom_at atoms i)) ≡ Truth (slice_index_or truths i false)
  pub others : (atom : GroundAtom) → IsOver functions terms atom → (Contains atoms atom → ⊥) → m.value (atom_tree terms atom) ≡ Truth false

-- The formulas of instances.
abbrev pub formulas_in : List InstanceLine → List Formula
formulas_in lines = map (λ (line : InstanceLine). line.formula) lines
