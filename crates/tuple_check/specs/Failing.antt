-- The truth of a clause at a tuple of pool terms, by the truths of atoms, and the choices at which rules fail (this project's own).
-- Private functions alone cite it: what it says of valuations stands in the public clauses.
use Rattle.std.specs.Prelude.{◌≡◌, ℕ, zero, suc, ◌+◌, ◌<◌, ◌⊎◌, Bool, false, not, List, [], ◌∷◌, ◌++◌, length, map, slice_index, slice_index_or}
use Rattle.std.specs.List.{list_any}
use Rattle.mbqi_terms.specs.declared.formula.Formula.{Formula}
use Rattle.mbqi_terms.specs.declared.formula.Formula.TheFolds.{fold-Formula}
use Rattle.mbqi_terms.specs.declared.formula.Formula.TheOpen.{Formula-F}
use Rattle.mbqi_terms.specs.declared.script.Assertion.{Assertion}
use Rattle.mbqi_terms.specs.declared.term.ArrayTerm.{ArrayTerm}
use Rattle.mbqi_terms.specs.declared.term.ArrayTerm.TheOpen.{Symbol-F, Term-F}
use Rattle.mbqi_terms.specs.declared.term.Symbol.{Symbol, out-Symbol}
use Rattle.mbqi_terms.specs.declared.term.Term.{Term, out-Term}
use Rattle.mbqi_terms.specs.declared.term.Term.TheVariants as term
use Rattle.mbqi_terms.specs.declared.term_id.TermId.{TermId}
use Rattle.element_atoms.specs.Atoms.{truth_in}
use Rattle.element_atoms.specs.Numbering.{IsNumbered, number_layer}
use Rattle.element_atoms.specs.Profile.{seed}
use Rattle.element_atoms.specs.declared.atoms.GroundAtom.{GroundAtom}
use Rattle.element_atoms.specs.declared.pool.Pool.{Pool}
use Rattle.rule_form.specs.Rules.{variables_of, clause_of}
use Rattle.rule_form.specs.declared.choice.Choice.{Choice}
use Rattle.tuple_check.specs.Tuples.{tuples_where}

-- The number of an argument in the pool: a variable's is that of the tuple.
abbrev pub argument_layer : Pool → List ℕ → Term-F ArrayTerm Symbol Term → ℕ
argument_layer pool tuple (Term-F.Var place) = slice_index tuple place
argument_layer pool tuple other = number_layer pool other

abbrev pub argument_at : Pool → List ℕ → Term → ℕ
argument_at pool tuple t = argument_layer pool tuple (out-Term t)

abbrev pub id_of : Pool → List ℕ → Term → TermId
id_of pool tuple t = record { 0 = argument_at pool tuple t }

-- A variable that the tuple has, or a term of the pool.
abbrev pub IsPlaced : Pool → ℕ → Term → Type 0
IsPlaced pool n t = ((place : ℕ) × (t ≡ term.Var place) × (place < n)) ⊎ IsNumbered pool t

-- The atom that a predicate's term is at the tuple.
abbrev pub atom_of_symbol : Pool → List ℕ → List Term → Symbol-F ArrayTerm Symbol Term → GroundAtom
atom_of_symbol pool tuple args (Symbol-F.Declared p) = record { predicate = p; args = map (id_of pool tuple) args }
atom_of_symbol pool tuple args other = record { predicate = 0; args = [] }

abbrev pub atom_layer : Pool → List ℕ → Term-F ArrayTerm Symbol Term → GroundAtom
atom_layer pool tuple (Term-F.Apply symbol args) = atom_of_symbol pool tuple args (out-Symbol symbol)
atom_layer pool tuple other = record { predicate = 0; args = [] }

abbrev pub atom_at_tuple : Pool → List ℕ → Term → GroundAtom
atom_at_tuple pool tuple t = atom_layer pool tuple (out-Term t)

-- The truth of a clause at the tuple.
abbrev pub truth_layer : Pool → List GroundAtom → List Bool → List ℕ → Formula-F Bool → Bool
truth_layer pool atoms truths tuple (Formula-F.Atom t) = truth_in atoms truths (atom_at_tuple pool tuple t)
truth_layer pool atoms truths tuple (Formula-F.Not b) = not b
truth_layer pool atoms truths tuple (Formula-F.Any bs) = list_any (λ b. b) bs
truth_layer pool atoms truths tuple other = false

unfoldable pub truth_at : Pool → List GroundAtom → List Bool → Formula → List ℕ → Bool
truth_at pool atoms truths f tuple = fold-Formula Bool (truth_layer pool atoms truths tuple) f

abbrev pub fails_at : Pool → List GroundAtom → List Bool → Formula → List ℕ → Bool
fails_at pool atoms truths f tuple = not (truth_at pool atoms truths f tuple)

-- The terms of a tuple.
abbrev pub term_in : List Term → ℕ → Term
term_in terms i = slice_index_or terms i seed

abbrev pub choice_of : List Term → ℕ → List ℕ → Choice
choice_of terms rule tuple = record { rule = rule; terms = map (term_in terms) tuple }

-- The choices at which a rule with variables fails, and those of all rules from number k on.
abbrev pub failing_of : Pool → List GroundAtom → List Bool → ℕ → ℕ → Formula → List Choice
failing_of pool atoms truths rule zero f = []
failing_of pool atoms truths rule (suc n) f =
    map (choice_of pool.terms rule) (tuples_where (fails_at pool atoms truths f) (length pool.terms) (suc n) [])

abbrev pub failing_from : Pool → List GroundAtom → List Bool → ℕ → List Assertion → List Choice
failing_from pool atoms truths k [] = []
failing_from pool atoms truths k (assertion ∷ assertions) =
    failing_of pool atoms truths k (variables_of assertion.formula) (clause_of assertion.formula) ++ failing_from pool atoms truths (k + 1) assertions
