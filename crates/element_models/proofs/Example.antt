-- The atoms of the tests are over their functions.
use Rattle.std.proofs.Common.{ℕ, ◌<◌, refl, arith}
use Rattle.std.specs.Prelude.{All}
use Rattle.std.proofs.lemmas.List.Elements.{All-from_recursion}
use Rattle.element_atoms.specs.Atoms.{IsOver}
use Rattle.element_models.specs.Example.{one_predicate, atom_on, example_functions, example_pool, example_atoms}

atom_over : (left right : ℕ) → left < 3 → right < 3 → IsOver example_functions example_pool.terms (atom_on left right)
atom_over left right h k = record {
  predicate = (one_predicate, refl, (refl, (refl, (refl, tt))), refl);
  args = All-from_recursion (λ id. id.0 < 3) (atom_on left right).args (h, (k, tt));
}

pub example_over : All (IsOver example_functions example_pool.terms) example_atoms
example_over =
    All-from_recursion (IsOver example_functions example_pool.terms) example_atoms
    (atom_over 1 0 (omega arith) (omega arith), (atom_over 0 0 (omega arith) (omega arith), tt))
