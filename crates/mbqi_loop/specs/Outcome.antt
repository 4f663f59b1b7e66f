-- What the loop answers.
use Rattle.std.specs.Prelude.{ℕ, ◌+◌, List, length}
use Rattle.mbqi_terms.specs.declared.instance.InstanceLine.{InstanceLine}
use Rattle.function_model.specs.declared.model.FunctionModel.{FunctionModel}
use Rattle.mbqi_loop.specs.declared.outcome.Outcome.{Outcome}
use Rattle.mbqi_loop.specs.declared.outcome.Outcome.TheVariants.{Sat, Unsat}

-- A fact of the model, or of the instances.
abbrev pub IfSat : Outcome → (FunctionModel → Type 0) → Type 0
IfSat (Sat model journal) Fact = Fact model
IfSat (Unsat lines journal) Fact = Unit {0}

abbrev pub IfUnsat : Outcome → (List InstanceLine → Type 0) → Type 0
IfUnsat (Sat model journal) Fact = Unit {0}
IfUnsat (Unsat lines journal) Fact = Fact lines

-- The ground decisions behind an outcome: one for each round, and for refuted instances the one that refuted them.
abbrev pub decisions : Outcome → ℕ
decisions (Sat model journal) = length journal
decisions (Unsat lines journal) = length journal + 1
