use Rattle.std.specs.Prelude.{ℕ}
use Rattle.mbqi_values.specs.declared.status.Status.{Status}
use Rattle.mbqi_values.specs.declared.status.Status.TheVariants.{Sat, Unsat, Unknown, Done, No, Words, ScriptRefused, ReadFault, TooLong, WriteFault, Memory, TooWide, ModelRefused, RefutationRefused}

-- The table of exit statuses (this project's own): 10, 20 and 30 for the answers of a solver, 0 and 1 for yes
-- and no, and one number for each group of causes why there is no answer.
abbrev pub code_of : Status → ℕ
code_of Sat = 10
code_of Unsat = 20
code_of Unknown = 30
code_of Done = 0
code_of No = 1
code_of Words = 2
code_of (ScriptRefused refusal) = 3
code_of ReadFault = 4
code_of TooLong = 4
code_of WriteFault = 5
code_of Memory = 6
code_of (TooWide weight) = 7
code_of (ModelRefused refusal) = 8
code_of (RefutationRefused refusal) = 8
