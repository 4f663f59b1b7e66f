use Rattle.std.specs.Prelude.{None}
use Rattle.mbqi_app.specs.Command.{Command, Solve, Print}
use Rattle.mbqi_app.specs.declared.command.Task.{Task}
use Rattle.mbqi_app.specs.declared.command.Task.TheVariants as task

-- The command that the code's value stands for.
abbrev pub command_of_task : Task → Command
command_of_task (task.Solve file) = Solve None file.now
command_of_task (task.Print file) = Print file.now
