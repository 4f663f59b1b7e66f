-- The script so far, with the forms to come, is what all mean.
use Rattle.std.proofs.Common.{◌≡◌, drop}
use Rattle.smtlib_decls.specs.Scripts.{script_from, script_meant}
use Rattle.smtlib_decls.proofs.reader.read_all.Given as goal

abbrev pub invariant-loop-form : goal.invariant-loop-form
invariant-loop-form l = script_from l.progress (drop l.form-index l.forms) ≡ script_meant l.forms
