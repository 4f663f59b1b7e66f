use Rattle.printed_trees.proofs.ScriptTexts.{script_forms}
use Rattle.printed_trees.proofs.laws.script_has_forms.Goals as goal

pub returns : goal.returns
returns c = script_forms
