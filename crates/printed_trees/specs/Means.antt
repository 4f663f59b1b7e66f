use Rattle.std.specs.Prelude.{◌≡◌, ℕ, List, Ok}
use Rattle.sexpr_text.specs.declared.tree.Sexpr.{Sexpr}
use Rattle.smtlib_terms.specs.declared.meaning.Meaning.{Meaning}
use Rattle.smtlib_terms.specs.declared.meaning.Side.TheVariants.{Meant}
use Rattle.smtlib_terms.specs.declared.names.Binding.{Binding}
use Rattle.smtlib_terms.specs.Names.{Signature}
use Rattle.smtlib_terms.specs.Reading.{side}

-- The tree reads as this meaning, where `next` is the next place of a variable.
abbrev pub Means : Sexpr → Signature → List Binding → ℕ → Meaning → Type 0
Means t names scope next m = side t names scope next ≡ Ok (Meant m)
