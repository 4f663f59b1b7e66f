use Rattle.std.specs.Prelude.{List, ◌++◌, Option, None, Some}

-- What is told, followed by more (this project's own): nothing is told where nothing was.
abbrev pub with_more : {A : Type 0} → Option (List A) → List A → Option (List A)
with_more None more = None
with_more (Some told) more = Some (told ++ more)
