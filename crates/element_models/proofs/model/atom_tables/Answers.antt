use Rattle.std.proofs.Common.{◌∙◌, List, length, ap, arith}
use Rattle.std.proofs.lemmas.Option.{slice_get_within}
use Rattle.function_model.specs.declared.model.Table.{Table}
use Rattle.element_models.specs.Elements.{no_rows}
use Rattle.element_models.specs.Filling.{with_rows}
use Rattle.element_models.proofs.Filling.{filled, length_tables}
use Rattle.element_models.proofs.model.atom_tables.Goals as goal

-- each function has a table
pub put_rows-requires-clause-predicates : goal.put_rows-requires-clause-predicates
put_rows-requires-clause-predicates c k d h =
    let names = c.requires.predicates k d h in
    let functions = c.args.functions.now in
    omega (
      arith,
      ap length c.in_ok-tables.ensures,
      length_tables no_rows 0 0 c.args.size functions,
      slice_get_within functions _ names.0 names.1,
    )

pub returns : goal.returns
returns c =
    let atoms = c.args.atoms.now in
    let truths = c.args.truths.now in
    c.in_ok-put_rows.ensures
    ∙ (ap (λ (tables : List Table). with_rows tables atoms truths) c.in_ok-tables.ensures
    ∙ filled c.args.size c.args.functions.now atoms truths c.requires.truths c.requires.predicates)
