-- The line by its three pieces.
use Rattle.std.proofs.Common.{codes, refl}
use Rattle.smtlib_printer.specs.Names.{name_text}
use Rattle.smtlib_printer.proofs.Pieces.{written}
use Rattle.script_text.specs.Text.{sort_line}
use Rattle.script_text.proofs.Pieces.{three_pieces}
use Rattle.script_text.proofs.lines.write_sort_declaration.Goals as goal

pub returns-clause-ok : goal.returns-clause-ok
unfolding sort_line
returns-clause-ok c =
    written c.extend_from_slice-2.result _ _ _ _ c.extend_from_slice-2.ensures.items
    (three_pieces c.args.into.now.items c.extend_from_slice.new.self.items c.write_name.new.into.items
    (codes "(declare-sort ") (name_text c.args.name.now) (codes " 0)\n") _
    c.in_ok-extend_from_slice.ensures.items c.in_ok-write_name.ensures.ok refl)
