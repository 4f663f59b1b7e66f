use Rattle.std.proofs.Common.{All, List, sym, ap, subst, ◌∙◌}
use Rattle.std.specs.List.{list_all}
use Rattle.mbqi_terms.specs.declared.instance.InstanceLine.{InstanceLine}
use Rattle.mbqi_terms.specs.Meanings.{truth_of}
use Rattle.element_atoms.specs.Atoms.{formulas_in}
use Rattle.element_atoms.specs.Profile.{IsClause, IsGround}
use Rattle.element_atoms.specs.declared.atoms.GroundAtom.{GroundAtom}
use Rattle.mbqi_loop.specs.Listed.{IsListed}
use Rattle.mbqi_loop.specs.declared.listed.Listed.{Listed}
use Rattle.mbqi_loop.proofs.Listing.{listed_append}
use Rattle.mbqi_loop.proofs.listed.list.Goals as goal

pub clauses_of-requires-clause-clauses : goal.clauses_of-requires-clause-clauses
clauses_of-requires-clause-clauses c =
    subst (λ (lines : List InstanceLine). All (IsClause c.args.functions.now (IsGround c.args.functions.now)) (formulas_in lines)) (sym c.as_slice.ensures) c.requires.ground

pub returns-clause-listed : goal.returns-clause-listed
returns-clause-listed c =
    let after : Listed = record { lines = c.in_ok-joined.field-0; table = c.clauses_of.new.table; clauses = c.in_ok-joined-2.field-0 } in
    let is : IsListed c.args.functions.now c.args.pool.now.terms after =
    listed_append c.args.functions.now c.args.pool.now.terms c.args.listed after c.in_ok-more.more c.args.lines c.requires.listed c.clauses_of.ensures.kept
    c.clauses_of.ensures.over c.in_ok-more.ensures.below
    (λ m. c.in_ok-more.ensures.truth m ∙ ap (λ (lines : List InstanceLine). list_all (truth_of m) (formulas_in lines)) c.as_slice.ensures)
    c.in_ok-joined-2.ensures c.in_ok-joined.ensures in
    subst (λ (atoms : List GroundAtom). IsListed c.args.functions.now c.args.pool.now.terms
    (record { lines = c.in_ok-joined.field-0; table = atoms; clauses = c.in_ok-joined-2.field-0 })) (sym c.table.view_is) is
