use Rattle.std.proofs.Common.{take, subst, arith}
use Rattle.std.proofs.lemmas.List.{take_all, length-map}
use Rattle.std.specs.List.{AllZip}
use Rattle.mbqi_terms.specs.declared.instance.InstanceLine.{InstanceLine}
use Rattle.element_atoms.specs.Atoms.{formulas_in}
use Rattle.element_atoms.specs.Numbering.{IsClauseOf}
use Rattle.element_atoms.specs.Profile.{IsClause, IsGround}
use Rattle.element_atoms.proofs.Numbers.{next_zip, clauses_grow, extends_trans, formula_there, there_holds}
use Rattle.element_atoms.proofs.Truths.{clauses_below, clauses_truth}
use Rattle.element_atoms.proofs.clauses.clauses_of.Goals as goal

pub clause_of-requires-clause-clause : goal.clause_of-requires-clause-clause
clause_of-requires-clause-clause c =
    let lines = c.args.lines.now in
    let i = c.loop-line.line-index in
    there_holds (IsClause c.args.functions.now (IsGround c.args.functions.now)) (formulas_in lines) i c.line-item.result.formula
    (formula_there lines i c.line-item.result c.loop-line-test.true c.line-item.is) c.requires.clauses

pub loop-line-preserved : goal.loop-line-preserved
loop-line-preserved c =
    let terms = c.args.pool.now.terms in
    let before = c.loop-line.table in
    let after = c.clause_of.new.table in
    let lines = c.args.lines.now in
    let i = c.loop-line.line-index in
    let here = formula_there lines i c.line-item.result c.loop-line-test.true c.line-item.is in
    let so_far = clauses_grow terms before after c.clause_of.ensures.kept c.loop-line.clauses (take i (formulas_in lines)) c.loop-line.invariant.clauses in
    record {
      clauses = rw (c.in_ok-push.ensures.ok)
          (next_zip (IsClauseOf terms after) c.loop-line.clauses (formulas_in lines) i c.in_ok-clause.clause c.line-item.result.formula here so_far c.in_ok-clause.ensures.clause);
      over = c.clause_of.ensures.over;
      kept = extends_trans c.args.table.now before after c.loop-line.invariant.kept c.clause_of.ensures.kept;
    }

pub returns-clause-below : goal.returns-clause-below
returns-clause-below c =
    clauses_below c.args.pool.now.terms c.loop-line.table c.loop-line.clauses (take c.loop-line.line-index (formulas_in c.args.lines.now)) c.loop-line.invariant.clauses

pub returns-clause-truth : goal.returns-clause-truth
returns-clause-truth c m =
    let formulas = formulas_in c.args.lines.now in
    let same = length-map c.args.lines.now (λ (line : InstanceLine). line.formula) in
    let whole = take_all c.loop-line.line-index formulas (omega arith) in
    let zip = subst (AllZip (IsClauseOf c.args.pool.now.terms c.loop-line.table) c.loop-line.clauses) whole c.loop-line.invariant.clauses in
    clauses_truth m c.args.pool.now.terms c.loop-line.table c.loop-line.clauses formulas zip
