use Rattle.std.proofs.Common.{◌≡◌, All, Ok, Err, Result, IfOk, OnErr, ℕ, sym, ap, subst, ◌∙◌}
use Rattle.std.specs.declared.alloc.AllocError.{AllocError}
use Rattle.mbqi_terms.specs.Distinct.{Puts}
use Rattle.mbqi_terms.specs.declared.term.Symbol.TheVariants as symbol
use Rattle.mbqi_terms.specs.declared.term.Term.TheVariants as term
use Rattle.element_atoms.specs.Atoms.{IsOver}
use Rattle.element_atoms.specs.Numbering.{IsAtomOf}
use Rattle.element_atoms.specs.declared.atoms.GroundAtom.{GroundAtom}
use Rattle.element_atoms.proofs.Numbers.{args_numbered, zip_trees, is_over, puts_at, puts_all}
use Rattle.element_atoms.proofs.clauses.atom_of.Goals as goal

pub numbers_of-requires : goal.numbers_of-requires
numbers_of-requires c =
    args_numbered c.args.functions.now c.args.pool.now c.args.t.now c.declared-predicate.result.0 c.declared-predicate.result.1.now c.requires.pool c.requires.atom
    c.declared-predicate.ensures

-- the atom that is put
abbrev put : goal.After-number → GroundAtom
put c = record { predicate = c.declared-predicate.result.0; args = c.in_ok-args.args }

pub returns-clause-atom : goal.returns-clause-atom
returns-clause-atom c = by c.number.result c.number.ensures.ok
  where
    by : (r : Result ℕ AllocError) → IfOk r (λ place. Puts c.args.table.now (put c) place c.number.new.self)
        → IfOk r (λ place. IsAtomOf c.args.pool.now.terms c.number.new.self place c.args.t.now)
    by (Ok place) puts = record {
      atom = put c;
      place = puts_at c.args.table.now c.number.new.self (put c) place puts;
      tree =
          ap (term.Apply (symbol.Declared c.declared-predicate.result.0)) (zip_trees c.args.pool.now.terms c.in_ok-args.args c.declared-predicate.result.1.now c.in_ok-args.ensures)
          ∙ sym c.declared-predicate.ensures;
    }
    by (Err e) puts = tt

pub returns-clause-over : goal.returns-clause-over
returns-clause-over c = by c.number.result c.number.ensures.ok c.number.ensures.err
  where
    by : (r : Result ℕ AllocError) → IfOk r (λ place. Puts c.args.table.now (put c) place c.number.new.self)
        → OnErr r (c.number.new.self ≡ c.args.table.now) → All (IsOver c.args.functions.now c.args.pool.now.terms) c.number.new.self
    by (Ok place) puts same =
        puts_all (IsOver c.args.functions.now c.args.pool.now.terms) c.args.table.now c.number.new.self (put c) place puts
        (is_over c.args.pool.now.terms c.args.functions.now c.args.t.now c.declared-predicate.result.0 c.declared-predicate.result.1.now c.in_ok-args.args c.requires.atom
        c.declared-predicate.ensures c.in_ok-args.ensures)
        c.requires.over
    by (Err e) puts same = subst (All (IsOver c.args.functions.now c.args.pool.now.terms)) (sym same) c.requires.over
