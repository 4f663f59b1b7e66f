use Rattle.std.proofs.Common.{◌≡◌, ℕ, ◌+◌, ◌<◌, List, [], length, drop, get_or, arith, append_assoc, sym, ap, ◌∙◌}
use Rattle.std.proofs.lemmas.List.{append-nil, drop_all, drop_more, drop-set-lt, length-take-le, take_all, take_more_set}
use Rattle.clause_region.specs.declared.run.Run.{Run}
use Rattle.clause_region.proofs.InOrder.{AreInOrder-within, AreInOrder-moved, LiesWithin-first, AreInOrder-packed, length-flat_map-part, map-part-packed, flat_map-part-moved}
use Rattle.clause_region.proofs.packing.pack.Goals as goal

pub move_run-end-requires-clause-within : goal.move_run-end-requires-clause-within
move_run-end-requires-clause-within c =
    let order = rw (drop_more c.loop-run.runs c.loop-run.run-index record { start = 0; len = 0 } (omega arith)) at c.loop-run.invariant.order in
    LiesWithin-first _ _ _ _ order

pub move_run-end-requires-clause-end_within : goal.move_run-end-requires-clause-end_within
move_run-end-requires-clause-end_within c = AreInOrder-within _ _ _ c.loop-run.invariant.order

pub loop-run-preserved : goal.loop-run-preserved
loop-run-preserved c =
    let i = c.loop-run.run-index in
    let end : ℕ = c.loop-run.end in
    let runs : List Run = c.loop-run.runs in
    let this : Run = get_or runs i record { start = 0; len = 0 } in
    let within : i < length runs = omega arith in
    let left = drop_more runs i record { start = 0; len = 0 } within in
    let order = rw left at c.loop-run.invariant.order in
    let stay = drop-set-lt (i + 1) runs i c.move_run-end.new.run (omega arith) in
    let so_far = take_more_set runs i c.move_run-end.new.run within in
    let moved = c.move_run-end.ensures in
    let literals = flat_map-part-moved end _ this (drop (i + 1) runs) _ _ order (rw moved.end at moved.front) (rw moved.end at moved.rest) in
    let same_len : length c.move_run-end.new.lits.items ≡ length c.loop-run.lits.items = cc in
    record {
      literals = rw (stay, moved.end) (literals ∙ (rw left at c.loop-run.invariant.literals));
      runs = rw (so_far, stay, moved.end, moved.run, append_assoc) (rw left at c.loop-run.invariant.runs);
      order = rw (stay, moved.end, same_len) (AreInOrder-moved end _ this (drop (i + 1) runs) order);
      len = cc;
      capacity = cc;
    }

pub returns-clause-reads : goal.returns-clause-reads
returns-clause-reads c =
    let none = drop_all c.loop-run.run-index c.loop-run.runs (omega arith) in
    let all = take_all c.loop-run.run-index c.loop-run.runs (omega arith) in
    let literals = rw (none, append-nil) at c.loop-run.invariant.literals in
    let runs = rw (none, all, append-nil) at c.loop-run.invariant.runs in
    rw (literals, runs) (map-part-packed 0 _ c.args.runs.now [] c.args.lits.now.items c.requires (omega arith))

pub returns-clause-end : goal.returns-clause-end
returns-clause-end c =
    let none = drop_all c.loop-run.run-index c.loop-run.runs (omega arith) in
    let literals = rw (none, append-nil) at c.loop-run.invariant.literals in
    let within = AreInOrder-within _ _ _ c.loop-run.invariant.order in
    let sum = length-flat_map-part 0 _ c.args.runs.now c.args.lits.now.items c.requires (omega arith) in
    sym (length-take-le c.loop-run.end c.loop-run.lits.items within) ∙ ap length literals ∙ sum

pub returns-clause-order : goal.returns-clause-order
returns-clause-order c =
    let none = drop_all c.loop-run.run-index c.loop-run.runs (omega arith) in
    let all = take_all c.loop-run.run-index c.loop-run.runs (omega arith) in
    let runs = rw (none, all, append-nil) at c.loop-run.invariant.runs in
    rw runs (AreInOrder-packed 0 c.loop-run.end c.args.runs.now (omega (arith, returns-clause-end c)))
