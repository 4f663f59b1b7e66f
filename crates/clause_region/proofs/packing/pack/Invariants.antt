use Rattle.std.proofs.Common.{◌≡◌, ◌++◌, length, take, drop, vec_capacity, vec_len}
use Rattle.std.specs.List.{flat_map}
use Rattle.clause_region.specs.ClauseRegion.{part}
use Rattle.clause_region.specs.Run.{AreInOrder, packed}
use Rattle.clause_region.proofs.packing.pack.Given as goal

-- what is packed so far, and what is left to pack, are together what was asked for
abbrev pub invariant-loop-run : goal.invariant-loop-run
invariant-loop-run l = record {
  literals : take l.end l.lits.items ++ flat_map (part l.lits.items) (drop l.run-index l.runs) ≡ flat_map (part l.initial.lits.items) l.initial.runs;
  runs : take l.run-index l.runs ++ packed l.end (drop l.run-index l.runs) ≡ packed 0 l.initial.runs;
  order : AreInOrder l.end (length l.lits.items) (drop l.run-index l.runs);
  len : vec_len l.lits ≡ vec_len l.initial.lits;
  capacity : vec_capacity l.lits ≡ vec_capacity l.initial.lits;
}
