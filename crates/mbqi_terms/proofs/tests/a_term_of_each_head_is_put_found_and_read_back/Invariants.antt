use Rattle.std.proofs.Common.{◌≡◌}
use Rattle.mbqi_terms.specs.Samples.{sample_lists}
use Rattle.mbqi_terms.proofs.tests.a_term_of_each_head_is_put_found_and_read_back.Given as goal

abbrev pub invariant-loop-number : goal.invariant-loop-number
invariant-loop-number g l = l.store.lists ≡ sample_lists
