use Rattle.std.proofs.Common.{◌≡◌}
use Rattle.mbqi_terms.specs.declared.arrays.ArrayPair.{ArrayPair}
use Rattle.mbqi_terms.proofs.Matching.{diff_found, diff_missing}
use Rattle.mbqi_terms.proofs.store.parts.head_of_symbol.Goals as goal

pub returns-in_err-place-in-Diff-clause-missing : goal.returns-in_err-place-in-Diff-clause-missing
returns-in_err-place-in-Diff-clause-missing c none us =
    let wanted : ArrayPair = record { left = c.in-Diff.left; right = c.in-Diff.right } in
    let asked : ArrayPair = record { left = c.get.result.now; right = c.get-in-Diff.result.now } in
    let same : asked ≡ wanted = λ i. record { left = c.get.ensures i; right = c.get-in-Diff.ensures i } in
    diff_missing c.args.lists.now wanted asked _ us _ c.in-Diff.is c.as_slice.ensures same (c.place_of_pair.ensures.missing c.in_err-place-in-Diff.was)

pub returns-in_ok-place-in-Diff-clause-found : goal.returns-in_ok-place-in-Diff-clause-found
returns-in_ok-place-in-Diff-clause-found c ts =
    let wanted : ArrayPair = record { left = c.in-Diff.left; right = c.in-Diff.right } in
    let asked : ArrayPair = record { left = c.get.result.now; right = c.get-in-Diff.result.now } in
    let same : asked ≡ wanted = λ i. record { left = c.get.ensures i; right = c.get-in-Diff.ensures i } in
    diff_found c.args.lists.now c.in_ok-place-in-Diff.place wanted asked _ ts _ c.in-Diff.is c.as_slice.ensures same c.in_ok-place-in-Diff.ensures.found
