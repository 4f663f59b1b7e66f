use Rattle.mbqi_terms.proofs.Matching.{read_found, read_missing, default_found, default_missing}
use Rattle.mbqi_terms.proofs.store.parts.head_of.Goals as goal

pub returns-in_err-place-in-Read-clause-missing : goal.returns-in_err-place-in-Read-clause-missing
returns-in_err-place-in-Read-clause-missing c none =
    read_missing c.args.lists.now c.in-Read.array c.get.result.now _ c.args.base.now _ c.in-Read.is c.as_slice.ensures c.get.ensures
    (c.place_of_array.ensures.missing c.in_err-place-in-Read.was)

pub returns-in_err-place-in-Default-clause-missing : goal.returns-in_err-place-in-Default-clause-missing
returns-in_err-place-in-Default-clause-missing c none =
    default_missing c.args.lists.now c.in-Default.array c.get-in-Default.result.now c.args.base.now _ c.in-Default.is c.as_slice-in-Default.ensures c.get-in-Default.ensures
    (c.place_of_array-in-Default.ensures.missing c.in_err-place-in-Default.was)

pub returns-in_ok-place-in-Read-clause-found : goal.returns-in_ok-place-in-Read-clause-found
returns-in_ok-place-in-Read-clause-found c =
    read_found c.args.lists.now c.in_ok-place-in-Read.place c.in-Read.array c.get.result.now _ c.args.base.now _ c.in-Read.is c.as_slice.ensures c.get.ensures
    c.in_ok-place-in-Read.ensures.found

pub returns-in_ok-place-in-Default-clause-found : goal.returns-in_ok-place-in-Default-clause-found
returns-in_ok-place-in-Default-clause-found c =
    default_found c.args.lists.now c.in_ok-place-in-Default.place c.in-Default.array c.get-in-Default.result.now c.args.base.now _ c.in-Default.is c.as_slice-in-Default.ensures c.get-in-Default.ensures
    c.in_ok-place-in-Default.ensures.found
