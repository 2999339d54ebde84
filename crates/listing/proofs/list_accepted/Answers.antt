use Rattle.std.proofs.Common.{rules}
use Rattle.listing.proofs.Accepting.{part_length, listed_result, listed_bound}
use Rattle.listing.proofs.list_accepted.Goals as goal

pub slice_bounds-fit-end : goal.slice_bounds-fit-end
slice_bounds-fit-end c = search (part_length, rules)

pub returns-clause-written : goal.returns-clause-written
returns-clause-written c = search (listed_result, rules)

pub returns-clause-most : goal.returns-clause-most
returns-clause-most c = search (listed_bound, rules)
