use Rattle.refusals.proofs.Printing.{named_nothing, named_id}
use borrow.Author.Rules.{rules}
use Rattle.refusals.proofs.put_named.Goals as goal

pub returns-in-Some : goal.returns-in-Some
returns-in-Some c = search (named_id, rules)

pub returns-in-None : goal.returns-in-None
returns-in-None c = search (named_nothing, rules)
