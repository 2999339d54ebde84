use Rattle.listing.proofs.Printing.{joined}
use borrow.Author.Rules.{rules}
use Rattle.listing.proofs.line.put_binary.Goals as goal

pub returns : goal.returns
returns c = search (joined, rules)
