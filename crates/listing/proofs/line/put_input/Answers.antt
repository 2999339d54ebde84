use Rattle.listing.proofs.Printing.{in_quotes}
use borrow.Author.Rules.{rules}
use Rattle.listing.proofs.line.put_input.Goals as goal

pub returns : goal.returns
returns c = search (in_quotes, rules)
