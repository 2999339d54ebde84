use Rattle.listing.proofs.Printing.{whole_line}
use borrow.Author.Rules.{rules}
use Rattle.listing.proofs.line.put_line.Goals as goal

pub returns : goal.returns
returns c = search (whole_line, rules)
