use borrow.Author.Rules.{rules}
use Rattle.report.proofs.Printing.{first_line_lem}
use Rattle.report.proofs.put_first.Goals as goal

pub returns : goal.returns
returns c = search (first_line_lem, rules)
