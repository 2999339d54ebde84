use borrow.Author.Rules.{rules}
use Rattle.report.proofs.Printing.{four_counts}
use Rattle.report.proofs.put_counts.Goals as goal

pub returns : goal.returns
returns c = search (four_counts, rules)
