use Rattle.report.proofs.Printing.{whole_result}
use borrow.Author.Rules.{rules}
use Rattle.report.proofs.result.Goals as goal

pub returns : goal.returns
returns c = search (whole_result, rules)
