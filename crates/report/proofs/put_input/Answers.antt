use Rattle.report.proofs.Printing.{input_line_lem}
use borrow.Author.Rules.{rules}
use Rattle.report.proofs.put_input.Goals as goal

pub returns : goal.returns
returns c = search (input_line_lem, rules)
