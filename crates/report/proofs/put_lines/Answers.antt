use borrow.Author.Rules.{rules}
use Rattle.report.proofs.Printing.{lines_begin, lines_more, lines_end}
use Rattle.report.proofs.put_lines.Goals as goal

pub loop-i-init : goal.loop-i-init
loop-i-init c = search (lines_begin, rules)

pub loop-i-preserved : goal.loop-i-preserved
loop-i-preserved c = search (lines_more, rules)

pub returns : goal.returns
returns c = search (lines_end, rules)
