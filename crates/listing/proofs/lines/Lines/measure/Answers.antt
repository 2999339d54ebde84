use native.Mathlib.Omega.{arith}
use borrow.Author.Rules.{rules}
use Rattle.listing.proofs.Prefixes.{measure_begin, measure_more, measure_end}
use Rattle.listing.proofs.lines.Lines.measure.Goals as goal

pub loop-i-init : goal.loop-i-init
loop-i-init c = (search (measure_begin, rules), omega arith)

pub loop-i-preserved : goal.loop-i-preserved
loop-i-preserved c = (search (measure_more, rules), omega arith)

pub returns-clause-length : goal.returns-clause-length
returns-clause-length c = search (measure_end, rules)
