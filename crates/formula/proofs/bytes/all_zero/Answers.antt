-- `formula::bytes::all_zero` meets its contract. Assumes nothing.
use Rattle.std.proofs.Common.{rules}
use Rattle.formula.proofs.Reading.{zeros_none, zeros_more, zeros_all}
use Rattle.formula.proofs.bytes.all_zero.Goals as goal

pub loop-i-init : goal.loop-i-init
loop-i-init c = zeros_none _ _

pub loop-i-preserved : goal.loop-i-preserved
loop-i-preserved c = search (zeros_more, rules)

pub returns : goal.returns
returns c = search (zeros_all, rules)
