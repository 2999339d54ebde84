-- `checks::first_cycle` meets its contract. Assumes nothing.
use borrow.Author.Rules.{rules}
use mathlib.Core.Path.{refl}
use Rattle.checks.proofs.Cycles.{cycle_begin, cycle_found, cycle_again, cycle_over}
use Rattle.checks.proofs.first_cycle.Goals as goal

pub loop-i-init : goal.loop-i-init
loop-i-init c = (refl, refl, cycle_begin _ _)

pub returns-then-reaches_itself : goal.returns-then-reaches_itself
returns-then-reaches_itself c = search (cycle_found, rules)

pub loop-i-preserved : goal.loop-i-preserved
loop-i-preserved c = (search rules, search rules, search (cycle_again, rules))

pub returns : goal.returns
returns c = search (cycle_over, rules)
