-- `order::arrange` meets its contract. Assumes nothing.
use native.Mathlib.Omega.{arith}
use borrow.Author.Rules.{rules}
use Rattle.order.proofs.Turns.{turn_begin, turn_on, turn_less, turn_end}
use Rattle.order.proofs.arrange.Goals as goal

pub loop-w-init : goal.loop-w-init
loop-w-init c = (search (turn_begin, rules), search rules, search rules, search rules)

pub loop-w-smaller : goal.loop-w-smaller
loop-w-smaller c = search (turn_less, rules)

pub loop-w-preserved : goal.loop-w-preserved
loop-w-preserved c = (search (turn_on, rules), search rules, search rules, search rules)

pub returns-clause-arranged : goal.returns-clause-arranged
returns-clause-arranged c = λ e. turn_end _ _ _ _ _ _ c.loop-w.invariant.0 (omega arith)
