-- `order::reaches_itself` meets its contract. Assumes nothing.
use native.Mathlib.Omega.{arith}
use borrow.Author.Rules.{rules}
use Rattle.order.proofs.Reaching.{reach_begin, reach_small, reach_up, reach_less, reach_more, reach_yes, reach_all}
use Rattle.order.proofs.reaches_itself.Goals as goal

pub loop-head-init : goal.loop-head-init
loop-head-init c = (search (reach_begin, rules), omega arith, search rules, search rules)

pub meet_operands-tail-requires-in-loop-head : goal.meet_operands-tail-requires-in-loop-head
meet_operands-tail-requires-in-loop-head c = search (reach_small, rules)

pub loop-head-smaller : goal.loop-head-smaller
loop-head-smaller c = search (reach_less, rules)

pub loop-head-preserved : goal.loop-head-preserved
loop-head-preserved c = (search (reach_more, rules), search (reach_up, rules), search rules, search rules)

pub returns-clause-reaches : goal.returns-clause-reaches
returns-clause-reaches c = (λ e. search (reach_yes, rules), λ d. search (reach_all, rules))
