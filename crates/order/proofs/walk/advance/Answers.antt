-- `order::walk::advance` meets its contract. Assumes nothing.
use native.Mathlib.Omega.{arith}
use borrow.Author.Rules.{rules}
use Rattle.order.proofs.Turns.{turn_small, turn_push, turn_loop, turn_pop}
use Rattle.order.proofs.Finishing.{steady_push, steady_pop}
use Rattle.order.proofs.walk.advance.Goals as goal

pub push-requires : goal.push-requires
push-requires c = search (turn_small, rules)

pub pop-requires-clause-small : goal.pop-requires-clause-small
pop-requires-clause-small c = search (turn_small, rules)

pub returns-in-Push-clause-turned : goal.returns-in-Push-clause-turned
returns-in-Push-clause-turned c = (search (turn_push, rules), omega arith)

pub returns-in-Push-clause-steady : goal.returns-in-Push-clause-steady
returns-in-Push-clause-steady c = search (steady_push, rules)

pub returns-in-Open-clause-turned : goal.returns-in-Open-clause-turned
returns-in-Open-clause-turned c = search (turn_loop, rules)

pub returns-in-Pop-clause-turned : goal.returns-in-Pop-clause-turned
returns-in-Pop-clause-turned c = (search (turn_pop, rules), omega arith)

pub returns-in-Pop-clause-steady : goal.returns-in-Pop-clause-steady
returns-in-Pop-clause-steady c = search (steady_pop, rules)
