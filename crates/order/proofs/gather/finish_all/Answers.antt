-- `order::gather::finish_all` meets its contract. Assumes nothing.
use mathlib.Core.Path.{refl}
use borrow.Author.Rules.{rules}
use Rattle.order.proofs.Turns.{turn_on, turn_less}
use Rattle.order.proofs.Gathering.{gather_on, gather_looped, gather_end, gather_few}
use Rattle.order.proofs.gather.finish_all.Goals as goal

pub loop-w-init : goal.loop-w-init
loop-w-init c = (search rules, refl, search rules, search rules, search rules)

pub returns-in_default-clause-gathered : goal.returns-in_default-clause-gathered
returns-in_default-clause-gathered c = search (gather_looped, rules)

pub loop-w-smaller : goal.loop-w-smaller
loop-w-smaller c = search (turn_less, rules)

pub loop-w-preserved : goal.loop-w-preserved
loop-w-preserved c = (search (turn_on, rules), search (gather_on, rules), search rules, search rules, search rules)

pub returns-clause-gathered : goal.returns-clause-gathered
returns-clause-gathered c = search (gather_end, rules)

pub returns-clause-within : goal.returns-clause-within
returns-clause-within c = search (gather_few, rules)
