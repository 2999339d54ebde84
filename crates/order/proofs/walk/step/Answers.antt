-- `order::walk::step` meets its contract. Assumes nothing.
use native.Mathlib.Omega.{arith}
use borrow.Author.Rules.{rules}
use Rattle.order.proofs.Turns.{turn_small, turn_first, turn_skip}
use Rattle.order.proofs.walk.step.Goals as goal

pub push-requires : goal.push-requires
push-requires c = search (turn_small, rules)

pub returns-then-number_at-eq0 : goal.returns-then-number_at-eq0
returns-then-number_at-eq0 c = (search (turn_first, rules), omega arith)

pub skip-requires : goal.skip-requires
skip-requires c = search (turn_small, rules)

pub returns : goal.returns
returns c =
    (turn_skip _ _ _ _ _ _ c.requires.walking c.if-w-gt0.false c.requires.left _ _ c.number_at.ensures (omega arith) c.skip.ensures.next c.skip.ensures.depth c.skip.ensures.done, omega arith)
