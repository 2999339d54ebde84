-- `assign::give` meets its contract. Assumes nothing.
use mathlib.Core.Path.{refl}
use native.Mathlib.Omega.{arith}
use borrow.Author.Rules.{rules}
use Rattle.assign.specs.Start.{wanted_up_to, given_up_to}
use Rattle.assign.proofs.Passes.{wanted_turn, given_turn}
use Rattle.assign.proofs.give.Goals as goal

pub loop-i-init : goal.loop-i-init
unfolding wanted_up_to given_up_to
loop-i-init c = (omega arith, refl, refl)

pub loop-i-preserved : goal.loop-i-preserved
loop-i-preserved c = (omega arith, search (wanted_turn, rules), search (given_turn, rules))
