-- `assign::wanted` meets its contract. Assumes nothing.
use mathlib.Core.Path.{refl}
use native.Mathlib.Omega.{arith}
use borrow.Author.Rules.{rules}
use Rattle.formula.specs.Graph.{graph_of}
use Rattle.assign.specs.Start.{wanted_up_to, wanted}
use Rattle.assign.proofs.Passes.{wanted_turn}
use Rattle.assign.proofs.wanted.Goals as goal

pub loop-i-init : goal.loop-i-init
unfolding wanted_up_to
loop-i-init c = (omega arith, refl)

pub loop-i-preserved : goal.loop-i-preserved
loop-i-preserved c = (omega arith, search (wanted_turn, rules))

pub returns : goal.returns
unfolding wanted graph_of
returns c = grind arith
