-- `assign::propagate_assignment` meets its contract. Assumes nothing.
use mathlib.Core.Path.{refl}
use native.Mathlib.Omega.{arith}
use borrow.Author.Rules.{rules}
use Rattle.formula.specs.Graph.{graph_of}
use Rattle.assign.specs.Settle.{along_up_to, along}
use Rattle.assign.proofs.Passes.{along_turn}
use Rattle.assign.proofs.propagate_assignment.Goals as goal

pub loop-k-init : goal.loop-k-init
unfolding along_up_to
loop-k-init c = refl

pub loop-k-preserved : goal.loop-k-preserved
loop-k-preserved c = search (along_turn, rules)

pub returns : goal.returns
unfolding along graph_of
returns c = grind arith
