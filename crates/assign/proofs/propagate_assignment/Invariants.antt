-- `assign::propagate_assignment` meets its contract. Assumes nothing.
use mathlib.Core.Path.{◌≡◌}
use Rattle.formula.specs.View.{graph}
use Rattle.assign.specs.Settle.{along_up_to}
use Rattle.assign.proofs.propagate_assignment.Given as goal

abbrev pub invariant-loop-k : goal.invariant-loop-k
invariant-loop-k l = l.values ≡ along_up_to (graph l.formula) l.order l.k l.initial.values
