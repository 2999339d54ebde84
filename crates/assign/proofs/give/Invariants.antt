-- `assign::give` meets its contract. Assumes nothing.
use Prim.Native.Nat.{◌≤◌}
use mathlib.Core.Path.{◌≡◌}
use Rattle.formula.specs.View.{graph}
use Rattle.assign.specs.Start.{wanted_up_to, given_up_to}
use Rattle.assign.proofs.give.Given as goal

abbrev pub invariant-loop-i : goal.invariant-loop-i
invariant-loop-i l = (l.at ≤ l.i) × (l.at ≡ wanted_up_to (graph l.formula) l.i) × (l.values ≡ given_up_to (graph l.formula) l.words l.i l.initial.values)
