-- `assign::wanted` meets its contract. Assumes nothing.
use Prim.Native.Nat.{◌≤◌}
use mathlib.Core.Path.{◌≡◌}
use Rattle.formula.specs.View.{graph}
use Rattle.assign.specs.Start.{wanted_up_to}
use Rattle.assign.proofs.wanted.Given as goal

abbrev pub invariant-loop-i : goal.invariant-loop-i
invariant-loop-i l = (l.count ≤ l.i) × (l.count ≡ wanted_up_to (graph l.formula) l.i)
