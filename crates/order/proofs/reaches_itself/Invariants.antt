-- `order::reaches_itself` meets its contract. Assumes nothing.
use Prim.Native.Nat.{◌-◌, ◌≤◌}
use mathlib.Core.Path.{◌≡◌}
use lib.ListN.{length}
use Rattle.formula.specs.View.{graph}
use Rattle.order.specs.Spreading.{listing, Spreading}
use Rattle.order.proofs.reaches_itself.Given as goal

abbrev pub invariant-loop-head : goal.invariant-loop-head
invariant-loop-head l =
    Spreading (graph l.formula) l.id.0 (listing l.seen l.todo l.tail) l.head × (l.head ≤ l.formula.layout.count) × (length l.seen ≡ length l.initial.seen) × (length l.todo ≡ length l.initial.todo)

abbrev pub decreases-loop-head : goal.decreases-loop-head
decreases-loop-head l = l.formula.layout.count - l.head
