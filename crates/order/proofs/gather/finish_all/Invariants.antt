-- `order::gather::finish_all` meets its contract. Assumes nothing.
use Prim.Native.Nat.{◌-◌, ◌*◌}
use mathlib.Core.Path.{◌≡◌}
use lib.ListN.{length}
use Rattle.formula.specs.View.{graph}
use Rattle.order.specs.Walking.{Walking, spent}
use Rattle.order.specs.Finishing.{ahead}
use Rattle.order.proofs.gather.finish_all.Given as goal

abbrev pub invariant-loop-w : goal.invariant-loop-w
invariant-loop-w l =
    Walking (graph l.formula) l.place l.order l.stack l.w
    × (ahead (graph l.formula) l.order l.stack l.w ≡ ahead (graph l.formula) l.initial.order l.initial.stack l.initial.w)
    × (length l.place ≡ length l.initial.place)
    × (length l.order ≡ length l.initial.order)
    × (length l.stack ≡ length l.initial.stack)

abbrev pub decreases-loop-w : goal.decreases-loop-w
decreases-loop-w l = 3 * l.formula.layout.count - spent l.w
