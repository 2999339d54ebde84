use Rattle.std.proofs.Common.{◌≡◌, ◌*◌, ◌≤◌, length, take}
use Rattle.formula.specs.View.{graph}
use Rattle.listing.specs.Listing.{lines}
use Rattle.listing.proofs.lines.Lines.measure.Given as goal

abbrev pub invariant-loop-i : goal.invariant-loop-i
invariant-loop-i l = (l.n ≡ length (lines (graph l.self.formula.now) (take l.i-index l.self.order.now))) × (l.n ≤ 41 * l.i-index)
