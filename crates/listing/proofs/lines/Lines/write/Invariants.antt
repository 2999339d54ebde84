use Rattle.std.proofs.Common.{◌*◌, ◌≤◌, take}
use Rattle.text.specs.Text.{Wrote}
use Rattle.formula.specs.View.{graph}
use Rattle.listing.specs.Listing.{lines}
use Rattle.listing.proofs.lines.Lines.write.Given as goal

abbrev pub invariant-loop-i : goal.invariant-loop-i
invariant-loop-i l = Wrote (lines (graph l.self.formula.now) (take l.i-index l.self.order.now)) 0 l.initial.out l.out l.at × (l.at ≤ 41 * l.i-index)
