use Rattle.std.proofs.Common.{◌*◌}
use Rattle.text.specs.Text.{WroteUpTo}
use Rattle.formula.specs.View.{graph}
use Rattle.report.specs.Report.{lines_below}
use Rattle.report.proofs.put_lines.Given as goal

abbrev pub invariant-loop-i : goal.invariant-loop-i
invariant-loop-i l = WroteUpTo (54 * l.i) (lines_below (graph l.formula) l.values l.i) l.at l.initial.out l.out l.n
