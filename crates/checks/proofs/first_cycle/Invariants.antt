-- `checks::first_cycle` meets its contract. Assumes nothing.
use Rattle.std.proofs.Common.{◌-◌, ◌≡◌, Ok, length}
use Rattle.laws.specs.Rows.{first}
use Rattle.formula.specs.View.{graph}
use Rattle.checks.specs.Refusals.{cycle_rows}
use Rattle.checks.proofs.first_cycle.Given as goal

-- what the nodes from i on give is what all give
abbrev pub invariant-loop-i : goal.invariant-loop-i
invariant-loop-i l =
    (length l.seen ≡ length l.initial.seen) × (length l.todo ≡ length l.initial.todo)
    × (first (cycle_rows (graph l.formula) (l.formula.layout.count - l.i) l.i) (Ok tt) ≡ first (cycle_rows (graph l.formula) l.formula.layout.count 0) (Ok tt))
