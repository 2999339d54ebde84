-- `checks::check_records` meets its contract. Assumes nothing.
use Rattle.std.proofs.Common.{◌-◌, ◌≡◌, Ok}
use Rattle.laws.specs.Rows.{first}
use Rattle.checks.specs.Refusals.{record_rows}
use Rattle.checks.proofs.check_records.Given as goal

-- what the records from i on give is what all give
abbrev pub invariant-loop-i : goal.invariant-loop-i
invariant-loop-i l =
    first (record_rows l.formula.file.now l.formula.layout (l.formula.layout.count - l.i) l.i) (Ok tt)
    ≡ first (record_rows l.formula.file.now l.formula.layout l.formula.layout.count 0) (Ok tt)
