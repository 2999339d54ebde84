-- `formula::view::FormulaView::lookup` meets its contract. Assumes nothing.
use Rattle.std.proofs.Common.{arith, rules}
use Rattle.formula.proofs.Reading.{record_none, record_cut}
use Rattle.formula.proofs.view.FormulaView.lookup.Goals as goal

pub returns-then-self-id : goal.returns-then-self-id
returns-then-self-id c = search (record_none, rules)

pub returns : goal.returns
returns c = record_cut _ _ _ _ _ _ _ c.saturating_add.ensures c.min-start.ensures (omega arith) c.min.ensures c.if-self-id.false
