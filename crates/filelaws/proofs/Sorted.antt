-- A file in which operands have lower ids, as document 01 wanted them, is never refused as 13. Assumes nothing.
use mathlib.Core.Path.{◌∙◌}
use native.Mathlib.Omega.{arith}
use native.Mathlib.Decide.{dec_le}
use Rattle.laws.specs.Rows.{None}
use Rattle.symbols.specs.Graph.{Sorted}
use Rattle.symbols.specs.Reaching.{reaches}
use Rattle.symbols.proofs.Tests.{not_yes}
use Rattle.symbols.proofs.Reaching.{reaches_is}
use Rattle.symbols.proofs.Free.{sorted_inside, sorted_free}
use Rattle.formula.specs.File.{File}
use Rattle.formula.specs.Graph.{graph_of}
use Rattle.checks.specs.Refusals.{cycle_rows}
use Rattle.formula.specs.declared.Formula.{Formula}
use Rattle.filelaws.proofs.Places.{cycles_length}
use Rattle.filelaws.proofs.Numbers.{holds_past, holds_cycle}

pub sorted_as_before : (f : File) (m : Formula) → Sorted (graph_of f m) → None (cycle_rows (graph_of f m) m.count 0)
unfolding graph_of
sorted_as_before f m s i =
    let g = graph_of f m in
    let n = m.count in
    let l = cycles_length g n 0 in
    elim (dec_le n i) [
      | yes p ↦ holds_past (cycle_rows g n 0) i (omega arith)
      | no p ↦
          holds_cycle g n 0 i i (omega arith) (omega arith)
          ∙ not_yes (reaches g i i) (λ e. sorted_free g s i (omega arith) ((reaches_is g (sorted_inside g s) i i (omega arith)).0 e))
    ]
