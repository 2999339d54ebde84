-- `turns::turns` meets its contract. Assumes nothing.
use mathlib.Core.Path.{sym, ◌∙◌}
use native.Mathlib.Omega.{arith}
use Rattle.search.proofs.Turns.{turn_few, run_used, run_done, run_on}
use Rattle.turns.proofs.turns.Goals as goal

pub returns-in-Break : goal.returns-in-Break
returns-in-Break c = sym (run_done _ _ _ _ (omega arith) c.in-Break.ensures) ∙ c.loop-s.invariant

pub loop-s-smaller : goal.loop-s-smaller
loop-s-smaller c =
    let after = turn_few _ _ _ (sym c.in-Continue.ensures) record { rounds = c.loop-s.s.counted; lost = c.loop-s.s.among } in
    omega (arith, after.1)

pub loop-s-preserved : goal.loop-s-preserved
loop-s-preserved c =
    let after = turn_few _ _ _ (sym c.in-Continue.ensures) record { rounds = c.loop-s.s.counted; lost = c.loop-s.s.among } in
    sym (run_on _ _ _ _ (omega arith) c.in-Continue.ensures after.1) ∙ c.loop-s.invariant

pub returns : goal.returns
returns c = rw c.ended.ensures (sym (run_used _ _ _ (omega arith)) ∙ c.loop-s.invariant)
