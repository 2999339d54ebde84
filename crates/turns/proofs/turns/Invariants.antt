-- `turns::turns` meets its contract. Assumes nothing.
use Prim.Native.Nat.{◌-◌}
use mathlib.Core.Path.{◌≡◌}
use Rattle.formula.specs.View.{graph}
use Rattle.search.specs.Machine.{run_from}
use Rattle.rules.specs.One.{one}
use Rattle.monster.specs.Step.{play_along}
use Rattle.turns.specs.Turn.{st_of}
use Rattle.turns.proofs.turns.Given as goal

abbrev pub invariant-loop-s : goal.invariant-loop-s
invariant-loop-s l =
    run_from (play_along one (graph l.formula) l.order l.words) (l.budget - l.s.steps) (st_of l.s l.values)
    ≡ run_from (play_along one (graph l.formula) l.order l.words) (l.budget - l.initial.s.steps) (st_of l.initial.s l.initial.values)

abbrev pub decreases-loop-s : goal.decreases-loop-s
decreases-loop-s l = l.budget - l.s.steps
