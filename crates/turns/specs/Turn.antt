-- The code's states and results in the terms of the machine. Assumes nothing.
use Rattle.std.specs.declared.ops.ControlFlow.{ControlFlow}
use Rattle.std.specs.declared.ops.ControlFlow.TheVariants.{Continue, Break}
use Rattle.search.specs.Machine as machine
use Rattle.search.specs.Machine.{Values, St, solved, spent, ran_dry, Out, Next, done, on}
use Rattle.turns.specs.declared.state.State.{State}
use Rattle.turns.specs.declared.End.{End}
use Rattle.turns.specs.declared.End.TheVariants as end
use Rattle.turns.specs.declared.Outcome.{Outcome}

abbrev pub st_of : State → Values → St
st_of s vs = record {
  node = s.walk.node.0;
  target = s.walk.target.0;
  place = s.walk.source.at;
  rounds = s.rounds;
  lost = s.lost;
  steps = s.steps;
  vals = vs;
}

-- what is reported of a search that is over at s
abbrev pub outcome_of : End → State → Outcome
outcome_of e s = record { end = e; rounds = s.rounds; lost = s.lost; steps = s.steps; words = s.walk.source.at }

-- "Result: Solved, Spent or Dry"
abbrev pub end_of : End → machine.End
end_of end.Solved = solved
end_of end.Spent = spent
end_of end.Dry = ran_dry

-- "rounds completed, lost ones among them, steps completed, words taken", and the values
abbrev pub out_of : Outcome → Values → Out
out_of o vs = record { end = end_of o.end; rounds = o.rounds; lost = o.lost; steps = o.steps; words = o.words; vals = vs }

abbrev pub next_of : ControlFlow Outcome State → Values → Next
next_of (Break o) vs = done (out_of o vs)
next_of (Continue s) vs = on (st_of s vs)
