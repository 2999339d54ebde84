use lib.ListN.{take}
use Rattle.text.specs.Text.{Wrote}
use Rattle.text.proofs.put_text.Given as goal

abbrev pub invariant-loop-b : goal.invariant-loop-b
invariant-loop-b l = Wrote (take l.b-index l.text) l.at l.initial.out l.out l.n
