-- `formula::bytes::all_zero` meets its contract. Assumes nothing.
use Rattle.std.proofs.Common.{◌≡◌}
use Rattle.formula.specs.File.{zeros}
use Rattle.formula.proofs.bytes.all_zero.Given as goal

abbrev pub invariant-loop-i : goal.invariant-loop-i
invariant-loop-i l = l.clear ≡ zeros l.s l.a l.i
