use Rattle.std.proofs.Common.{◌≡◌, ◌++◌, drop}
use Rattle.intake.specs.Words.{words_below}
use Rattle.intake.proofs.words_from.Given as goal

abbrev pub invariant-loop-i : goal.invariant-loop-i
invariant-loop-i l = l.word-items ≡ words_below l.bytes l.i ++ drop l.i l.initial.word-items
