use borrow.Author.Rules.{rules}
use Rattle.formula.specs.File.{le64}
use Rattle.intake.proofs.Words.{words_begin, words_more, words_end}
use Rattle.intake.proofs.words_from.Goals as goal

pub loop-i-init : goal.loop-i-init
loop-i-init c = words_begin _ _

pub loop-i-preserved : goal.loop-i-preserved
unfolding le64
loop-i-preserved c = search (words_more, rules)

pub returns-clause-out_after : goal.returns-clause-out_after
returns-clause-out_after c = search (words_end, rules)
