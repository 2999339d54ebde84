-- `words::WordSource::two` meets its contract: what the source now answers is what the first one answers. Assumes nothing.
use Rattle.std.proofs.Common.{arith, refl}
use borrow.Author.Rules.{rules}
use Rattle.words.proofs.Draws.{both_taken, both_again, pair_taken, pair_again, pair_short, pair_past, pair_inside, pair_forward}
use Rattle.words.proofs.WordSource.two.Goals as goal

pub returns-then-words-self : goal.returns-then-words-self
returns-then-words-self c = search (pair_past, rules)

pub loop-high-init : goal.loop-high-init
loop-high-init c = (omega arith, refl)

pub returns-in_err-high : goal.returns-in_err-high
returns-in_err-high c = search (pair_short, rules)

pub returns-then-low-ne0 : goal.returns-then-low-ne0
returns-then-low-ne0 c = search (pair_taken, both_taken, rules)

pub loop-high-smaller : goal.loop-high-smaller
loop-high-smaller c = search (pair_forward, rules)

pub loop-high-preserved : goal.loop-high-preserved
loop-high-preserved c = (search (pair_inside, rules), search (pair_again, both_again, rules))
