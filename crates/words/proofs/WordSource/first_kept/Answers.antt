-- `words::WordSource::first_kept` meets its contract: what the source now answers is what the first one answers. Assumes nothing.
use borrow.Author.Rules.{rules}
use Rattle.words.proofs.Draws.{draw_forward, drawn_dry, drawn_taken, drawn_passed}
use Rattle.words.proofs.WordSource.first_kept.Goals as goal

pub returns-in_err-w : goal.returns-in_err-w
returns-in_err-w g c drop is = search (drawn_dry, rules)

pub returns-then-kept : goal.returns-then-kept
returns-then-kept g c drop is = search (drawn_taken, rules)

pub loop-kept-smaller : goal.loop-kept-smaller
loop-kept-smaller g c = search (draw_forward, rules)

pub loop-kept-preserved : goal.loop-kept-preserved
loop-kept-preserved g c drop is = search (drawn_passed, rules)
