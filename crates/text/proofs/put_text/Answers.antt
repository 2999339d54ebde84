use borrow.Author.Rules.{rules}
use Rattle.text.proofs.Writing.{text_begin, text_more, text_whole}
use Rattle.text.proofs.put_text.Goals as goal

pub loop-b-init : goal.loop-b-init
loop-b-init c = search (text_begin, rules)

pub loop-b-preserved : goal.loop-b-preserved
loop-b-preserved c = search (text_more, rules)

pub returns : goal.returns
returns c = search (text_whole, rules)
