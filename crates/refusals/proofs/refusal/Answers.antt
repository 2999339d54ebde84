use Rattle.refusals.proofs.Printing.{refusal_line}
use borrow.Author.Rules.{rules}
use Rattle.refusals.proofs.refusal.Goals as goal

pub returns : goal.returns
returns c = search (refusal_line, rules)
