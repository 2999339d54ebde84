use Rattle.listing.proofs.Printing.{meaning_constant, meaning_input, meaning_unary, meaning_binary}
use borrow.Author.Rules.{rules}
use Rattle.listing.proofs.line.put_meaning.Goals as goal

pub returns-in-Constant : goal.returns-in-Constant
returns-in-Constant c = search (meaning_constant, rules)

pub returns-in-Input : goal.returns-in-Input
returns-in-Input c = search (meaning_input, rules)

pub returns-in-Unary : goal.returns-in-Unary
returns-in-Unary c = search (meaning_unary, rules)

pub returns-in-Binary : goal.returns-in-Binary
returns-in-Binary c = search (meaning_binary, rules)
