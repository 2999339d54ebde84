use Rattle.retrylist.proofs.Answers.{respond_listed, respond_refused}
use borrow.Author.Rules.{rules}
use Rattle.retrylist.proofs.respond.Goals as goal

pub returns-in-Ok : goal.returns-in-Ok
returns-in-Ok c = search (respond_listed, rules)

pub returns-in-Err : goal.returns-in-Err
returns-in-Err c = search (respond_refused, rules)
