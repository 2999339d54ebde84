use Rattle.retrylist.proofs.Answers.{page_part}
use borrow.Author.Rules.{rules}
use Rattle.retrylist.proofs.main.Goals as goal

pub slice_bounds-write_all-end : goal.slice_bounds-write_all-end
slice_bounds-write_all-end c = search (page_part, rules)
