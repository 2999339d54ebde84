use native.Mathlib.Omega.{arith}
use borrow.Author.Rules.{rules}
use Rattle.listing.proofs.Prefixes.{write_begin, write_more, write_inside, write_end}
use Rattle.listing.proofs.lines.Lines.write.Goals as goal

pub loop-i-init : goal.loop-i-init
loop-i-init c = (search (write_begin, rules), omega arith)

pub slice_bounds-put_line-count : goal.slice_bounds-put_line-count
slice_bounds-put_line-count c = search (write_inside, rules)

pub loop-i-preserved : goal.loop-i-preserved
loop-i-preserved c = (search (write_more, rules), omega arith)

pub returns : goal.returns
returns c = search (write_end, rules)

pub slice_bounds-put_line-start : goal.slice_bounds-put_line-start
slice_bounds-put_line-start c = search (write_inside, rules)
