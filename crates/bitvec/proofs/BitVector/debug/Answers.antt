-- `bitvec::BitVector::debug` meets its contract: each turn sets the last digit that is left (`Text.antt`'s `Filling`). Assumes nothing.
use Rattle.std.proofs.Common.{rules}
use Rattle.bitvec.proofs.Text.{fill_begin, fill_turn, fill_end, count_length}
use Rattle.bitvec.proofs.BitVector.debug.Goals as goal

pub loop-i-init : goal.loop-i-init
loop-i-init c = fill_begin _ (search rules)

pub loop-i-preserved : goal.loop-i-preserved
loop-i-preserved c = search (fill_turn, rules)

pub returns-clause-len : goal.returns-clause-len
returns-clause-len c = search (count_length, rules)

pub returns-clause-bytes : goal.returns-clause-bytes
returns-clause-bytes c = search (fill_end, rules)
