-- `bitvec::BitVector::debug` meets its contract: each turn sets the last digit that is left (`Text.antt`'s `Filling`). Assumes nothing.
use Rattle.bitvec.proofs.Text.{Filling}
use Rattle.bitvec.proofs.BitVector.debug.Given as goal

abbrev pub invariant-loop-i : goal.invariant-loop-i
invariant-loop-i l = Filling l.initial.x l.i l.x l.bytes
