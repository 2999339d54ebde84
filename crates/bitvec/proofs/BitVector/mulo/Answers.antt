-- `bitvec::BitVector::mulo` meets its contract: a product overflows where its upper word is not 0. Assumes nothing.
use Rattle.bitvec.proofs.Columns.{over_exactly}
use Rattle.bitvec.proofs.BitVector.mulo.Goals as goal

pub returns : goal.returns
returns c = over_exactly _ _ c.mulhi.ensures
