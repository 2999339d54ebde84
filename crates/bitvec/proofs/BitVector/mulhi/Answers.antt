-- `bitvec::BitVector::mulhi` meets its contract: the columns in base 2^32 (`Columns.antt`). Assumes nothing.
use Rattle.bitvec.proofs.Columns.{upper_word}
use Rattle.bitvec.proofs.BitVector.mulhi.Goals as goal

pub returns : goal.returns
returns c = upper_word _ _
