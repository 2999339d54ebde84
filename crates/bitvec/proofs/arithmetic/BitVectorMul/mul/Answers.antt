-- The product meets its contract: the lower two digits of a product in base 2^32 (`Modular.antt`'s `low_product`). Assumes nothing.
use Rattle.std.proofs.Common.{◌^◌}
use Rattle.laws.proofs.Modular.{mods, low_product}
use Rattle.bitvec.proofs.arithmetic.BitVectorMul.mul.Goals as goal

pub returns : goal.returns
returns c = simp mods (low_product (2 ^ 32) _ _)
