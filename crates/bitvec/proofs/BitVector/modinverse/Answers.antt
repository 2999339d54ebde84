-- `bitvec::BitVector::modinverse` meets its contract: after i turns x is Newton's i-th number (`Newton.antt`'s `lifts`). Assumes nothing.
use Rattle.std.proofs.Common.{◌≡◌, ℕ, ◌*◌, ◌%◌, ◌^◌, refl, mul_comm, add-one, arith}
use Rattle.laws.specs.Newton.{lifts}
use Rattle.laws.proofs.Newton.{lifted}
use Rattle.bitvec.proofs.BitVector.modinverse.Goals as goal

-- six turns make 64 digits
inverts : (s x n : ℕ) → s % 2 ≡ 1 → n ≡ 6 → x ≡ lifts (2 ^ 64) s n → (x * s) % 2 ^ 64 ≡ 1
inverts s x n o e h = rw (h, e, mul_comm) (lifted 6 s 6 o (omega arith))

pub loop-init : goal.loop-init
unfolding lifts
loop-init c = refl

pub loop-preserved : goal.loop-preserved
unfolding lifts
loop-preserved c = rw add-one (cc)

pub returns : goal.returns
returns c = (omega arith, inverts _ _ _ (omega arith) (omega arith) c.loop.invariant)
