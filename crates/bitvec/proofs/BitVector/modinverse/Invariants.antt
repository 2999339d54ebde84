-- `bitvec::BitVector::modinverse` meets its contract: after i turns x is Newton's i-th number (`Newton.antt`'s `lifts`). Assumes nothing.
use Rattle.std.proofs.Common.{◌≡◌, ◌^◌}
use Rattle.laws.specs.Newton.{lifts}
use Rattle.bitvec.proofs.BitVector.modinverse.Given as goal

abbrev pub invariant-loop : goal.invariant-loop
invariant-loop l = (l.x.0 ≡ lifts (2 ^ 64) l.self.0 l.counter)
