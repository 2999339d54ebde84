-- The front of a buffer, as it is lent. Assumes nothing.
use Prim.Native.Nat.{ℕ, ◌≤◌}
use mathlib.Core.Path.{◌≡◌, sym}
use mathlib.Core.List.{List}
use native.Mathlib.Omega.{arith}
use lib.ListN.{length, take}
use lib.Seq.{length-take-le}

pub part_count : (l : List ℕ) (n k : ℕ) → n ≤ k → k ≡ length l → n ≡ length (take n l)
part_count l n k h e = sym (length-take-le n l (omega arith))
