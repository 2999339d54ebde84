-- Lists past their end: nothing is stored there, and what is read is the default. Assumes nothing.
use Prim.Native.Nat.{ℕ, ◌≤◌}
use mathlib.Core.Path.{◌≡◌, sym}
use mathlib.Core.List.{List}
use lib.ListN.{length, get_or, set, get_or-eq_default}
use lib.Seq.{set_out}

pub set_past : (l : List ℕ) (i a : ℕ) → length l ≤ i → l ≡ set l i a
set_past l i a h = sym (set_out l i a h)

pub read_past : (l : List ℕ) (i : ℕ) → length l ≤ i → 0 ≡ get_or l i 0
read_past l i h = sym (get_or-eq_default l 0 h)
