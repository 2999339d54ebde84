-- Fields laid one after the other. Assumes nothing.
use Rattle.std.proofs.Common.{◌≡◌, ℕ, zero, suc, ◌+◌, ◌<◌, List, [], ◌∷◌, length, take, get_or, set, arith}
use Rattle.ffi.specs.Out.{laid}

-- one more field
pub laid_more : (vs : List ℕ) (k i : ℕ) (out : List ℕ) → k < length vs → laid (take (suc k) vs) i out ≡ set (laid (take k vs) i out) (i + k) (get_or vs k 0)
laid_more [] k i out h = absurd (omega arith)
laid_more (v ∷ vs) zero i out h = let e : i + 0 ≡ i = omega arith in rw e
laid_more (v ∷ vs) (suc k) i out h = let e : i + 1 + k ≡ i + suc k = omega arith in rw (laid_more vs k (i + 1) (set out i v) (omega arith), e)
