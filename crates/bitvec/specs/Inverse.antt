-- The inverse modulo 2^64, and what `modinverse` answers. Assumes nothing.
use Rattle.std.specs.Prelude.{◌≡◌, ℕ, ◌%◌, ◌^◌, Option, Some, None}
use Rattle.laws.specs.Newton.{lifts}
use Rattle.bitvec.specs.Word.{bvmul}
use Rattle.bitvec.specs.declared.BitVector.{BitVector}

-- of an odd word, the one word x with x · s = 1 (`inverse_is` and `inverse_only` of proofs/Laws.antt): "lifting an inverse modulo
-- growing powers of two"
unfoldable pub inverse_of : ℕ → ℕ
inverse_of s = lifts (2 ^ 64) s 6

-- "`modinverse` of an even value: none": an odd word's inverse, and nothing of an even one
abbrev pub InverseIs : ℕ → Option BitVector → Type 0
InverseIs s (Some x) = (s % 2 ≡ 1) × (bvmul x.0 s ≡ 1)
InverseIs s None = s % 2 ≡ 0
