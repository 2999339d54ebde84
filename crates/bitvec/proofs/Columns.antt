-- A product of two words in base 2^32: the four products of their halves, added column by column as `src/product.rt` shows it. Assumes nothing.
use Rattle.std.proofs.Common.{◌≡◌, ℕ, zero, suc, ◌+◌, ◌*◌, ◌/◌, ◌%◌, ◌^◌, ◌<◌, ◌≤◌, not, eqb, leb, sym, arith, w64, Fits, ne_eqb, le-leb}
use borrow.Author.Tests.{lt-leb}
use Rattle.laws.proofs.Modular.{four_products, halves_top}

-- sums in the column of 2^32
module _ {a b : ℕ} (ha : a < 2 ^ 32) (hb : b < 2 ^ 32) where
  pub middle_2 : (q : ℕ) → Fits w64 (a * b / 2 ^ 32 + q % 2 ^ 32)
  middle_2 q = record { fits = omega (arith, halves_top ha hb) }

  pub middle_3 : (q r : ℕ) → Fits w64 (a * b / 2 ^ 32 + q % 2 ^ 32 + r % 2 ^ 32)
  middle_3 q r = record { fits = omega (arith, halves_top ha hb) }

-- sums in the column of 2^64: the last one just fits
module _ {a b c d : ℕ} (ha : a < 2 ^ 32) (hb : b < 2 ^ 32) (hc : c < 2 ^ 32) (hd : d < 2 ^ 32) where
  pub upper_2 : Fits w64 (a * b + c * d / 2 ^ 32)
  upper_2 = record { fits = omega (arith, halves_top ha hb, halves_top hc hd) }

  module _ {e f : ℕ} (he : e < 2 ^ 32) (hf : f < 2 ^ 32) where
    pub upper_3 : Fits w64 (a * b + c * d / 2 ^ 32 + e * f / 2 ^ 32)
    upper_3 = record { fits = omega (arith, halves_top ha hb, halves_top hc hd, halves_top he hf) }

    pub upper_4 : {carry : ℕ} → carry ≤ 2 → Fits w64 (a * b + c * d / 2 ^ 32 + e * f / 2 ^ 32 + carry)
    upper_4 h = record { fits = omega (arith, halves_top ha hb, halves_top hc hd, halves_top he hf) }

-- the upper word of four products that stand in their columns
abbrev upper : ℕ → ℕ → ℕ → ℕ → ℕ
upper p00 p01 p10 p11 = p11 + p01 / 2 ^ 32 + p10 / 2 ^ 32 + (p00 / 2 ^ 32 + p01 % 2 ^ 32 + p10 % 2 ^ 32) / 2 ^ 32

columns : (p00 p01 p10 p11 : ℕ) → upper p00 p01 p10 p11 * 2 ^ 64 + (p00 + (p01 + p10) * 2 ^ 32 + p11 * 2 ^ 64) % 2 ^ 64 ≡ p00 + (p01 + p10) * 2 ^ 32 + p11 * 2 ^ 64
columns p00 p01 p10 p11 = omega arith

pub upper_word : (a b : ℕ) →
    upper (a % 2 ^ 32 * (b % 2 ^ 32)) (a % 2 ^ 32 * (b / 2 ^ 32)) (a / 2 ^ 32 * (b % 2 ^ 32)) (a / 2 ^ 32 * (b / 2 ^ 32)) * 2 ^ 64 + (a * b) % 2 ^ 64 ≡ a * b
upper_word a b = rw (← four_products (2 ^ 32) a b) (columns _ _ _ _)

-- a product is 2^64 or more exactly when its upper word is not 0
pub over_exactly : (h p : ℕ) → h * 2 ^ 64 + p % 2 ^ 64 ≡ p → not (eqb h 0) ≡ leb (2 ^ 64) p
over_exactly zero p e = sym (omega (arith, lt-leb))
over_exactly (suc h) p e = simp (ne_eqb (suc h) 0 (λ z. omega arith), le-leb (2 ^ 64) p (omega arith))
