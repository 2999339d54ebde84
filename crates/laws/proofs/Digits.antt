-- Words by their binary digits: digit i of n, and two words are equal when their digits are. So a law of `&`, `|` and `!` is one of
-- min, max and 1 - x at each digit, which `omega` proves. Assumes nothing.
use mathlib.Core.Path.{◌≡◌, refl, sym, ap, ◌∙◌}
use Prim.Native.Nat.{ℕ, zero, suc, ◌+◌, ◌-◌, ◌*◌, ◌/◌, ◌%◌, ◌^◌, ◌<◌, min, max}
use native.Mathlib.Nat.{lt_of_lt_of_le, le-add_right, le-add_left, not-suc-le-zero, div-one}
use native.Mathlib.Omega.{arith}
use native.Mathlib.Numerals.{one-add}
use lib.Pow.{pow_pos, pow_mono, shr-shr}
use lib.Bits.{bit_and, bit_or, bit_xor, differ, and_step, or_step, xor_step, and_lt, or_lt}

unfoldable pub digit : ℕ → ℕ → ℕ
digit n zero = n % 2
digit n (suc i) = digit (n / 2) i

-- digit i is the lowest digit of n shifted right by i
pub digit_is : (n i : ℕ) → digit n i ≡ n / 2 ^ i % 2
unfolding digit
digit_is n zero = ap (λ (m : ℕ). m % 2) (sym (div-one n))
digit_is n (suc i) = digit_is (n / 2) i ∙ ap (λ (m : ℕ). m % 2) (shr-shr n 1 i ∙ ap (λ (k : ℕ). n / 2 ^ k) (one-add i))

pub digit_lt : (n i : ℕ) → digit n i < 2
unfolding digit
digit_lt n zero = omega arith
digit_lt n (suc i) = digit_lt (n / 2) i

pub digit_zero : (i : ℕ) → digit 0 i ≡ 0
unfolding digit
digit_zero zero = refl
digit_zero (suc i) = digit_zero i

pub ext : (k a b : ℕ) → a < 2 ^ k → b < 2 ^ k → ((i : ℕ) → i < k → digit a i ≡ digit b i) → a ≡ b
unfolding digit
ext zero a b ha hb h = omega arith
ext (suc k) a b ha hb h =
    let high : a / 2 ≡ b / 2 = ext k (a / 2) (b / 2) (omega arith) (omega arith) (λ i l. h (suc i) (omega arith)) in
    let low : a % 2 ≡ b % 2 = h zero (omega arith) in
    omega arith

pub digit_and : (a b i : ℕ) → digit (bit_and a b) i ≡ min (digit a i) (digit b i)
unfolding digit
digit_and a b zero = omega (arith, and_step a b)
digit_and a b (suc i) = let half : bit_and a b / 2 ≡ bit_and (a / 2) (b / 2) = omega (arith, and_step a b) in rw half (digit_and (a / 2) (b / 2) i)

pub digit_or : (a b i : ℕ) → digit (bit_or a b) i ≡ max (digit a i) (digit b i)
unfolding digit
digit_or a b zero = omega (arith, or_step a b)
digit_or a b (suc i) = let half : bit_or a b / 2 ≡ bit_or (a / 2) (b / 2) = omega (arith, or_step a b) in rw half (digit_or (a / 2) (b / 2) i)

-- two digits differ where their sum is odd
differ_sum : (x y : ℕ) → x < 2 → y < 2 → differ x y ≡ (x + y) % 2
differ_sum zero y hx hy = omega arith
differ_sum (suc zero) zero hx hy = refl
differ_sum (suc zero) (suc zero) hx hy = refl
differ_sum (suc zero) (suc (suc y)) hx hy = absurd (omega arith)
differ_sum (suc (suc x)) y hx hy = absurd (omega arith)

xor_parts : (a b : ℕ) → bit_xor a b ≡ bit_xor (a / 2) (b / 2) * 2 + (a % 2 + b % 2) % 2
xor_parts a b = xor_step a b ∙ ap (λ (d : ℕ). bit_xor (a / 2) (b / 2) * 2 + d) (differ_sum (a % 2) (b % 2) (omega arith) (omega arith))

pub digit_xor : (a b i : ℕ) → digit (bit_xor a b) i ≡ (digit a i + digit b i) % 2
unfolding digit
digit_xor a b zero = omega (arith, xor_parts a b)
digit_xor a b (suc i) = let half : bit_xor a b / 2 ≡ bit_xor (a / 2) (b / 2) = omega (arith, xor_parts a b) in rw half (digit_xor (a / 2) (b / 2) i)

pub digit_not : (k a i : ℕ) → a < 2 ^ k → i < k → digit (2 ^ k - 1 - a) i ≡ 1 - digit a i
unfolding digit
digit_not zero a i h l = absurd (not-suc-le-zero l)
digit_not (suc k) a zero h l = omega arith
digit_not (suc k) a (suc i) h l =
    let half : (2 ^ suc k - 1 - a) / 2 ≡ 2 ^ k - 1 - a / 2 = omega arith in
    rw half (digit_not k (a / 2) i (omega arith) (omega arith))

pub not_lt : (k a : ℕ) → 2 ^ k - 1 - a < 2 ^ k
not_lt k a = omega (arith, pow_pos k)

-- where no complement stands, no width has to be named
below_pow : (n : ℕ) → n < 2 ^ n
below_pow zero = omega arith
below_pow (suc n) = omega (arith, below_pow n)

pub same : (a b : ℕ) → ((i : ℕ) → digit a i ≡ digit b i) → a ≡ b
same a b h =
    ext (a + b) a b (lt_of_lt_of_le (below_pow a) (pow_mono (le-add_right a b))) (lt_of_lt_of_le (below_pow b) (pow_mono (le-add_left b a))) (λ i l. h i)

pub and_assoc : (a b c : ℕ) → bit_and (bit_and a b) c ≡ bit_and a (bit_and b c)
and_assoc a b c = same _ _ (λ i. simp digit_and (omega arith))

pub or_assoc : (a b c : ℕ) → bit_or (bit_or a b) c ≡ bit_or a (bit_or b c)
or_assoc a b c = same _ _ (λ i. simp digit_or (omega arith))

pub and_or : (a b c : ℕ) → bit_and (bit_or a b) c ≡ bit_or (bit_and a c) (bit_and b c)
and_or a b c = same _ _ (λ i. simp (digit_and, digit_or) (omega arith))

pub and_absorb : (a b : ℕ) → bit_and a (bit_or a b) ≡ a
and_absorb a b = same _ _ (λ i. simp (digit_and, digit_or) (omega arith))

-- with the complement, at a width
pub not_and : (k a b : ℕ) → a < 2 ^ k → b < 2 ^ k → 2 ^ k - 1 - bit_and a b ≡ bit_or (2 ^ k - 1 - a) (2 ^ k - 1 - b)
not_and k a b ha hb =
    let h : bit_and a b < 2 ^ k = and_lt k a b ha hb in
    ext k _ _ (not_lt k _) (or_lt k _ _ (not_lt k a) (not_lt k b)) (λ i l. simp (digit_not k, digit_and, digit_or) (omega arith))

-- what comes out of an `&` with s comes out again
pub and_again : (x s : ℕ) → bit_and (bit_and x s) s ≡ bit_and x s
and_again x s = same _ _ (λ i. simp digit_and (omega arith))

-- the word solver's law of `&`: what s lets through of t may be had with any w where s is clear
pub and_inverse : (k s t w : ℕ) → s < 2 ^ k → t < 2 ^ k → w < 2 ^ k → bit_and t s ≡ t → bit_and (bit_or (bit_and w (2 ^ k - 1 - s)) t) s ≡ t
and_inverse k s t w hs ht hw e =
    let n = 2 ^ k - 1 - s in
    ext k _ t (and_lt k _ s (or_lt k _ t (and_lt k w n hw (not_lt k s)) ht) hs) ht (λ i l.
    simp (digit_and, digit_or, digit_not k) (omega (arith, sym (digit_and t s i) ∙ ap (λ (x : ℕ). digit x i) e, digit_lt s i, digit_lt t i)))
