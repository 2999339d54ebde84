-- The word solver's law of `*`: which t are x * s modulo a power of two for some x, and an x for each. Assumes nothing.
use mathlib.Core.Path.{◌≡◌, sym, ap, ap₂, ◌∙◌}
use mathlib.Core.Logic.{◌↔◌}
use Prim.Native.Nat.{ℕ, zero, suc, ◌+◌, ◌-◌, ◌*◌, ◌/◌, ◌%◌, ◌^◌, ◌<◌}
use native.Mathlib.Nat.{add_comm, sub-add_cancel, le_of_lt, mul-one, mul_assoc, mul_comm, add-zero, mod-eq_of_lt, div-add-mod', mul-mod_left}
use native.Mathlib.Omega.{arith}
use lib.Count.{count_trailing_zeros}
use lib.Pow.{pow_pos, pow-sub-lt, pow-add, shr_lt, shr_mod, high_ones, high, ones_split, ones_lt}
use lib.Bits.{bit_and, bit_or, and_comm, and_lt, or_step, or_zero_r, or_mod, or_block, or_disjoint, and_high}
use Rattle.laws.proofs.Modular.{mod_mod_mul, mul_mod_mod, mod_mul_mod, mul_mod_mul}
use Rattle.laws.proofs.Trailing.{Split, split}
use Rattle.laws.proofs.Digits.{digit_and, digit_not, digit_lt, digit_zero, ext, not_lt}

-- a number and its complement have no digit in common, and together all of them
pub and_not : (k a : ℕ) → a < 2 ^ k → bit_and (2 ^ k - 1 - a) a ≡ 0
and_not k a h = ext k _ 0 (and_lt k _ a (not_lt k a) h) (pow_pos k) (λ i l. simp (digit_and, digit_not k, digit_zero) (omega (arith, digit_lt a i)))

pub or_not : (k a : ℕ) → a < 2 ^ k → bit_or (2 ^ k - 1 - a) a ≡ 2 ^ k - 1
or_not k a h = or_disjoint (2 ^ k - 1 - a) a (and_not k a h) ∙ omega arith

-- `-q | q` of an odd q has every digit
pub neg_or_odd : (j q : ℕ) → q < 2 ^ j → q % 2 ≡ 1 → bit_or (2 ^ j - q) q ≡ 2 ^ j - 1
neg_or_odd zero q h o = absurd (omega arith)
neg_or_odd (suc j) q h o =
    let half : (2 ^ suc j - q) / 2 ≡ 2 ^ j - 1 - q / 2 = omega arith in
    let low : (2 ^ suc j - q) % 2 ≡ 1 = omega arith in
    or_step (2 ^ suc j - q) q ∙ rw (half, or_not j (q / 2) (omega arith)) (omega arith)

-- `-s | s` has every digit from s's lowest on
neg_or_block : (j c q : ℕ) → q < 2 ^ j → q % 2 ≡ 1 → bit_or (2 ^ (j + c) - q * 2 ^ c) (q * 2 ^ c) ≡ 2 ^ (j + c) - 2 ^ c
neg_or_block j c q h o =
    let split : 2 ^ (j + c) - q * 2 ^ c ≡ (2 ^ j - q) * 2 ^ c + 0 = omega (arith, pow-add 2 j c, ap (λ (x : ℕ). x * 2 ^ c) (sub-add_cancel (le_of_lt h))) in
    ap₂ bit_or split (sym (add-zero (q * 2 ^ c))) ∙ or_block c (2 ^ j - q) q 0 0 (pow_pos c) (pow_pos c)
    ∙ add-zero _ ∙ ap (λ (x : ℕ). x * 2 ^ c) (neg_or_odd j q h o) ∙ sym (high_ones j c)

pub neg_or : (w s : ℕ) → zero < s → s < 2 ^ w → bit_or ((2 ^ w - s) % 2 ^ w) s ≡ 2 ^ w - 2 ^ count_trailing_zeros w s
neg_or w s pos h =
    let r = split w s pos h in
    ap (λ (x : ℕ). bit_or x s) (mod-eq_of_lt (pow-sub-lt w pos)) ∙ at_width w _ r.j r.q s r.width r.part (neg_or_block r.j _ r.q r.small r.odd)
  where
    at_width : (w c j q s : ℕ) → j + c ≡ w → s ≡ q * 2 ^ c → bit_or (2 ^ (j + c) - q * 2 ^ c) (q * 2 ^ c) ≡ 2 ^ (j + c) - 2 ^ c → bit_or (2 ^ w - s) s ≡ 2 ^ w - 2 ^ c
    at_width w c j q s e part p = rw (part, ← e) p

-- a mask of the digits from c on lets t through just where 2 ^ c divides t
mask_block : (j c t : ℕ) → t < 2 ^ (j + c) → bit_and (2 ^ (j + c) - 2 ^ c) t ≡ t / 2 ^ c * 2 ^ c
mask_block j c t h = and_comm _ t ∙ and_high t j c ∙ ap (λ (x : ℕ). x * 2 ^ c) (shr_mod j c h)

pub mask : (w j c t : ℕ) → j + c ≡ w → t < 2 ^ w → bit_and (2 ^ w - 2 ^ c) t ≡ t / 2 ^ c * 2 ^ c
mask w j c t e h = rw (← e) (mask_block j c t (rw (← e) at h))

-- the solver's test of t against s: whether 2 ^ c divides t
pub reach : (w s t : ℕ) → zero < s → s < 2 ^ w → t < 2 ^ w → (bit_and (bit_or ((2 ^ w - s) % 2 ^ w) s) t ≡ t) ↔ (t % 2 ^ count_trailing_zeros w s ≡ 0)
reach w s t pos hs ht =
    let r = split w s pos hs in
    let c = count_trailing_zeros w s in
    let through : bit_and (bit_or ((2 ^ w - s) % 2 ^ w) s) t ≡ t / 2 ^ c * 2 ^ c = ap (λ (x : ℕ). bit_and x t) (neg_or w s pos hs) ∙ mask w r.j c t r.width ht in
    let parts : t / 2 ^ c * 2 ^ c + t % 2 ^ c ≡ t = div-add-mod' t (2 ^ c) in
    (λ e. omega arith, λ e. omega arith)

-- q * C, with q inverted by i modulo N: every x that is t * i modulo N is carried to t * C
core : (N C q i t x : ℕ) → zero < C → t < N → (i * q) % N ≡ 1 % N → x % N ≡ (t * i) % N → (x * (q * C)) % (N * C) ≡ t * C
core N C q i t x hC ht ei ex =
    ap (λ (n : ℕ). n % (N * C)) (sym (mul_assoc x q C)) ∙ mul_mod_mul (x * q) N C (omega arith) hC
    ∙ ap (λ (n : ℕ). n * C)
    (sym (mod_mul_mod x q N) ∙ ap (λ (n : ℕ). (n * q) % N) ex ∙ mod_mul_mod (t * i) q N ∙ ap (λ (n : ℕ). n % N) (mul_assoc t i q)
    ∙ sym (mul_mod_mod t (i * q) N) ∙ ap (λ (n : ℕ). (t * n) % N) ei ∙ mul_mod_mod t 1 N ∙ ap (λ (n : ℕ). n % N) (mul-one t) ∙ mod-eq_of_lt ht)

-- the law: i inverts the odd part of s, and z is any word whose digits stand above the j lowest
inverse_block : (j c q i t z : ℕ) → t < 2 ^ (j + c) → t % 2 ^ c ≡ 0 → (i * q) % 2 ^ (j + c) ≡ 1 → z % 2 ^ j ≡ 0
    → (bit_or ((t / 2 ^ c * i) % 2 ^ (j + c)) z * (q * 2 ^ c)) % 2 ^ (j + c) ≡ t
inverse_block j c q i t z ht et ei ez =
    let W : 2 ^ (j + c) ≡ 2 ^ j * 2 ^ c = pow-add 2 j c in
    let low : (a : ℕ) → a % 2 ^ (j + c) % 2 ^ j ≡ a % 2 ^ j = λ a. rw (W, mul_comm (2 ^ j) (2 ^ c)) (mod_mod_mul (2 ^ c) (2 ^ j) a) in
    let p = (t / 2 ^ c * i) % 2 ^ (j + c) in
    let x : bit_or p z % 2 ^ j ≡ (t / 2 ^ c * i) % 2 ^ j = or_mod p z j ∙ rw (ez, or_zero_r (p % 2 ^ j)) (low (t / 2 ^ c * i)) in
    ap (λ (n : ℕ). (bit_or p z * (q * 2 ^ c)) % n) W
    ∙ core (2 ^ j) (2 ^ c) q i (t / 2 ^ c) (bit_or p z) (pow_pos c) (shr_lt j c ht) (sym (low (i * q)) ∙ ap (λ (n : ℕ). n % 2 ^ j) ei) x
    ∙ omega (arith, div-add-mod' t (2 ^ c))

pub inverse : (w s t i z : ℕ) (r : Split w s (count_trailing_zeros w s)) → t < 2 ^ w → t % 2 ^ count_trailing_zeros w s ≡ 0 → (i * r.q) % 2 ^ w ≡ 1 → z % 2 ^ r.j ≡ 0
    → (bit_or ((t / 2 ^ count_trailing_zeros w s * i) % 2 ^ w) z * s) % 2 ^ w ≡ t
inverse w s t i z r = at_width w _ r.j r.q s r.width r.part
  where
    at_width : (w c j q s : ℕ) → j + c ≡ w → s ≡ q * 2 ^ c → t < 2 ^ w → t % 2 ^ c ≡ 0 → (i * q) % 2 ^ w ≡ 1 → z % 2 ^ j ≡ 0 → (bit_or ((t / 2 ^ c * i) % 2 ^ w) z * s) % 2 ^ w ≡ t
    at_width w c j q s e part = rw (part, ← e) (inverse_block j c q i t z)

-- and the other way: what s times anything is, 2 ^ c divides
pub product : (w s x : ℕ) → Split w s (count_trailing_zeros w s) → (x * s) % 2 ^ w % 2 ^ count_trailing_zeros w s ≡ 0
product w s x r = at_width w _ r.j r.q s r.width r.part
  where
    at_width : (w c j q s : ℕ) → j + c ≡ w → s ≡ q * 2 ^ c → (x * s) % 2 ^ w % 2 ^ c ≡ 0
    at_width w c j q s e part =
        rw (part, ← e, pow-add 2 j c, mod_mod_mul (2 ^ j) (2 ^ c) (x * (q * 2 ^ c)), ← mul_assoc x q (2 ^ c)) (mul-mod_left (x * q) (2 ^ c))

-- the c top digits of v, by the mask `!(ones >> c)`
pub top : (w j c v : ℕ) → j + c ≡ w → bit_and v (2 ^ w - 1 - (2 ^ w - 1) / 2 ^ c) % 2 ^ j ≡ 0
top w j c v e =
    let ones : (2 ^ (j + c) - 1) / 2 ^ c ≡ 2 ^ j - 1 = ap (λ (x : ℕ). x / 2 ^ c) (ones_split j c) ∙ high (2 ^ j - 1) c (ones_lt c) in
    let is : 2 ^ (j + c) - 1 - (2 ^ j - 1) ≡ 2 ^ (c + j) - 2 ^ j = rw (add_comm c j) (omega (arith, pow_pos j)) in
    rw (← e, ones, is, and_high v c j) (mul-mod_left (v / 2 ^ j % 2 ^ c) (2 ^ j))
