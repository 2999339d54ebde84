-- The operations of `specs/Word.antt` are SMT-LIB's (`specs/SmtLib.antt`), for all words: `is_smt_lib`. Assumes nothing.
use Rattle.std.proofs.Common.{◌≡◌, ℕ, zero, suc, ◌+◌, ◌-◌, ◌*◌, ◌/◌, ◌%◌, ◌^◌, ◌<◌, ◌≤◌, min, max, Bool, true, false, eqb, sym, refl, ap, ◌∙◌, ⊎_elim, lt_of_lt_of_le, mul-le-mul_right, mod-lt, mod-eq_of_lt, mul_assoc, eq-or-lt_of_le, div-le_self, one-add, arith, pow_pos, pow_mono, pow-add, eq-eqb, eqb-true}
use native.Mathlib.Nat.{mod-le, add-mod-mod, mul-mod_left, div-eq_of_lt}
use lib.Bits.{and_lt, or_lt, xor_lt}
use lib.Pow.{field, mod-mod-pow, mod-pow-add, high, low, shr_le}
use Rattle.laws.specs.Pick.{pick}
use Rattle.laws.proofs.Digits.{digit, digit_is, digit_lt, digit_zero, digit_and, digit_or, digit_xor, digit_not, not_lt, ext}
use Rattle.bitvec.specs.Word as ours
use Rattle.bitvec.specs.SmtLib as smt
use Rattle.bitvec.specs.SmtLib.{Bits, sum, bv2nat, nat2bv, Is, IsSmtLib}

-- a number that is a bit vector is its value
sum_is : (m n : ℕ) (b : Bits) → ((x : ℕ) → x < m → n / 2 ^ x % 2 ≡ b x) → sum m b ≡ n % 2 ^ m
unfolding sum
sum_is zero n b h = omega arith
sum_is (suc m) n b h = rw (← h m (omega arith), sum_is m n b (λ x l. h x (omega arith))) (sym (mod-pow-add n 1 m) ∙ ap (λ (k : ℕ). n % 2 ^ k) (one-add m))

value : {n : ℕ} {b : Bits} → Is n b → bv2nat b ≡ n
unfolding bv2nat
value {n} {b} p = sum_is 64 n b p.place ∙ mod-eq_of_lt p.word

-- a remainder by 2 ^ w keeps the places below w
mod_place : (w j x n : ℕ) → j + 1 + x ≡ w → n % 2 ^ w / 2 ^ x % 2 ≡ n / 2 ^ x % 2
mod_place w j x n e = rw (← e, field n (j + 1) x) (mod-mod-pow (n / 2 ^ x) j 1)

nat2bv_is : (n : ℕ) → Is (n % 2 ^ 64) (nat2bv n)
unfolding nat2bv
nat2bv_is n = record { word = mod-lt n (pow_pos 64); place = λ x l. mod_place 64 (63 - x) x n (omega arith) }

-- each word is a bit vector
pub as_bits : (n : ℕ) → n < 2 ^ 64 → Is n (nat2bv n)
as_bits n h = rw (mod-eq_of_lt h) at (nat2bv_is n)

-- by the digits
module _ {n : ℕ} {b : Bits} where
  digit_of : Is n b → (x : ℕ) → x < 64 → digit n x ≡ b x
  digit_of p x l = digit_is n x ∙ p.place x l

  by_digits : n < 2 ^ 64 → ((x : ℕ) → x < 64 → digit n x ≡ b x) → Is n b
  by_digits h d = record { word = h; place = λ x l. sym (digit_is n x) ∙ d x l }

ones_is : Is ours.M (λ x. 1)
ones_is = by_digits (omega arith) (λ x l. digit_not 64 0 x (pow_pos 64) l ∙ rw (digit_zero x))

pick_is : {n m : ℕ} {s t : Bits} (c : Bool) → Is n s → Is m t → Is (pick c n m) (pick c s t)
pick_is true p q = p
pick_is false p q = q

-- the complement, by bit
not_bit : (u : ℕ) → u < 2 → 1 - u ≡ pick (eqb u 0) 1 0
not_bit zero h = refl
not_bit (suc zero) h = refl
not_bit (suc (suc u)) h = absurd (omega arith)

-- two operations on bits agree where they agree on each of the four pairs
two_bits : (f g : ℕ → ℕ → ℕ) → f 0 0 ≡ g 0 0 → f 0 1 ≡ g 0 1 → f 1 0 ≡ g 1 0 → f 1 1 ≡ g 1 1 → (u v : ℕ) → u < 2 → v < 2 → f u v ≡ g u v
two_bits f g e₀ e₁ e₂ e₃ zero zero hu hv = e₀
two_bits f g e₀ e₁ e₂ e₃ zero (suc zero) hu hv = e₁
two_bits f g e₀ e₁ e₂ e₃ zero (suc (suc v)) hu hv = absurd (omega arith)
two_bits f g e₀ e₁ e₂ e₃ (suc zero) zero hu hv = e₂
two_bits f g e₀ e₁ e₂ e₃ (suc zero) (suc zero) hu hv = e₃
two_bits f g e₀ e₁ e₂ e₃ (suc zero) (suc (suc v)) hu hv = absurd (omega arith)
two_bits f g e₀ e₁ e₂ e₃ (suc (suc u)) v hu hv = absurd (omega arith)

module _ {a : ℕ} {s : Bits} (p : Is a s) where
  not_is : Is (ours.bvnot a) (smt.bvnot s)
  not_is = by_digits (not_lt 64 a) (λ x l. rw (← digit_of p x l) (digit_not 64 a x p.word l ∙ not_bit _ (digit_lt a x)))

  neg_is : Is (ours.bvneg a) (smt.bvneg s)
  neg_is = rw (value p) (nat2bv_is (2 ^ 64 - a))

module _ {a b : ℕ} {s t : Bits} (p : Is a s) (q : Is b t) where
  -- n is by bit f of a and b, and f is g
  by_bit : {n : ℕ} (f g : ℕ → ℕ → ℕ) → n < 2 ^ 64 → ((x : ℕ) → digit n x ≡ f (digit a x) (digit b x))
      → f 0 0 ≡ g 0 0 → f 0 1 ≡ g 0 1 → f 1 0 ≡ g 1 0 → f 1 1 ≡ g 1 1 → Is n (λ x. g (s x) (t x))
  by_bit f g h d e₀ e₁ e₂ e₃ =
      by_digits h (λ x l.
      rw (← digit_of p x l, ← digit_of q x l) (d x ∙ two_bits f g e₀ e₁ e₂ e₃ _ _ (digit_lt a x) (digit_lt b x)))

  and_is : Is (ours.bvand a b) (smt.bvand s t)
  and_is = by_bit min (λ u v. pick (eqb u 0) 0 v) (and_lt 64 a b p.word q.word) (digit_and a b) refl refl refl refl

  or_is : Is (ours.bvor a b) (smt.bvor s t)
  or_is = by_bit max (λ u v. pick (eqb u 1) 1 v) (or_lt 64 a b p.word q.word) (digit_or a b) refl refl refl refl

  xor_is : Is (ours.bvxor a b) (smt.bvxor s t)
  xor_is =
      by_bit (λ u v. (u + v) % 2) (λ u v. smt.bvxor (λ x. u) (λ x. v) 0) (xor_lt 64 a b p.word q.word) (digit_xor a b) refl refl refl refl

  add_is : Is (ours.bvadd a b) (smt.bvadd s t)
  add_is = rw (value p, value q) (nat2bv_is (a + b))

  same_bits : a ≡ b → (x : ℕ) → x < 64 → s x ≡ t x
  same_bits e x l = sym (p.place x l) ∙ ap (λ (n : ℕ). n / 2 ^ x % 2) e ∙ q.place x l

  same_number : ((x : ℕ) → x < 64 → s x ≡ t x) → a ≡ b
  same_number h = ext 64 a b p.word q.word (λ x l. digit_of p x l ∙ h x l ∙ sym (digit_of q x l))

pub is_smt_lib : {a b : ℕ} {s t : Bits} → Is a s → Is b t → IsSmtLib a b s t
is_smt_lib {a} {b} p q = record {
  not_is = not_is p;
  and_is = and_is p q;
  or_is = or_is p q;
  xor_is = xor_is p q;
  neg_is = neg_is p;
  add_is = add_is p q;
  sub_is = rw (← add-mod-mod a (2 ^ 64 - b) (2 ^ 64)) (add_is p (neg_is q));
  mul_is = rw (value p, value q) (nat2bv_is (a * b));
  udiv_is = rw (value p, value q) (pick_is (eqb b 0) ones_is (as_bits (a / b) (omega (arith, p.word, div-le_self a b))));
  urem_is = rw (value p, value q) (pick_is (eqb b 0) p (as_bits (a % b) (omega (arith, p.word, mod-le a b))));
  shl_is = rw (value p, value q) (nat2bv_is (a * 2 ^ b));
  lshr_is = rw (value p, value q) (as_bits (a / 2 ^ b) (omega (arith, p.word, shr_le a b)));
  ult_is = rw (value p, value q);
  eq_is = (λ e. same_bits p q (eqb-true a b e), λ h. eq-eqb a b (same_number p q h));
}

-- all words are bit vectors, so this holds of any two
pub all_words : (a b : ℕ) → a < 2 ^ 64 → b < 2 ^ 64 → IsSmtLib a b (nat2bv a) (nat2bv b)
all_words a b ha hb = is_smt_lib (as_bits a ha) (as_bits b hb)

-- where the code's shifts differ: SMT-LIB's are 0 from 64 on
module _ (a k : ℕ) (h : 64 ≤ k) where
  pub shl_past : ours.bvshl a k ≡ 0
  shl_past =
      let e : k - 64 + 64 ≡ k = omega arith in
      rw (← e, pow-add 2 (k - 64) 64, ← mul_assoc a (2 ^ (k - 64)) (2 ^ 64)) (mul-mod_left (a * 2 ^ (k - 64)) (2 ^ 64))

  pub lshr_past : a < 2 ^ 64 → ours.bvlshr a k ≡ 0
  lshr_past l = div-eq_of_lt (lt_of_lt_of_le l (pow_mono h))

-- and each bit vector is a word (`of_bits`)
sum_lt : (m : ℕ) (b : Bits) → ((x : ℕ) → x < m → b x < 2) → sum m b < 2 ^ m
unfolding sum
sum_lt zero b h = omega arith
sum_lt (suc m) b h =
    let top : b m ≤ 1 = omega (arith, h m (omega arith)) in
    omega (arith, mul-le-mul_right (2 ^ m) top, sum_lt m b (λ x l. h x (omega arith)))

sum_place : (m : ℕ) (b : Bits) → ((x : ℕ) → x < m → b x < 2) → (x : ℕ) → x < m → sum m b / 2 ^ x % 2 ≡ b x
unfolding sum
sum_place zero b h x l = absurd (omega arith)
sum_place (suc m) b h x l =
    let under : (y : ℕ) → y < m → b y < 2 = λ y k. h y (omega arith) in
    let n = b m * 2 ^ m + sum m b in
    let le : x ≤ m = omega arith in
    ⊎_elim
    (λ e. rw e (ap (λ (d : ℕ). d % 2) (high (b m) m (sum_lt m b under)) ∙ mod-eq_of_lt (h m (omega arith))))
    (λ k. sym (mod_place m (m - 1 - x) x n (omega arith)) ∙ rw (low (b m) m (sum_lt m b under)) (sum_place m b under x k))
    (eq-or-lt_of_le le)

pub of_bits : (b : Bits) → ((x : ℕ) → x < 64 → b x < 2) → Is (bv2nat b) b
unfolding bv2nat
of_bits b h = record { word = sum_lt 64 b h; place = sum_place 64 b h }

-- nat2bv, as the theory describes it
module _ (n : ℕ) where
  pub nat2bv_value : bv2nat (nat2bv n) ≡ n % 2 ^ 64
  nat2bv_value = value (nat2bv_is n)

  pub nat2bv_only : (b : Bits) → ((x : ℕ) → x < 64 → b x < 2) → bv2nat b ≡ n % 2 ^ 64 → (x : ℕ) → x < 64 → b x ≡ nat2bv n x
  nat2bv_only b h = same_bits (of_bits b h) (nat2bv_is n)
