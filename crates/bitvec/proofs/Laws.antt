-- What the word solver does with `*` and `&`, over the definitions of `specs/Word.antt`. Each is a law of any width at 64. Assumes nothing.
use Rattle.std.proofs.Common.{◌≡◌, ℕ, zero, ◌-◌, ◌*◌, ◌/◌, ◌%◌, ◌^◌, ◌<◌, ◌↔◌, sym, ap, ◌∙◌, ⊎_elim, mul_comm, eq-zero-or-pos, mul-zero, arith}
use native.Mathlib.Nat.{zero-mod}
use lib.Count.{count_trailing_zeros}
use Rattle.laws.specs.Newton.{lifts}
use Rattle.laws.proofs.Newton.{unique, lifts_lt, lifted}
use Rattle.laws.proofs.Trailing.{Split, split, shifted, short}
use Rattle.laws.proofs.Reach.{neg_or, reach, inverse, product, top}
use Rattle.laws.proofs.Digits.{and_inverse, and_again}
use Rattle.bitvec.specs.Inverse.{inverse_of}
use Rattle.bitvec.specs.Word.{bvneg, bvmul, bvand, bvor, bvnot, bvlshr, ctz}

pub inverse_unique : (s x y : ℕ) → x < 2 ^ 64 → y < 2 ^ 64 → bvmul x s ≡ 1 → bvmul y s ≡ 1 → x ≡ y
inverse_unique = unique (2 ^ 64)

pub inverse_is : (s : ℕ) → s % 2 ≡ 1 → bvmul (inverse_of s) s ≡ 1
unfolding inverse_of
inverse_is s o = rw (mul_comm (lifts (2 ^ 64) s 6) s) (lifted 6 s 6 o (omega arith))

pub inverse_only : (s x : ℕ) → x < 2 ^ 64 → bvmul x s ≡ 1 → s % 2 ≡ 1 → x ≡ inverse_of s
unfolding inverse_of
inverse_only s x h e o = inverse_unique s x (lifts (2 ^ 64) s 6) h (lifts_lt (2 ^ 64) s 6 (omega arith)) e (inverse_is s o)

-- s is an odd word, shifted left by its trailing zeros
pub record OddPart (s : ℕ) : Type 0 where
  pub short : ctz s < 64
  pub odd : bvlshr s (ctz s) % 2 ≡ 1
  pub whole : bvlshr s (ctz s) * 2 ^ ctz s ≡ s

module _ (s : ℕ) (pos : zero < s) (hs : s < 2 ^ 64) where
  parts : Split 64 s (count_trailing_zeros 64 s)
  parts = split 64 s pos hs

  shr_odd : bvlshr s (ctz s) ≡ parts.q
  shr_odd = shifted parts

  pub odd_part : OddPart s
  odd_part = record { short = short parts; odd = rw shr_odd parts.odd; whole = rw shr_odd (sym parts.part) }

-- `-s | s` has every digit from the lowest of s on
pub neg_or_self : (s : ℕ) → zero < s → s < 2 ^ 64 → bvor (bvneg s) s ≡ 2 ^ 64 - 2 ^ ctz s
neg_or_self = neg_or 64

-- the test of `*` is whether the trailing zeros of s are zeros of t
pub mul_reach : (s t : ℕ) → zero < s → s < 2 ^ 64 → t < 2 ^ 64 → (bvand (bvor (bvneg s) s) t ≡ t) ↔ (t % 2 ^ ctz s ≡ 0)
mul_reach = reach 64

pub mul_reach_zero : (t : ℕ) → (bvand (bvor (bvneg 0) 0) t ≡ t) ↔ (t ≡ 0)
mul_reach_zero t = (λ e. sym e, λ e. sym e)

-- by 0 any word will do
pub mul_zero_inverse : (s t v : ℕ) → s ≡ 0 → bvand (bvor (bvneg s) s) t ≡ t → bvmul v s ≡ t
mul_zero_inverse s t v e test = rw e (ap (λ (n : ℕ). n % 2 ^ 64) (mul-zero v) ∙ (rw e at test))

-- the word that `*` is undone with: i inverts the odd part of s, and the top digits are those of any v
abbrev pub mul_inverse : ℕ → ℕ → ℕ → ℕ → ℕ
mul_inverse s t i v = bvor (bvmul (bvlshr t (ctz s)) i) (bvand v (bvnot (bvlshr (2 ^ 64 - 1) (ctz s))))

pub mul_inverse_lem : (s t i v : ℕ) → zero < s → s < 2 ^ 64 → t < 2 ^ 64 → bvand (bvor (bvneg s) s) t ≡ t → bvmul i (bvlshr s (ctz s)) ≡ 1 → bvmul (mul_inverse s t i v) s ≡ t
mul_inverse_lem s t i v pos hs ht test inv =
    let r = parts s pos hs in
    let c = ctz s in
    let z = bvand v (bvnot ((2 ^ 64 - 1) / 2 ^ c)) in
    inverse 64 s t i z r ht ((mul_reach s t pos hs ht).0 test) (rw (shr_odd s pos hs) at inv) (top 64 r.j c v r.width)

-- the test says whether t is a product of s at all
pub mul_test : (s t : ℕ) → s < 2 ^ 64 → t < 2 ^ 64 → (bvand (bvor (bvneg s) s) t ≡ t) ↔ ((x : ℕ) × (bvmul x s ≡ t))
mul_test s t hs ht = ⊎_elim at_zero at_pos (eq-zero-or-pos s)
  where
    at_zero : s ≡ 0 → (bvand (bvor (bvneg s) s) t ≡ t) ↔ ((x : ℕ) × (bvmul x s ≡ t))
    at_zero e = rw e (λ p. (0, p), λ p. sym (sym p.1 ∙ ap (λ (n : ℕ). n % 2 ^ 64) (mul-zero p.0)))

    at_pos : zero < s → (bvand (bvor (bvneg s) s) t ≡ t) ↔ ((x : ℕ) × (bvmul x s ≡ t))
    at_pos pos =
        let r = parts s pos hs in
        let i = inverse_of r.q in (
          λ p. (_, inverse 64 s t i 0 r ht ((mul_reach s t pos hs ht).0 p) (inverse_is r.q r.odd) (zero-mod (2 ^ r.j))),
          λ p. (mul_reach s t pos hs ht).1 (ap (λ (n : ℕ). n % 2 ^ ctz s) (sym p.1) ∙ product 64 s p.0 r),
        )

pub and_inverse_word : (s t v : ℕ) → s < 2 ^ 64 → t < 2 ^ 64 → v < 2 ^ 64 → bvand t s ≡ t → bvand (bvor (bvand v (bvnot s)) t) s ≡ t
and_inverse_word = and_inverse 64

-- the test of `&` says whether some x has x & s = t
pub and_test : (s t : ℕ) → (bvand t s ≡ t) ↔ ((x : ℕ) × (bvand x s ≡ t))
and_test s t = (λ e. (t, e), λ p. rw (← p.1) (and_again p.0 s))
