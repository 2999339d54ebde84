-- When x + s = t, x - s = t, x / s = t, s / x = t, x % s = t and s % x = t have a word x, and one for each. Assumes nothing.
use Rattle.std.proofs.Common.{◌≡◌, ℕ, zero, ◌+◌, ◌-◌, ◌*◌, ◌/◌, ◌%◌, ◌^◌, ◌<◌, ◌≤◌, ◌⊎◌, ◌↔◌, sym, ap, ◌∙◌, inl, inr, ⊎_elim, mul-le-mul_right, mod-lt, mod-eq_of_lt, div-lt_iff_lt-mul, eq-zero-or-pos, eq-or-lt_of_le, ne_of_gt, div-add-mod', le-div_iff_mul-le, div-le_self, div-mul-le_self, mul-div_cancel, arith, ne_eqb}
use native.Mathlib.Nat.{div-eq_of_lt, div-eq_of_lt-le}
use lib.Arith.{digits_mod}
use lib.Pow.{le_ones}
use Rattle.bitvec.specs.Word.{bvadd, bvsub, bvudiv, bvurem}

-- a word x with P
abbrev pub Some : (ℕ → Type 0) → Type 0
Some P = (x : ℕ) × (x < 2 ^ 64) × P x

module _ (s t : ℕ) (hs : s < 2 ^ 64) (ht : t < 2 ^ 64) where
  pub add_left : bvadd (bvsub t s) s ≡ t
  add_left = omega arith

  pub sub_left : bvsub (bvadd t s) s ≡ t
  sub_left = omega arith

  pub sub_right : bvsub s (bvsub s t) ≡ t
  sub_right = omega arith

-- away from 0 the operations are those of numbers
pub div_is : (a b : ℕ) → zero < b → bvudiv a b ≡ a / b
div_is a b h = simp (ne_eqb b 0 (ne_of_gt h))

pub rem_is : (a b : ℕ) → zero < b → bvurem a b ≡ a % b
rem_is a b h = simp (ne_eqb b 0 (ne_of_gt h))

-- x / s = t, with s not 0: where t * s is a word
pub div_left : (s t : ℕ) → zero < s → (t * s < 2 ^ 64) ↔ Some (λ x. bvudiv x s ≡ t)
div_left s t pos = (
  λ h. (t * s, h, div_is (t * s) s pos ∙ mul-div_cancel t pos),
  λ p. omega (arith, div-mul-le_self p.0 s, ap (λ (n : ℕ). n * s) (sym (div_is p.0 s pos) ∙ p.2)),
)

-- x % s = t, with s not 0: where t is below s
pub rem_left : (s t : ℕ) → zero < s → s < 2 ^ 64 → (t < s) ↔ Some (λ x. bvurem x s ≡ t)
rem_left s t pos hs = (
  λ h. (t, omega arith, rem_is t s pos ∙ mod-eq_of_lt h),
  λ p. omega (arith, mod-lt p.0 pos, sym (rem_is p.0 s pos) ∙ p.2),
)

-- s % x = t: x is 0, or s - t
pub rem_right : (s t : ℕ) → s < 2 ^ 64 → ((s ≡ t) ⊎ (t + t < s)) ↔ Some (λ x. bvurem s x ≡ t)
rem_right s t hs = (⊎_elim (λ e. (0, omega arith, e)) (λ h. (s - t, omega arith, rem_is s (s - t) (omega arith) ∙ rest h)), λ p. ⊎_elim (at_zero p) (at_pos p) (eq-zero-or-pos p.0))
  where
    rest : t + t < s → s % (s - t) ≡ t
    rest h = let e : s ≡ 1 * (s - t) + t = omega arith in ap (λ (n : ℕ). n % (s - t)) e ∙ digits_mod 1 (omega arith)

    at_zero : (p : Some (λ x. bvurem s x ≡ t)) → p.0 ≡ 0 → (s ≡ t) ⊎ (t + t < s)
    at_zero p e = inl (rw e at p.2)

    at_pos : (p : Some (λ x. bvurem s x ≡ t)) → zero < p.0 → (s ≡ t) ⊎ (t + t < s)
    at_pos p pos =
        let x = p.0 in
        let e : s % x ≡ t = sym (rem_is s x pos) ∙ p.2 in
        let split : s / x * x + s % x ≡ s = div-add-mod' s x in
        ⊎_elim
        (λ z. inl (omega (arith, ap (λ (n : ℕ). n * x) z)))
        (λ q. inr (omega (arith, mul-le-mul_right x q, mod-lt s pos)))
        (eq-zero-or-pos (s / x))

-- of all x with s / x = t, not 0, the largest is s / t
largest : (s t x : ℕ) → zero < t → zero < x → s / x ≡ t → s / (s / t) ≡ t
largest s t x ht hx e =
    let y = s / t in
    let up : t * x ≤ s = (le-div_iff_mul-le hx).0 (omega arith) in
    let le : x ≤ y = (le-div_iff_mul-le ht).1 (omega arith) in
    let lo : t * y ≤ s = omega (arith, div-mul-le_self s t) in
    let hi : s < (t + 1) * x = (div-lt_iff_lt-mul hx).0 (omega arith) in
    div-eq_of_lt-le y lo (omega (arith, mul-le-mul_right (t + 1) le))

div_word : (s t : ℕ) → s < 2 ^ 64 → bvudiv s t < 2 ^ 64
div_word s t hs = ⊎_elim (λ z. rw z (omega arith)) (λ pos. rw (div_is s t pos) (omega (arith, div-le_self s t))) (eq-zero-or-pos t)

-- s / x = t: where s / (s / t) is t, with the quotients of words
pub div_right : (s t : ℕ) → s < 2 ^ 64 → t < 2 ^ 64 → (bvudiv s (bvudiv s t) ≡ t) ↔ Some (λ x. bvudiv s x ≡ t)
div_right s t hs ht = (λ e. (bvudiv s t, div_word s t hs, e), λ p. ⊎_elim (λ z. by_zero (rw z at p.2)) (λ pos. by_pos p pos (sym (div_is s p.0 pos) ∙ p.2)) (eq-zero-or-pos p.0))
  where
    -- by the largest word
    by_ones : s < 2 ^ 64 - 1 → bvudiv s (2 ^ 64 - 1) ≡ 0
    by_ones h = div-eq_of_lt h

    by_zero : 2 ^ 64 - 1 ≡ t → bvudiv s (bvudiv s t) ≡ t
    by_zero e = rw (← e) (⊎_elim (λ q. rw q) (λ h. rw (by_ones h)) (eq-or-lt_of_le (le_ones 64 hs)))

    by_pos : (p : Some (λ x. bvudiv s x ≡ t)) → zero < p.0 → s / p.0 ≡ t → bvudiv s (bvudiv s t) ≡ t
    by_pos p pos e =
        ⊎_elim
        (λ z. rw z (by_ones (omega (arith, (div-lt_iff_lt-mul {k = p.0} {x = s} {y = 1} pos).0 (omega arith)))))
        (λ ht.
        let y : 1 ≤ s / t = (le-div_iff_mul-le ht).1 (omega (arith, div-le_self s p.0)) in
        rw (div_is s t ht, div_is s (s / t) y) (largest s t p.0 ht pos e))
        (eq-zero-or-pos t)
