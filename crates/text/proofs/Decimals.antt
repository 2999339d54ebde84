-- Laws of decimals, and one law for each `return` of put_decimal. Assumes nothing.
use Prim.Native.Nat.{ℕ, zero, suc, ◌^◌, ◌/◌, ◌%◌, ◌≤◌, ◌<◌}
use mathlib.Core.Path.{◌≡◌, sym, ap, ◌∙◌}
use mathlib.Core.List.{[], ◌∷◌, ◌++◌}
use native.Mathlib.Decide.{dec_le}
use native.Mathlib.Omega.{arith}
use lib.ListN.{length, length-append}
use borrow.Author.Tests.{lt-ltb, le-ltb}
use Rattle.text.specs.Text.{Text, Place, digit, digits, decimal, Wrote}
use Rattle.text.proofs.Writing.{wrote_append}

digits_one : (k v : ℕ) → v < 10 → digits (suc k) v ≡ digit v ∷ []
unfolding digits
digits_one k v h = rw (lt-ltb v 10 h)

digits_more : (k v : ℕ) → 10 ≤ v → digits (suc k) v ≡ digits k (v / 10) ++ (digit (v % 10) ∷ [])
unfolding digits
digits_more k v h = rw (le-ltb v 10 h)

-- room for as many digits as there are is room enough
digits_fit : (j k v : ℕ) → v ≤ j → v < 10 ^ suc k → digits (suc j) v ≡ digits (suc k) v
digits_fit zero k v h g = digits_one zero v (omega arith) ∙ sym (digits_one k v (omega arith))
digits_fit (suc j) zero v h g = digits_one (suc j) v (omega arith) ∙ sym (digits_one zero v (omega arith))
digits_fit (suc j) (suc k) v h g =
    elim (dec_le 10 v) [
      | yes p ↦ digits_more (suc j) v p ∙ ap (λ (l : Text). l ++ (digit (v % 10) ∷ [])) (digits_fit j k (v / 10) (omega arith) (omega arith)) ∙ sym (digits_more (suc k) v p)
      | no p ↦ digits_one (suc j) v (omega arith) ∙ sym (digits_one (suc k) v (omega arith))
    ]

digits_enough : (j k v : ℕ) → v ≤ j → v ≤ k → digits (suc j) v ≡ digits (suc k) v
digits_enough j k v h g = digits_fit j k v h (big k v g)
  where
    big : (k v : ℕ) → v ≤ k → v < 10 ^ suc k
    big zero v g = omega arith
    big (suc k) v g = omega (arith, big k k (omega arith))

digits_length : (k v : ℕ) → length (digits k v) ≤ k
unfolding digits
digits_length zero v = omega arith
digits_length (suc k) v =
    elim (dec_le 10 v) [
      | yes p ↦ rw (digits_more k v p, length-append) (omega (arith, digits_length k (v / 10)))
      | no p ↦ rw (digits_one k v (omega arith)) (omega arith)
    ]

pub decimal_one : (v : ℕ) → v < 10 → decimal v ≡ digit v ∷ []
unfolding decimal
decimal_one v h = digits_one v v h

pub decimal_more : (v : ℕ) → 10 ≤ v → decimal v ≡ decimal (v / 10) ++ (digit (v % 10) ∷ [])
unfolding decimal
decimal_more (suc v) h = digits_more (suc v) (suc v) h ∙ ap (λ (l : Text). l ++ (digit (suc v % 10) ∷ [])) (digits_enough v (suc v / 10) (suc v / 10) (omega arith) (omega arith))
decimal_more zero h = absurd (omega arith)

-- a number below 10 to the power k has at most k digits
pub decimal_length : (k v : ℕ) → v < 10 ^ suc k → length (decimal v) ≤ suc k
unfolding decimal
decimal_length k v h = rw (digits_fit v k v (omega arith) h) (digits_length (suc k) v)

-- put_decimal
pub last_digit : (v : ℕ) (at n : Place) (o p : Text) → v < 10 → Wrote (digit v ∷ []) at o p n → Wrote (decimal v) at o p n
last_digit v at n o p h u = rw (decimal_one v h) u

pub next_digit : (v : ℕ) (at n m : Place) (o p q : Text) → 10 ≤ v → length o < 2 ^ 64 → Wrote (decimal (v / 10)) at o p n → Wrote (digit (v % 10) ∷ []) n p q m → Wrote (decimal v) at o q m
next_digit v at n m o p q h g u w = rw (decimal_more v h) (wrote_append g u w)
