-- The inverse value of Mul: where s has an odd part, its inverse is the one that the row names. Assumes nothing.
use mathlib.Core.Path.{◌≡◌, ap, ◌∙◌}
use Prim.Native.Nat.{ℕ, ◌%◌, ◌^◌, ◌<◌}
use native.Mathlib.Nat.{mod-eq_of_lt, pos_of_ne-zero, zero-div}
use native.Mathlib.Decide.{ℕ_discrete}
use native.Mathlib.Omega.{arith}
use borrow.Author.Tests.{eq-eqb, ne_eqb}
use Rattle.std.specs.Prelude.{Option, Some, None}
use Rattle.bitvec.specs.Word.{M, bvmul, bvand, bvor, bvnot, bvlshr, ctz}
use Rattle.bitvec.specs.Inverse.{inverse_of, InverseIs}
use Rattle.bitvec.specs.declared.BitVector.{BitVector}
use Rattle.bitvec.proofs.Laws.{OddPart, odd_part, inverse_only}
use Rattle.rules.specs.One.{mul_value}

-- p is what is left of s after its zeros, and r its inverse, if any
module _ (s t w : ℕ) (hs : s < 2 ^ 64) (c : ℕ) (hc : c ≡ ctz s) (p : ℕ) (hp : p ≡ bvlshr s (c % 64)) (r : Option BitVector) (hr : InverseIs p r) where
  module _ (nz : s ≡ 0 → ⊥) where
    parts : OddPart s
    parts = odd_part s (pos_of_ne-zero nz) hs

    small : c % 64 ≡ ctz s
    small = ap (λ (x : ℕ). x % 64) hc ∙ mod-eq_of_lt parts.short

    part : p ≡ bvlshr s (ctz s)
    part = hp ∙ ap (bvlshr s) small

    odd : p % 2 ≡ 1
    odd = ap (λ (x : ℕ). x % 2) part ∙ parts.odd

  pub mul_no_part : r ≡ None → w ≡ mul_value s t w
  unfolding mul_value
  mul_no_part e =
      let even : p % 2 ≡ 0 = rw e at hr in
      elim (ℕ_discrete s 0) [
        | yes z ↦ rw (eq-eqb s 0 z)
        | no nz ↦ absurd (omega (arith, odd nz))
      ]

  pub mul_part : (i : BitVector) → r ≡ Some i → i.0 < 2 ^ 64 → (v : ℕ) → v ≡ bvor (bvmul (bvlshr t (c % 64)) i.0) (bvand w (bvnot (bvlshr M (c % 64)))) → v ≡ mul_value s t w
  unfolding mul_value
  mul_part i e hi v hv =
      let told = rw e at hr in
      elim (ℕ_discrete s 0) [
        | yes z ↦ let none : p ≡ 0 = hp ∙ rw (z, zero-div (2 ^ (c % 64))) in absurd (omega (arith, told.0))
        | no nz ↦ let is : i.0 ≡ inverse_of p = inverse_only p i.0 hi told.1 (odd nz) in rw (ne_eqb s 0 nz, ← part nz, ← is, hv, small nz)
      ]
