-- Laws of an input's width: what fits, what a word cut to the width is, and that "old files mean the same". Assumes nothing.
use Prim.Native.Nat.{◌%◌, ◌^◌, ◌≤◌, ◌<◌}
use mathlib.Core.Path.{◌≡◌, sym, ◌∙◌}
use mathlib.Core.Bool.{true}
use mathlib.Core.Logic.{◌⊎◌, ⊎_elim}
use native.Mathlib.Omega.{arith}
use native.Mathlib.Nat.{mod-lt, mod-le, mod-eq_of_lt}
use native.Mathlib.Decide.{ℕ_discrete}
use lib.Pow.{pow_pos, pow_mono, pow-lt}
use borrow.Author.Tests.{eq-eqb, ne_eqb, lt-ltb}
use Rattle.symbols.specs.Graph.{Value}
use Rattle.symbols.specs.Width.{bits, room, fits}
use Rattle.symbols.specs.declared.Port.{Port}

module _ (p : Port) where
  bits_zero : p.width ≡ 0 → bits p ≡ 64
  bits_zero e = rw (eq-eqb p.width 0 e)

  bits_other : (p.width ≡ 0 → ⊥) → bits p ≡ p.width
  bits_other ne = rw (ne_eqb p.width 0 ne)

  -- width bytes 0 and 64 mean the same
  pub bits_old : (p.width ≡ 0) ⊎ (p.width ≡ 64) → bits p ≡ 64
  bits_old = ⊎_elim bits_zero (λ e. bits_other (λ z. omega arith) ∙ e)

  bits_some : 1 ≤ bits p
  bits_some =
      elim (ℕ_discrete p.width 0) [
        | yes e ↦ omega (arith, bits_zero e)
        | no ne ↦ omega (arith, bits_other ne)
      ]

  -- a root input can always hold 1
  pub one_fits : fits p 1 ≡ true
  one_fits = lt-ltb 1 (room p) (pow-lt bits_some)

  module _ (v : Value) where
    pub cut_fits : fits p (v % room p) ≡ true
    cut_fits = lt-ltb (v % room p) (room p) (mod-lt v (pow_pos (bits p)))

    pub cut_below : v < 2 ^ 64 → v % room p < 2 ^ 64
    cut_below h = omega (arith, mod-le v (room p))

    module _ (small : v < 2 ^ 64) where
      wide : 64 ≤ bits p → v < room p
      wide h = let m : 2 ^ 64 ≤ room p = pow_mono h in omega arith

      -- "so old files mean the same": at width 64 every value fits, and a word is itself
      pub fits_64 : bits p ≡ 64 → fits p v ≡ true
      fits_64 e = lt-ltb v (room p) (wide (omega arith))

      pub word_64 : bits p ≡ 64 → v % room p ≡ v
      word_64 e = mod-eq_of_lt (wide (omega arith))

      -- the same as the code meets it, and for the widths that the check refuses
      wide_bits : (p.width ≡ 0 → ⊥) → 64 ≤ p.width → 64 ≤ bits p
      wide_bits ne h = omega (arith, bits_other ne)

      pub fits_zero : p.width ≡ 0 → true ≡ fits p v
      fits_zero e = sym (fits_64 (bits_zero e))

      pub fits_wide : (p.width ≡ 0 → ⊥) → 64 ≤ p.width → true ≡ fits p v
      fits_wide ne h = sym (lt-ltb v (room p) (wide (wide_bits ne h)))

      pub cut_zero : p.width ≡ 0 → v ≡ v % room p
      cut_zero e = sym (word_64 (bits_zero e))

      pub cut_wide : (p.width ≡ 0 → ⊥) → 64 ≤ p.width → v ≡ v % room p
      cut_wide ne h = sym (mod-eq_of_lt (wide (wide_bits ne h)))
