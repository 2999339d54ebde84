-- Each kind is wrong: at (a) and (b) the table says yes and there is no x, at (c) it says no and there is one. Assumes nothing.
use Prim.Native.Nat.{◌/◌, ◌^◌, ◌<◌, ◌≤◌}
use mathlib.Core.Path.{◌≡◌, refl}
use mathlib.Core.Bool.{Bool, true, false}
use native.Mathlib.Nat.{ne_of_gt, ne_of_lt, le-div_iff_mul-le}
use native.Mathlib.Omega.{arith}
use mir.Val.{bool_byte}
use borrow.Author.Tests.{ne_eqb, le-leb, le-ltb}
use lib.Dec.{ltb, eqb}
use Rattle.bitvec.specs.Word.{M, bvurem}
use Rattle.bitvec.proofs.Inverses.{div_is, div_right}
use Rattle.symbols.specs.Graph.{Value}
use Rattle.symbols.specs.declared.OperandSide.{OperandSide}
use Rattle.symbols.specs.declared.OperandSide.TheVariants.{Lhs, Rhs}
use Rattle.symbols.specs.declared.BVOperator.{BVOperator}
use Rattle.symbols.specs.declared.BVOperator.TheVariants.{Divu, Sltu, Remu, Not, Equals}
use Rattle.reach.specs.Table.{table_says}
use Rattle.existence.specs.Kinds.{Reachable, KindA, KindB, KindC, at_divu, at_sltu, at_equals, at_not, at_remu}

-- a truth value is 1 or 0
bit_lt : (b : Bool) → bool_byte b < 2
bit_lt true = omega arith
bit_lt false = omega arith

module _ (s t : Value) (hs : s < 2 ^ 64) (ht : t < 2 ^ 64) where
  -- where s/x is t for some x, s/(s/t) is t
  no_quotient : 0 < t → t ≤ s → (s / (s / t) ≡ t → ⊥) → Reachable Divu Rhs s t → ⊥
  no_quotient h l n p =
      let q : 1 ≤ s / t = (le-div_iff_mul-le h).1 (omega arith) in
      n (rw (div_is s t h, div_is s (s / t) q) at ((div_right s t hs ht).1 p))

  yes_quotient : 0 < t → t < M → t ≤ s → table_says Divu Rhs s t ≡ true
  unfolding table_says
  yes_quotient h m l = rw (ne_eqb t 0 (ne_of_gt h), ne_eqb t M (ne_of_lt m)) (le-leb t s l)

  -- Sltu, Equals and Not give 1 or 0
  low_sltu : (d : OperandSide) → 1 < t → Reachable Sltu d s t → ⊥
  low_sltu Lhs h p = omega (arith, bit_lt (ltb p.0 s), p.2)
  low_sltu Rhs h p = omega (arith, bit_lt (ltb s p.0), p.2)

  low_equals : (d : OperandSide) → 1 < t → Reachable Equals d s t → ⊥
  low_equals Lhs h p = omega (arith, bit_lt (eqb p.0 s), p.2)
  low_equals Rhs h p = omega (arith, bit_lt (eqb s p.0), p.2)

  low_not : (d : OperandSide) → 1 < t → Reachable Not d s t → ⊥
  low_not d h p = omega (arith, bit_lt (eqb p.0 0), p.2)

yes_not : (d : OperandSide) (s t : Value) → table_says Not d s t ≡ true
unfolding table_says
yes_not d s t = refl

no_remainder : (s t : Value) → s ≡ 0 → table_says Remu Lhs s t ≡ false
unfolding table_says
no_remainder s t z = le-ltb t s (omega arith)

-- "x%0 = x"
all_remainder : (s t : Value) → s ≡ 0 → bvurem t s ≡ t
all_remainder s t z = rw z

pub kind_a : {o : BVOperator} {d : OperandSide} {s t : Value} → s < 2 ^ 64 → t < 2 ^ 64 → KindA o d s t → (table_says o d s t ≡ true) × (Reachable o d s t → ⊥)
kind_a hs ht (at_divu {s} {t} h m l n) = (yes_quotient s t hs ht (omega arith) (omega arith) (omega arith), no_quotient s t hs ht (omega arith) (omega arith) n)

pub kind_b : {o : BVOperator} {d : OperandSide} {s t : Value} → s < 2 ^ 64 → t < 2 ^ 64 → KindB o d s t → (table_says o d s t ≡ true) × (Reachable o d s t → ⊥)
kind_b hs ht (at_sltu {d} {s} {t} h y) = ((cc), low_sltu s t hs ht d (omega arith))
kind_b hs ht (at_equals {d} {s} {t} h y) = ((cc), low_equals s t hs ht d (omega arith))
kind_b hs ht (at_not {d} {s} {t} h) = (yes_not d s t, low_not s t hs ht d (omega arith))

pub kind_c : {o : BVOperator} {d : OperandSide} {s t : Value} → t < 2 ^ 64 → KindC o d s t → (table_says o d s t ≡ false) × Reachable o d s t
kind_c ht (at_remu {s} {t} z) = (no_remainder s t (omega arith), (t, ht, all_remainder s t (omega arith)))
