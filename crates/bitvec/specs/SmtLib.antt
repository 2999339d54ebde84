-- SMT-LIB's theory FixedSizeBitVectors at m = 64, with the two abbreviations of its logic QF_BV that document 01 needs: each
-- definition under the line that it renders, where [[s]] is written s. Assumes nothing.
use Rattle.std.specs.Prelude.{◌≡◌, ℕ, zero, suc, ◌+◌, ◌-◌, ◌*◌, ◌/◌, ◌%◌, ◌^◌, ◌<◌, Bool, true, ◌↔◌, ◌==◌, nat_lt}
use Rattle.laws.specs.Pick.{pick}
use Rattle.bitvec.specs.Word as ours

-- "Bit vectors are functions from [0, m) to {0, 1}": of a function, the places below 64 count
abbrev pub Bits : Type 0
Bits = ℕ → ℕ

-- bv2nat(b) := b(m-1)*2^{m-1} + b(m-2)*2^{m-2} + ⋯ + b(0)*2^0
unfoldable pub sum : ℕ → Bits → ℕ
sum zero b = 0
sum (suc m) b = b m * 2 ^ m + sum m b

unfoldable pub bv2nat : Bits → ℕ
bv2nat b = sum 64 b

-- nat2bv[m], which "takes a non-negative integer n and returns the (unique) bitvector b such that
-- b(m-1)*2^{m-1} + ⋯ + b(0)*2^0 = n rem 2^m": it is this one (`nat2bv_value`, `nat2bv_only` of proofs/SmtLib.antt)
unfoldable pub nat2bv : ℕ → Bits
nat2bv n x = n / 2 ^ x % 2

-- (bvnot s) := λx:[0, m). if s(x) = 0 then 1 else 0
abbrev pub bvnot : Bits → Bits
bvnot s x = pick (s x == 0) 1 0

-- (bvand s t) := λx:[0, m). if s(x) = 0 then 0 else t(x)
abbrev pub bvand : Bits → Bits → Bits
bvand s t x = pick (s x == 0) 0 (t x)

-- (bvor s t) := λx:[0, m). if s(x) = 1 then 1 else t(x)
abbrev pub bvor : Bits → Bits → Bits
bvor s t x = pick (s x == 1) 1 (t x)

-- (bvneg s) := nat2bv[m](2^m - bv2nat(s))
abbrev pub bvneg : Bits → Bits
bvneg s = nat2bv (2 ^ 64 - bv2nat s)

-- (bvadd s t) := nat2bv[m](bv2nat(s) + bv2nat(t))
abbrev pub bvadd : Bits → Bits → Bits
bvadd s t = nat2bv (bv2nat s + bv2nat t)

-- (bvmul s t) := nat2bv[m](bv2nat(s) * bv2nat(t))
abbrev pub bvmul : Bits → Bits → Bits
bvmul s t = nat2bv (bv2nat s * bv2nat t)

-- (bvudiv s t) := if bv2nat(t) = 0 then λx:[0, m). 1 else nat2bv[m](bv2nat(s) div bv2nat(t))
abbrev pub bvudiv : Bits → Bits → Bits
bvudiv s t = pick (bv2nat t == 0) (λ x. 1) (nat2bv (bv2nat s / bv2nat t))

-- (bvurem s t) := if bv2nat(t) = 0 then s else nat2bv[m](bv2nat(s) rem bv2nat(t))
abbrev pub bvurem : Bits → Bits → Bits
bvurem s t = pick (bv2nat t == 0) s (nat2bv (bv2nat s % bv2nat t))

-- (bvshl s t) := nat2bv[m](bv2nat(s) * 2^(bv2nat(t)))
abbrev pub bvshl : Bits → Bits → Bits
bvshl s t = nat2bv (bv2nat s * 2 ^ bv2nat t)

-- (bvlshr s t) := nat2bv[m](bv2nat(s) div 2^(bv2nat(t)))
abbrev pub bvlshr : Bits → Bits → Bits
bvlshr s t = nat2bv (bv2nat s / 2 ^ bv2nat t)

-- (bvult s t) := true if bv2nat(s) < bv2nat(t), false otherwise
abbrev pub bvult : Bits → Bits → Bool
bvult s t = nat_lt (bv2nat s) (bv2nat t)

-- QF_BV: (bvsub s t) abbreviates (bvadd s (bvneg t))
abbrev pub bvsub : Bits → Bits → Bits
bvsub s t = bvadd s (bvneg t)

-- QF_BV: (bvxor s t) abbreviates (bvor (bvand s (bvnot t)) (bvand (bvnot s) t))
abbrev pub bvxor : Bits → Bits → Bits
bvxor s t = bvor (bvand s (bvnot t)) (bvand (bvnot s) t)

-- the number n is the bit vector b: it is below 2^64, and its binary digit at each place is b's bit there
pub record Is (n : ℕ) (b : Bits) : Type 0 where
  pub word : n < 2 ^ 64
  pub place : (x : ℕ) → x < 64 → n / 2 ^ x % 2 ≡ b x

-- Of numbers a and b that are bit vectors s and t, what each operation of `specs/Word.antt` gives is what SMT-LIB's gives of s and t.
-- Its shifts are SMT-LIB's at every count; the code's take their count modulo 64, so they are SMT-LIB's at counts below 64.
pub record IsSmtLib (a b : ℕ) (s t : Bits) : Type 0 where
  pub not_is : Is (ours.bvnot a) (bvnot s)
  pub and_is : Is (ours.bvand a b) (bvand s t)
  pub or_is : Is (ours.bvor a b) (bvor s t)
  pub xor_is : Is (ours.bvxor a b) (bvxor s t)
  pub neg_is : Is (ours.bvneg a) (bvneg s)
  pub add_is : Is (ours.bvadd a b) (bvadd s t)
  pub sub_is : Is (ours.bvsub a b) (bvsub s t)
  pub mul_is : Is (ours.bvmul a b) (bvmul s t)
  pub udiv_is : Is (ours.bvudiv a b) (bvudiv s t)
  pub urem_is : Is (ours.bvurem a b) (bvurem s t)
  pub shl_is : Is (ours.bvshl a b) (bvshl s t)
  pub lshr_is : Is (ours.bvlshr a b) (bvlshr s t)
  pub ult_is : ours.bvult a b ≡ bvult s t
  pub eq_is : ((a == b) ≡ true) ↔ ((x : ℕ) → x < 64 → s x ≡ t x)
