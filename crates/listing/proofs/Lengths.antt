-- How long a line can be: at most 41 bytes, or 32 where every id in it is below 10,000. Assumes nothing.
use Prim.Native.Nat.{ℕ, zero, suc, ◌+◌, ◌/◌, ◌^◌, ◌≤◌, ◌<◌}
use mathlib.Core.Path.{◌≡◌}
use native.Mathlib.Omega.{arith}
use native.Mathlib.Decide.{dec_le}
use lib.ListN.{length, length-append}
use Rattle.text.specs.Text.{decimal}
use Rattle.text.proofs.Decimals.{decimal_length, decimal_one, decimal_more}
use Rattle.symbols.specs.Graph.{Id, Value, Node, constant, input, unary, binary}
use Rattle.symbols.specs.declared.Port.{Port}
use Rattle.symbols.specs.declared.BVOperator.{BVOperator}
use Rattle.symbols.specs.declared.BVOperator.TheVariants.{Add, Sub, Mul, Divu, Sltu, Remu, Not, Equals, BitwiseAnd}
use Rattle.listing.specs.Listing.{sign, name, quoted, meaning, line_of}

sign_length : (o : BVOperator) → length (sign o) ≤ 1
sign_length Add = omega arith
sign_length Sub = omega arith
sign_length Mul = omega arith
sign_length Divu = omega arith
sign_length Sltu = omega arith
sign_length Remu = omega arith
sign_length Not = omega arith
sign_length Equals = omega arith
sign_length BitwiseAnd = omega arith

name_length : (k : ℕ) (i : Id) → i < 10 ^ suc k → length (name i) ≤ 2 + k
name_length k i h = omega (arith, decimal_length k i h)

pub constant_length : (v : Value) → v < 2 ^ 64 → length (meaning (constant v)) ≤ 20
unfolding meaning
constant_length v h = decimal_length 19 v (omega arith)

pub quoted_length : (l : Value) → l < 2 ^ 64 → length (quoted l) ≤ 22
unfolding quoted
quoted_length l h = simp length-append (omega (arith, decimal_length 19 l (omega arith)))

input_length : (p : Port) → p.label < 2 ^ 64 → length (meaning (input p)) ≤ 22
unfolding meaning
input_length p h = quoted_length p.label h

pub unary_length : (k : ℕ) (a : Id) → a < 10 ^ suc k → length (meaning (unary a)) ≤ 3 + k
unfolding meaning
unary_length k a h = simp length-append (omega (arith, decimal_length k a h))

pub binary_length : (k : ℕ) (o : BVOperator) (a b : Id) → a < 10 ^ suc k → b < 10 ^ suc k → length (meaning (binary o a b)) ≤ 7 + k + k
unfolding meaning
binary_length k o a b h h' = simp length-append (omega (arith, decimal_length k a h, decimal_length k b h', sign_length o))

pub line_length : (k most : ℕ) (i : Id) (n : Node) → i < 10 ^ suc k → length (meaning n) ≤ most → length (line_of i n) ≤ 7 + k + most
unfolding line_of
line_length k most i n h h' = simp length-append (omega (arith, decimal_length k i h))

ten : (k : ℕ) → 0 < 10 ^ k
ten zero = omega arith
ten (suc k) = omega (arith, ten k)

-- a number from 10 to the power k on has more than k digits
long : (k v : ℕ) → 10 ^ k ≤ v → k < length (decimal v)
long zero v h =
    elim (dec_le 10 v) [
      | yes p ↦ rw (decimal_more v p, length-append) (omega arith)
      | no p ↦ rw (decimal_one v (omega arith)) (omega arith)
    ]
long (suc k) v h = rw (decimal_more v (omega (arith, ten k)), length-append) (omega (arith, long k (v / 10) (omega arith)))

-- ids below 10,000, values and labels of 64 bits
abbrev pub Small : Node → Type 0
Small (constant v) = v < 2 ^ 64
Small (input p) = p.label < 2 ^ 64
Small (unary a) = a < 10000
Small (binary o a b) = (a < 10000) × (b < 10000)

meaning_short : (n : Node) → Small n → length (meaning n) ≤ 22
meaning_short (constant v) h = omega (arith, constant_length v h)
meaning_short (input p) h = input_length p h
meaning_short (unary a) h = omega (arith, unary_length 3 a (omega arith))
meaning_short (binary o a b) h = omega (arith, binary_length 3 o a b (omega (arith, h.0)) (omega (arith, h.1)))

-- the longest line of a graph file has 32 bytes: "x3999 := \"18446744073709551615\"" and its line feed
pub line_short : (i : Id) (n : Node) → i < 10000 → Small n → length (line_of i n) ≤ 32
line_short i n h s = line_length 3 22 i n (omega arith) (meaning_short n s)

pub longest_line : length (line_of 3999 (input record { label = 0xffff_ffff_ffff_ffff; width = 64 })) ≡ 32
unfolding line_of meaning quoted
longest_line = simp length-append (omega (arith, decimal_length 3 3999 (omega arith), long 3 3999 (omega arith), decimal_length 19 v (omega arith), long 19 v (omega arith)))
  where
    v : ℕ
    v = 0xffff_ffff_ffff_ffff
