-- Document 01, "Operators" and bitvec.rs: what each operation on words of 64 bits means, as a function on the numbers that the
-- words hold. Names that begin with bv are SMT-LIB's, of its theory FixedSizeBitVectors, at 64 bits. Assumes nothing.
use Rattle.std.specs.Prelude.{ℕ, ◌+◌, ◌-◌, ◌*◌, ◌/◌, ◌%◌, ◌^◌, Bool, ◌==◌, bit_and, bit_or, bit_xor, nat_le, nat_lt}
use Rattle.std.specs.Int.Count.{count_trailing_zeros}
use mir.Val.{bool_byte}
use Rattle.laws.specs.Pick.{pick}

-- "M is 2^64 − 1"
abbrev pub M : ℕ
M = 2 ^ 64 - 1

-- "Add, Sub, Mul wrap."
abbrev pub bvadd : ℕ → ℕ → ℕ
bvadd a b = (a + b) % 2 ^ 64

abbrev pub bvneg : ℕ → ℕ
bvneg a = (2 ^ 64 - a) % 2 ^ 64

abbrev pub bvsub : ℕ → ℕ → ℕ
bvsub a b = (a + (2 ^ 64 - b)) % 2 ^ 64

abbrev pub bvmul : ℕ → ℕ → ℕ
bvmul a b = (a * b) % 2 ^ 64

-- "x/0 = M and x%0 = x, as SMT-LIB."
abbrev pub bvudiv : ℕ → ℕ → ℕ
bvudiv a b = pick (b == 0) M (a / b)

abbrev pub bvurem : ℕ → ℕ → ℕ
bvurem a b = pick (b == 0) a (a % b)

abbrev pub bvult : ℕ → ℕ → Bool
bvult = nat_lt

-- "Sltu and Equals give 1 or 0."
abbrev pub sltu : ℕ → ℕ → ℕ
sltu a b = bool_byte (bvult a b)

abbrev pub equals : ℕ → ℕ → ℕ
equals a b = bool_byte (a == b)

-- "Not is 1 for 0, else 0."
abbrev pub is_zero : ℕ → ℕ
is_zero a = equals a 0

-- "by bit"
abbrev pub bvand : ℕ → ℕ → ℕ
bvand = bit_and

abbrev pub bvor : ℕ → ℕ → ℕ
bvor = bit_or

abbrev pub bvxor : ℕ → ℕ → ℕ
bvxor = bit_xor

abbrev pub bvnot : ℕ → ℕ
bvnot a = 2 ^ 64 - 1 - a

-- the operations of the code take their count modulo 64, so that it is below 64 here
abbrev pub bvshl : ℕ → ℕ → ℕ
bvshl a k = (a * 2 ^ k) % 2 ^ 64

abbrev pub bvlshr : ℕ → ℕ → ℕ
bvlshr a k = a / 2 ^ k

-- the number of trailing zeros; 64 for zero
abbrev pub ctz : ℕ → ℕ
ctz a = count_trailing_zeros 64 a

-- the sum, or the product, does not fit a word
abbrev pub addo : ℕ → ℕ → Bool
addo a b = nat_le (2 ^ 64) (a + b)

abbrev pub mulo : ℕ → ℕ → Bool
mulo a b = nat_le (2 ^ 64) (a * b)
