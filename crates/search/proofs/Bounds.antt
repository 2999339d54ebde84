-- Every operator gives a value of 64 bits. Assumes nothing.
use Prim.Native.Nat.{◌/◌, ◌%◌, ◌^◌, ◌<◌}
use mathlib.Core.Bool.{Bool, true, false}
use native.Mathlib.Omega.{arith}
use native.Mathlib.Nat.{mod-le, div-le_self}
use lib.Bits.{and_lt}
use lib.Dec.{eqb, ltb}
use mir.Val.{bool_byte}
use Rattle.laws.specs.Pick.{pick}
use Rattle.bitvec.specs.Word.{M}
use Rattle.symbols.specs.Graph.{Value}
use Rattle.symbols.specs.Operators.{apply}
use Rattle.symbols.specs.declared.BVOperator.{BVOperator}
use Rattle.symbols.specs.declared.BVOperator.TheVariants.{Add, Sub, Mul, Divu, Sltu, Remu, Not, Equals, BitwiseAnd}

pub bit_below : (b : Bool) → bool_byte b < 2 ^ 64
bit_below true = omega arith
bit_below false = omega arith

pub pick_below : (b : Bool) (x y : Value) → x < 2 ^ 64 → y < 2 ^ 64 → pick b x y < 2 ^ 64
pick_below true x y p q = p
pick_below false x y p q = q

pub apply_below : (o : BVOperator) (x y : Value) → x < 2 ^ 64 → y < 2 ^ 64 → apply o x y < 2 ^ 64
apply_below Add x y p q = omega arith
apply_below Sub x y p q = omega arith
apply_below Mul x y p q = omega arith
apply_below Divu x y p q = pick_below (eqb y 0) M (x / y) (omega arith) (omega (arith, div-le_self x y))
apply_below Sltu x y p q = bit_below (ltb x y)
apply_below Remu x y p q = pick_below (eqb y 0) x (x % y) p (omega (arith, mod-le x y))
apply_below Not x y p q = bit_below (eqb x 0)
apply_below Equals x y p q = bit_below (eqb x y)
apply_below BitwiseAnd x y p q = and_lt 64 x y p q
