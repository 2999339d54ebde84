-- Sides and operators, and the paper's number of each operator. Assumes nothing.
use Rattle.std.specs.Prelude.{ℕ, [], ◌∷◌, Bool, true, false, Option, Some, None, eqb}
use Rattle.laws.specs.Rows.{row, first}
use Rattle.bitvec.specs.Word.{bvadd, bvsub, bvmul, bvudiv, bvurem, sltu, equals, is_zero, bvand}
use Rattle.symbols.specs.declared.OperandSide.{OperandSide}
use Rattle.symbols.specs.declared.OperandSide.TheVariants.{Lhs, Rhs}
use Rattle.symbols.specs.declared.BVOperator.{BVOperator}
use Rattle.symbols.specs.declared.BVOperator.TheVariants.{Add, Sub, Mul, Divu, Sltu, Remu, Not, Equals, BitwiseAnd}

-- "the side opposite"
abbrev pub other_side : OperandSide → OperandSide
other_side Lhs = Rhs
other_side Rhs = Lhs

-- the left or the right one of two
abbrev pub by_side : {X : Type 0} → OperandSide → X → X → X
by_side Lhs x y = x
by_side Rhs x y = y

-- Not has one operand, every other operator two
abbrev pub is_unary : BVOperator → Bool
is_unary Add = false
is_unary Sub = false
is_unary Mul = false
is_unary Divu = false
is_unary Sltu = false
is_unary Remu = false
is_unary Not = true
is_unary Equals = false
is_unary BitwiseAnd = false

-- "Byte 0 is the kind: … 2 Add, 3 Sub, 4 Mul, 5 Divu, 6 Sltu, 7 Remu, 8 Not, 9 Equals, 10 BitwiseAnd."
abbrev pub kind_number : BVOperator → ℕ
kind_number Add = 2
kind_number Sub = 3
kind_number Mul = 4
kind_number Divu = 5
kind_number Sltu = 6
kind_number Remu = 7
kind_number Not = 8
kind_number Equals = 9
kind_number BitwiseAnd = 10

-- the operator of a kind's number, where it is one's
unfoldable pub operator_of : ℕ → Option BVOperator
operator_of n =
    first
    (row (eqb n 2) (Some Add)
    ∷ row (eqb n 3) (Some Sub)
    ∷ row (eqb n 4) (Some Mul)
    ∷ row (eqb n 5) (Some Divu)
    ∷ row (eqb n 6) (Some Sltu)
    ∷ row (eqb n 7) (Some Remu)
    ∷ row (eqb n 8) (Some Not)
    ∷ row (eqb n 9) (Some Equals)
    ∷ row (eqb n 10) (Some BitwiseAnd)
    ∷ [])
    None

-- "Add, Sub, Mul wrap. x/0 = M and x%0 = x, as SMT-LIB. Sltu and Equals give 1 or 0. BitwiseAnd is by bit. Not is 1 for 0, else
-- 0": of Not's two arguments only the left counts
abbrev pub apply : BVOperator → ℕ → ℕ → ℕ
apply Add x y = bvadd x y
apply Sub x y = bvsub x y
apply Mul x y = bvmul x y
apply Divu x y = bvudiv x y
apply Sltu x y = sltu x y
apply Remu x y = bvurem x y
apply Not x y = is_zero x
apply Equals x y = equals x y
apply BitwiseAnd x y = bvand x y

-- the operator with x at the side sought and s at the other
abbrev pub apply_at : BVOperator → OperandSide → ℕ → ℕ → ℕ
apply_at o Lhs x s = apply o x s
apply_at o Rhs x s = apply o s x
