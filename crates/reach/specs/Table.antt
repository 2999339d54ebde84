-- Document 01, "Reachability, inverse and consistent values": "Table says yes when". s is the other operand's value, t the target;
-- Lhs: the operand sought is left. One clause a row, in the paper's order. Assumes nothing.
use Rattle.std.specs.Prelude.{◌-◌, ◌*◌, Bool, true, not, ◌&&◌, ◌||◌, ltb, leb, eqb}
use Rattle.laws.specs.Pick.{pick}
use Rattle.bitvec.specs.Word.{M, bvneg, bvand, bvor}
use Rattle.symbols.specs.Graph.{Value}
use Rattle.symbols.specs.declared.OperandSide.{OperandSide}
use Rattle.symbols.specs.declared.OperandSide.TheVariants.{Lhs, Rhs}
use Rattle.symbols.specs.declared.BVOperator.{BVOperator}
use Rattle.symbols.specs.declared.BVOperator.TheVariants.{Add, Sub, Mul, Divu, Sltu, Remu, Not, Equals, BitwiseAnd}

unfoldable pub table_says : BVOperator → OperandSide → Value → Value → Bool
-- "always"
table_says Add d s t = true
-- "always"
table_says Sub d s t = true
-- "(−s or s) and t = t, by bits"
table_says Mul d s t = eqb (bvand (bvor (bvneg s) s) t) t
-- "s = 0: t = M; else t·s ≤ M"
table_says Divu Lhs s t = pick (eqb s 0) (eqb t M) (leb (t * s) M)
-- "t = 0: s ≠ M; else t = M or s ≥ t"
table_says Divu Rhs s t = pick (eqb t 0) (not (eqb s M)) (eqb t M || leb t s)
-- "t = 0 or s ≠ 0"
table_says Sltu Lhs s t = eqb t 0 || not (eqb s 0)
-- "t = 0 or s ≠ M"
table_says Sltu Rhs s t = eqb t 0 || not (eqb s M)
-- "s > t"
table_says Remu Lhs s t = ltb t s
-- "s = t, or s > t and s − t > t"
table_says Remu Rhs s t = eqb s t || (ltb t s && ltb t (s - t))
-- "reachability of Not is yes"
table_says Not d s t = true
-- "t and s = t"
table_says BitwiseAnd d s t = eqb (bvand t s) t
-- "always"
table_says Equals d s t = true
