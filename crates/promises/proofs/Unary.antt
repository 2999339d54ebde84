-- Not: its value gives t where t is a truth value, which is but for kind (b); and in edition one it never makes an operand essential.
-- Assumes nothing.
use Prim.Native.Nat.{zero, suc}
use mathlib.Core.Path.{◌≡◌, refl}
use mathlib.Core.Logic.{inr}
use mathlib.Core.Bool.{false}
use native.Mathlib.Omega.{arith}
use Rattle.bitvec.specs.Word.{is_zero}
use Rattle.symbols.specs.Graph.{Id, Value, unary}
use Rattle.symbols.specs.declared.OperandSide.{OperandSide}
use Rattle.symbols.specs.declared.BVOperator.{BVOperator}
use Rattle.symbols.specs.declared.BVOperator.TheVariants.{Not}
use Rattle.reach.specs.Table.{table_says}
use Rattle.existence.specs.Kinds.{FalseYes, at_not}
use Rattle.rules.specs.Rules.{not_value}
use Rattle.rules.specs.One.{hinders_one}

pub unary_gives : (d : OperandSide) (s t : Value) → (FalseYes Not d s t → ⊥) → is_zero (not_value t) ≡ t
unary_gives d s zero k = refl
unary_gives d s (suc zero) k = refl
unary_gives d s (suc (suc t)) k = absurd (k (inr (at_not (omega arith))))

-- "reachability of Not is yes"
pub not_never_hinders : (own : BVOperator) (a : Id) (d : OperandSide) (s t : Value) → hinders_one own (unary a) d s t ≡ false
unfolding hinders_one table_says
not_never_hinders own a d s t = refl
