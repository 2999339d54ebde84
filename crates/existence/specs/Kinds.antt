-- Document 01, end of "Reachability, inverse and consistent values": "The table differs from existence of an x exactly here." s is the
-- other operand's value, t the target, x the operand sought. A kind has one clause for each place that the paper names. Assumes nothing.
use Rattle.std.specs.Prelude.{◌/◌, ◌^◌, ◌<◌, ◌≤◌, ◌≡◌, ◌↔◌, ◌⊎◌, true, false}
use Rattle.laws.specs.Pick.{pick}
use Rattle.bitvec.specs.Word.{M, is_zero}
use Rattle.symbols.specs.Graph.{Value}
use Rattle.symbols.specs.Operators.{is_unary, apply_at}
use Rattle.symbols.specs.declared.OperandSide.{OperandSide}
use Rattle.symbols.specs.declared.OperandSide.TheVariants.{Lhs, Rhs}
use Rattle.symbols.specs.declared.BVOperator.{BVOperator}
use Rattle.symbols.specs.declared.BVOperator.TheVariants.{Divu, Sltu, Remu, Not, Equals}
use Rattle.reach.specs.Table.{table_says}

-- what the operator gives with x at the side sought and s at the other; "Not is 1 for 0, else 0": it has no other operand, so s has no part in it
abbrev pub gives : BVOperator → OperandSide → Value → Value → Value
gives o d x s = pick (is_unary o) (is_zero x) (apply_at o d x s)

-- "existence of an x": "values are 0..M"
abbrev pub Reachable : BVOperator → OperandSide → Value → Value → Type 0
Reachable o d s t = (x : Value) × (x < 2 ^ 64) × (gives o d x s ≡ t)

-- "(a) Divu Rhs, 0 < t < M, t ≤ s, s/(s/t) ≠ t"
pub data KindA : BVOperator → OperandSide → Value → Value → Type 0 where
  at_divu : {s t : Value} → 0 < t → t < M → t ≤ s → (s / (s / t) ≡ t → ⊥) → KindA Divu Rhs s t

-- "(b) t > 1 at Sltu or Equals where the table says yes, and at Not"
pub data KindB : BVOperator → OperandSide → Value → Value → Type 0 where
  at_sltu : {d : OperandSide} {s t : Value} → 1 < t → table_says Sltu d s t ≡ true → KindB Sltu d s t
  at_equals : {d : OperandSide} {s t : Value} → 1 < t → table_says Equals d s t ≡ true → KindB Equals d s t
  at_not : {d : OperandSide} {s t : Value} → 1 < t → KindB Not d s t

-- "(c) Remu Lhs, s = 0"
pub data KindC : BVOperator → OperandSide → Value → Value → Type 0 where
  at_remu : {s t : Value} → s ≡ 0 → KindC Remu Lhs s t

-- "False yes: (a) …; (b) …."
abbrev pub FalseYes : BVOperator → OperandSide → Value → Value → Type 0
FalseYes o d s t = KindA o d s t ⊎ KindB o d s t

-- "False no: (c) …."
abbrev pub FalseNo : BVOperator → OperandSide → Value → Value → Type 0
FalseNo o d s t = KindC o d s t

-- "The table differs from existence of an x exactly here.": the table says yes and there is no x exactly at a false yes; it says no and there
-- is an x exactly at a false no; everywhere else it says yes exactly where there is an x
pub record Existence (o : BVOperator) (d : OperandSide) (s t : Value) : Type 0 where
  pub false_yes : FalseYes o d s t ↔ ((table_says o d s t ≡ true) × (Reachable o d s t → ⊥))
  pub false_no : FalseNo o d s t ↔ ((table_says o d s t ≡ false) × Reachable o d s t)
  pub elsewhere : (FalseYes o d s t → ⊥) → (FalseNo o d s t → ⊥) → (table_says o d s t ≡ true) ↔ Reachable o d s t
