-- Document 01, "Choice, round, search": the choice between the inverse and the consistent value. What an edition of the rules decides
-- is a record, and everything here holds of every edition. Assumes nothing.
use Rattle.std.specs.Prelude.{Bool, eqb, Some, None}
use Rattle.laws.specs.Pick.{pick}
use Rattle.bitvec.specs.declared.BitVector.{BitVector}
use Rattle.words.specs.Words.{Words, Place, Drawn, Draw, map_draw, choosing_at}
use Rattle.symbols.specs.Graph.{Value, Node}
use Rattle.symbols.specs.declared.OperandSide.{OperandSide}
use Rattle.symbols.specs.declared.BVOperator.{BVOperator}

-- What an edition says of an operator and the side sought, with s the other operand's value and t the target: whether the table says
-- yes, and the two values. `hinders own q d s t`: whether an operand with value s is essential at a node of the operator own, where q
-- is its sibling, d the side opposite it and t the node's target.
pub record Rules : Type 0 where
  pub table : BVOperator → OperandSide → Value → Value → Bool
  pub inverse : BVOperator → OperandSide → Value → Value → Words → Place → Draw
  pub consistent : BVOperator → OperandSide → Value → Words → Place → Draw
  pub hinders : BVOperator → Node → OperandSide → Value → Value → Bool

-- "Not needs no word: target 0 gives 1, any other 0.", in every edition
abbrev pub not_value : Value → Value
not_value t = pick (eqb t 0) 1 0

-- the value that was taken and the place after the words; or stuck: "Words taken count … every value, coin or choosing word drawn to
-- its end, also in a step that then ran dry; a value left unfinished counts none of its words"
pub data Got : Type 0 where
  took_inverse : Value → Place → Got
  took_consistent : Value → Place → Got
  stuck : Place → Got

-- "a draw answers either the words and the source after them, or Dry": it goes on with its value, or is stuck where it began
abbrev pub after : {X : Type 0} → Drawn X → Place → (X → Place → Got) → Got
after (Some (x, s)) n k = k x s.at
after None n k = stuck n

-- "the inverse, then the choosing word": c is the consistent value
unfoldable pub invert_at : Rules → BVOperator → OperandSide → Value → Value → Words → Value → Place → Got
invert_at ρ o d s t ws c n =
    after (ρ.inverse o d s t ws n) n (λ v a. after (choosing_at ws a) a (λ chosen b. pick chosen (took_inverse v b) (took_consistent c b)))

-- "Then the consistent value is drawn; if the table says yes, the inverse, then the choosing word."
unfoldable pub value_at : Rules → BVOperator → OperandSide → Value → Value → Words → Place → Got
value_at ρ o d s t ws n = after (ρ.consistent o d t ws n) n (λ c a. pick (ρ.table o d s t) (invert_at ρ o d s t ws c a) (took_consistent c a))

-- the code's answer in these terms
abbrev pub draw_of : Drawn BitVector → Draw
draw_of = map_draw (λ v. v.0)
