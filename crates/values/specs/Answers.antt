-- Document 01, "Numbers of refusal", 10 to 12: what a single value asked of an edition's rules is, or the refusal; and the code's answers
-- in these terms. Assumes nothing.
use Rattle.std.specs.Prelude.{ℕ, List, [], ◌∷◌, not, Some, None, Result, Ok, Err}
use Rattle.laws.specs.Rows.{row, first}
use Rattle.bitvec.specs.declared.BitVector.{BitVector}
use Rattle.words.specs.Words.{Words, Place, Draw}
use Rattle.words.specs.declared.WordSource.{WordSource}
use Rattle.symbols.specs.Graph.{Value}
use Rattle.symbols.specs.Operators.{is_unary}
use Rattle.symbols.specs.Refusals.{number_of, values_of}
use Rattle.symbols.specs.declared.OperandSide.{OperandSide}
use Rattle.symbols.specs.declared.BVOperator.{BVOperator}
use Rattle.symbols.specs.declared.Refusal.{Refusal}
use Rattle.symbols.specs.declared.Refusal.TheVariants.{Arity, NoInverse, Dry}
use Rattle.rules.specs.Rules.{Rules, not_value, Got, took_inverse, took_consistent, stuck}
use Rattle.values.specs.declared.Rule.{Rule}
use Rattle.values.specs.declared.Rule.TheVariants.{Inverse, Consistent}
use Rattle.values.specs.declared.Chosen.{Chosen}
use Rattle.values.specs.declared.RanDry.{RanDry}

-- a value and the place after its words, or a refusal: "A refusal returns its number (4 and 5 the id)"
pub data Answer : Type 0 where
  answered : Value → Place → Answer
  refused : ℕ → List ℕ → Answer

abbrev pub refusal : Refusal → Answer
refusal r = refused (number_of r) (values_of r)

-- "12 Dry: a single value's words run out, or a range a..b with a > b is asked"
abbrev pub drawn : Draw → Answer
drawn (Some (v, s)) = answered v s.at
drawn None = refusal Dry

-- "Checks run in this order": "10 Arity: a binary rule asked of Not"; "11 NoInverse: inverse asked where the table says no"; 12
unfoldable pub inverse_answer : Rules → BVOperator → OperandSide → Value → Value → Words → Place → Answer
inverse_answer ρ o d s t ws n =
    first
    (row (is_unary o) (refusal Arity)
    ∷ row (not (ρ.table o d s t)) (refusal NoInverse)
    ∷ [])
    (drawn (ρ.inverse o d s t ws n))

unfoldable pub consistent_answer : Rules → BVOperator → OperandSide → Value → Words → Place → Answer
consistent_answer ρ o d t ws n =
    first
    (row (is_unary o) (refusal Arity)
    ∷ [])
    (drawn (ρ.consistent o d t ws n))

-- a value that needs no word, or a refusal
pub data UnaryAnswer : Type 0 where
  unary_value : Value → UnaryAnswer
  unary_refused : ℕ → List ℕ → UnaryAnswer

-- "10 Arity: … or the unary rule of another operator"
unfoldable pub unary_answer : BVOperator → Value → UnaryAnswer
unary_answer o t =
    first
    (row (not (is_unary o)) (unary_refused (number_of Arity) (values_of Arity))
    ∷ [])
    (unary_value (not_value t))

-- the code's answers
abbrev pub answer_of : Result (BitVector × WordSource) Refusal → Answer
answer_of (Ok (v, s)) = answered v.0 s.at
answer_of (Err r) = refusal r

abbrev pub unary_of : Result BitVector Refusal → UnaryAnswer
unary_of (Ok v) = unary_value v.0
unary_of (Err r) = unary_refused (number_of r) (values_of r)

abbrev pub took : Rule → Value → Place → Got
took Inverse = took_inverse
took Consistent = took_consistent

abbrev pub got_of : Result Chosen RanDry → Got
got_of (Ok c) = took c.rule c.value.0 c.source.at
got_of (Err r) = stuck r.source.at
