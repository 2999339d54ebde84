-- The rules of edition one by number, as the comparison asks for them. Assumes nothing.
use Rattle.std.specs.Prelude.{ℕ, List, [], ◌∷◌, Option, Some, None, eqb}
use mir.Val.{bool_byte}
use Rattle.laws.specs.Rows.{row, first}
use Rattle.words.specs.Words.{Words, Place}
use Rattle.symbols.specs.Graph.{Value}
use Rattle.symbols.specs.Operators.{operator_of}
use Rattle.symbols.specs.declared.OperandSide.{OperandSide}
use Rattle.symbols.specs.declared.OperandSide.TheVariants.{Lhs, Rhs}
use Rattle.symbols.specs.declared.BVOperator.{BVOperator}
use Rattle.reach.specs.Table.{table_says}
use Rattle.rules.specs.One.{one}
use Rattle.values.specs.Answers.{Answer, answered, refused, UnaryAnswer, unary_value, unary_refused, inverse_answer, consistent_answer, unary_answer}
use Rattle.ffi.specs.Out.{three}
use Rattle.ffi.specs.declared.single.Fields.{Fields}

-- the number, the value and the place
abbrev pub fields : ℕ → ℕ → ℕ → Fields
fields a b c = record { 0 = a; 1 = b; 2 = c }

-- an operator by the number of its kind
abbrev pub operator_no : ℕ → Option BVOperator
operator_no = operator_of

unfoldable pub side_no : ℕ → Option OperandSide
side_no d =
    first
    (row (eqb d 0) (Some Lhs)
    ∷ row (eqb d 1) (Some Rhs)
    ∷ [])
    None

-- 0, the value and the place after it; or the refusal's number, and the place as it was
abbrev pub valued : Answer → Place → Fields
valued (answered v n) at = fields 0 v n
valued (refused k ids) at = fields k 0 at

abbrev pub unaried : UnaryAnswer → Place → Fields
unaried (unary_value v) at = fields 0 v at
unaried (unary_refused k ids) at = fields k 0 at

unfoldable pub asked : ℕ → BVOperator → OperandSide → Value → Value → Words → Place → Fields
asked rule o d s t ws n =
    first
    (row (eqb rule 0) (fields 1 (bool_byte (table_says o d s t)) n)
    ∷ row (eqb rule 1) (valued (inverse_answer one o d s t ws n) n)
    ∷ row (eqb rule 2) (valued (consistent_answer one o d t ws n) n)
    ∷ row (eqb rule 3) (unaried (unary_answer o t) n)
    ∷ [])
    (fields 99 0 n)

abbrev pub by_side_no : Option OperandSide → ℕ → BVOperator → Value → Value → Words → Place → Fields
by_side_no (Some d) rule o s t ws n = asked rule o d s t ws n
by_side_no None rule o s t ws n = fields 99 0 n

abbrev pub by_operator : Option BVOperator → ℕ → ℕ → Value → Value → Words → Place → Fields
by_operator (Some o) rule d s t ws n = by_side_no (side_no d) rule o s t ws n
by_operator None rule d s t ws n = fields 99 0 n

unfoldable pub ruled : ℕ → ℕ → ℕ → Value → Value → Words → Place → Fields
ruled rule op d s t ws n = by_operator (operator_no op) rule d s t ws n

abbrev pub wrote : Fields → List ℕ → List ℕ
wrote f out = three f.0 f.1 f.2 out
