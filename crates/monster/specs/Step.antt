-- Document 01, "Choice, round, search": one step, over the abstract graph and any edition's rules; and the play that the search is
-- over. Assumes nothing.
use Rattle.std.specs.Prelude.{List, [], ◌∷◌, Bool, true, false, Option, Some, None, Result, Ok, Err}
use Rattle.laws.specs.Pick.{pick}
use Rattle.laws.specs.Rows.{Row, row, first}
use Rattle.bitvec.specs.Word.{is_zero}
use Rattle.words.specs.Words.{Words, Place, Drawn, coin_at}
use Rattle.words.specs.declared.WordSource.{WordSource}
use Rattle.symbols.specs.Graph.{Id, Value, Node, constant, input, unary, binary, Graph}
use Rattle.symbols.specs.Operators.{other_side, by_side}
use Rattle.symbols.specs.declared.OperandSide.{OperandSide}
use Rattle.symbols.specs.declared.OperandSide.TheVariants.{Lhs, Rhs}
use Rattle.symbols.specs.declared.BVOperator.{BVOperator}
use Rattle.search.specs.Machine as machine
use Rattle.search.specs.Machine.{Values, value_of, by_not, inverse, consistent, Step, to, dry, Play, with_redo}
use Rattle.rules.specs.Rules.{Rules, Got, took_inverse, took_consistent, stuck, value_at}
use Rattle.assign.specs.Settle.{settle, along}
use Rattle.values.specs.declared.RanDry.{RanDry}
use Rattle.monster.specs.declared.Walk.{Walk}
use Rattle.monster.specs.declared.Choice.{Choice}
use Rattle.monster.specs.declared.Choice.TheVariants as choice

-- what a step looks at, beside the words
pub record Here : Type 0 where
  pub rules : Rules
  pub graph : Graph
  pub vals : Values

abbrev pub is_constant : Node → Bool
is_constant (constant c) = true
is_constant (input p) = false
is_constant (unary a) = false
is_constant (binary o a b) = false

-- "An operand p is essential when its sibling is an operator q and q's table says no for s = value of p, the node's t, and the side
-- opposite p": p stands on the side d of a node whose own operator is o; the edition says what is asked of q
unfoldable pub essential : Here → BVOperator → OperandSide → Id → Id → Value → Bool
essential h o d p q t = h.rules.hinders o (h.graph.node q) (other_side d) (value_of h.vals p) t

-- the side sought and the place after the coin, if there was one; or none, where the coin's word is missing
pub data Way : Type 0 where
  way : OperandSide → Place → Way
  no_way : Way

-- "else coin, true for right"
abbrev pub coin_way : Drawn Bool → Way
coin_way (Some (right, s)) = way (pick right Rhs Lhs) s.at
coin_way None = no_way

-- "left constant, take right; else right constant, take left; else left if essential, else right if essential"
unfoldable pub sides : Here → BVOperator → Id → Id → Value → Place → List (Row Way)
sides h o a b t n =
    row (is_constant (h.graph.node a)) (way Rhs n)
    ∷ row (is_constant (h.graph.node b)) (way Lhs n)
    ∷ row (essential h o Lhs a b t) (way Lhs n)
    ∷ row (essential h o Rhs b a t) (way Rhs n)
    ∷ []

-- of the operator o with the operands a and b and the target t, with the next word at n
unfoldable pub way_at : Here → BVOperator → Id → Id → Value → Words → Place → Way
way_at h o a b t ws n = first (sides h o a b t n) (coin_way (coin_at ws n))

-- the value found goes to the operand x on the side d
abbrev pub toward : OperandSide → Id → Got → Step
toward d x (took_inverse v n) = to x v n (inverse d)
toward d x (took_consistent v n) = to x v n (consistent d)
toward d x (stuck n) = dry n

-- "Then the consistent value is drawn; …": of the operand sought, from the value of the other. Without its coin a step took no word
unfoldable pub along_way : Here → BVOperator → Id → Id → Value → Words → Place → Way → Step
along_way h o a b t ws n (way d m) = toward d (by_side d a b) (value_at h.rules o d (value_of h.vals (by_side d b a)) t ws m)
along_way h o a b t ws n no_way = dry n

-- "A step at Not passes its value to the operand. At a binary operator: …". Not's value: "target 0 gives 1, any other 0". A step
-- begins at no leaf: what stands there is never asked
abbrev pub step_by : Here → Node → Value → Words → Place → Step
step_by h (constant c) t ws n = dry n
step_by h (input p) t ws n = dry n
step_by h (unary a) t ws n = to a (is_zero t) n by_not
step_by h (binary o a b) t ws n = along_way h o a b t ws n (way_at h o a b t ws n)

-- the step at node i
unfoldable pub step_from : Here → Words → Id → Value → Place → Step
step_from h ws i t n = step_by h (h.graph.node i) t ws n

abbrev pub here_of : Rules → Graph → Values → Here
here_of ρ g vs = record { rules = ρ; graph = g; vals = vs }

-- the search is over this play
abbrev pub play_of : Rules → Graph → Words → Play
play_of ρ g ws = record { graph = g; redo = settle g; step = λ vs i t n. step_from (here_of ρ g vs) ws i t n }

-- the same with one pass along an order: what code plays that was lent one
abbrev pub play_along : Rules → Graph → List Id → Words → Play
play_along ρ g order ws = with_redo (play_of ρ g ws) (along g order)

-- the code's answers in these terms
abbrev pub way_of : Option (OperandSide × WordSource) → Way
way_of (Some (d, s)) = way d s.at
way_of None = no_way

abbrev pub choice_of : Choice → machine.Choice
choice_of choice.Not = by_not
choice_of (choice.Inverse d) = inverse d
choice_of (choice.Consistent d) = consistent d

abbrev pub step_of : Result (Walk × Choice) RanDry → Step
step_of (Ok (w, c)) = to w.node.0 w.target.0 w.source.at (choice_of c)
step_of (Err e) = dry e.source.at
