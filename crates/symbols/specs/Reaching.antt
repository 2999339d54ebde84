-- Q-1: "reaches itself through operands", as a test: `Depends` (Graph.antt) says what it is. Assumes nothing.
use Rattle.std.specs.Prelude.{ℕ, zero, suc, Bool, false, ◌&&◌, ◌||◌, eqb}
use Rattle.symbols.specs.Graph.{Id, Node, constant, input, unary, binary, Graph}

abbrev pub is_operand : Node → Id → Bool
is_operand (constant c) j = false
is_operand (input l) j = false
is_operand (unary a) j = eqb j a
is_operand (binary o a b) j = eqb j a || eqb j b

-- i reaches j by a chain of operands whose inner nodes are below k: such a chain either leaves node k - 1 out, or comes to it and
-- goes on from it
unfoldable pub reaches_below : Graph → ℕ → Id → Id → Bool
reaches_below g zero i j = is_operand (g.node i) j
reaches_below g (suc k) i j = reaches_below g k i j || (reaches_below g k i k && reaches_below g k k j)

-- every node is below the count
unfoldable pub reaches : Graph → Id → Id → Bool
reaches g i j = reaches_below g g.count i j
