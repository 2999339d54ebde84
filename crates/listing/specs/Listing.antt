-- Q-2: the listing, from the source's Printer (symbolic_state.rs) and the signs of mod.rs. Assumes nothing.
use Rattle.std.specs.Prelude.{[], ◌∷◌, ◌++◌}
use Rattle.text.specs.Text.{Text, bytes, decimal}
use Rattle.symbols.specs.Graph.{Id, Value, Graph, Node, constant, input, unary, binary}
use Rattle.symbols.specs.declared.BVOperator.{BVOperator}
use Rattle.symbols.specs.declared.BVOperator.TheVariants.{Add, Sub, Mul, Divu, Sltu, Remu, Not, Equals, BitwiseAnd}
use Rattle.visits.specs.Walk.{Ids, listed}

-- mod.rs, `impl fmt::Display for BVOperator`
abbrev pub sign : BVOperator → Text
sign Add = bytes "+"
sign Sub = bytes "-"
sign Mul = bytes "*"
sign Divu = bytes "/"
sign Not = bytes "!"
sign Remu = bytes "%"
sign Equals = bytes "="
sign BitwiseAnd = bytes "&"
sign Sltu = bytes "<"

-- "x2"
abbrev pub name : Id → Text
name i = bytes "x" ++ decimal i

-- "the decimal label in double quotes"
unfoldable pub quoted : Value → Text
quoted l = bytes "\"" ++ decimal l ++ bytes "\""

-- "`x2 := x0 + x1`, `x4 := !x3`, constants in decimal, inputs as the decimal label in double quotes": the width is not listed
unfoldable pub meaning : Node → Text
meaning (constant v) = decimal v
meaning (input p) = quoted p.label
meaning (unary a) = sign Not ++ name a
meaning (binary o a b) = name a ++ bytes " " ++ sign o ++ bytes " " ++ name b

-- "one line a node …, a line feed after each"
unfoldable pub line_of : Id → Node → Text
line_of i n = name i ++ bytes " := " ++ meaning n ++ bytes "\n"

-- "each line is written where the line before it ended"
unfoldable pub lines : Graph → Ids → Text
lines g [] = []
lines g (i ∷ l) = line_of i (g.node i) ++ lines g l

unfoldable pub listing : Graph → Text
listing g = lines g (listed g)
