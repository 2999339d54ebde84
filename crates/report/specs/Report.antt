-- Document 01, "The program": what is printed of a search. Assumes nothing.
use Rattle.std.specs.Prelude.{ℕ, zero, suc, [], ◌++◌}
use Prim.Native.String.{String}
use Rattle.text.specs.Text.{Text, bytes, decimal}
use Rattle.symbols.specs.Graph.{Id, Value, Graph, Node, constant, input, unary, binary}
use Rattle.search.specs.Machine.{Values, value_of, End, solved, spent, ran_dry, Out}

-- a quoted text and a number after it
abbrev pub field : String → ℕ → Text
field name v = bytes name ++ decimal v

-- "`spent` or `dry` replace the first word"
abbrev pub end_word : End → Text
end_word solved = bytes "solved"
end_word spent = bytes "spent"
end_word ran_dry = bytes "dry"

-- "rounds completed, lost ones among them, steps completed, words taken"
unfoldable pub counts : Out → Text
counts o = (field " rounds=" o.rounds ++ field " lost=" o.lost) ++ (field " steps=" o.steps ++ field " words=" o.words)

-- "solved rounds=1 lost=0 steps=2 words=7"
unfoldable pub first_line : Out → Text
first_line o = end_word o.end ++ counts o ++ bytes "\n"

-- "Each later line is an input …: id, label, value": "x0 40 7"
unfoldable pub input_line : Id → Value → Value → Text
input_line i label v = field "x" i ++ field " " label ++ field " " v ++ bytes "\n"

-- a node that is no input has no line
unfoldable pub line_of : Id → Node → Value → Text
line_of i (constant c) v = []
line_of i (input p) v = input_line i p.label v
line_of i (unary a) v = []
line_of i (binary o a b) v = []

-- "in id order": the lines of the ids below k
unfoldable pub lines_below : Graph → Values → ℕ → Text
lines_below g vs zero = []
lines_below g vs (suc k) = lines_below g vs k ++ line_of k (g.node k) (value_of vs k)

unfoldable pub result_text : Graph → Out → Text
result_text g o = first_line o ++ lines_below g o.vals g.count
