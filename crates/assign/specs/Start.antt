-- Document 01, "Choice, round, search": "Start: each non-constant id, upward, takes a word; then operators are worked out from their
-- operands." Assumes nothing.
use Rattle.std.specs.Prelude.{ℕ, zero, suc, ◌+◌, ◌%◌, List, get_or, set, replicate}
use Rattle.words.specs.Words.{Words, Place}
use Rattle.symbols.specs.Graph.{Id, Value, Node, constant, input, unary, binary, Graph}
use Rattle.symbols.specs.Width.{room}
use Rattle.search.specs.Machine.{Values}
use Rattle.assign.specs.Settle.{settle, along}

-- "each non-constant id … takes a word"
abbrev pub takes : Node → ℕ
takes (constant c) = 0
takes (input p) = 1
takes (unary a) = 1
takes (binary o a b) = 1

-- the words that the first k nodes take: the place of node k's word
unfoldable pub wanted_up_to : Graph → ℕ → ℕ
wanted_up_to g zero = 0
wanted_up_to g (suc k) = wanted_up_to g k + takes (g.node k)

-- "9 Words: fewer words than non-constant nodes"
unfoldable pub wanted : Graph → ℕ
wanted g = wanted_up_to g g.count

-- a node's first value, with its word at n; Q-3: "The starting word is taken modulo 2^width."
abbrev pub first_by : Node → Words → Place → Value
first_by (constant c) ws n = c
first_by (input p) ws n = get_or ws n 0 % room p
first_by (unary a) ws n = get_or ws n 0
first_by (binary o a b) ws n = get_or ws n 0

unfoldable pub first_of : Graph → Words → Id → Value
first_of g ws i = first_by (g.node i) ws (wanted_up_to g i)

-- values in which the first k nodes have their first value
unfoldable pub given_up_to : Graph → Words → ℕ → Values → Values
given_up_to g ws zero vs = vs
given_up_to g ws (suc k) vs = set (given_up_to g ws k vs) k (first_of g ws k)

-- what the start makes of a list of values
unfoldable pub start_from : Graph → Words → Values → Values
start_from g ws vs = settle g (given_up_to g ws g.count vs)

-- the same with one pass along an order
unfoldable pub start_along : Graph → List Id → Words → Values → Values
start_along g order ws vs = along g order (given_up_to g ws g.count vs)

-- the start: what a list as long as the graph held before does not matter
unfoldable pub start_of : Graph → Words → Values
start_of g ws = start_from g ws (replicate g.count 0)
