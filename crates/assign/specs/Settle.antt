-- Document 01, "Choice, round, search", and Q-1: what working every operator out leaves. Assumes nothing.
use Rattle.std.specs.Prelude.{ℕ, zero, suc, List, [], ◌∷◌, get_or, set}
use Rattle.bitvec.specs.Word.{is_zero}
use Rattle.symbols.specs.Graph.{Id, Value, Node, constant, input, unary, binary, Graph}
use Rattle.symbols.specs.Operators.{apply}
use Rattle.search.specs.Machine.{Values, value_of}

-- "operators are worked out after their operands": a node's value from those that v gives its operands; constants and inputs keep
-- their own
abbrev pub worked : Node → Value → (Id → Value) → Value
worked (constant c) own v = own
worked (input p) own v = own
worked (unary a) own v = is_zero (v a)
worked (binary o a b) own v = apply o (v a) (v b)

-- node i asks its operands, and they theirs, at most k deep: in no order
unfoldable pub worth : Graph → Values → ℕ → Id → Value
worth g vs zero i = value_of vs i
worth g vs (suc k) i = worked (g.node i) (value_of vs i) (λ j. worth g vs k j)

-- f of each number below n, upward
unfoldable pub each_below : ℕ → (ℕ → ℕ) → List ℕ
each_below zero f = []
each_below (suc n) f = f 0 ∷ each_below n (λ i. f (suc i))

-- "the end state is the one solution of all operator equations": where no node reaches itself, chains of operands are shorter than
-- the graph
unfoldable pub settle : Graph → Values → Values
settle g vs = each_below g.count (worth g vs g.count)

-- node i alone, by the values that stand there
unfoldable pub settle_one : Graph → Id → Values → Values
settle_one g i vs = set vs i (worked (g.node i) (value_of vs i) (value_of vs))

-- the nodes at the first k places of an order, one behind the other
unfoldable pub along_up_to : Graph → List Id → ℕ → Values → Values
along_up_to g order zero vs = vs
along_up_to g order (suc k) vs = settle_one g (get_or order k 0) (along_up_to g order k vs)

-- one pass along an order
unfoldable pub along : Graph → List Id → Values → Values
along g order vs = along_up_to g order g.count vs

-- document 01's order: "one upward pass"
abbrev pub upward : Graph → List Id
upward g = each_below g.count (λ i. i)
