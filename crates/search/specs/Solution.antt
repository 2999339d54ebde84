-- What it is for values to solve a graph: "constants kept, every operator right", and every input within its width. Assumes nothing.
use Rattle.std.specs.Prelude.{◌^◌, ◌<◌, ◌≡◌, true, length}
use Rattle.bitvec.specs.Word.{is_zero}
use Rattle.symbols.specs.Graph.{Id, Value, Node, constant, input, unary, binary, Graph}
use Rattle.symbols.specs.Width.{fits}
use Rattle.symbols.specs.Operators.{apply}
use Rattle.search.specs.Machine.{Values, value_of}

abbrev pub Input : Node → Type 0
Input (constant c) = ⊥
Input (input p) = Unit {0}
Input (unary a) = ⊥
Input (binary o a b) = ⊥

-- Q-3: what an input's width can hold; of other nodes nothing is asked
abbrev pub Fits : Node → Value → Type 0
Fits (constant c) v = Unit {0}
Fits (input p) v = fits p v ≡ true
Fits (unary a) v = Unit {0}
Fits (binary o a b) v = Unit {0}

-- node i's equation under the values v: a constant is kept, an operator is right, an input is whatever fits it
abbrev pub Right : Node → (Id → Value) → Id → Type 0
Right (constant c) v i = v i ≡ c
Right (input p) v i = fits p (v i) ≡ true
Right (unary a) v i = v i ≡ is_zero (v a)
Right (binary o a b) v i = v i ≡ apply o (v a) (v b)

pub record Solution (g : Graph) (v : Id → Value) : Type 0 where
  pub right : (i : Id) → i < g.count → Right (g.node i) v i

-- a list of values for the graph, each one of "0..M", that solves it
pub record Sane (g : Graph) (vs : Values) : Type 0 where
  pub long : length vs ≡ g.count
  pub below : (i : Id) → i < g.count → value_of vs i < 2 ^ 64
  pub solution : Solution g (value_of vs)

-- a list of values for the graph with its constants in place, inputs within their widths, and any values elsewhere
pub record Primed (g : Graph) (vs : Values) : Type 0 where
  pub long : length vs ≡ g.count
  pub below : (i : Id) → i < g.count → value_of vs i < 2 ^ 64
  pub constants : (i : Id) (c : Value) → i < g.count → g.node i ≡ constant c → value_of vs i ≡ c
  pub inputs : (i : Id) → i < g.count → Fits (g.node i) (value_of vs i)
