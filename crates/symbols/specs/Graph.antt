-- The abstract graph: what a graph file says. Above the crate that reads files nothing speaks of bytes. Assumes nothing.
use Rattle.std.specs.Prelude.{ℕ, ◌<◌, ◌≡◌, ◌⊎◌}
use Rattle.symbols.specs.declared.BVOperator.{BVOperator}
use Rattle.symbols.specs.declared.Port.{Port}

-- a node's id; a value of 64 bits
abbrev pub Id : Type 0
Id = ℕ

abbrev pub Value : Type 0
Value = ℕ

-- a constant with its value, an input with its label and width, Not with its operand, any other operator with its two
pub data Node : Type 0 where
  constant : Value → Node
  input : Port → Node
  unary : Id → Node
  binary : BVOperator → Id → Id → Node

pub record Graph : Type 0 where
  pub count : ℕ
  pub root : Id
  pub node : Id → Node

-- j is an operand of the node
abbrev pub Operand : Node → Id → Type 0
Operand (constant c) j = ⊥
Operand (input p) j = ⊥
Operand (unary a) j = j ≡ a
Operand (binary o a b) j = (j ≡ a) ⊎ (j ≡ b)

-- i depends on j: it reaches j through operands
pub data Depends (g : Graph) : Id → Id → Type 0 where
  direct : (i j : Id) → Operand (g.node i) j → Depends g i j
  through : (i k j : Id) → Operand (g.node i) k → Depends g k j → Depends g i j

-- every operand is one of the nodes
abbrev pub Inside : Graph → Type 0
Inside g = (i j : Id) → i < g.count → Operand (g.node i) j → j < g.count

-- Q-1: "The right rule is that no node reaches itself through operands."
pub record WellFormed (g : Graph) : Type 0 where
  pub inside : Inside g
  pub acyclic : (i : Id) → i < g.count → Depends g i i → ⊥
  pub rooted : g.root < g.count

-- "Document 01 called well-formed what is only sorted": an operand's id is below its node's id
pub record Sorted (g : Graph) : Type 0 where
  pub below : (i j : Id) → i < g.count → Operand (g.node i) j → j < i
  pub rooted : g.root < g.count
