-- Orders of a graph's nodes in which operands come before the nodes that use them. Assumes nothing.
use Rattle.std.specs.Prelude.{ℕ, ◌<◌, ◌≡◌, List, get_or}
use Rattle.symbols.specs.Graph.{Id, Graph, Operand, Depends, Inside}

-- operands are nodes, and a rank below the count falls along them
pub record Acyclic (g : Graph) : Type 0 where
  pub rank : Id → ℕ
  pub bounded : (i : Id) → i < g.count → rank i < g.count
  pub inside : Inside g
  pub falls : (i j : Id) → i < g.count → Operand (g.node i) j → rank j < rank i

-- a list that holds every node once, each behind its operands
pub record Arranged (g : Graph) (order : List Id) : Type 0 where
  pub place : Id → ℕ
  pub within : (i : Id) → i < g.count → place i < g.count
  pub found : (i : Id) → i < g.count → get_or order (place i) 0 ≡ i
  pub known : (k : ℕ) → k < g.count → get_or order k 0 < g.count
  pub once : (k : ℕ) → k < g.count → place (get_or order k 0) ≡ k
  pub before : (i j : Id) → i < g.count → Operand (g.node i) j → place j < place i

-- some node reaches itself
pub record Looped (g : Graph) : Type 0 where
  pub at : Id
  pub inside : at < g.count
  pub loop : Depends g at at
