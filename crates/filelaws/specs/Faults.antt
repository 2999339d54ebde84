-- The faults of a node, in the papers' words. Assumes nothing.
use Rattle.std.specs.Prelude.{ℕ, ◌≤◌, ◌<◌, ◌≡◌}
use Rattle.symbols.specs.Graph.{Id, Value, Node, constant, input, Operand}
use Rattle.symbols.specs.declared.Port.{Port}

-- Q-3: "a width above 64"
pub record TooWide (n : Node) : Type 0 where
  pub port : Port
  pub is : n ≡ input port
  pub above : 64 < port.width

-- Q-1: "an operand id not below n"
pub record OutOfOrder (n : ℕ) (x : Node) : Type 0 where
  pub operand : Id
  pub named : Operand x operand
  pub high : n ≤ operand

-- "a constant other than 1"
pub record FixedElsewhere (n : Node) : Type 0 where
  pub value : Value
  pub is : n ≡ constant value
  pub other : value ≡ 1 → ⊥
