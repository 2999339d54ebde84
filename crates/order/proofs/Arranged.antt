-- A graph that can be arranged has ranks. Assumes nothing.
use mathlib.Core.List.{List}
use Rattle.symbols.specs.Graph.{Id, Graph, Inside}
use Rattle.symbols.specs.Order.{Acyclic, Arranged}

-- the rank of a node is its place
pub arranged_acyclic : (g : Graph) (order : List Id) → Inside g → Arranged g order → Acyclic g
arranged_acyclic g order inside a = record { rank = a.place; bounded = a.within; inside = inside; falls = a.before }
