-- Marks of nodes, by id, and lists of nodes: 0 is the mark of a node not met yet. Assumes nothing.
use Rattle.std.specs.Prelude.{ℕ, zero, suc, ◌+◌, ◌<◌, ◌≡◌, List, get_or, eqb}
use Rattle.laws.specs.Pick.{pick}
use Rattle.symbols.specs.Graph.{Id}

-- how many of the first n nodes are not met yet
unfoldable pub zeros : List ℕ → ℕ → ℕ
zeros p zero = 0
zeros p (suc n) = zeros p n + pick (eqb (get_or p n 0) 0) 1 0

-- where i is among the first n entries of a list
pub record Held (list : List Id) (n : ℕ) (i : Id) : Type 0 where
  pub at : ℕ
  pub below : at < n
  pub holds : get_or list at 0 ≡ i
