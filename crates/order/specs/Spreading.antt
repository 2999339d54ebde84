-- What the listing of the nodes that a node reaches keeps true. Assumes nothing.
use Rattle.std.specs.Prelude.{ℕ, ◌+◌, ◌≤◌, ◌<◌, ◌≡◌, List, length, get_or, set, eqb}
use Rattle.laws.specs.Pick.{pick}
use Rattle.symbols.specs.Graph.{Id, Graph, Operand, Depends, Inside}
use Rattle.formula.specs.declared.Node.{Node}
use Rattle.formula.specs.declared.Node.TheVariants as node
use Rattle.order.specs.Marks.{zeros, Held}

-- the first `tail` entries of `todo` are listed; those whose mark in `seen` is not 0
pub record Listing : Type 0 where
  pub seen : List ℕ
  pub todo : List ℕ
  pub tail : ℕ

abbrev pub listing : List ℕ → List ℕ → ℕ → Listing
listing s t n = record { seen = s; todo = t; tail = n }

unfoldable pub meet_one : Listing → Id → Listing
meet_one l j = pick (eqb (get_or l.seen j 0) 0) (listing (set l.seen j 1) (set l.todo l.tail j) (l.tail + 1)) l

abbrev pub meet_all : Node → Listing → Listing
meet_all (node.Constant v) l = l
meet_all (node.Input e) l = l
meet_all (node.Unary a) l = meet_one l a.0
meet_all (node.Binary o a b) l = meet_one (meet_one l a.0) b.0

-- only nodes that i reaches are listed
pub record Listed (g : Graph) (i : Id) (l : Listing) : Type 0 where
  pub inside : Inside g
  pub marks : g.count ≤ length l.seen
  pub room : g.count ≤ length l.todo
  pub tally : l.tail + zeros l.seen g.count ≡ g.count
  pub reached : (j : Id) → j < g.count → 0 < get_or l.seen j 0 → Depends g i j
  pub found : (j : Id) → j < g.count → 0 < get_or l.seen j 0 → Held l.todo l.tail j
  pub known : (k : ℕ) → k < l.tail → get_or l.todo k 0 < g.count
  pub met : (k : ℕ) → k < l.tail → 0 < get_or l.seen (get_or l.todo k 0) 0

-- the operands of i and of the first `head` nodes of the list are listed
pub record Spreading (g : Graph) (i : Id) (l : Listing) (head : ℕ) : Type 0 where
  pub listed : Listed g i l
  pub node : i < g.count
  pub within : head ≤ l.tail
  pub own : (j : Id) → Operand (g.node i) j → 0 < get_or l.seen j 0
  pub closed : (k : ℕ) (j : Id) → k < head → Operand (g.node (get_or l.todo k 0)) j → 0 < get_or l.seen j 0
