-- symbolic_state.rs, `traverse`: the order in which the nodes below a node are visited. Assumes nothing.
use Rattle.std.specs.Prelude.{ℕ, zero, suc, ◌≡◌, List, [], ◌∷◌, ◌++◌, Bool, true, false, ◌||◌, eqb}
use Rattle.laws.specs.Pick.{pick}
use Rattle.symbols.specs.Graph.{Id, Node, constant, input, unary, binary, Graph, Operand}

-- ids in the order of their visits
abbrev pub Ids : Type 0
Ids = List Id

-- `visit_map` has i
unfoldable pub has : Ids → Id → Bool
has [] i = false
has (j ∷ l) i = eqb j i || has l i

-- "left operand first"
abbrev pub operands_by : (Id → Ids → Ids) → Node → Ids → Ids
operands_by go (constant v) seen = seen
operands_by go (input l) seen = seen
operands_by go (unary a) seen = go a seen
operands_by go (binary o a b) seen = go b (go a seen)

-- what is listed after a visit of i, given what was before it: "once each", "operands before their operator". The depth is for
-- graphs with cycles, where the source does not end: any depth above a node's rank gives the same (proofs/Walk.antt, walk_depth).
unfoldable pub walk : Graph → ℕ → Id → Ids → Ids
walk g zero i seen = seen
walk g (suc k) i seen = pick (has seen i) seen (operands_by (walk g k) (g.node i) seen ++ (i ∷ []))

-- no operand chain has more nodes than there are
abbrev pub visit : Graph → Id → Ids → Ids
visit g i seen = walk g g.count i seen

-- "Nodes reachable from the root"
unfoldable pub listed : Graph → Ids
listed g = visit g g.root []

-- the visits that a stack of nodes stands for, from its top
unfoldable pub finish : Graph → Ids → Ids → Ids
finish g [] seen = seen
finish g (u ∷ rest) seen = finish g rest (visit g u seen)

-- each node once, each behind its operands: at its place, none before it is the same, and its operands are before it
pub record Tidy (g : Graph) (l : Ids) : Type 0 where
  pub once : (p q : Ids) (i : Id) → l ≡ p ++ i ∷ q → has p i ≡ false
  pub behind : (p q : Ids) (i j : Id) → l ≡ p ++ i ∷ q → Operand (g.node i) j → has p j ≡ true
