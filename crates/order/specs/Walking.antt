-- What the walk that arranges a graph keeps true. Assumes nothing.
use Rattle.std.specs.Prelude.{ℕ, suc, ◌+◌, ◌-◌, ◌*◌, ◌≤◌, ◌<◌, ◌≡◌, Option, Some, None, List, length, get_or, eqb}
use Rattle.laws.specs.Pick.{pick}
use Rattle.symbols.specs.Graph.{Id, Graph, Operand, Inside}
use Rattle.symbols.specs.Order.{Looped}
use Rattle.symbols.specs.declared.SymbolId.{SymbolId}
use Rattle.formula.specs.declared.Node.{Node}
use Rattle.formula.specs.declared.Node.TheVariants as node
use Rattle.order.specs.Marks.{zeros, Held}
use Rattle.order.specs.declared.walk.Walk.{Walk}
use Rattle.order.specs.declared.walk.Move.{Move}
use Rattle.order.specs.declared.walk.Move.TheVariants.{Push, Open, Pop}

abbrev pub look_by : ℕ → SymbolId → Move → Move
look_by mark j rest = pick (eqb mark 0) (Push j) (pick (eqb mark 1) (Open j) rest)

abbrev pub move_of : Node → List ℕ → Move
move_of (node.Constant v) p = Pop
move_of (node.Input l) p = Pop
move_of (node.Unary a) p = look_by (get_or p a.0 0) a Pop
move_of (node.Binary o a b) p = look_by (get_or p a.0 0) a (look_by (get_or p b.0 0) b Pop)

pub record Walking (g : Graph) (place order stack : List ℕ) (w : Walk) : Type 0 where
  pub inside : Inside g
  pub placed : g.count ≤ length place
  pub ordered : g.count ≤ length order
  pub stacked : g.count ≤ length stack
  -- a node is open, done or not met
  pub tally : w.depth + w.done + zeros place g.count ≡ g.count
  pub next : w.next ≤ g.count
  pub passed : (i : Id) → i < w.next → 0 < get_or place i 0
  -- the stack holds the open nodes, each once, and each entry is an operand of the one below it
  pub known : (k : ℕ) → k < w.depth → get_or stack k 0 < g.count
  pub opened : (k : ℕ) → k < w.depth → get_or place (get_or stack k 0) 0 ≡ 1
  pub apart : (k l : ℕ) → k < l → l < w.depth → get_or stack k 0 ≡ get_or stack l 0 → ⊥
  pub chain : (k : ℕ) → suc k < w.depth → Operand (g.node (get_or stack k 0)) (get_or stack (suc k) 0)
  pub found : (i : Id) → i < g.count → get_or place i 0 ≡ 1 → Held stack w.depth i
  -- the order holds the nodes that are done, each at its place and behind its operands
  pub bound : (i : Id) → i < g.count → 2 ≤ get_or place i 0 → get_or place i 0 < w.done + 2
  pub holds : (i : Id) → i < g.count → 2 ≤ get_or place i 0 → get_or order (get_or place i 0 - 2) 0 ≡ i
  pub kept : (k : ℕ) → k < w.done → get_or order k 0 < g.count
  pub once : (k : ℕ) → k < w.done → get_or place (get_or order k 0) 0 ≡ k + 2
  pub closed : (i j : Id) → i < g.count → 2 ≤ get_or place i 0 → Operand (g.node i) j → 2 ≤ get_or place j 0
  pub before : (i j : Id) → i < g.count → 2 ≤ get_or place i 0 → Operand (g.node i) j → get_or place j 0 < get_or place i 0

-- a graph file has at most 4,000 nodes
pub record Small (w : Walk) : Type 0 where
  pub next : w.next ≤ 4000
  pub depth : w.depth ≤ 4000
  pub done : w.done ≤ 4000

-- one more with each turn: a node is met, is opened, and is done
abbrev pub spent : Walk → ℕ
spent w = w.next + w.depth + 2 * w.done

-- a turn that was the n-th; there is none where some node reaches itself
abbrev pub Turned : Graph → List ℕ → List ℕ → List ℕ → ℕ → Option Walk → Type 0
Turned g p o s n (Some w) = Walking g p o s w × (spent w ≡ n)
Turned g p o s n None = Looped g
