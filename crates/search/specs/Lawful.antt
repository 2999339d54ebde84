-- What a play owes, so that the search over it keeps the demands. Assumes nothing.
use Rattle.std.specs.Prelude.{ℕ, ◌^◌, ◌<◌, ◌≤◌, ◌≡◌, ◌⊎◌, length}
use Rattle.bitvec.specs.Word.{is_zero}
use Rattle.words.specs.Words.{Place}
use Rattle.symbols.specs.Graph.{Id, Value, Node, constant, input, unary, binary}
use Rattle.symbols.specs.Order.{Acyclic}
use Rattle.symbols.specs.Operators.{apply, apply_at}
use Rattle.search.specs.Machine.{Values, value_of, Choice, Step, to, dry, Play}
use Rattle.search.specs.Solution.{Sane}
use Rattle.search.specs.Demand.{FalseKinds, side_of, sought, passed_by, Inverse}

-- node i, worked out again from the values v to the values w: a leaf is kept, an operator is right
abbrev pub Redone : Node → (Id → Value) → (Id → Value) → Id → Type 0
Redone (constant c) v w i = w i ≡ v i
Redone (input l) v w i = w i ≡ v i
Redone (unary a) v w i = w i ≡ is_zero (w a)
Redone (binary o a b) v w i = w i ≡ apply o (w a) (w b)

-- "every operator is recomputed"
pub record Redoes (P : Play) : Type 0 where
  pub long : (vs : Values) → length vs ≡ P.graph.count → length (P.redo vs) ≡ P.graph.count
  pub redone : (vs : Values) → length vs ≡ P.graph.count → (i : Id) → i < P.graph.count → Redone (P.graph.node i) (value_of vs) (value_of (P.redo vs)) i

-- a step at a node with target t leads to x with the value u by the choice c: x is the operand on the side shown, and "in every
-- other yes the inverse value gives t"
abbrev pub Leads : FalseKinds → Node → (Id → Value) → Value → Id → Value → Choice → Type 0
Leads F (constant k) v t x u c = Unit {0}
Leads F (input l) v t x u c = Unit {0}
Leads F (unary a) v t x u c = (x ≡ a) × ((F.at_not t → ⊥) → is_zero u ≡ t)
Leads F (binary o a b) v t x u c =
    (x ≡ sought c a b)
    × (Inverse c → (F.at_binary o (side_of c) (v (passed_by c a b)) t → ⊥) → apply_at o (side_of c) u (v (passed_by c a b)) ≡ t)

pub record Led (F : FalseKinds) (n : Node) (v : Id → Value) (t : Value) (x : Id) (u : Value) (c : Choice) : Type 0 where
  pub below : u < 2 ^ 64
  pub leads : Leads F n v t x u c

pub record Lawful (F : FalseKinds) (P : Play) : Type 0 where
  pub acyclic : Acyclic P.graph
  pub rooted : P.graph.root < P.graph.count
  -- refusal 7
  pub fixed : (c : Value) → P.graph.node P.graph.root ≡ constant c → c ≡ 1
  pub redoes : Redoes P
  pub led : (vs : Values) (i : Id) (t : Value) (m : Place) (x : Id) (u : Value) (n : Place) (c : Choice) → Sane P.graph vs → i < P.graph.count → t < 2 ^ 64
      → P.step vs i t m ≡ to x u n c → Led F (P.graph.node i) (value_of vs) t x u c

-- the place after a step
abbrev pub place_after : Step → Place
place_after (to x u n c) = n
place_after (dry n) = n

-- a step takes words forward, and none past the last of the lent ones
pub record Forward (P : Play) (lent : ℕ) : Type 0 where
  pub on : (vs : Values) (i : Id) (t : Value) (m : Place) → m ≤ place_after (P.step vs i t m)
  pub within : (vs : Values) (i : Id) (t : Value) (m : Place) → m ≤ lent → place_after (P.step vs i t m) ≤ lent

-- the step ran dry
abbrev pub Dries : Step → Type 0
Dries (to x u n c) = ⊥
Dries (dry n) = Unit {0}

-- the same graph with another step
abbrev pub with_step : Play → (Values → Id → Value → Place → Step) → Play
with_step P f = record { graph = P.graph; redo = P.redo; step = f }

-- f is the step with a longer word list: it answers as P's does, wherever that is not dry
pub record Longer (P : Play) (f : Values → Id → Value → Place → Step) : Type 0 where
  pub same : (vs : Values) (i : Id) (t : Value) (m : Place) → Dries (P.step vs i t m) ⊎ (P.step vs i t m ≡ f vs i t m)
