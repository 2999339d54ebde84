-- Document 01, "Choice, round, search": the search as a small machine, over any graph, any step and any way of working the
-- operators out again. The rules of an edition stand inside the step. Assumes nothing.
use Rattle.std.specs.Prelude.{ℕ, zero, suc, ◌+◌, List, get_or, set, eqb}
use Rattle.laws.specs.Pick.{pick}
use Rattle.words.specs.Words.{Place}
use Rattle.symbols.specs.Graph.{Id, Value, Node, constant, input, unary, binary, Graph}
use Rattle.symbols.specs.Width.{fits}
use Rattle.symbols.specs.declared.OperandSide.{OperandSide}

-- the values of all nodes, by id
abbrev pub Values : Type 0
Values = List Value

abbrev pub value_of : Values → Id → Value
value_of vs i = get_or vs i 0

-- what a step chose: Not has its one value; at a binary operator an operand is sought, by the inverse or the consistent value
pub data Choice : Type 0 where
  by_not : Choice
  inverse : OperandSide → Choice
  consistent : OperandSide → Choice

-- a step leads to a node with its target, the next word's place and what it chose; or its words run out, and words were taken
-- up to the place
pub data Step : Type 0 where
  to : Id → Value → Place → Choice → Step
  dry : Place → Step

pub record Play : Type 0 where
  pub graph : Graph
  -- every operator worked out again
  pub redo : Values → Values
  -- one step by the values, at a node with its target, with the next word's place
  pub step : Values → Id → Value → Place → Step

-- the same with another way of working the operators out
abbrev pub with_redo : Play → (Values → Values) → Play
with_redo P f = record { graph = P.graph; redo = f; step = P.step }

-- where the search stands: a node, its target, the next word's place; "rounds completed, lost ones among them, steps completed"
pub record St : Type 0 where
  pub node : Id
  pub target : Value
  pub place : Place
  pub rounds : ℕ
  pub lost : ℕ
  pub steps : ℕ
  pub vals : Values

-- "Result: Solved, Spent or Dry; rounds completed, lost ones among them, steps completed, words taken."
pub data End : Type 0 where
  solved : End
  spent : End
  ran_dry : End

pub record Out : Type 0 where
  pub end : End
  pub rounds : ℕ
  pub lost : ℕ
  pub steps : ℕ
  pub words : ℕ
  pub vals : Values

-- the search is over, or goes on
pub data Next : Type 0 where
  done : Out → Next
  on : St → Next

abbrev pub ends : End → St → Out
ends e s = record { end = e; rounds = s.rounds; lost = s.lost; steps = s.steps; words = s.place; vals = s.vals }

-- "A step whose words run out ends it as Dry and isn't counted. Values then hold the state after the last completed round."
abbrev pub dries : St → Place → Out
dries s n = record { end = ran_dry; rounds = s.rounds; lost = s.lost; steps = s.steps; words = n; vals = s.vals }

-- "A round starts at the root with target 1."
abbrev pub fresh : Id → St → St
fresh root s = record { node = root; target = 1; place = s.place; rounds = s.rounds; lost = s.lost; steps = s.steps; vals = s.vals }

-- "Rounds start while the root is not 1."
unfoldable pub round : Id → St → Next
round root s = pick (eqb (value_of s.vals root) 1) (done (ends solved s)) (on (fresh root s))

-- "Reaching an input stores the target there and every operator is recomputed."
abbrev pub stored : Play → St → St
stored P s = record {
  node = s.node;
  target = s.target;
  place = s.place;
  rounds = s.rounds + 1;
  lost = s.lost;
  steps = s.steps;
  vals = P.redo (set s.vals s.node s.target);
}

-- "a lost round: nothing changes, the search goes on"
abbrev pub missed : St → St
missed s = record {
  node = s.node;
  target = s.target;
  place = s.place;
  rounds = s.rounds + 1;
  lost = s.lost + 1;
  steps = s.steps;
  vals = s.vals;
}

-- what reaching a node with a target means: the round ends, stored or lost; or it goes on from an operator
pub data Landing : Type 0 where
  stores : Landing
  loses : Landing
  walks : Landing

-- Q-3: "A round that brings a target of 2^width or more is a lost round."
abbrev pub landing : Node → Value → Landing
landing (constant c) t = loses
landing (input p) t = pick (fits p t) stores loses
landing (unary a) t = walks
landing (binary o a b) t = walks

-- at the node where the search stands
abbrev pub landing_at : Graph → St → Landing
landing_at g s = landing (g.node s.node) s.target

unfoldable pub reached : Play → Landing → St → Next
unfolding round
reached P stores s = round P.graph.root (stored P s)
reached P loses s = round P.graph.root (missed s)
reached P walks s = on s

-- a completed step
abbrev pub moved : St → Id → Value → Place → St
moved s x u n = record { node = x; target = u; place = n; rounds = s.rounds; lost = s.lost; steps = s.steps + 1; vals = s.vals }

unfoldable pub stepped : Play → St → Step → Next
unfolding reached
stepped P s (to x u n c) = reached P (landing_at P.graph (moved s x u n)) (moved s x u n)
stepped P s (dry n) = done (dries s n)

-- the step from where the search stands
abbrev pub step_at : Play → St → Step
step_at P s = P.step s.vals s.node s.target s.place

-- one turn: a step and, where it comes to a leaf, the end of the round
unfoldable pub turn_of : Play → St → Next
unfolding stepped
turn_of P s = stepped P s (step_at P s)

-- what is over stays; what goes on goes on by k
abbrev pub follow : Next → (St → Out) → Out
follow (done o) k = o
follow (on t) k = k t

-- "Before each step, used steps = budget ends it as Spent.": with as many steps left as are not yet used
unfoldable pub run_from : Play → ℕ → St → Out
unfolding turn_of
run_from P zero s = ends spent s
run_from P (suc left) s = follow (turn_of P s) (λ t. run_from P left t)

-- before the first round, with the next word's place
abbrev pub begin : Id → Values → Place → St
begin root vs n = record { node = root; target = 1; place = n; rounds = 0; lost = 0; steps = 0; vals = vs }

-- "A root input not yet 1 needs one round and no step." A constant root is 1 in an accepted file: its line is never used
unfoldable pub from_root : Play → Landing → ℕ → St → Out
unfolding run_from
from_root P stores budget s = ends solved (stored P s)
from_root P loses budget s = ends spent s
from_root P walks budget s = run_from P budget s

-- the search from given values
unfoldable pub search_of : Play → ℕ → Values → Place → Out
unfolding from_root
search_of P budget vs n =
    let s = begin P.graph.root vs n in
    pick (eqb (value_of vs P.graph.root) 1) (ends solved s) (from_root P (landing_at P.graph s) budget s)
