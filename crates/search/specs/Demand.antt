-- Demand 3: its premises on a completed round, and what it concludes. Assumes nothing.
use Rattle.std.specs.Prelude.{◌≡◌, List, [], ◌∷◌}
use Rattle.symbols.specs.Graph.{Id, Value, Node, constant, input, unary, binary, Graph, Depends}
use Rattle.symbols.specs.Operators.{by_side}
use Rattle.symbols.specs.declared.OperandSide.{OperandSide}
use Rattle.symbols.specs.declared.OperandSide.TheVariants.{Lhs}
use Rattle.symbols.specs.declared.BVOperator.{BVOperator}
use Rattle.search.specs.Machine.{value_of, Choice, by_not, inverse, consistent, solved, Out}
use Rattle.search.specs.Round.{Taken, Round, root_after}
use Rattle.search.specs.Solution.{Fits}

-- every entry of a list
pub data All {X : Type 0} (A : X → Type 0) : List X → Type 0 where
  none : All A []
  more : (x : X) (xs : List X) → A x → All A xs → All A (x ∷ xs)

-- "the two false kinds": of a binary operator, a side, the other operand's value s and the target t; of Not and the target
pub record FalseKinds : Type 1 where
  pub at_binary : BVOperator → OperandSide → Value → Value → Type 0
  pub at_not : Value → Type 0

-- the side of the operand sought: "left (or only) operand"
abbrev pub side_of : Choice → OperandSide
side_of by_not = Lhs
side_of (inverse d) = d
side_of (consistent d) = d

-- of a binary operator's two operands, the one sought and the one passed by
abbrev pub sought : Choice → Id → Id → Id
sought c a b = by_side (side_of c) a b

abbrev pub passed_by : Choice → Id → Id → Id
passed_by c a b = by_side (side_of c) b a

abbrev pub Inverse : Choice → Type 0
Inverse by_not = ⊥
Inverse (inverse d) = Unit {0}
Inverse (consistent d) = ⊥

-- "every step at a binary operator took the inverse value"
abbrev pub TookInverse : Node → Taken → Type 0
TookInverse (constant c) s = Unit {0}
TookInverse (input l) s = Unit {0}
TookInverse (unary a) s = Unit {0}
TookInverse (binary o a b) s = Inverse s.choice

-- "no step is one of document 01's two false kinds"
abbrev pub NotFalse : FalseKinds → Node → (Id → Value) → Taken → Type 0
NotFalse F (constant c) v s = Unit {0}
NotFalse F (input l) v s = Unit {0}
NotFalse F (unary a) v s = F.at_not s.target → ⊥
NotFalse F (binary o a b) v s = F.at_binary o (side_of s.choice) (v (passed_by s.choice a b)) s.target → ⊥

-- i neither is x nor depends on it
pub record Free (g : Graph) (x i : Id) : Type 0 where
  pub other : i ≡ x → ⊥
  pub apart : Depends g i x → ⊥

-- "no operand passed by is that input or depends on it"
abbrev pub PassedFree : Graph → Node → Id → Taken → Type 0
PassedFree g (constant c) x s = Unit {0}
PassedFree g (input l) x s = Unit {0}
PassedFree g (unary a) x s = Unit {0}
PassedFree g (binary o a b) x s = Free g x (passed_by s.choice a b)

-- the premises on a round; Q-3: "demand 3 gains the premise that the target fits"
pub record Fair (F : FalseKinds) (g : Graph) (r : Round) : Type 0 where
  pub inverses : All (λ s. TookInverse (g.node s.node) s) r.steps
  pub honest : All (λ s. NotFalse F (g.node s.node) (value_of r.before) s) r.steps
  pub passed : All (λ s. PassedFree g (g.node s.node) r.node s) r.steps
  pub fits : Fits (g.node r.node) r.target

-- "Then the root is 1 when the round ends, and the search stops there as solved.": `later` are the rounds after it
pub record Concluded (g : Graph) (r : Round) (later : List Round) (o : Out) : Type 0 where
  pub one : root_after g r ≡ 1
  pub stops : later ≡ []
  pub as_solved : o.end ≡ solved
  pub values : o.vals ≡ r.after
