-- A small search to try the laws and the demands on: Not, Add and Equals over any list of nodes. A word 0 takes the inverse
-- value, any other word is itself the consistent value. Assumes nothing.
use Prim.Native.Nat.{◌+◌, ◌%◌, ◌^◌, ◌<◌}
use mathlib.Core.List.{List, [], ◌∷◌}
use mathlib.Core.Bool.{Bool, true, false, ◌&&◌}
use lib.ListN.{length, get_or, set}
use lib.Dec.{eqb, ltb}
use Rattle.laws.specs.Pick.{pick}
use Rattle.bitvec.specs.Word.{bvsub, is_zero}
use Rattle.words.specs.Words.{Words, Place}
use Rattle.symbols.specs.Graph.{Id, Value, Node, constant, input, unary, binary}
use Rattle.symbols.specs.Width as width
use Rattle.symbols.specs.Operators.{by_side, apply}
use Rattle.symbols.specs.declared.Port.{Port}
use Rattle.symbols.specs.declared.OperandSide.{OperandSide}
use Rattle.symbols.specs.declared.OperandSide.TheVariants.{Lhs, Rhs}
use Rattle.symbols.specs.declared.BVOperator.{BVOperator}
use Rattle.symbols.specs.declared.BVOperator.TheVariants.{Add, Sub, Mul, Divu, Sltu, Remu, Not, Equals, BitwiseAnd}
use Rattle.search.specs.Machine.{Values, value_of, Choice, by_not, inverse, consistent, Step, to, dry, Play}
use Rattle.search.specs.Round.{Taken, Round}
use Rattle.search.specs.Demand.{FalseKinds}

-- Add and Equals have inverse values; the other operators have none here, so that each of their steps is of a false kind
abbrev pub inverse_value : BVOperator → Value → Value → Value
inverse_value Add s t = bvsub t s
inverse_value Sub s t = 0
inverse_value Mul s t = 0
inverse_value Divu s t = 0
inverse_value Sltu s t = 0
inverse_value Remu s t = 0
inverse_value Not s t = 0
inverse_value Equals s t = pick (eqb t 0) (is_zero s) s
inverse_value BitwiseAnd s t = 0

abbrev pub FalseAt : BVOperator → OperandSide → Value → Value → Type 0
FalseAt Add d s t = ⊥
FalseAt Sub d s t = Unit {0}
FalseAt Mul d s t = Unit {0}
FalseAt Divu d s t = Unit {0}
FalseAt Sltu d s t = Unit {0}
FalseAt Remu d s t = Unit {0}
FalseAt Not d s t = Unit {0}
FalseAt Equals d s t = 1 < t
FalseAt BitwiseAnd d s t = Unit {0}

abbrev pub kinds : FalseKinds
kinds = record { at_binary = FalseAt; at_not = λ t. 1 < t }

-- left, unless it is a constant
abbrev pub side_by : Node → OperandSide
side_by (constant c) = Rhs
side_by (input p) = Lhs
side_by (unary a) = Lhs
side_by (binary o a b) = Lhs

abbrev pub value_step : BVOperator → OperandSide → Id → Value → Value → Value → Place → Step
value_step o d x s t w n = pick (eqb w 0) (to x (inverse_value o s t) (n + 1) (inverse d)) (to x (w % 2 ^ 64) (n + 1) (consistent d))

abbrev pub binary_step : BVOperator → OperandSide → Words → Values → Id → Id → Value → Place → Step
binary_step o d ws vs a b t n = pick (ltb n (length ws)) (value_step o d (by_side d a b) (value_of vs (by_side d b a)) t (get_or ws n 0) n) (dry n)

abbrev pub node_in : List Node → Id → Node
node_in ns i = get_or ns i (constant 0)

abbrev pub step_by : List Node → Words → Node → Values → Value → Place → Step
step_by ns ws (constant c) vs t n = dry n
step_by ns ws (input p) vs t n = dry n
step_by ns ws (unary a) vs t n = to a (is_zero t) n by_not
step_by ns ws (binary o a b) vs t n = binary_step o (side_by (node_in ns a)) ws vs a b t n

-- the operators worked out upward
abbrev pub node_value : Node → Values → Id → Value
node_value (constant c) vs i = value_of vs i
node_value (input p) vs i = value_of vs i
node_value (unary a) vs i = is_zero (value_of vs a)
node_value (binary o a b) vs i = apply o (value_of vs a) (value_of vs b)

unfoldable pub pass_from : List Node → Id → Values → Values
pass_from [] i vs = vs
pass_from (n ∷ ns) i vs = pass_from ns (i + 1) (set vs i (node_value n vs i))

abbrev pub toy : List Node → Id → Words → Play
toy ns root ws = record {
  graph = record { count = length ns; root = root; node = node_in ns };
  redo = pass_from ns 0;
  step = λ vs i t n. step_by ns ws (node_in ns i) vs t n;
}

-- each node's operands are before it: the list begins with node i
abbrev pub low : Node → Id → Bool
low (constant c) i = true
low (input p) i = true
low (unary a) i = ltb a i
low (binary o a b) i = ltb a i && ltb b i

abbrev pub sorted : List Node → Id → Bool
sorted [] i = true
sorted (n ∷ ns) i = low n i && sorted ns (i + 1)

-- values for the nodes, with the constants in place and the inputs within their widths
abbrev pub fits : Node → Value → Bool
fits (constant c) v = eqb v c
fits (input p) v = width.fits p v
fits (unary a) v = true
fits (binary o a b) v = true

abbrev pub primes : List Node → Values → Bool
primes [] [] = true
primes [] (v ∷ vs) = false
primes (n ∷ ns) [] = false
primes (n ∷ ns) (v ∷ vs) = ltb v (2 ^ 64) && (fits n v && primes ns vs)

-- an input of 64 bits
abbrev pub whole : Value → Port
whole l = record { label = l; width = 0 }

-- Not(Not(Equals(x + 3, y + 3))): the operand passed by is an operator. The first word makes the first round miss
abbrev pub pair_nodes : List Node
pair_nodes = input (whole 40) ∷ constant 3 ∷ binary Add 0 1 ∷ input (whole 41) ∷ binary Add 3 1 ∷ binary Equals 2 4 ∷ unary 5 ∷ unary 6 ∷ []

abbrev pub pair : Play
pair = toy pair_nodes 7 (9 ∷ 0 ∷ 0 ∷ 0 ∷ [])

abbrev pub pair_values : Value → Value → Values
pair_values x y =
    let a = apply Add x 3 in
    let b = apply Add y 3 in
    let e = apply Equals a b in
    x ∷ 3 ∷ a ∷ y ∷ b ∷ e ∷ is_zero e ∷ is_zero (is_zero e) ∷ []

abbrev pub taken : Id → Value → Value → Choice → Taken
taken i t u c = record { node = i; target = t; value = u; choice = c }

abbrev pub pair_first : Round
pair_first = record {
  before = pair_values 0 5;
  steps = taken 2 9 6 (inverse Lhs) ∷ taken 5 1 9 (consistent Lhs) ∷ taken 6 0 1 by_not ∷ taken 7 1 0 by_not ∷ [];
  node = 0;
  target = 6;
  after = pair_values 6 5;
}

abbrev pub pair_second : Round
pair_second = record {
  before = pair_values 6 5;
  steps = taken 2 8 5 (inverse Lhs) ∷ taken 5 1 8 (inverse Lhs) ∷ taken 6 0 1 by_not ∷ taken 7 1 0 by_not ∷ [];
  node = 0;
  target = 5;
  after = pair_values 5 5;
}

-- Equals(3, 4): every round is lost
abbrev pub fixed_nodes : List Node
fixed_nodes = constant 3 ∷ constant 4 ∷ binary Equals 0 1 ∷ []

-- Equals(x + x, 10): the operand passed by is the input
abbrev pub twice_nodes : List Node
twice_nodes = input (whole 40) ∷ binary Add 0 0 ∷ constant 10 ∷ binary Equals 1 2 ∷ []

abbrev pub twice : Play
twice = toy twice_nodes 3 (0 ∷ 0 ∷ [])

abbrev pub twice_round : Round
twice_round = record {
  before = 0 ∷ 0 ∷ 10 ∷ 0 ∷ [];
  steps = taken 1 10 10 (inverse Lhs) ∷ taken 3 1 10 (inverse Lhs) ∷ [];
  node = 0;
  target = 10;
  after = 10 ∷ 20 ∷ 10 ∷ 0 ∷ [];
}

-- Equals(Equals(x, 3), 2): a step of kind (b)
abbrev pub unreal_nodes : List Node
unreal_nodes = input (whole 40) ∷ constant 3 ∷ binary Equals 0 1 ∷ constant 2 ∷ binary Equals 2 3 ∷ []

abbrev pub unreal : Play
unreal = toy unreal_nodes 4 (0 ∷ 0 ∷ [])

abbrev pub unreal_round : Round
unreal_round = record {
  before = 0 ∷ 3 ∷ 0 ∷ 2 ∷ 0 ∷ [];
  steps = taken 2 2 3 (inverse Lhs) ∷ taken 4 1 2 (inverse Lhs) ∷ [];
  node = 0;
  target = 3;
  after = 3 ∷ 3 ∷ 1 ∷ 2 ∷ 0 ∷ [];
}

-- Equals(x, 10) with x of 3 bits: its round is lost, though the target is the one value that would do
abbrev pub narrow_nodes : List Node
narrow_nodes = input record { label = 40; width = 3 } ∷ constant 10 ∷ binary Equals 0 1 ∷ []

abbrev pub narrow : Play
narrow = toy narrow_nodes 2 (0 ∷ [])

abbrev pub narrow_round : Round
narrow_round = record {
  before = 7 ∷ 10 ∷ 0 ∷ [];
  steps = taken 2 1 10 (inverse Lhs) ∷ [];
  node = 0;
  target = 10;
  after = 7 ∷ 10 ∷ 0 ∷ [];
}
