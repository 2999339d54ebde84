-- Small graph files, and the rounds that their searches complete: for what demand 3's premises are worth. Assumes nothing.
use Rattle.std.specs.Prelude.{ℕ, ◌≡◌, List, [], ◌∷◌, replicate}
use Rattle.words.specs.Words.{Words}
use Rattle.symbols.specs.Graph.{Id, Value}
use Rattle.symbols.specs.declared.OperandSide.TheVariants.{Lhs, Rhs}
use Rattle.formula.specs.File.{File}
use Rattle.search.specs.Machine.{Values, value_of, Choice, by_not, inverse, consistent, solved, Out}
use Rattle.search.specs.Round.{Taken, Round, NotOne}
use Rattle.search.specs.Solution.{Input, Fits}
use Rattle.search.specs.Demand.{All, TookInverse, NotFalse, PassedFree}
use Rattle.lawful.specs.Owed.{false_kinds}
use Rattle.demands.specs.Call.{Lent, Accepted, graph_in, rounds_in}

-- "records of 16 bytes": the kind, byte 4 and byte 8; all others zero. "0 Constant, 1 Input, 2 Add, … 5 Divu, … 8 Not, 9 Equals"
abbrev pub node : ℕ → ℕ → ℕ → File → File
node kind a b rest = kind ∷ 0 ∷ 0 ∷ 0 ∷ a ∷ 0 ∷ 0 ∷ 0 ∷ b ∷ 0 ∷ 0 ∷ 0 ∷ 0 ∷ 0 ∷ 0 ∷ 0 ∷ rest

-- "u32 distance back … (16n), u32 root, u32 version 1, u32 zero"
abbrev pub trailer : ℕ → ℕ → File
trailer distance root = distance ∷ 0 ∷ 0 ∷ 0 ∷ root ∷ 0 ∷ 0 ∷ 0 ∷ 1 ∷ 0 ∷ 0 ∷ 0 ∷ 0 ∷ 0 ∷ 0 ∷ 0 ∷ []

abbrev pub step : Id → Value → Value → Choice → Taken
step i t u c = record { node = i; target = t; value = u; choice = c }

-- Not(Not(Equals(x + 3, y + 3))): an operand passed by is an operator
abbrev pub pair_file : File
pair_file = node 1 0 40 (node 0 0 3 (node 2 0 1 (node 1 0 41 (node 2 3 1 (node 9 2 4 (node 8 5 0 (node 8 6 0 (trailer 128 7))))))))

-- seven words for the start, with y = 5; in the first round the choosing word at Equals says no; in the second every one says yes
abbrev pub pair_words : Words
pair_words = 0 ∷ 0 ∷ 5 ∷ 0 ∷ 0 ∷ 0 ∷ 0 ∷ 0 ∷ 9 ∷ 0xffff_ffff_ffff_ffff ∷ 0 ∷ 0 ∷ 0 ∷ 0 ∷ 0 ∷ 0 ∷ 0 ∷ []

abbrev pub pair_first : Round
pair_first = record {
  before = 0 ∷ 3 ∷ 3 ∷ 5 ∷ 8 ∷ 0 ∷ 1 ∷ 0 ∷ [];
  steps = step 2 9 6 (inverse Lhs) ∷ step 5 1 9 (consistent Lhs) ∷ step 6 0 1 by_not ∷ step 7 1 0 by_not ∷ [];
  node = 0;
  target = 6;
  after = 6 ∷ 3 ∷ 9 ∷ 5 ∷ 8 ∷ 0 ∷ 1 ∷ 0 ∷ [];
}

abbrev pub pair_second : Round
pair_second = record {
  before = 6 ∷ 3 ∷ 9 ∷ 5 ∷ 8 ∷ 0 ∷ 1 ∷ 0 ∷ [];
  steps = step 2 8 5 (inverse Lhs) ∷ step 5 1 8 (inverse Lhs) ∷ step 6 0 1 by_not ∷ step 7 1 0 by_not ∷ [];
  node = 0;
  target = 5;
  after = 5 ∷ 3 ∷ 8 ∷ 5 ∷ 8 ∷ 1 ∷ 0 ∷ 1 ∷ [];
}

abbrev pub pair_out : Out
pair_out = record { end = solved; rounds = 2; lost = 0; steps = 8; words = 17; vals = pair_second.after }

-- Equals(7 / x, 4): marked case 1, "Divu Rhs s=7 t=4: yes, value 1", is of kind (a)
abbrev pub quotient_file : File
quotient_file = node 1 0 40 (node 0 0 7 (node 5 1 0 (node 0 0 4 (node 9 2 3 (trailer 80 4)))))

abbrev pub quotient_round : Round
quotient_round = record {
  before = 0 ∷ 7 ∷ 0xffff_ffff_ffff_ffff ∷ 4 ∷ 0 ∷ [];
  steps = step 2 4 1 (inverse Rhs) ∷ step 4 1 4 (inverse Lhs) ∷ [];
  node = 0;
  target = 1;
  after = 1 ∷ 7 ∷ 7 ∷ 4 ∷ 0 ∷ [];
}

-- Equals(Equals(x, 3), 2): marked case 10, "Equals s=3 t=2: yes, 3", is of kind (b)
abbrev pub truth_file : File
truth_file = node 1 0 40 (node 0 0 3 (node 9 0 1 (node 0 0 2 (node 9 2 3 (trailer 80 4)))))

abbrev pub truth_round : Round
truth_round = record {
  before = 0 ∷ 3 ∷ 0 ∷ 2 ∷ 0 ∷ [];
  steps = step 2 2 3 (inverse Lhs) ∷ step 4 1 2 (inverse Lhs) ∷ [];
  node = 0;
  target = 3;
  after = 3 ∷ 3 ∷ 1 ∷ 2 ∷ 0 ∷ [];
}

-- Equals(Not(x), 2): kind (b) at Not
abbrev pub not_file : File
not_file = node 1 0 40 (node 8 0 0 (node 0 0 2 (node 9 1 2 (trailer 64 3))))

abbrev pub not_round : Round
not_round = record {
  before = 0 ∷ 1 ∷ 2 ∷ 0 ∷ [];
  steps = step 1 2 0 by_not ∷ step 3 1 2 (inverse Lhs) ∷ [];
  node = 0;
  target = 0;
  after = 0 ∷ 1 ∷ 2 ∷ 0 ∷ [];
}

-- Equals(x + x, 10): an operand passed by is the input
abbrev pub twice_file : File
twice_file = node 1 0 40 (node 2 0 0 (node 0 0 10 (node 9 1 2 (trailer 64 3))))

abbrev pub twice_round : Round
twice_round = record {
  before = 0 ∷ 0 ∷ 10 ∷ 0 ∷ [];
  steps = step 1 10 10 (inverse Lhs) ∷ step 3 1 10 (inverse Lhs) ∷ [];
  node = 0;
  target = 10;
  after = 10 ∷ 20 ∷ 10 ∷ 0 ∷ [];
}

-- Equals(x + (x + 1), 10): an operand passed by depends on the input
abbrev pub sum_file : File
sum_file = node 1 0 40 (node 0 0 1 (node 2 0 1 (node 2 0 2 (node 0 0 10 (node 9 3 4 (trailer 96 5))))))

abbrev pub sum_round : Round
sum_round = record {
  before = 0 ∷ 1 ∷ 1 ∷ 1 ∷ 10 ∷ 0 ∷ [];
  steps = step 3 10 9 (inverse Lhs) ∷ step 5 1 10 (inverse Lhs) ∷ [];
  node = 0;
  target = 9;
  after = 9 ∷ 1 ∷ 10 ∷ 19 ∷ 10 ∷ 0 ∷ [];
}

-- Equals(x, 10) with x of 3 bits: the target 10 does not fit. The start takes 15 modulo 8
abbrev pub narrow_file : File
narrow_file = node 1 3 40 (node 0 0 10 (node 9 0 1 (trailer 48 2)))

abbrev pub narrow_words : Words
narrow_words = 15 ∷ 0 ∷ 0 ∷ 0 ∷ []

abbrev pub narrow_round : Round
narrow_round = record {
  before = 7 ∷ 10 ∷ 0 ∷ [];
  steps = step 2 1 10 (inverse Lhs) ∷ [];
  node = 0;
  target = 10;
  after = 7 ∷ 10 ∷ 0 ∷ [];
}

-- words that are all zero choose the left operand and the inverse value
abbrev pub zeros : Words
zeros = 0 ∷ 0 ∷ 0 ∷ 0 ∷ 0 ∷ 0 ∷ 0 ∷ 0 ∷ 0 ∷ []

-- what the lent values hold does not matter
abbrev pub ones : ℕ → Values
ones n = replicate n 1

-- a round of a call that ends at an input and does not make the root 1
pub record Missed (f : File) (ws : Words) (budget : ℕ) (vs : Values) (r : Round) : Type 0 where
  pub lent : Lent f ws
  pub call : Accepted f ws vs
  pub later : List Round
  pub among : rounds_in f ws budget ≡ r ∷ later
  pub input : Input ((graph_in f).node r.node)
  pub missed : NotOne (graph_in f) r

-- demand 3's premises, one by one
abbrev pub Inverses : File → Round → Type 0
Inverses f r = All (λ s. TookInverse ((graph_in f).node s.node) s) r.steps

abbrev pub Honest : File → Round → Type 0
Honest f r = All (λ s. NotFalse false_kinds ((graph_in f).node s.node) (value_of r.before) s) r.steps

abbrev pub PassedBy : File → Round → Type 0
PassedBy f r = All (λ s. PassedFree (graph_in f) ((graph_in f).node s.node) r.node s) r.steps

abbrev pub TargetFits : File → Round → Type 0
TargetFits f r = Fits ((graph_in f).node r.node) r.target
