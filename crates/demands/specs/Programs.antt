-- Document 01, "Programs to shut out" and "Mistakes that look right": programs in `solve`'s place, by what they answer. Assumes nothing.
use Rattle.std.specs.Prelude.{ℕ, ◌%◌, ◌≡◌, List, [], ◌∷◌, Bool, false, not, length}
use Rattle.bitvec.specs.Word.{M, bvmul, bvand, bvor, bvnot, bvlshr, ctz}
use Rattle.bitvec.specs.Inverse.{inverse_of}
use Rattle.words.specs.Words.{Words, Place, Draw, draw_at, map_draw}
use Rattle.symbols.specs.Graph.{Value, Node, constant, input, unary, binary}
use Rattle.symbols.specs.declared.OperandSide.{OperandSide}
use Rattle.symbols.specs.declared.BVOperator.{BVOperator}
use Rattle.symbols.specs.declared.BVOperator.TheVariants.{Add, Sub, Mul, Divu, Sltu, Remu, Not, Equals, BitwiseAnd}
use Rattle.reach.specs.Table.{table_says}
use Rattle.formula.specs.File.{File}
use Rattle.search.specs.Machine.{Values, End, Out}
use Rattle.search.specs.Round.{Round, lost_in}
use Rattle.rules.specs.Rules.{Rules}
use Rattle.rules.specs.One.{no_word, inverse_at, consistent_at, hinders_one, one}
use Rattle.assign.specs.Start.{wanted}
use Rattle.solve.specs.Solve.{Result, ended, answer}
use Rattle.demands.specs.Call.{Lent, graph_in, rounds_in}
use Rattle.demands.specs.Trace.{completed, place_at, steps_in}
use Rattle.demands.specs.Cases.{node, trailer}

-- what it answers to each call, with the values after it
abbrev pub Program : Type 0
Program = File → Words → ℕ → Values → Result

-- it keeps `solve`'s contract
pub record Permitted (p : Program) : Type 0 where
  pub keeps : (f : File) (ws : Words) (budget : ℕ) (vs : Values) → Lent f ws → p f ws budget vs ≡ answer one f ws budget vs

-- "one that refuses always"
abbrev pub RefusesAlways : Program → Type 0
RefusesAlways p = (f : File) (ws : Words) (budget : ℕ) (vs : Values) (o : Out) → p f ws budget vs ≡ ended o → ⊥

-- "one that answers Solved, or Spent, always": wherever it does not refuse
abbrev pub EndsAlways : End → Program → Type 0
EndsAlways e p = (f : File) (ws : Words) (budget : ℕ) (vs : Values) (o : Out) → p f ws budget vs ≡ ended o → o.end ≡ e

-- "one that leaves the values as lent"
abbrev pub LeavesValues : Program → Type 0
LeavesValues p = (f : File) (ws : Words) (budget : ℕ) (vs : Values) (o : Out) → p f ws budget vs ≡ ended o → o.vals ≡ vs

-- "one that searches only in its first round and then idles"
abbrev pub FirstRoundOnly : Program → Type 0
FirstRoundOnly p =
    (f : File) (ws : Words) (budget : ℕ) (vs : Values) (o : Out) (r : Round) (later : List Round)
    → p f ws budget vs ≡ ended o → rounds_in f ws budget ≡ r ∷ later → o.vals ≡ r.after

-- "one with made-up rounds, steps or words": a call for which a count is not that of the run
pub record MadeUp (p : Program) (count : Out → ℕ) (run : File → Words → ℕ → ℕ) : Type 0 where
  pub file : File
  pub words : Words
  pub budget : ℕ
  pub values : Values
  pub lent : Lent file words
  pub out : Out
  pub answered : p file words budget values ≡ ended out
  pub other : count out ≡ run file words budget → ⊥

abbrev pub rounds_made : File → Words → ℕ → ℕ
rounds_made f ws budget = length (rounds_in f ws budget)

abbrev pub lost_made : File → Words → ℕ → ℕ
lost_made f ws budget = lost_in (graph_in f) (rounds_in f ws budget)

abbrev pub steps_made : File → Words → ℕ → ℕ
steps_made f ws budget = completed (steps_in f ws budget)

abbrev pub words_taken : File → Words → ℕ → ℕ
words_taken f ws budget = place_at (wanted (graph_in f)) (steps_in f ws budget)

-- a program by other rules than edition one's
abbrev pub by_rules : Rules → Program
by_rules ρ = answer ρ

-- "always drawing consistent values can't satisfy it"
abbrev pub always_consistent : Rules
always_consistent = record { table = λ o d s t. false; inverse = inverse_at; consistent = consistent_at; hinders = hinders_one }

-- "Asking the node's own operator in the essential rule."
abbrev pub asks_own : BVOperator → Node → OperandSide → Value → Value → Bool
asks_own own (constant c) d s t = false
asks_own own (input p) d s t = false
asks_own own (unary a) d s t = not (table_says own d s t)
asks_own own (binary q a b) d s t = not (table_says own d s t)

abbrev pub own_operator : Rules
own_operator = record { table = table_says; inverse = inverse_at; consistent = consistent_at; hinders = asks_own }

-- "Drawing no consistent value when the inverse will be used.": so it is where the inverse is always used
abbrev pub no_consistent : Rules
no_consistent = record { table = table_says; inverse = inverse_at; consistent = λ o d t ws n. no_word 0 n; hinders = hinders_one }

-- "Shifting by 64 for s = 0.": "Shifts take their count modulo 64"
abbrev pub shifted : Value → Value → Value → Value
shifted s t w = let c = ctz s % 64 in bvor (bvmul (bvlshr t c) (inverse_of (bvlshr s c))) (bvand w (bvnot (bvlshr M c)))

abbrev pub shifted_at : BVOperator → OperandSide → Value → Value → Words → Place → Draw
shifted_at Add d s t ws n = inverse_at Add d s t ws n
shifted_at Sub d s t ws n = inverse_at Sub d s t ws n
shifted_at Mul d s t ws n = map_draw (shifted s t) (draw_at ws n)
shifted_at Divu d s t ws n = inverse_at Divu d s t ws n
shifted_at Sltu d s t ws n = inverse_at Sltu d s t ws n
shifted_at Remu d s t ws n = inverse_at Remu d s t ws n
shifted_at Not d s t ws n = inverse_at Not d s t ws n
shifted_at Equals d s t ws n = inverse_at Equals d s t ws n
shifted_at BitwiseAnd d s t ws n = inverse_at BitwiseAnd d s t ws n

abbrev pub shift_by64 : Rules
shift_by64 = record { table = table_says; inverse = shifted_at; consistent = consistent_at; hinders = hinders_one }

-- Equals(x, y · y): x is essential, for the product's table says no at s = 0, t = 1
abbrev pub product_file : File
product_file = node 1 0 40 (node 1 0 41 (node 4 1 1 (node 9 0 2 (trailer 64 3))))

abbrev pub product_words : Words
product_words = 0 ∷ 2 ∷ 0 ∷ 0 ∷ 0 ∷ 0 ∷ 0 ∷ []

-- Equals(x · 0, y): its second step is at Mul with s = t = 0, where "one word" is the value
abbrev pub times_zero_file : File
times_zero_file = node 1 0 40 (node 0 0 0 (node 4 0 1 (node 1 0 41 (node 9 2 3 (trailer 80 4)))))

abbrev pub times_zero_words : Words
times_zero_words = 0 ∷ 0 ∷ 5 ∷ 0 ∷ 0 ∷ 0 ∷ 0xffff_ffff_ffff_ffff ∷ 9 ∷ 0 ∷ []
