-- Document 01, "Marked cases": one table of questions and replies, each row under its number. Assumes nothing.
use Rattle.std.specs.Prelude.{ℕ, ◌+◌, ◌-◌, ◌*◌, ◌^◌, List, [], ◌∷◌, Bool, true, false, Some, None}
use Rattle.bitvec.specs.Word.{M}
use Rattle.words.specs.Words.{Words, Place, Drawn, choosing_at}
use Rattle.symbols.specs.Graph.{Value}
use Rattle.symbols.specs.declared.OperandSide.{OperandSide}
use Rattle.symbols.specs.declared.OperandSide.TheVariants.{Lhs, Rhs}
use Rattle.symbols.specs.declared.BVOperator.{BVOperator}
use Rattle.symbols.specs.declared.BVOperator.TheVariants.{Mul, Divu, Remu, Equals}
use Rattle.reach.specs.Table.{table_says}
use Rattle.rules.specs.One.{one}
use Rattle.values.specs.Answers.{Answer, answered, refused, inverse_answer, consistent_answer}
use Rattle.search.specs.Machine.{Values, End, solved, spent, Out}
use Rattle.solve.specs.Solve as solve
use Rattle.marked.specs.Example.{example_file, seven_zeros, lent}

-- what may be asked, with s, t and the words: reachability; an inverse or a consistent value, from the front of the words; whether the
-- inverse is chosen at a quotient; the whole search over the example's file and words, with a budget
pub data Question : Type 0 where
  reaches : BVOperator → OperandSide → Value → Value → Question
  inverse : BVOperator → OperandSide → Value → Value → Words → Question
  consistent : BVOperator → OperandSide → Value → Words → Question
  chooses : ℕ → Question
  searches : ℕ → Question

-- yes or no; a value with the number of its words; a result; anything else
pub data Reply : Type 0 where
  yes : Reply
  no : Reply
  gives : Value → Place → Reply
  ends : Out → Reply
  other : Reply

abbrev pub said : Bool → Reply
said true = yes
said false = no

abbrev pub valued : Answer → Reply
valued (answered v n) = gives v n
valued (refused k l) = other

abbrev pub tossed : Drawn Bool → Reply
tossed (Some (b, s)) = said b
tossed None = other

abbrev pub result : solve.Result → Reply
result (solve.ended o) = ends o
result (solve.refused k l vs) = other

-- how it ended, rounds, lost, steps, words, values
abbrev pub out : End → ℕ → ℕ → ℕ → ℕ → Values → Out
out e rounds lost steps words vs = record { end = e; rounds = rounds; lost = lost; steps = steps; words = words; vals = vs }

unfoldable pub ask : Question → Reply
ask (reaches o d s t) = said (table_says o d s t)
ask (inverse o d s t ws) = valued (inverse_answer one o d s t ws 0)
ask (consistent o d t ws) = valued (consistent_answer one o d t ws 0)
ask (searches budget) = result (solve.answer one example_file seven_zeros budget lent)
ask (chooses quotient) = tossed (choosing_at (quotient * 2048 ∷ []) 0)

-- a row of the table: the case's number, what is asked, what is replied
pub data Row : Type 0 where
  row : ℕ → Question → Reply → Row

abbrev pub asked : List Row → List Reply
asked [] = []
asked (row k q r ∷ rows) = ask q ∷ asked rows

abbrev pub replied : List Row → List Reply
replied [] = []
replied (row k q r ∷ rows) = r ∷ replied rows

unfoldable pub table : List Row
table =
    -- "(1) Divu Rhs s=7 t=4: yes, value 1."
    row 1 (reaches Divu Rhs 7 4) yes
    ∷ row 1 (inverse Divu Rhs 7 4 []) (gives 1 0)
    -- "(2) s=8 t=4: 2."
    ∷ row 2 (inverse Divu Rhs 8 4 []) (gives 2 0)
    -- "(3) Remu Lhs s=2^63+1 t=2^63: yes, 2^63."
    ∷ row 3 (reaches Remu Lhs (2 ^ 63 + 1) (2 ^ 63)) yes
    ∷ row 3 (inverse Remu Lhs (2 ^ 63 + 1) (2 ^ 63) []) (gives (2 ^ 63) 0)
    -- "(4) Remu Lhs s=0 t=9: no."
    ∷ row 4 (reaches Remu Lhs 0 9) no
    -- "(5) Mul s=0: t=0 yes, t=1 no."
    ∷ row 5 (reaches Mul Lhs 0 0) yes
    ∷ row 5 (reaches Mul Lhs 0 1) no
    -- "(6) Mul s=6 t=4, word 0: 0x5555555555555556; t=3: no."
    ∷ row 6 (inverse Mul Lhs 6 4 (0 ∷ [])) (gives 0x5555_5555_5555_5556 1)
    ∷ row 6 (reaches Mul Lhs 6 3) no
    -- "(7) Divu Lhs s=t=2^32: no; t=2^32−1: yes."
    ∷ row 7 (reaches Divu Lhs (2 ^ 32) (2 ^ 32)) no
    ∷ row 7 (reaches Divu Lhs (2 ^ 32) (2 ^ 32 - 1)) yes
    -- "(8) Divu Lhs s=3 t=0x5555555555555555: M."
    ∷ row 8 (inverse Divu Lhs 3 0x5555_5555_5555_5555 (0 ∷ [])) (gives M 1)
    -- "(9) Remu Rhs t=4: s=9 yes, 5; s=8 no."
    ∷ row 9 (reaches Remu Rhs 9 4) yes
    ∷ row 9 (inverse Remu Rhs 9 4 (0 ∷ [])) (gives 5 1)
    ∷ row 9 (reaches Remu Rhs 8 4) no
    -- "(10) Equals s=3 t=2: yes, 3."
    ∷ row 10 (reaches Equals Lhs 3 2) yes
    ∷ row 10 (inverse Equals Lhs 3 2 []) (gives 3 0)
    -- "(11) consistent Divu Lhs t=2^63, word 2: 0."
    ∷ row 11 (consistent Divu Lhs (2 ^ 63) (2 ∷ [])) (gives 0 1)
    -- "(12) consistent Divu Rhs t=0, word 0: 1."
    ∷ row 12 (consistent Divu Rhs 0 (0 ∷ [])) (gives 1 1)
    -- "(13) inverse chosen at quotient 8106479329266892, not at ..893."
    ∷ row 13 (chooses 8106479329266892) yes
    ∷ row 13 (chooses 8106479329266893) no
    -- "(14) the graph above": "solved rounds=1 lost=0 steps=2 words=7", "x0 40 7", at the program's budget
    ∷ row 14 (searches 100000) (ends (out solved 1 0 2 7 (7 ∷ 3 ∷ 10 ∷ 10 ∷ 1 ∷ [])))
    -- "Budget 1 in the library: Spent, 0 rounds, 1 step, 5 words, values 0 3 3 10 0."
    ∷ row 14 (searches 1) (ends (out spent 0 0 1 5 (0 ∷ 3 ∷ 3 ∷ 10 ∷ 0 ∷ [])))
    ∷ []
