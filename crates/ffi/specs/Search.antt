-- The search and one step of it, as the comparison asks for them. Assumes nothing.
use Rattle.std.specs.Prelude.{ℕ, List, get_or}
use Rattle.words.specs.Words.{Words, Place}
use Rattle.symbols.specs.Graph.{Id, Value}
use Rattle.symbols.specs.declared.OperandSide.{OperandSide}
use Rattle.symbols.specs.declared.OperandSide.TheVariants.{Lhs, Rhs}
use Rattle.formula.specs.File.{File}
use Rattle.formula.specs.Graph.{graph_of}
use Rattle.checks.specs.Refusals as file
use Rattle.search.specs.Machine.{Values, Choice, by_not, inverse, consistent, Step, to, dry, End, solved as is_solved, spent as is_spent, ran_dry as is_dry}
use Rattle.rules.specs.One.{one}
use Rattle.monster.specs.Step.{here_of, step_from}
use Rattle.solve.specs.Solve.{Result, ended, refused}
use Rattle.ffi.specs.Out.{six}

abbrev pub end_no : End → ℕ
end_no is_solved = 0
end_no is_spent = 1
end_no is_dry = 2

-- 0, the end, rounds, lost, steps, words; or the refusal's number and the id that it names
abbrev pub solved : Result → List ℕ → List ℕ
solved (ended o) out = six 0 (end_no o.end) o.rounds o.lost o.steps o.words out
solved (refused k ids vs) out = six k (get_or ids 0 0) 0 0 0 0 out

abbrev pub values_after : Result → Values
values_after (ended o) = o.vals
values_after (refused k ids vs) = vs

abbrev pub side_number : OperandSide → ℕ
side_number Lhs = 0
side_number Rhs = 1

abbrev pub choice_no : Choice → ℕ
choice_no by_not = 0
choice_no (inverse d) = 1
choice_no (consistent d) = 2

abbrev pub choice_side : Choice → ℕ
choice_side by_not = 0
choice_side (inverse d) = side_number d
choice_side (consistent d) = side_number d

abbrev pub stepped : Step → List ℕ → List ℕ
stepped (to x v n c) out = six 0 x v n (choice_no c) (choice_side c) out
stepped (dry n) out = six 12 n 0 0 0 0 out

abbrev pub stepped_on : file.Answer → File → Words → Values → Id → Value → Place → List ℕ → List ℕ
stepped_on (file.accepted m) f ws vs i t n out = stepped (step_from (here_of one (graph_of f m) vs) ws i t n) out
stepped_on (file.refused k ids) f ws vs i t n out = six k (get_or ids 0 0) 0 0 0 0 out
