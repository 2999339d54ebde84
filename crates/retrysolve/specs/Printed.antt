-- Document 01, "The program": what it prints of a graph file and its standard input. Assumes nothing.
use Rattle.std.specs.Prelude.{ℕ, List, replicate}
use Rattle.words.specs.Words.{Words}
use Rattle.text.specs.Text.{Text}
use Rattle.symbols.specs.Graph.{Graph}
use Rattle.formula.specs.File.{File}
use Rattle.formula.specs.Graph.{graph_of}
use Rattle.checks.specs.Refusals as file
use Rattle.checks.specs.Refusals.{verdict}
use Rattle.rules.specs.One.{one}
use Rattle.solve.specs.Solve.{Result, ended, refused, answer}
use Rattle.intake.specs.Words.{words_of}
use Rattle.report.specs.Report.{result_text}
use Rattle.refusals.specs.Line.{refusal_text}

-- "budget 100,000"
abbrev pub budget : ℕ
budget = 100000

abbrev pub text_of : Graph → Result → Text
text_of g (ended o) = result_text g o
text_of g (refused k is vs) = refusal_text k is

-- of an accepted file: the answer, given a buffer of n values
unfoldable pub printed_with : Graph → File → Words → ℕ → Text
printed_with g f ws n = text_of g (answer one f ws budget (replicate n 0))

abbrev pub printed_by : File → Words → file.Answer → Text
printed_by f ws (file.accepted m) = printed_with (graph_of f m) f ws m.count
printed_by f ws (file.refused k is) = refusal_text k is

-- "reads file `graph` and up to 4,096 little-endian words of 8 bytes from standard input"
unfoldable pub printed : File → List ℕ → Text
printed f s = printed_by f (words_of 4096 s) (verdict f)
