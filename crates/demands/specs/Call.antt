-- A call of `solve`: what is lent to it, the graph that its file is, and the rounds that its search completes. Assumes nothing.
use Rattle.std.specs.Prelude.{ℕ, ◌≤◌, List, ◌++◌, ◌≡◌, length}
use Rattle.laws.specs.Rows.{Row}
use Rattle.words.specs.Words.{Words}
use Rattle.words.proofs.Draws.{Small}
use Rattle.symbols.specs.Graph.{Graph}
use Rattle.formula.specs.File.{File, formula_of}
use Rattle.formula.specs.Graph.{graph_of}
use Rattle.checks.specs.Refusals.{Finding, checks, accepted, verdict}
use Rattle.filelaws.proofs.Nodes.{Bytes}
use Rattle.search.specs.Machine.{Values, Play, Out, search_of}
use Rattle.search.specs.Round.{Round, rounds_of}
use Rattle.rules.specs.One.{one}
use Rattle.assign.specs.Start.{wanted, start_of}
use Rattle.monster.specs.Step.{play_of}
use Rattle.solve.specs.Solve.{lent_rows}

-- what a lent slice of bytes and one of words always are
pub record Lent (f : File) (ws : Words) : Type 0 where
  pub bytes : Bytes f
  pub words : Small ws

-- the graph that a file is
abbrev pub graph_in : File → Graph
graph_in f = graph_of f (formula_of f)

-- none of 1 to 9 and 13: "8 Room: value buffer not exactly n long", "9 Words: fewer words than non-constant nodes"
pub record Accepted (f : File) (ws : Words) (vs : Values) : Type 0 where
  pub file : verdict f ≡ accepted (formula_of f)
  pub room : length vs ≡ (graph_in f).count
  pub words : wanted (graph_in f) ≤ length ws

-- "Numbers of refusal", 1 to 9 and 13, as one table in the papers' order
unfoldable pub table_of : File → Words → Values → List (Row Finding)
table_of f ws vs = checks f ++ lent_rows (graph_in f) ws vs

-- what its search is over
abbrev pub play_in : File → Words → Play
play_in f ws = play_of one (graph_in f) ws

-- the result of its search
abbrev pub search_in : File → Words → ℕ → Out
search_in f ws budget = search_of (play_in f ws) budget (start_of (graph_in f) ws) (wanted (graph_in f))

-- the rounds that it completes, in order, each with its steps: those of the definition that the answer is, beside it
abbrev pub rounds_in : File → Words → ℕ → List Round
rounds_in f ws budget = rounds_of (play_in f ws) budget (start_of (graph_in f) ws) (wanted (graph_in f))
