-- The whole call: a graph file, the lent words, the budget and the lent values. Assumes nothing.
use Rattle.std.specs.Prelude.{ℕ, List, [], ◌∷◌, not, length, ltb, eqb, Ok, Err}
use Rattle.laws.specs.Rows.{Row, row, first}
use Rattle.words.specs.Words.{Words}
use Rattle.symbols.specs.Graph.{Graph}
use Rattle.symbols.specs.Refusals.{number_of, values_of}
use Rattle.symbols.specs.declared.Refusal.{Refusal}
use Rattle.symbols.specs.declared.Refusal.TheVariants as refusal
use Rattle.formula.specs.File.{File}
use Rattle.formula.specs.Graph.{graph_of}
use Rattle.checks.specs.Refusals as file
use Rattle.checks.specs.Refusals.{Finding, verdict}
use Rattle.search.specs.Machine.{Values, Out, search_of}
use Rattle.rules.specs.Rules.{Rules}
use Rattle.assign.specs.Start.{wanted, start_of}
use Rattle.monster.specs.Step.{play_of}
use Rattle.turns.specs.declared.Outcome.{Outcome}
use Rattle.turns.specs.Turn.{out_of}

-- a result with the values after it; or a refusal: it "returns its number (4 and 5 the id) and writes nothing"
pub data Result : Type 0 where
  ended : Out → Result
  refused : ℕ → List ℕ → Values → Result

abbrev pub refuse : Refusal → Values → Result
refuse r vs = refused (number_of r) (values_of r) vs

-- "8 Room: value buffer not exactly n long"; "9 Words: fewer words than non-constant nodes"
unfoldable pub lent_rows : Graph → Words → Values → List (Row Finding)
lent_rows g ws vs =
    row (not (eqb (length vs) g.count)) (Err refusal.Room)
    ∷ row (ltb (length ws) (wanted g)) (Err refusal.Words)
    ∷ []

-- the start, and the search from there: the words that the start took are taken
abbrev pub run : Rules → Graph → Words → ℕ → Values → Finding → Result
run ρ g ws budget vs (Ok u) = ended (search_of (play_of ρ g ws) budget (start_of g ws) (wanted g))
run ρ g ws budget vs (Err r) = refuse r vs

-- of an accepted file
unfoldable pub on_graph : Rules → Graph → Words → ℕ → Values → Result
on_graph ρ g ws budget vs = run ρ g ws budget vs (first (lent_rows g ws vs) (Ok tt))

abbrev pub on_verdict : Rules → File → Words → ℕ → Values → file.Answer → Result
on_verdict ρ f ws budget vs (file.accepted m) = on_graph ρ (graph_of f m) ws budget vs
on_verdict ρ f ws budget vs (file.refused k is) = refused k is vs

-- "Checks run in this order": 1 to 7, then 8 and 9
unfoldable pub answer : Rules → File → Words → ℕ → Values → Result
answer ρ f ws budget vs = on_verdict ρ f ws budget vs (verdict f)

-- the code's answer, with the values after it
abbrev pub result_of : Rattle.std.specs.Prelude.Result Outcome Refusal → Values → Result
result_of (Ok o) vs = ended (out_of o vs)
result_of (Err r) vs = refuse r vs
