-- Demand 2 of a call that was answered with the result o: what its end says, what its values are, and what its counts are. Assumes
-- nothing.
use Rattle.std.specs.Prelude.{ℕ, ◌^◌, ◌<◌, ◌≤◌, ◌≡◌, ◌⊎◌, length}
use Rattle.words.specs.Words.{Words}
use Rattle.symbols.specs.Graph.{Id, Graph, input}
use Rattle.symbols.specs.Width.{room}
use Rattle.symbols.specs.declared.Port.{Port}
use Rattle.formula.specs.File.{File}
use Rattle.search.specs.Machine.{Values, value_of, begin, solved, spent, ran_dry, Out}
use Rattle.search.specs.Round.{landed, last_after, Leaves, Linked}
use Rattle.search.specs.Solution.{Input, Solution, Sane}
use Rattle.search.specs.Demand.{All}
use Rattle.search.specs.Result.{NeverOne, AtStart, AtLast, RanDry, Counts}
use Rattle.assign.specs.Start.{wanted, start_of}
use Rattle.demands.specs.Call.{graph_in, play_in, rounds_in}

-- Q-3: every input holds a value below 2^width
abbrev pub InputsFit : Graph → Values → Type 0
InputsFit g vs = (i : Id) (p : Port) → i < g.count → g.node i ≡ input p → value_of vs i < room p

pub record Meant (f : File) (ws : Words) (budget : ℕ) (o : Out) : Type 0 where
  -- `"Solved" means root 1`: at the start, or by the last round and by no earlier one
  pub solved_root : o.end ≡ solved → value_of o.vals (graph_in f).root ≡ 1
  pub solved_when : o.end ≡ solved → AtStart (graph_in f) (start_of (graph_in f) ws) (rounds_in f ws budget) ⊎ AtLast (graph_in f) (start_of (graph_in f) ws) (rounds_in f ws budget)
  -- `"spent" means no completed round made the root 1`: not one of them, and the start did not; "dry" means that too
  pub spent_rounds : o.end ≡ spent → NeverOne (graph_in f) (start_of (graph_in f) ws) (rounds_in f ws budget)
  pub dry_rounds : o.end ≡ ran_dry → NeverOne (graph_in f) (start_of (graph_in f) ws) (rounds_in f ws budget)
  -- "A step whose words run out ends it as Dry"
  pub dry_step : o.end ≡ ran_dry → RanDry (play_in f ws) (begin (graph_in f).root (start_of (graph_in f) ws) (wanted (graph_in f))) o
  -- "constants kept, every operator right", and every input within its width
  pub long : length o.vals ≡ (graph_in f).count
  pub below : (i : Id) → i < (graph_in f).count → value_of o.vals i < 2 ^ 64
  pub right : Solution (graph_in f) (value_of o.vals)
  pub fits : InputsFit (graph_in f) o.vals
  -- the one solution for these inputs
  pub only : (us : Values) → Sane (graph_in f) us → ((i : Id) → i < (graph_in f).count → Input ((graph_in f).node i) → value_of us i ≡ value_of o.vals i) → us ≡ o.vals
  -- "Values then hold the state after the last completed round", and where there was none the start's
  pub last : o.vals ≡ last_after (start_of (graph_in f) ws) (rounds_in f ws budget)
  -- each round begins with what the one before it left, stores its target at an input or is lost, and leaves a solution
  pub linked : Linked (start_of (graph_in f) ws) (rounds_in f ws budget)
  pub leaves : All (λ r. Leaves (play_in f ws) (landed (graph_in f) r) r) (rounds_in f ws budget)
  pub always : All (λ r. Sane (graph_in f) r.after) (rounds_in f ws budget)
  pub always_fits : All (λ r. InputsFit (graph_in f) r.after) (rounds_in f ws budget)

pub record Counted (f : File) (ws : Words) (budget : ℕ) (o : Out) : Type 0 where
  -- "rounds completed, lost ones among them, steps completed"
  pub run : Counts (play_in f ws) budget (rounds_in f ws budget) o
  -- "Words taken count the start": at least those, and no more than were lent
  pub start : wanted (graph_in f) ≤ o.words
  pub lent : o.words ≤ length ws
