-- Demand 2: what a result says of the values and of every completed round, and what its counts are. Assumes nothing.
use Rattle.std.specs.Prelude.{ℕ, ◌<◌, ◌≤◌, ◌≡◌, ◌⊎◌, List, [], length}
use Rattle.words.specs.Words.{Place}
use Rattle.symbols.specs.Graph.{Value, Graph}
use Rattle.search.specs.Machine.{Values, value_of, dry, Play, St, dries, step_at, begin, End, solved, spent, ran_dry, Out}
use Rattle.search.specs.Round.{Comes, Round, landed, last_after, lost_in, steps_in, Leaves, Linked, NotOne, LastOne}
use Rattle.search.specs.Solution.{Input, Sane}
use Rattle.search.specs.Demand.{All}

-- the root was 1 neither at the start nor at the end of any round
pub record NeverOne (g : Graph) (vs : Values) (rs : List Round) : Type 0 where
  pub start : value_of vs g.root ≡ 1 → ⊥
  pub rounds : All (NotOne g) rs

-- the root was 1 at the start, and no round was made
pub record AtStart (g : Graph) (vs : Values) (rs : List Round) : Type 0 where
  pub one : value_of vs g.root ≡ 1
  pub idle : rs ≡ []

-- the root was not 1 at the start, became 1 by the last round, and by no earlier one
pub record AtLast (g : Graph) (vs : Values) (rs : List Round) : Type 0 where
  pub start : value_of vs g.root ≡ 1 → ⊥
  pub rounds : LastOne g rs

-- `"Solved" means root 1 … "spent" means no completed round made the root 1`; and so does dry
abbrev pub Says : Graph → Values → List Round → End → Type 0
Says g vs rs solved = AtStart g vs rs ⊎ AtLast g vs rs
Says g vs rs spent = NeverOne g vs rs
Says g vs rs ran_dry = NeverOne g vs rs

-- the same of the values that the result holds
abbrev pub RootSays : End → Value → Type 0
RootSays solved r = r ≡ 1
RootSays spent r = r ≡ 1 → ⊥
RootSays ran_dry r = r ≡ 1 → ⊥

-- "A step whose words run out ends it as Dry": from s the search came to such a step
pub record RanDry (P : Play) (s : St) (o : Out) : Type 0 where
  pub at : St
  pub came : Comes P s at
  pub dried : step_at P at ≡ dry o.words
  pub out : o ≡ dries at o.words

-- the result of a search from the values vs and the place n that completed the rounds rs
pub record Means (P : Play) (vs : Values) (n : Place) (rs : List Round) (o : Out) : Type 0 where
  pub says : Says P.graph vs rs o.end
  pub root : RootSays o.end (value_of o.vals P.graph.root)
  pub ran_dry : o.end ≡ ran_dry → RanDry P (begin P.graph.root vs n) o
  -- "constants kept, every operator right": at the end, and when any round has ended
  pub sane : Sane P.graph o.vals
  pub always : All (λ r. Sane P.graph r.after) rs
  -- "Values then hold the state after the last completed round", or the start's if there was none
  pub values : o.vals ≡ last_after vs rs
  pub linked : Linked vs rs
  pub leaves : All (λ r. Leaves P (landed P.graph r) r) rs

-- "A root input not yet 1 needs one round and no step."
pub record RootInput (g : Graph) (o : Out) : Type 0 where
  pub root : Input (g.node g.root)
  pub one : o.rounds ≡ 1
  pub none : o.steps ≡ 0

-- "rounds completed, lost ones among them, steps completed"
pub record Counts (P : Play) (budget : ℕ) (rs : List Round) (o : Out) : Type 0 where
  pub rounds : o.rounds ≡ length rs
  pub lost : o.lost ≡ lost_in P.graph rs
  pub among : o.lost ≤ o.rounds
  pub each : (o.rounds ≤ o.steps) ⊎ RootInput P.graph o
  pub within : o.steps ≤ budget
  pub used : o.end ≡ spent → o.steps ≡ budget
  pub unused : o.end ≡ ran_dry → o.steps < budget
  pub made : steps_in rs ≤ o.steps
  pub exact : o.end ≡ solved → o.steps ≡ steps_in rs
