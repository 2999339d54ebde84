-- The rounds that a search completes, each with its steps and what they chose: over the machine, beside its result. Assumes
-- nothing.
use Rattle.std.specs.Prelude.{ℕ, zero, suc, ◌+◌, ◌≡◌, List, [], ◌∷◌, length, set, eqb}
use Rattle.laws.specs.Pick.{pick}
use Rattle.words.specs.Words.{Place}
use Rattle.symbols.specs.Graph.{Id, Value, Graph}
use Rattle.search.specs.Machine.{Values, value_of, Choice, Step, to, dry, Play, St, Next, done, on, stored, missed, Landing, stores, loses, walks, landing, landing_at, reached, moved, step_at, turn_of, begin}

-- the search comes from s to t by turns, none of which ends it
pub data Comes (P : Play) : St → St → Type 0 where
  stays : {s : St} → Comes P s s
  turns : {s r t : St} → turn_of P s ≡ on r → Comes P r t → Comes P s t

-- a completed step: the node and its target, the value that it passed on, and what it chose
pub record Taken : Type 0 where
  pub node : Id
  pub target : Value
  pub value : Value
  pub choice : Choice

abbrev pub took : St → Value → Choice → Taken
took s u c = record { node = s.node; target = s.target; value = u; choice = c }

-- a completed round: the values before it, its steps (the last one first), the leaf where it ended with its target, the values
-- after it
pub record Round : Type 0 where
  pub before : Values
  pub steps : List Taken
  pub node : Id
  pub target : Value
  pub after : Values

abbrev pub round_of : List Taken → St → Values → Round
round_of ss s vs = record { before = s.vals; steps = ss; node = s.node; target = s.target; after = vs }

-- where the search stands after ss, the steps of the present round: the round, if it ends there, and then the rest, for which
-- the steps of the round begin anew
abbrev pub with_round : Play → Landing → List Taken → St → (List Taken → List Round) → List Round
with_round P stores ss s rest = round_of ss s (stored P s).vals ∷ rest []
with_round P loses ss s rest = round_of ss s (missed s).vals ∷ rest []
with_round P walks ss s rest = rest ss

abbrev pub followed : Next → (St → List Round) → List Round
followed (done o) k = []
followed (on t) k = k t

abbrev pub stepped_rounds : Play → List Taken → St → Step → (List Taken → St → List Round) → List Round
stepped_rounds P ss s (to x u n c) k =
    let e = moved s x u n in
    with_round P (landing_at P.graph e) (took s u c ∷ ss) e (λ ts. followed (reached P (landing_at P.graph e) e) (λ t. k ts t))
stepped_rounds P ss s (dry n) k = []

-- the rounds that `run_from` completes, in order; ss are the steps that the present round has made
unfoldable pub rounds_from : Play → ℕ → List Taken → St → List Round
rounds_from P zero ss s = []
rounds_from P (suc left) ss s = stepped_rounds P ss s (step_at P s) (λ ts t. rounds_from P left ts t)

unfoldable pub root_rounds : Play → Landing → ℕ → St → List Round
unfolding rounds_from
root_rounds P stores budget s = round_of [] s (stored P s).vals ∷ []
root_rounds P loses budget s = []
root_rounds P walks budget s = rounds_from P budget [] s

-- the rounds that `search_of` completes
unfoldable pub rounds_of : Play → ℕ → Values → Place → List Round
unfolding root_rounds
rounds_of P budget vs n =
    let s = begin P.graph.root vs n in
    pick (eqb (value_of vs P.graph.root) 1) [] (root_rounds P (landing_at P.graph s) budget s)

-- the root when the round has ended
abbrev pub root_after : Graph → Round → Value
root_after g r = value_of r.after g.root

-- "Values then hold the state after the last completed round": the values at first, and the rounds
abbrev pub last_after : Values → List Round → Values
last_after vs [] = vs
last_after vs (r ∷ rs) = last_after r.after rs

-- how the round ended
abbrev pub landed : Graph → Round → Landing
landed g r = landing (g.node r.node) r.target

-- "rounds completed, lost ones among them"
abbrev pub lost_one : Landing → ℕ
lost_one stores = 0
lost_one loses = 1
lost_one walks = 0

abbrev pub lost_in : Graph → List Round → ℕ
lost_in g [] = 0
lost_in g (r ∷ rs) = lost_one (landed g r) + lost_in g rs

-- the steps of the completed rounds
abbrev pub steps_in : List Round → ℕ
steps_in [] = 0
steps_in (r ∷ rs) = length r.steps + steps_in rs

-- what a round leaves, by where it ended
abbrev pub Leaves : Play → Landing → Round → Type 0
Leaves P stores r = r.after ≡ P.redo (set r.before r.node r.target)
Leaves P loses r = r.after ≡ r.before
Leaves P walks r = ⊥

-- each round begins with the values that the one before it left, the first with vs
abbrev pub Linked : Values → List Round → Type 0
Linked vs [] = Unit {0}
Linked vs (r ∷ rs) = (r.before ≡ vs) × Linked r.after rs

-- the root is not 1 when the round has ended
abbrev pub NotOne : Graph → Round → Type 0
NotOne g r = root_after g r ≡ 1 → ⊥

-- the root is 1 when the last round has ended, and at the end of no earlier one
pub data LastOne (g : Graph) : List Round → Type 0 where
  last : (r : Round) → root_after g r ≡ 1 → LastOne g (r ∷ [])
  earlier : (r : Round) (rs : List Round) → NotOne g r → LastOne g rs → LastOne g (r ∷ rs)
