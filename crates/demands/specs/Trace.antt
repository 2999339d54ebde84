-- Every step that a search begins, in order: the last one may run dry. "steps completed, words taken" are counted on it. Assumes
-- nothing.
use Rattle.std.specs.Prelude.{ℕ, zero, suc, ◌+◌, List, [], ◌∷◌, eqb}
use Rattle.laws.specs.Pick.{pick}
use Rattle.words.specs.Words.{Words, Place}
use Rattle.formula.specs.File.{File}
use Rattle.search.specs.Machine.{Values, value_of, Step, to, dry, Play, St, Next, done, on, Landing, stores, loses, walks, landing_at, step_at, turn_of, begin}
use Rattle.search.specs.Lawful.{place_after}
use Rattle.assign.specs.Start.{wanted, start_of}
use Rattle.demands.specs.Call.{graph_in, play_in}

abbrev pub goes_on : Next → (St → List Step) → List Step
goes_on (done o) k = []
goes_on (on t) k = k t

-- those of `run_from`
unfoldable pub steps_from : Play → ℕ → St → List Step
steps_from P zero s = []
steps_from P (suc left) s = step_at P s ∷ goes_on (turn_of P s) (λ t. steps_from P left t)

abbrev pub root_steps : Play → Landing → ℕ → St → List Step
root_steps P stores budget s = []
root_steps P loses budget s = []
root_steps P walks budget s = steps_from P budget s

-- those of `search_of`
unfoldable pub steps_of : Play → ℕ → Values → Place → List Step
steps_of P budget vs n =
    let s = begin P.graph.root vs n in
    pick (eqb (value_of vs P.graph.root) 1) [] (root_steps P (landing_at P.graph s) budget s)

-- "A step whose words run out … isn't counted."
abbrev pub completed : List Step → ℕ
completed [] = 0
completed (to x u n c ∷ ps) = 1 + completed ps
completed (dry n ∷ ps) = completed ps

-- the place after the last step, which began where the one before it ended: "every value, coin or choosing word drawn to its end, also
-- in a step that then ran dry"
abbrev pub place_at : Place → List Step → Place
place_at n [] = n
place_at n (p ∷ ps) = place_at (place_after p) ps

-- those of a call
abbrev pub steps_in : File → Words → ℕ → List Step
steps_in f ws budget = steps_of (play_in f ws) budget (start_of (graph_in f) ws) (wanted (graph_in f))
