-- The counts of steps and words are those of the steps that were made: none is made up. Assumes nothing.
use Prim.Native.Nat.{ℕ, zero, suc, ◌+◌}
use mathlib.Core.Path.{◌≡◌, refl, ap, ◌∙◌}
use mathlib.Core.List.{List, [], ◌∷◌}
use mathlib.Core.Bool.{Bool, true, false}
use native.Mathlib.Omega.{arith}
use lib.Dec.{eqb}
use Rattle.laws.specs.Pick.{pick}
use Rattle.words.specs.Words.{Words, Place}
use Rattle.symbols.specs.Graph.{Id}
use Rattle.formula.specs.File.{File}
use Rattle.search.specs.Machine.{Values, value_of, Step, to, dry, Play, St, solved, Out, Next, done, on, ends, fresh, round, Landing, stores, loses, walks, landing_at, stored, missed, reached, moved, stepped, step_at, turn_of, follow, run_from, begin, from_root, search_of}
use Rattle.rules.specs.One.{one}
use Rattle.assign.specs.Start.{wanted, start_of}
use Rattle.solve.specs.Solve.{ended, answer}
use Rattle.demands.specs.Call.{graph_in, play_in, search_in}
use Rattle.demands.specs.Trace.{goes_on, steps_from, root_steps, steps_of, completed, place_at, steps_in}
use Rattle.demands.proofs.Numbers.{given_none}

-- what comes next has used k steps and taken the words up to n
abbrev Used : ℕ → Place → Next → Type 0
Used k n (done o) = (o.steps ≡ k) × (o.words ≡ n)
Used k n (on t) = (t.steps ≡ k) × (t.place ≡ n)

module _ (P : Play) where
  round_used : (root : Id) (s : St) → Used s.steps s.place (round root s)
  unfolding round
  round_used root s = go (eqb (value_of s.vals root) 1)
    where
      go : (b : Bool) → Used s.steps s.place (pick b (done (ends solved s)) (on (fresh root s)))
      go true = (refl, refl)
      go false = (refl, refl)

  reached_used : (l : Landing) (s : St) → Used s.steps s.place (reached P l s)
  unfolding reached
  reached_used stores s = round_used P.graph.root (stored P s)
  reached_used loses s = round_used P.graph.root (missed s)
  reached_used walks s = (refl, refl)

  -- of a run from s that made the steps ps
  abbrev Told : St → List Step → Out → Type 0
  Told s ps o = (o.steps ≡ s.steps + completed ps) × (o.words ≡ place_at s.place ps)

  module _ (left : ℕ) (rest : (t : St) → Told t (steps_from P left t) (run_from P left t)) where
    next_told : (k : ℕ) (n : Place) (x : Next) → Used k n x
        → ((follow x (λ t. run_from P left t)).steps ≡ k + completed (goes_on x (λ t. steps_from P left t)))
        × ((follow x (λ t. run_from P left t)).words ≡ place_at n (goes_on x (λ t. steps_from P left t)))
    next_told k n (done o) h = (omega (arith, h.0), h.1)
    next_told k n (on t) h = (omega (arith, h.0, (rest t).0), (rest t).1 ∙ ap (λ (m : Place). place_at m (steps_from P left t)) h.1)

    step_told : (s : St) (p : Step)
        → ((follow (stepped P s p) (λ t. run_from P left t)).steps ≡ s.steps + completed (p ∷ goes_on (stepped P s p) (λ t. steps_from P left t)))
        × ((follow (stepped P s p) (λ t. run_from P left t)).words ≡ place_at s.place (p ∷ goes_on (stepped P s p) (λ t. steps_from P left t)))
    unfolding stepped
    step_told s (to x u n c) =
        let e = moved s x u n in
        let h = next_told (s.steps + 1) n (reached P (landing_at P.graph e) e) (reached_used (landing_at P.graph e) e) in
        (omega (arith, h.0), h.1)
    step_told s (dry n) = (omega arith, refl)

  run_told : (k : ℕ) (s : St) → Told s (steps_from P k s) (run_from P k s)
  unfolding run_from steps_from turn_of
  run_told zero s = (omega arith, refl)
  run_told (suc k) s = step_told k (run_told k) s (step_at P s)

  module _ (budget : ℕ) (vs : Values) (n : Place) where
    abbrev s₀ : St
    s₀ = begin P.graph.root vs n

    root_told : (l : Landing) → Told s₀ (root_steps P l budget s₀) (from_root P l budget s₀)
    unfolding from_root
    root_told stores = (refl, refl)
    root_told loses = (refl, refl)
    root_told walks = run_told budget s₀

    pub search_told : ((search_of P budget vs n).steps ≡ completed (steps_of P budget vs n)) × ((search_of P budget vs n).words ≡ place_at n (steps_of P budget vs n))
    unfolding search_of steps_of
    search_told = let h = go (eqb (value_of vs P.graph.root) 1) in (h.0 ∙ (omega arith), h.1)
      where
        go : (b : Bool) → Told s₀ (pick b [] (root_steps P (landing_at P.graph s₀) budget s₀)) (pick b (ends solved s₀) (from_root P (landing_at P.graph s₀) budget s₀))
        go true = (refl, refl)
        go false = root_told (landing_at P.graph s₀)

module _ (f : File) (ws : Words) (budget : ℕ) (vs : Values) (o : Out) (e : answer one f ws budget vs ≡ ended o) where
  told : ((search_in f ws budget).steps ≡ completed (steps_in f ws budget)) × ((search_in f ws budget).words ≡ place_at (wanted (graph_in f)) (steps_in f ws budget))
  told = search_told (play_in f ws) budget (start_of (graph_in f) ws) (wanted (graph_in f))

  -- "steps completed": those that were made and did not run dry
  pub steps_counted : o.steps ≡ completed (steps_in f ws budget)
  steps_counted = ap (λ (x : Out). x.steps) ((given_none f ws budget vs o).0 e).1 ∙ told.0

  -- "words taken": the start's, and those of every step
  pub words_counted : o.words ≡ place_at (wanted (graph_in f)) (steps_in f ws budget)
  words_counted = ap (λ (x : Out). x.words) ((given_none f ws budget vs o).0 e).1 ∙ told.1
