-- The counts of a run: rounds, lost rounds, steps and words, over any play. Assumes nothing.
use Prim.Native.Nat.{ℕ, ◌+◌, ◌<◌, ◌≤◌}
use mathlib.Core.Path.{◌≡◌, refl, sym, ap, subst}
use mathlib.Core.List.{List, [], ◌∷◌}
use native.Mathlib.Omega.{arith}
use lib.ListN.{length}
use Rattle.search.specs.Machine.{Play, St, solved, spent, ran_dry, Out, Landing, stores, loses, walks, step_at, Step, to, dry, moved}
use Rattle.symbols.specs.Graph.{Graph}
use Rattle.search.specs.Round.{Taken, Round, landed, lost_one, lost_in, steps_in}
use Rattle.search.specs.Lawful.{place_after, Forward}
use Rattle.search.proofs.Ends.{not_solved, dry_solved}
use Rattle.search.proofs.Runs.{over_rounds, over_lost, over_steps, over_place, Runs, spends, dries_at, walks_on, solves, again}

module _ {P : Play} where
  -- "rounds completed, lost ones among them": none left out, none made up
  pub run_rounds : {k : ℕ} {ss : List Taken} {s : St} {rs : List Round} {o : Out} → Runs P k ss s rs o → o.rounds ≡ s.rounds + length rs
  run_rounds spends = omega arith
  run_rounds (dries_at e) = omega arith
  run_rounds (walks_on e q r) = run_rounds r
  run_rounds (solves {s} {x} {u} {n} l e q w z) = omega (arith, over_rounds P l (moved s x u n) w)
  run_rounds (again {s} {x} {u} {n} l e q w z r) = omega (arith, over_rounds P l (moved s x u n) w, run_rounds r)

  pub run_lost : {k : ℕ} {ss : List Taken} {s : St} {rs : List Round} {o : Out} → Runs P k ss s rs o → o.lost ≡ s.lost + lost_in P.graph rs
  run_lost spends = omega arith
  run_lost (dries_at e) = omega arith
  run_lost (walks_on e q r) = run_lost r
  run_lost (solves {s} {x} {u} {n} l e q w z) = omega (arith, over_lost P l (moved s x u n) w, ap lost_one q)
  run_lost (again {s} {x} {u} {n} l e q w z r) = omega (arith, over_lost P l (moved s x u n) w, ap lost_one q, run_lost r)

  -- at most as many steps as are left, and all of them where the run is spent
  pub run_steps : {k : ℕ} {ss : List Taken} {s : St} {rs : List Round} {o : Out} → Runs P k ss s rs o → o.steps ≤ s.steps + k
  run_steps spends = omega arith
  run_steps (dries_at e) = omega arith
  run_steps (walks_on e q r) = omega (arith, run_steps r)
  run_steps (solves {s} {x} {u} {n} l e q w z) = omega (arith, over_steps P l (moved s x u n))
  run_steps (again {s} {x} {u} {n} l e q w z r) = omega (arith, over_steps P l (moved s x u n), run_steps r)

  pub run_spent : {k : ℕ} {ss : List Taken} {s : St} {rs : List Round} {o : Out} → Runs P k ss s rs o → o.end ≡ spent → o.steps ≡ s.steps + k
  run_spent spends h = omega arith
  run_spent (dries_at e) h = let z : ◌≡◌ {A = ℕ} 0 1 = cc in absurd (omega arith)
  run_spent (walks_on e q r) h = omega (arith, run_spent r h)
  run_spent (solves l e q w z) h = absurd (not_solved h refl)
  run_spent (again {s} {x} {u} {n} l e q w z r) h = omega (arith, over_steps P l (moved s x u n), run_spent r h)

  pub run_dry : {k : ℕ} {ss : List Taken} {s : St} {rs : List Round} {o : Out} → Runs P k ss s rs o → o.end ≡ ran_dry → o.steps < s.steps + k
  run_dry spends h = let z : ◌≡◌ {A = ℕ} 0 1 = cc in absurd (omega arith)
  run_dry (dries_at e) h = omega arith
  run_dry (walks_on e q r) h = omega (arith, run_dry r h)
  run_dry (solves l e q w z) h = absurd (dry_solved (sym h))
  run_dry (again {s} {x} {u} {n} l e q w z r) h = omega (arith, over_steps P l (moved s x u n), run_dry r h)

  -- a round takes a step at least
  pub run_few : {k : ℕ} {ss : List Taken} {s : St} {rs : List Round} {o : Out} → Runs P k ss s rs o → s.steps + length rs ≤ o.steps
  run_few spends = omega arith
  run_few (dries_at e) = omega arith
  run_few (walks_on e q r) = omega (arith, run_few r)
  run_few (solves {s} {x} {u} {n} l e q w z) = omega (arith, over_steps P l (moved s x u n))
  run_few (again {s} {x} {u} {n} l e q w z r) = omega (arith, over_steps P l (moved s x u n), run_few r)

  -- the steps of the rounds are counted, and where the run is solved no others
  pub run_made : {k : ℕ} {ss : List Taken} {s : St} {rs : List Round} {o : Out} → Runs P k ss s rs o → s.steps + steps_in rs ≤ o.steps + length ss
  run_made spends = omega arith
  run_made (dries_at e) = omega arith
  run_made (walks_on e q r) = omega (arith, run_made r)
  run_made (solves {s} {x} {u} {n} l e q w z) = omega (arith, over_steps P l (moved s x u n))
  run_made (again {s} {x} {u} {n} l e q w z r) = omega (arith, over_steps P l (moved s x u n), run_made r)

  pub run_exact : {k : ℕ} {ss : List Taken} {s : St} {rs : List Round} {o : Out} → Runs P k ss s rs o → o.end ≡ solved → s.steps + steps_in rs ≡ o.steps + length ss
  run_exact spends h = absurd (not_solved refl h)
  run_exact (dries_at e) h = absurd (dry_solved h)
  run_exact (walks_on e q r) h = omega (arith, run_exact r h)
  run_exact (solves {s} {x} {u} {n} l e q w z) h = omega (arith, over_steps P l (moved s x u n))
  run_exact (again {s} {x} {u} {n} l e q w z r) h = omega (arith, over_steps P l (moved s x u n), run_exact r h)

  -- words are taken forward, from where the run began to at most the last one lent
  module _ {lent : ℕ} (f : Forward P lent) where
    step_words : (s : St) (p : Step) → step_at P s ≡ p → s.place ≤ place_after p
    step_words s p h = subst (λ (z : Step). s.place ≤ place_after z) h (f.on s.vals s.node s.target s.place)

    step_within : (s : St) (p : Step) → step_at P s ≡ p → s.place ≤ lent → place_after p ≤ lent
    step_within s p h b = subst (λ (z : Step). place_after z ≤ lent) h (f.within s.vals s.node s.target s.place b)

    pub run_words : {k : ℕ} {ss : List Taken} {s : St} {rs : List Round} {o : Out} → Runs P k ss s rs o → s.place ≤ o.words
    run_words spends = omega arith
    run_words (dries_at {s} {n} e) = step_words s (dry n) e
    run_words (walks_on {s} {x} {u} {n} {c} e q r) = omega (arith, step_words s (to x u n c) e, run_words r)
    run_words (solves {s} {x} {u} {n} {c} l e q w z) = omega (arith, step_words s (to x u n c) e, over_place P l (moved s x u n))
    run_words (again {s} {x} {u} {n} {c} l e q w z r) = omega (arith, step_words s (to x u n c) e, over_place P l (moved s x u n), run_words r)

    pub run_lent : {k : ℕ} {ss : List Taken} {s : St} {rs : List Round} {o : Out} → Runs P k ss s rs o → s.place ≤ lent → o.words ≤ lent
    run_lent spends b = b
    run_lent (dries_at {s} {n} e) b = step_within s (dry n) e b
    run_lent (walks_on {s} {x} {u} {n} {c} e q r) b = run_lent r (step_within s (to x u n c) e b)
    run_lent (solves {s} {x} {u} {n} {c} l e q w z) b = omega (arith, step_within s (to x u n c) e b, over_place P l (moved s x u n))
    run_lent (again {s} {x} {u} {n} {c} l e q w z r) b = run_lent r (omega (arith, step_within s (to x u n c) e b, over_place P l (moved s x u n)))

lost_few : (l : Landing) → lost_one l ≤ 1
lost_few stores = omega arith
lost_few loses = omega arith
lost_few walks = omega arith

-- lost rounds are among the rounds
pub lost_among : (g : Graph) (rs : List Round) → lost_in g rs ≤ length rs
lost_among g [] = omega arith
lost_among g (r ∷ rs) = omega (arith, lost_few (landed g r), lost_among g rs)
