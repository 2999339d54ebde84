-- What the end of a run says of all its rounds, and what its counts are; over any play. Assumes nothing.
use Prim.Native.Nat.{ℕ}
use mathlib.Core.Path.{◌≡◌, refl, sym, subst}
use mathlib.Core.List.{List, ◌∷◌}
use native.Mathlib.Omega.{arith}
use Rattle.search.specs.Machine.{Play, St, End, solved, spent, ran_dry, Out, Landing, stores, loses, walks, landing_at, moved, on, turn_of}
use Rattle.search.specs.Round.{stays, turns, Taken, took, Round, round_of, root_after, landed, last_after, Leaves, Linked, NotOne, LastOne, last, earlier}
use Rattle.search.specs.Result.{RanDry}
use Rattle.search.specs.Demand.{All, none, more}
use Rattle.search.proofs.Turns.{turn_walks, turn_starts}
use Rattle.search.proofs.Runs.{Over, over, Runs, spends, dries_at, walks_on, solves, again}

pub not_solved : {e : End} → e ≡ spent → e ≡ solved → ⊥
not_solved p q = let z : ◌≡◌ {A = ℕ} 0 1 = cc in omega arith

pub dry_solved : ran_dry ≡ solved → ⊥
dry_solved q = let z : ◌≡◌ {A = ℕ} 0 1 = cc in omega arith

module _ (P : Play) where
  leaves_over : (l : Landing) (ss : List Taken) (e : St) → Over l → Leaves P l (round_of ss e (over P l e).vals)
  leaves_over stores ss e w = refl
  leaves_over loses ss e w = refl
  leaves_over walks ss e w = absurd w

  leaves_at : (l : Landing) (ss : List Taken) (e : St) → Over l → landing_at P.graph e ≡ l → Leaves P (landing_at P.graph e) (round_of ss e (over P l e).vals)
  leaves_at l ss e w q = subst (λ (j : Landing). Leaves P j (round_of ss e (over P l e).vals)) (sym q) (leaves_over l ss e w)

came_by : {P : Play} {s r : St} {o : Out} → turn_of P s ≡ on r → RanDry P r o → RanDry P s o
came_by e h = record { at = h.at; came = turns e h.came; dried = h.dried; out = h.out }

module _ {P : Play} where
  -- a run that does not end as solved: the root was 1 at the end of none of its rounds
  pub run_unsolved : {k : ℕ} {ss : List Taken} {s : St} {rs : List Round} {o : Out} → Runs P k ss s rs o → (o.end ≡ solved → ⊥) → All (NotOne P.graph) rs
  run_unsolved spends h = none
  run_unsolved (dries_at e) h = none
  run_unsolved (walks_on e q r) h = run_unsolved r h
  run_unsolved (solves l e q w z) h = absurd (h refl)
  run_unsolved (again l e q w z r) h = more _ _ z (run_unsolved r h)

  -- a run that ends as solved: at the end of its last round, and of no other
  pub run_solved : {k : ℕ} {ss : List Taken} {s : St} {rs : List Round} {o : Out} → Runs P k ss s rs o → o.end ≡ solved → LastOne P.graph rs
  run_solved spends h = absurd (not_solved refl h)
  run_solved (dries_at e) h = absurd (dry_solved h)
  run_solved (walks_on e q r) h = run_solved r h
  run_solved (solves l e q w z) h = last _ z
  run_solved (again l e q w z r) h = earlier _ _ z (run_solved r h)

  -- "Values then hold the state after the last completed round"
  pub run_values : {k : ℕ} {ss : List Taken} {s : St} {rs : List Round} {o : Out} → Runs P k ss s rs o → o.vals ≡ last_after s.vals rs
  run_values spends = refl
  run_values (dries_at e) = refl
  run_values (walks_on e q r) = run_values r
  run_values (solves l e q w z) = refl
  run_values (again l e q w z r) = run_values r

  pub run_linked : {k : ℕ} {ss : List Taken} {s : St} {rs : List Round} {o : Out} → Runs P k ss s rs o → Linked s.vals rs
  run_linked spends = tt
  run_linked (dries_at e) = tt
  run_linked (walks_on e q r) = run_linked r
  run_linked (solves l e q w z) = (refl, tt)
  run_linked (again l e q w z r) = (refl, run_linked r)

  -- each round stored its target at an input, or was lost at a constant
  pub run_leaves : {k : ℕ} {ss : List Taken} {s : St} {rs : List Round} {o : Out} → Runs P k ss s rs o → All (λ r. Leaves P (landed P.graph r) r) rs
  run_leaves spends = none
  run_leaves (dries_at e) = none
  run_leaves (walks_on e q r) = run_leaves r
  run_leaves (solves {s} {x} {u} {n} {c} {k} {ss} l e q w z) = more _ _ (leaves_at P l (took s u c ∷ ss) (moved s x u n) w q) none
  run_leaves (again {s} {x} {u} {n} {c} {k} {ss} l e q w z r) = more _ _ (leaves_at P l (took s u c ∷ ss) (moved s x u n) w q) (run_leaves r)

  -- where the root is 1 the search stops as solved, with the values of that round
  pub run_stops : {k : ℕ} {ss : List Taken} {s : St} {rs : List Round} {o : Out} → Runs P k ss s rs o
      → All (λ r. root_after P.graph r ≡ 1 → (o.end ≡ solved) × (o.vals ≡ r.after)) rs
  run_stops spends = none
  run_stops (dries_at e) = none
  run_stops (walks_on e q r) = run_stops r
  run_stops (solves l e q w z) = more _ _ (λ h. (refl, refl)) none
  run_stops (again l e q w z r) = more _ _ (λ h. absurd (z h)) (run_stops r)

  -- dry is answered only where a step's words ran out
  pub run_ran_dry : {k : ℕ} {ss : List Taken} {s : St} {rs : List Round} {o : Out} → Runs P k ss s rs o → o.end ≡ ran_dry → RanDry P s o
  run_ran_dry spends h = let z : ◌≡◌ {A = ℕ} 0 1 = cc in absurd (omega arith)
  run_ran_dry (dries_at {s} e) h = record { at = s; came = stays; dried = e; out = refl }
  run_ran_dry (walks_on {s} {x} {u} {n} {c} e q r) h = came_by (turn_walks P s x u n c e q) (run_ran_dry r h)
  run_ran_dry (solves l e q w z) h = absurd (dry_solved (sym h))
  run_ran_dry (again {s} {x} {u} {n} {c} l e q w z r) h = came_by (turn_starts P s x u n c e l q w z) (run_ran_dry r h)
