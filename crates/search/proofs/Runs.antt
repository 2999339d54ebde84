-- A run, its rounds and its result as one tree of cases: what every theorem of the search goes by. Assumes nothing.
use Prim.Native.Nat.{ℕ, zero, suc, ◌+◌}
use mathlib.Core.Path.{◌≡◌, refl}
use mathlib.Core.List.{List, [], ◌∷◌}
use mathlib.Core.Bool.{Bool, true, false}
use lib.Dec.{eqb}
use native.Mathlib.Omega.{arith}
use borrow.Author.Tests.{eqb-true, eqb-false}
use Rattle.laws.specs.Pick.{pick}
use Rattle.words.specs.Words.{Place}
use Rattle.symbols.specs.Graph.{Id, Value}
use Rattle.search.specs.Machine.{Values, value_of, Choice, Step, to, dry, Play, St, solved, spent, Out, done, on, ends, dries, fresh, round, stored, missed, Landing, stores, loses, walks, landing_at, reached, moved, stepped, step_at, turn_of, follow, run_from, begin, from_root, search_of}
use Rattle.search.specs.Round.{Taken, took, Round, round_of, lost_one, with_round, followed, stepped_rounds, rounds_from, root_rounds, rounds_of}

-- the round is over
abbrev pub Over : Landing → Type 0
Over stores = Unit {0}
Over loses = Unit {0}
Over walks = ⊥

abbrev pub over : Play → Landing → St → St
over P stores s = stored P s
over P loses s = missed s
over P walks s = s

module _ (P : Play) where
  -- what the end of a round does to the counts
  pub over_rounds : (l : Landing) (e : St) → Over l → (over P l e).rounds ≡ e.rounds + 1
  over_rounds stores e w = refl
  over_rounds loses e w = refl
  over_rounds walks e w = absurd w

  pub over_lost : (l : Landing) (e : St) → Over l → (over P l e).lost ≡ e.lost + lost_one l
  over_lost stores e w = omega arith
  over_lost loses e w = refl
  over_lost walks e w = absurd w

  pub over_steps : (l : Landing) (e : St) → (over P l e).steps ≡ e.steps
  over_steps stores e = refl
  over_steps loses e = refl
  over_steps walks e = refl

  pub over_place : (l : Landing) (e : St) → (over P l e).place ≡ e.place
  over_place stores e = refl
  over_place loses e = refl
  over_place walks e = refl

-- by the steps left, the steps that the present round has made, and the state: the rounds from there on, and the result
pub data Runs (P : Play) : ℕ → List Taken → St → List Round → Out → Type 0 where
  spends : {s : St} {ss : List Taken} → Runs P zero ss s [] (ends spent s)
  dries_at : {s : St} {n : Place} {k : ℕ} {ss : List Taken} → step_at P s ≡ dry n → Runs P (suc k) ss s [] (dries s n)
  walks_on : {s : St} {x : Id} {u : Value} {n : Place} {c : Choice} {k : ℕ} {ss : List Taken} {rs : List Round} {o : Out} → step_at P s ≡ to x u n c
      → landing_at P.graph (moved s x u n) ≡ walks → Runs P k (took s u c ∷ ss) (moved s x u n) rs o → Runs P (suc k) ss s rs o
  solves : {s : St} {x : Id} {u : Value} {n : Place} {c : Choice} {k : ℕ} {ss : List Taken} (l : Landing) → step_at P s ≡ to x u n c
      → landing_at P.graph (moved s x u n) ≡ l → Over l → value_of (over P l (moved s x u n)).vals P.graph.root ≡ 1
      → Runs P (suc k) ss s (round_of (took s u c ∷ ss) (moved s x u n) (over P l (moved s x u n)).vals ∷ []) (ends solved (over P l (moved s x u n)))
  again : {s : St} {x : Id} {u : Value} {n : Place} {c : Choice} {k : ℕ} {ss : List Taken} {rs : List Round} {o : Out} (l : Landing) → step_at P s ≡ to x u n c
      → landing_at P.graph (moved s x u n) ≡ l → Over l → (value_of (over P l (moved s x u n)).vals P.graph.root ≡ 1 → ⊥)
      → Runs P k [] (fresh P.graph.root (over P l (moved s x u n))) rs o
      → Runs P (suc k) ss s (round_of (took s u c ∷ ss) (moved s x u n) (over P l (moved s x u n)).vals ∷ rs) o

module _ (P : Play) (k : ℕ) (ih : (ts : List Taken) (t : St) → Runs P k ts t (rounds_from P k ts t) (run_from P k t)) (ss : List Taken) (s : St) where
  module _ (x : Id) (u : Value) (n : Place) (c : Choice) (h : step_at P s ≡ to x u n c) where
    tested : (l : Landing) → landing_at P.graph (moved s x u n) ≡ l → Over l → (b : Bool) → eqb (value_of (over P l (moved s x u n)).vals P.graph.root) 1 ≡ b
        → Runs P (suc k) ss s
        (round_of (took s u c ∷ ss) (moved s x u n) (over P l (moved s x u n)).vals
        ∷ followed (pick b (done (ends solved (over P l (moved s x u n)))) (on (fresh P.graph.root (over P l (moved s x u n))))) (λ t. rounds_from P k [] t))
        (follow (pick b (done (ends solved (over P l (moved s x u n)))) (on (fresh P.graph.root (over P l (moved s x u n))))) (λ t. run_from P k t))
    tested l q o true e = solves l h q o (eqb-true _ _ e)
    tested l q o false e = again l h q o (eqb-false _ _ e) (ih [] (fresh P.graph.root (over P l (moved s x u n))))

    reaches : (l : Landing) → landing_at P.graph (moved s x u n) ≡ l
        → Runs P (suc k) ss s
        (with_round P l (took s u c ∷ ss) (moved s x u n) (λ ts. followed (reached P l (moved s x u n)) (λ t. rounds_from P k ts t)))
        (follow (reached P l (moved s x u n)) (λ t. run_from P k t))
    unfolding reached round
    reaches stores q = tested stores q tt (eqb (value_of (stored P (moved s x u n)).vals P.graph.root) 1) refl
    reaches loses q = tested loses q tt (eqb (value_of (missed (moved s x u n)).vals P.graph.root) 1) refl
    reaches walks q = walks_on h q (ih (took s u c ∷ ss) (moved s x u n))

  steps : (p : Step) → step_at P s ≡ p → Runs P (suc k) ss s (stepped_rounds P ss s p (λ ts t. rounds_from P k ts t)) (follow (stepped P s p) (λ t. run_from P k t))
  unfolding stepped
  steps (to x u n c) h = reaches x u n c h (landing_at P.graph (moved s x u n)) refl
  steps (dry n) h = dries_at h

pub runs : (P : Play) (k : ℕ) (ss : List Taken) (s : St) → Runs P k ss s (rounds_from P k ss s) (run_from P k s)
unfolding run_from rounds_from turn_of
runs P zero ss s = spends
runs P (suc k) ss s = steps P k (λ ts t. runs P k ts t) ss s (step_at P s) refl

-- the whole search: solved at once, by a root input, or a run; the case of a constant root that is not 1 never comes
pub data Searches (P : Play) (budget : ℕ) (vs : Values) (n : Place) : List Round → Out → Type 0 where
  at_once : value_of vs P.graph.root ≡ 1 → Searches P budget vs n [] (ends solved (begin P.graph.root vs n))
  at_input : (value_of vs P.graph.root ≡ 1 → ⊥) → landing_at P.graph (begin P.graph.root vs n) ≡ stores
      → Searches P budget vs n (round_of [] (begin P.graph.root vs n) (stored P (begin P.graph.root vs n)).vals ∷ []) (ends solved (stored P (begin P.graph.root vs n)))
  at_constant : (value_of vs P.graph.root ≡ 1 → ⊥) → landing_at P.graph (begin P.graph.root vs n) ≡ loses
      → Searches P budget vs n [] (ends spent (begin P.graph.root vs n))
  by_steps : {rs : List Round} {o : Out} → (value_of vs P.graph.root ≡ 1 → ⊥) → landing_at P.graph (begin P.graph.root vs n) ≡ walks
      → Runs P budget [] (begin P.graph.root vs n) rs o → Searches P budget vs n rs o

module _ (P : Play) (budget : ℕ) (vs : Values) (n : Place) where
  abbrev first : St
  first = begin P.graph.root vs n

  rooted : (l : Landing) → landing_at P.graph first ≡ l → (value_of vs P.graph.root ≡ 1 → ⊥) → Searches P budget vs n (root_rounds P l budget first) (from_root P l budget first)
  unfolding root_rounds from_root
  rooted stores q ne = at_input ne q
  rooted loses q ne = at_constant ne q
  rooted walks q ne = by_steps ne q (runs P budget [] first)

  pub searches : Searches P budget vs n (rounds_of P budget vs n) (search_of P budget vs n)
  unfolding rounds_of search_of
  searches = by (eqb (value_of vs P.graph.root) 1) refl
    where
      by : (b : Bool) → eqb (value_of vs P.graph.root) 1 ≡ b
          → Searches P budget vs n (pick b [] (root_rounds P (landing_at P.graph first) budget first)) (pick b (ends solved first) (from_root P (landing_at P.graph first) budget first))
      by true e = at_once (eqb-true _ _ e)
      by false e = rooted (landing_at P.graph first) refl (eqb-false _ _ e)
