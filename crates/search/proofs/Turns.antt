-- The machine turn by turn, as code that takes turns meets it: each law's left side is what such code answers. Assumes nothing.
use Prim.Native.Nat.{ℕ, suc, ◌+◌, ◌-◌, ◌<◌, ◌≤◌}
use mathlib.Core.Path.{◌≡◌, refl, sym, ap, subst, ◌∙◌}
use mathlib.Core.Bool.{Bool, true, false}
use native.Mathlib.Omega.{arith}
use lib.Dec.{eqb}
use borrow.Author.Tests.{eqb-true, eqb-false, eq-eqb, ne_eqb}
use Rattle.laws.specs.Pick.{pick}
use Rattle.words.specs.Words.{Place}
use Rattle.symbols.specs.Graph.{Id, Value, constant, input, unary, binary}
use Rattle.symbols.specs.Width.{fits}
use Rattle.symbols.proofs.Fitting.{one_fits}
use Rattle.symbols.specs.declared.Port.{Port}
use Rattle.symbols.specs.declared.BVOperator.{BVOperator}
use Rattle.search.specs.Machine.{Values, value_of, Choice, Step, to, dry, Play, St, solved, spent, Out, Next, done, on, ends, dries, fresh, round, stored, missed, Landing, stores, loses, walks, landing, landing_at, reached, moved, stepped, step_at, turn_of, run_from, begin, from_root, search_of}
use Rattle.search.specs.Lawful.{place_after, Forward}
use Rattle.search.proofs.Runs.{Over, over, over_place}

-- "Rounds start while the root is not 1."
pub round_solved : (root : Id) (s : St) → value_of s.vals root ≡ 1 → done (ends solved s) ≡ round root s
unfolding round
round_solved root s h = rw (eq-eqb (value_of s.vals root) 1 h)

pub round_starts : (root : Id) (s : St) → (value_of s.vals root ≡ 1 → ⊥) → on (fresh root s) ≡ round root s
unfolding round
round_starts root s h = rw (ne_eqb (value_of s.vals root) 1 h)

module _ (P : Play) (s : St) where
  -- where a step leads, by the node there
  pub reached_input : (p : Port) → P.graph.node s.node ≡ input p → fits p s.target ≡ true → round P.graph.root (stored P s) ≡ reached P (landing_at P.graph s) s
  unfolding reached
  reached_input p e f = rw (e, f)

  pub reached_narrow : (p : Port) → P.graph.node s.node ≡ input p → fits p s.target ≡ false → round P.graph.root (missed s) ≡ reached P (landing_at P.graph s) s
  unfolding reached
  reached_narrow p e f = rw (e, f)

  pub reached_constant : (c : Value) → P.graph.node s.node ≡ constant c → round P.graph.root (missed s) ≡ reached P (landing_at P.graph s) s
  unfolding reached
  reached_constant c e = rw e

  pub reached_operator : landing_at P.graph s ≡ walks → on s ≡ reached P (landing_at P.graph s) s
  unfolding reached
  reached_operator e = rw e

  pub reached_unary : (a : Id) → P.graph.node s.node ≡ unary a → on s ≡ reached P (landing_at P.graph s) s
  unfolding reached
  reached_unary a e = rw e

  pub reached_binary : (o : BVOperator) (a b : Id) → P.graph.node s.node ≡ binary o a b → on s ≡ reached P (landing_at P.graph s) s
  unfolding reached
  reached_binary o a b e = rw e

  -- a turn, by its step
  pub turn_dry : (n : Place) → step_at P s ≡ dry n → done (dries s n) ≡ turn_of P s
  unfolding turn_of stepped
  turn_dry n e = rw e

  pub turn_to : (x : Id) (u : Value) (n : Place) (c : Choice) → step_at P s ≡ to x u n c
      → reached P (landing_at P.graph (moved s x u n)) (moved s x u n) ≡ turn_of P s
  unfolding turn_of stepped
  turn_to x u n c e = rw e

  over_reached : (l : Landing) → Over l → round P.graph.root (over P l s) ≡ reached P l s
  unfolding reached
  over_reached stores w = refl
  over_reached loses w = refl
  over_reached walks w = absurd w

-- a turn that goes on, in its round or with a new one
module _ (P : Play) (s : St) (x : Id) (u : Value) (n : Place) (c : Choice) (h : step_at P s ≡ to x u n c) where
  pub turn_walks : landing_at P.graph (moved s x u n) ≡ walks → turn_of P s ≡ on (moved s x u n)
  turn_walks q = sym (turn_to P s x u n c h) ∙ sym (reached_operator P (moved s x u n) q)

  pub turn_starts : (l : Landing) → landing_at P.graph (moved s x u n) ≡ l → Over l → (value_of (over P l (moved s x u n)).vals P.graph.root ≡ 1 → ⊥)
      → turn_of P s ≡ on (fresh P.graph.root (over P l (moved s x u n)))
  turn_starts l q w ne =
      sym (turn_to P s x u n c h) ∙ ap (λ (j : Landing). reached P j (moved s x u n)) q ∙ sym (over_reached P (moved s x u n) l w)
      ∙ sym (round_starts P.graph.root (over P l (moved s x u n)) ne)

-- a run, by its turns: the budget and the steps used
module _ (P : Play) (budget : ℕ) (s : St) where
  pub run_begin : s.steps ≡ 0 → run_from P (budget - s.steps) s ≡ run_from P budget s
  run_begin h = let z : budget - s.steps ≡ budget = omega arith in rw z

  pub run_used : budget ≤ s.steps → run_from P (budget - s.steps) s ≡ ends spent s
  unfolding run_from
  run_used h = let z : budget - s.steps ≡ 0 = omega arith in rw z

  next_one : s.steps < budget → budget - s.steps ≡ suc (budget - (s.steps + 1))
  next_one h = omega arith

  pub run_done : (o : Out) → s.steps < budget → done o ≡ turn_of P s → run_from P (budget - s.steps) s ≡ o
  unfolding run_from
  run_done o h e = rw (next_one h, sym e)

  pub run_on : (t : St) → s.steps < budget → on t ≡ turn_of P s → t.steps ≡ s.steps + 1 → run_from P (budget - s.steps) s ≡ run_from P (budget - t.steps) t
  unfolding run_from
  run_on t h e k = rw (next_one h, sym e) (ap (λ (x : ℕ). run_from P (budget - x) t) (sym k))

-- the search, by what its root is
module _ (P : Play) (budget : ℕ) (vs : Values) (n : Place) where
  pub search_now : value_of vs P.graph.root ≡ 1 → ends solved (begin P.graph.root vs n) ≡ search_of P budget vs n
  unfolding search_of
  search_now h = rw (eq-eqb (value_of vs P.graph.root) 1 h)

  module _ (ne : value_of vs P.graph.root ≡ 1 → ⊥) where
    pub search_from : from_root P (landing_at P.graph (begin P.graph.root vs n)) budget (begin P.graph.root vs n) ≡ search_of P budget vs n
    unfolding search_of
    search_from = rw (ne_eqb (value_of vs P.graph.root) 1 ne)

    pub search_input : (p : Port) → P.graph.node P.graph.root ≡ input p → ends solved (stored P (begin P.graph.root vs n)) ≡ search_of P budget vs n
    unfolding from_root
    search_input p e = rw (e, one_fits p) at search_from

    pub search_constant : (c : Value) → P.graph.node P.graph.root ≡ constant c → ends spent (begin P.graph.root vs n) ≡ search_of P budget vs n
    unfolding from_root
    search_constant c e = rw e at search_from

    pub search_operator : landing (P.graph.node P.graph.root) 1 ≡ walks → run_from P budget (begin P.graph.root vs n) ≡ search_of P budget vs n
    unfolding from_root
    search_operator e = rw e at search_from

-- which turn it was
pub data Turned (P : Play) (s : St) : Next → Type 0 where
  dries_now : {n : Place} → step_at P s ≡ dry n → Turned P s (done (dries s n))
  walks_now : {x : Id} {u : Value} {n : Place} {c : Choice} → step_at P s ≡ to x u n c → landing_at P.graph (moved s x u n) ≡ walks → Turned P s (on (moved s x u n))
  solves_now : {x : Id} {u : Value} {n : Place} {c : Choice} (l : Landing) → step_at P s ≡ to x u n c → landing_at P.graph (moved s x u n) ≡ l → Over l
      → value_of (over P l (moved s x u n)).vals P.graph.root ≡ 1 → Turned P s (done (ends solved (over P l (moved s x u n))))
  again_now : {x : Id} {u : Value} {n : Place} {c : Choice} (l : Landing) → step_at P s ≡ to x u n c → landing_at P.graph (moved s x u n) ≡ l → Over l
      → (value_of (over P l (moved s x u n)).vals P.graph.root ≡ 1 → ⊥) → Turned P s (on (fresh P.graph.root (over P l (moved s x u n))))

module _ (P : Play) (s : St) where
  module _ (x : Id) (u : Value) (n : Place) (c : Choice) (h : step_at P s ≡ to x u n c) where
    tests : (l : Landing) → landing_at P.graph (moved s x u n) ≡ l → Over l → (b : Bool) → eqb (value_of (over P l (moved s x u n)).vals P.graph.root) 1 ≡ b
        → Turned P s (pick b (done (ends solved (over P l (moved s x u n)))) (on (fresh P.graph.root (over P l (moved s x u n)))))
    tests l q o true e = solves_now l h q o (eqb-true _ _ e)
    tests l q o false e = again_now l h q o (eqb-false _ _ e)

    reaches : (l : Landing) → landing_at P.graph (moved s x u n) ≡ l → Turned P s (reached P l (moved s x u n))
    unfolding reached round
    reaches stores q = tests stores q tt (eqb (value_of (stored P (moved s x u n)).vals P.graph.root) 1) refl
    reaches loses q = tests loses q tt (eqb (value_of (missed (moved s x u n)).vals P.graph.root) 1) refl
    reaches walks q = walks_now h q

  steps : (p : Step) → step_at P s ≡ p → Turned P s (stepped P s p)
  unfolding stepped
  steps (to x u n c) h = reaches x u n c h (landing_at P.graph (moved s x u n)) refl
  steps (dry n) h = dries_now h

  pub turned : Turned P s (turn_of P s)
  unfolding turn_of
  turned = steps (step_at P s) refl

never : {o : Out} {t : St} → done o ≡ on t → ⊥
never e = let z : ◌≡◌ {A = ℕ} 0 1 = cc in omega arith

-- the counts between steps
pub record Few (s : St) : Type 0 where
  pub rounds : s.rounds ≤ s.steps
  pub lost : s.lost ≤ s.rounds

module _ (P : Play) (s t : St) (went : turn_of P s ≡ on t) where
  -- what holds of every state that a turn goes on to holds of t
  pub turn_all : (A : St → Type 0) → ((x : Id) (u : Value) (n : Place) (c : Choice) → step_at P s ≡ to x u n c → landing_at P.graph (moved s x u n) ≡ walks → A (moved s x u n))
      → ((x : Id) (u : Value) (n : Place) (c : Choice) (l : Landing) → step_at P s ≡ to x u n c → landing_at P.graph (moved s x u n) ≡ l → Over l
      → A (fresh P.graph.root (over P l (moved s x u n)))) → A t
  turn_all A f g = by (turned P s) went
    where
      by : {y : Next} → Turned P s y → y ≡ on t → A t
      by (dries_now e) z = absurd (never z)
      by (walks_now {x} {u} {n} {c} e q) z = let w : moved s x u n ≡ t = cc in subst A w (f x u n c e q)
      by (solves_now l e q o h) z = absurd (never z)
      by (again_now {x} {u} {n} {c} l e q o h) z =
          let w : fresh P.graph.root (over P l (moved s x u n)) ≡ t = cc in
          subst A w (g x u n c l e q o)

  over_few : (l : Landing) (e : St) → Over l → e.rounds < e.steps → e.lost ≤ e.rounds → Few (fresh P.graph.root (over P l e)) × ((over P l e).steps ≡ e.steps)
  over_few stores e o a b = (record { rounds = omega arith; lost = omega arith }, refl)
  over_few loses e o a b = (record { rounds = omega arith; lost = omega arith }, refl)
  over_few walks e o a b = absurd o

  -- a turn that goes on makes one step
  pub turn_few : Few s → Few t × (t.steps ≡ s.steps + 1)
  turn_few h =
      turn_all (λ (y : St). Few y × (y.steps ≡ s.steps + 1)) (λ x u n c e q. (record { rounds = omega arith; lost = h.lost }, refl))
      (λ x u n c l e q o. over_few l (moved s x u n) o (omega arith) h.lost)

  pub turn_within : {lent : ℕ} → Forward P lent → s.place ≤ lent → t.place ≤ lent
  turn_within {lent} f b =
      turn_all (λ (y : St). y.place ≤ lent) (λ x u n c e q. within (to x u n c) e) (λ x u n c l e q o. omega (arith, over_place P l (moved s x u n), within (to x u n c) e))
    where
      within : (p : Step) → step_at P s ≡ p → place_after p ≤ lent
      within p e = subst (λ (z : Step). place_after z ≤ lent) e (f.within s.vals s.node s.target s.place b)
