-- Over a lawful play: the values that every round leaves solve the graph, and a fair round makes the root 1. Assumes nothing.
use Prim.Native.Nat.{ℕ, ◌^◌, ◌<◌}
use mathlib.Core.Path.{◌≡◌, refl, sym, subst, ◌∙◌}
use mathlib.Core.List.{List, ◌∷◌}
use mathlib.Core.Bool.{Bool, true, false}
use native.Mathlib.Omega.{arith}
use lib.ListN.{set}
use Rattle.laws.specs.Pick.{pick}
use Rattle.words.specs.Words.{Place}
use Rattle.symbols.specs.Graph.{Id, Value, Node, constant, input, unary, binary}
use Rattle.symbols.specs.Width.{fits}
use Rattle.search.specs.Machine.{Values, value_of, Choice, Play, St, Out, to, fresh, stored, Landing, stores, loses, walks, landing, landing_at, moved, step_at, turn_of, on}
use Rattle.search.specs.Round.{Comes, stays, turns, Taken, took, Round, round_of, root_after}
use Rattle.search.specs.Solution.{Input, Fits, Sane}
use Rattle.search.specs.Demand.{All, none, more, FalseKinds, Fair}
use Rattle.search.specs.Lawful.{Led, Lawful}
use Rattle.search.proofs.Runs.{Over, over, Runs, spends, dries_at, walks_on, solves, again}
use Rattle.search.proofs.Turns.{turn_all}
use Rattle.search.proofs.Unique.{store_holds, store_sane, store_keeps}
use Rattle.search.proofs.Hits.{Trail, starts, leads_on, leads_operand, hits}

pub input_stores : (n : Node) (t : Value) → Input n → Fits n t → landing n t ≡ stores
input_stores (constant c) t h f = absurd h
input_stores (input p) t h f = rw f
input_stores (unary a) t h f = absurd h
input_stores (binary o a b) t h f = absurd h

pub stores_input : (n : Node) (t : Value) → landing n t ≡ stores → Input n
stores_input (constant c) t e = let z : ◌≡◌ {A = ℕ} 0 1 = cc in absurd (omega arith)
stores_input (input p) t e = tt
stores_input (unary a) t e = let z : ◌≡◌ {A = ℕ} 0 1 = cc in absurd (omega arith)
stores_input (binary o a b) t e = let z : ◌≡◌ {A = ℕ} 0 1 = cc in absurd (omega arith)

stored_true : (b : Bool) → pick b stores loses ≡ stores → b ≡ true
stored_true true e = refl
stored_true false e = let z : ◌≡◌ {A = ℕ} 0 1 = cc in absurd (omega arith)

pub stores_fits : (n : Node) (t : Value) → landing n t ≡ stores → Fits n t
stores_fits (constant c) t e = tt
stores_fits (input p) t e = stored_true (fits p t) e
stores_fits (unary a) t e = tt
stores_fits (binary o a b) t e = tt

module _ {F : FalseKinds} {P : Play} (law : Lawful F P) where
  -- what holds of the state before every step
  pub record Ready (s : St) : Type 0 where
    pub inside : s.node < P.graph.count
    pub operator : landing_at P.graph s ≡ walks
    pub below : s.target < 2 ^ 64
    pub sane : Sane P.graph s.vals

  module _ {s : St} {x : Id} {u : Value} {n : Place} {c : Choice} (ready : Ready s) (h : step_at P s ≡ to x u n c) where
    pub step_led : Led F (P.graph.node s.node) (value_of s.vals) s.target x u c
    step_led = law.led s.vals s.node s.target s.place x u n c ready.sane ready.inside ready.below h

    pub step_inside : x < P.graph.count
    step_inside =
        law.acyclic.inside s.node x ready.inside
        (leads_operand F (P.graph.node s.node) (value_of s.vals) s.target x u c ready.operator step_led.leads)

    pub step_ready : landing_at P.graph (moved s x u n) ≡ walks → Ready (moved s x u n)
    step_ready q = record { inside = step_inside; operator = q; below = step_led.below; sane = ready.sane }

    pub over_sane : (l : Landing) → landing_at P.graph (moved s x u n) ≡ l → Over l → Sane P.graph (over P l (moved s x u n)).vals
    over_sane stores q w =
        store_sane P law.acyclic law.redoes s.vals ready.sane x u step_inside
        (stores_input (P.graph.node x) u q) (stores_fits (P.graph.node x) u q) step_led.below
    over_sane loses q w = ready.sane
    over_sane walks q w = absurd w

    step_trail : {ss : List Taken} → Trail F P.graph (value_of s.vals) ss s.node s.target → Trail F P.graph (value_of s.vals) (took s u c ∷ ss) x u
    step_trail t = leads_on {s = took s u c} {x = x} ready.inside ready.operator step_led.leads t

    -- the round that ends with this step, where the input is x and every step is fair
    fair_one : (ss : List Taken) (vs : Values) → Trail F P.graph (value_of s.vals) ss s.node s.target → Input (P.graph.node x)
        → Fair F P.graph (round_of (took s u c ∷ ss) (moved s x u n) vs) → value_of (stored P (moved s x u n)).vals P.graph.root ≡ 1
    fair_one ss vs t i f =
        hits F (value_of s.vals) (value_of (P.redo (set s.vals x u))) P.graph law.acyclic
        (store_sane P law.acyclic law.redoes s.vals ready.sane x u step_inside i f.fits step_led.below).solution x
        (store_keeps P law.acyclic law.redoes s.vals ready.sane x u step_inside i f.fits step_led.below)
        (step_trail t)
        (store_holds P law.acyclic law.redoes s.vals ready.sane x u step_inside i f.fits step_led.below) f.inverses f.honest f.passed

  -- the root of the graph is an operator wherever steps are made
  module _ (root-operator : landing (P.graph.node P.graph.root) 1 ≡ walks) where
    pub fresh_ready : (s : St) → Sane P.graph s.vals → Ready (fresh P.graph.root s)
    fresh_ready s h = record { inside = law.rooted; operator = root-operator; below = omega arith; sane = h }

    pub turn_ready : {s t : St} → turn_of P s ≡ on t → Ready s → Ready t
    turn_ready {s} {t} e h =
        turn_all P s t e Ready (λ x u n c f q. step_ready h f q) (λ x u n c l f q o. fresh_ready (over P l (moved s x u n)) (over_sane h f l q o))

    pub comes_ready : {s t : St} → Comes P s t → Ready s → Ready t
    comes_ready stays h = h
    comes_ready (turns e c) h = comes_ready c (turn_ready e h)

    -- "the values are always the one solution of all operator equations for their inputs"
    pub run_sane : {k : ℕ} {ss : List Taken} {s : St} {rs : List Round} {o : Out} → Runs P k ss s rs o → Ready s → All (λ r. Sane P.graph r.after) rs
    run_sane spends d = none
    run_sane (dries_at e) d = none
    run_sane (walks_on e q r) d = run_sane r (step_ready d e q)
    run_sane (solves l e q w z) d = more _ _ (over_sane d e l q w) none
    run_sane (again {s} {x} {u} {n} l e q w z r) d = more _ _ (over_sane d e l q w) (run_sane r (fresh_ready (over P l (moved s x u n)) (over_sane d e l q w)))

    -- the steps of a round lead from the root with target 1 to its end
    pub run_trails : {k : ℕ} {ss : List Taken} {s : St} {rs : List Round} {o : Out} → Runs P k ss s rs o → Ready s
        → Trail F P.graph (value_of s.vals) ss s.node s.target → All (λ r. Trail F P.graph (value_of r.before) r.steps r.node r.target) rs
    run_trails spends d t = none
    run_trails (dries_at e) d t = none
    run_trails (walks_on e q r) d t = run_trails r (step_ready d e q) (step_trail d e t)
    run_trails (solves l e q w z) d t = more _ _ (step_trail d e t) none
    run_trails (again {s} {x} {u} {n} l e q w z r) d t =
        more _ _ (step_trail d e t) (run_trails r (fresh_ready (over P l (moved s x u n)) (over_sane d e l q w)) starts)

    -- demand 3 round by round: a fair round that ends at an input leaves 1 at the root
    pub run_fair : {k : ℕ} {ss : List Taken} {s : St} {rs : List Round} {o : Out} → Runs P k ss s rs o → Ready s
        → Trail F P.graph (value_of s.vals) ss s.node s.target → All (λ r. Input (P.graph.node r.node) → Fair F P.graph r → root_after P.graph r ≡ 1) rs
    run_fair spends d t = none
    run_fair (dries_at e) d t = none
    run_fair (walks_on e q r) d t = run_fair r (step_ready d e q) (step_trail d e t)
    run_fair (solves l e q w z) d t = more _ _ (λ i f. z) none
    run_fair (again {s} {x} {u} {n} {c} {ss = ss} l e q w z r) d t =
        more _ _ (λ i f. by l (sym (input_stores (P.graph.node x) u i f.fits) ∙ q) (fair_one d e ss _ t i f))
        (run_fair r (fresh_ready (over P l (moved s x u n)) (over_sane d e l q w)) starts)
      where
        by : (l : Landing) → stores ≡ l → value_of (stored P (moved s x u n)).vals P.graph.root ≡ 1 → value_of (over P l (moved s x u n)).vals P.graph.root ≡ 1
        by l z h = subst (λ (j : Landing). value_of (over P j (moved s x u n)).vals P.graph.root ≡ 1) z h
