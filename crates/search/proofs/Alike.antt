-- Two ways of working the operators out that leave the same in every list as long as the graph make the same search. Assumes nothing.
use Prim.Native.Nat.{ℕ, zero, suc, ◌+◌}
use mathlib.Core.Path.{◌≡◌, refl, ap, ◌∙◌}
use mathlib.Core.Bool.{Bool, true, false}
use lib.ListN.{length, set, length-set}
use lib.Dec.{eqb}
use Rattle.laws.specs.Pick.{pick}
use Rattle.words.specs.Words.{Place}
use Rattle.symbols.specs.Graph.{Id}
use Rattle.search.specs.Machine.{Values, value_of, Step, to, dry, Play, with_redo, St, solved, Out, Next, done, on, ends, fresh, round, stored, missed, Landing, stores, loses, walks, landing_at, reached, moved, stepped, step_at, turn_of, follow, run_from, begin, from_root, search_of}

-- the state that the search goes on from has a value for each of n nodes
abbrev NextLong : ℕ → Next → Type 0
NextLong n (done o) = Unit {0}
NextLong n (on s) = length s.vals ≡ n

pick_long : (n : ℕ) (t : Bool) (x y : Next) → NextLong n x → NextLong n y → NextLong n (pick t x y)
pick_long n true x y p q = p
pick_long n false x y p q = q

round_long : (n : ℕ) (root : Id) (s : St) → length s.vals ≡ n → NextLong n (round root s)
unfolding round
round_long n root s h = pick_long n (eqb (value_of s.vals root) 1) (done (ends solved s)) (on (fresh root s)) tt h

follow_alike : (n : ℕ) (x : Next) (j k : St → Out) → NextLong n x → ((t : St) → length t.vals ≡ n → j t ≡ k t) → follow x j ≡ follow x k
follow_alike n (done o) j k h f = refl
follow_alike n (on t) j k h f = f t h

module _ (P : Play) (f : Values → Values) (long : (vs : Values) → length vs ≡ P.graph.count → length (P.redo vs) ≡ P.graph.count)
    (same : (vs : Values) → length vs ≡ P.graph.count → f vs ≡ P.redo vs) where
  abbrev Q : Play
  Q = with_redo P f

  abbrev Long : St → Type 0
  Long s = length s.vals ≡ P.graph.count

  stored_long : (s : St) → Long s → length (set s.vals s.node s.target) ≡ P.graph.count
  stored_long s h = length-set s.vals s.node s.target ∙ h

  stored_alike : (s : St) → Long s → f (set s.vals s.node s.target) ≡ P.redo (set s.vals s.node s.target)
  stored_alike s h = same (set s.vals s.node s.target) (stored_long s h)

  reached_long : (l : Landing) (s : St) → Long s → NextLong P.graph.count (reached P l s)
  unfolding reached
  reached_long stores s h = round_long P.graph.count P.graph.root (stored P s) (long (set s.vals s.node s.target) (stored_long s h))
  reached_long loses s h = round_long P.graph.count P.graph.root (missed s) h
  reached_long walks s h = h

  reached_alike : (l : Landing) (s : St) → Long s → reached Q l s ≡ reached P l s
  unfolding reached
  reached_alike stores s h =
      ap
      (λ (us : Values). round P.graph.root record { node = s.node; target = s.target; place = s.place; rounds = s.rounds + 1; lost = s.lost; steps = s.steps; vals = us })
      (stored_alike s h)
  reached_alike loses s h = refl
  reached_alike walks s h = refl

  stepped_long : (s : St) (p : Step) → Long s → NextLong P.graph.count (stepped P s p)
  unfolding stepped
  stepped_long s (to x u n c) h = reached_long (landing_at P.graph (moved s x u n)) (moved s x u n) h
  stepped_long s (dry n) h = tt

  stepped_alike : (s : St) (p : Step) → Long s → stepped Q s p ≡ stepped P s p
  unfolding stepped
  stepped_alike s (to x u n c) h = reached_alike (landing_at P.graph (moved s x u n)) (moved s x u n) h
  stepped_alike s (dry n) h = refl

  pub turn_alike : (s : St) → length s.vals ≡ P.graph.count → turn_of (with_redo P f) s ≡ turn_of P s
  unfolding turn_of
  turn_alike s h = stepped_alike s (step_at P s) h

  turn_long : (s : St) → Long s → NextLong P.graph.count (turn_of P s)
  unfolding turn_of
  turn_long s h = stepped_long s (step_at P s) h

  pub run_alike : (k : ℕ) (s : St) → length s.vals ≡ P.graph.count → run_from (with_redo P f) k s ≡ run_from P k s
  unfolding run_from
  run_alike zero s h = refl
  run_alike (suc k) s h =
      ap (λ (x : Next). follow x (λ t. run_from Q k t)) (turn_alike s h)
      ∙ follow_alike P.graph.count (turn_of P s) (λ t. run_from Q k t) (λ t. run_from P k t) (turn_long s h) (run_alike k)

  root_alike : (l : Landing) (budget : ℕ) (s : St) → Long s → from_root Q l budget s ≡ from_root P l budget s
  unfolding from_root
  root_alike stores budget s h =
      ap (λ (us : Values). record { end = solved; rounds = s.rounds + 1; lost = s.lost; steps = s.steps; words = s.place; vals = us }) (stored_alike s h)
  root_alike loses budget s h = refl
  root_alike walks budget s h = run_alike budget s h

  pub search_alike : (budget : ℕ) (vs : Values) (n : Place) → length vs ≡ P.graph.count → search_of (with_redo P f) budget vs n ≡ search_of P budget vs n
  unfolding search_of
  search_alike budget vs n h =
      let s = begin P.graph.root vs n in
      ap (λ (o : Out). pick (eqb (value_of vs P.graph.root) 1) (ends solved s) o) (root_alike (landing_at P.graph s) budget s h)
