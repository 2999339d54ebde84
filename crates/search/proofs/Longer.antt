-- A bigger allowance keeps the answer: a search that is solved is the same with a bigger budget and more words. Assumes nothing.
use Prim.Native.Nat.{ℕ, zero, suc, ◌≤◌}
use mathlib.Core.Path.{◌≡◌, refl, sym, ap, ◌∙◌}
use mathlib.Core.Logic.{◌⊎◌, inl, inr}
use mathlib.Core.Bool.{Bool, true, false}
use native.Mathlib.Omega.{arith}
use lib.Dec.{eqb}
use Rattle.laws.specs.Pick.{pick}
use Rattle.words.specs.Words.{Place}
use Rattle.symbols.specs.Graph.{Id, Value}
use Rattle.search.specs.Machine.{Values, value_of, Step, to, dry, Play, St, solved, ran_dry, Out, Next, done, on, Landing, stores, loses, walks, landing, landing_at, reached, moved, stepped, turn_of, follow, run_from, begin, from_root, search_of}
use Rattle.search.specs.Lawful.{Dries, with_step, Longer}
use Rattle.search.proofs.Ends.{not_solved, dry_solved}

abbrev NextDry : Next → Type 0
NextDry (done o) = o.end ≡ ran_dry
NextDry (on s) = ⊥

follow_longer : (x y : Next) (k j : St → Out) → NextDry x ⊎ (x ≡ y) → ((t : St) → (k t).end ≡ solved → j t ≡ k t) → (follow x k).end ≡ solved → follow y j ≡ follow x k
follow_longer (done o) y k j (inl z) f e = absurd (dry_solved (sym z ∙ e))
follow_longer (done o) y k j (inr z) f e = ap (λ (x : Next). follow x j) (sym z)
follow_longer (on t) y k j (inl z) f e = absurd z
follow_longer (on t) y k j (inr z) f e = ap (λ (x : Next). follow x j) (sym z) ∙ f t e

module _ (P : Play) (f : Values → Id → Value → Place → Step) (longer : Longer P f) where
  abbrev Q : Play
  Q = with_step P f

  same_reached : (l : Landing) (s : St) → reached P l s ≡ reached Q l s
  unfolding reached
  same_reached stores s = refl
  same_reached loses s = refl
  same_reached walks s = refl

  stepped_or : (s : St) (p q : Step) → Dries p ⊎ (p ≡ q) → NextDry (stepped P s p) ⊎ (stepped P s p ≡ stepped Q s q)
  unfolding stepped
  stepped_or s (to x u n c) q (inl z) = absurd z
  stepped_or s (to x u n c) q (inr e) = inr (same_reached (landing_at P.graph (moved s x u n)) (moved s x u n) ∙ ap (stepped Q s) e)
  stepped_or s (dry n) q h = inl refl

  turn_or : (s : St) → NextDry (turn_of P s) ⊎ (turn_of P s ≡ turn_of Q s)
  unfolding turn_of
  turn_or s = stepped_or s _ _ (longer.same s.vals s.node s.target s.place)

  run_longer : (k j : ℕ) (s : St) → k ≤ j → (run_from P k s).end ≡ solved → run_from Q j s ≡ run_from P k s
  unfolding run_from
  run_longer zero j s h e = absurd (not_solved refl e)
  run_longer (suc k) zero s h e = absurd (omega arith)
  run_longer (suc k) (suc j) s h e = follow_longer (turn_of P s) _ _ _ (turn_or s) (λ t q. run_longer k j t (omega arith) q) e

  root_longer : (l : Landing) (b c : ℕ) (s : St) → b ≤ c → (from_root P l b s).end ≡ solved → from_root Q l c s ≡ from_root P l b s
  unfolding from_root
  root_longer stores b c s h e = refl
  root_longer loses b c s h e = refl
  root_longer walks b c s h e = run_longer b c s h e

  -- "solved with the same values, rounds, lost rounds, steps and words"
  pub search_longer : (b c : ℕ) (vs : Values) (n : Place) → b ≤ c → (search_of P b vs n).end ≡ solved → search_of (with_step P f) c vs n ≡ search_of P b vs n
  unfolding search_of
  search_longer b c vs n h e =
      by (eqb (value_of vs P.graph.root) 1) _ _ _ (λ q. root_longer (landing (P.graph.node P.graph.root) 1) b c (begin P.graph.root vs n) h q) e
    where
      by : (t : Bool) (x y z : Out) → (y.end ≡ solved → z ≡ y) → (pick t x y).end ≡ solved → pick t x z ≡ pick t x y
      by true x y z f e = refl
      by false x y z f e = f e
