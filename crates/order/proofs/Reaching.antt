-- The listing as the code meets it: one law for each `return` and each turn of a loop. Assumes nothing.
use Prim.Native.Nat.{ℕ, ◌+◌, ◌-◌, ◌≤◌, ◌<◌}
use mathlib.Core.Path.{◌≡◌, sym, subst, ◌∙◌}
use mathlib.Core.List.{List}
use mathlib.Core.Bool.{true}
use native.Mathlib.Omega.{arith}
use lib.ListN.{length, get_or, set}
use lib.Dec.{ltb}
use borrow.Author.Tests.{ltb-true, lt-ltb}
use Rattle.symbols.specs.Graph.{Id, Graph, Depends, Inside}
use Rattle.formula.specs.File.{File}
use Rattle.formula.specs.Graph.{graph_of, node_is}
use Rattle.formula.specs.declared.Formula.{Formula}
use Rattle.formula.specs.declared.Node.{Node}
use Rattle.order.specs.Spreading.{Listing, listing, meet_one, meet_all, Spreading}
use Rattle.order.proofs.Turns.{counted}
use Rattle.order.proofs.Spreads.{one_new, one_old, spread_first, spread_more, spread_all}

module _ (s t : List ℕ) (n j x : ℕ) (hx : x ≡ get_or s j 0) where
  pub meet_new : x ≡ 0 → (q r : List ℕ) → q ≡ set s j 1 → r ≡ set t n j → listing q r (n + 1) ≡ meet_one (listing s t n) j
  meet_new e q r hq hr = rw (hq, hr) (one_new (listing s t n) j (sym hx ∙ e))

  pub meet_old : (x ≡ 0 → ⊥) → listing s t n ≡ meet_one (listing s t n) j
  meet_old h = one_old (listing s t n) j (λ e. h (hx ∙ e))

module _ (f : File) (m : Formula) (i : Id) where
  abbrev g : Graph
  g = graph_of f m

  pub reach_begin : (s₀ s t : List ℕ) (n : Node) (k : Listing) (c : ℕ) → k ≡ meet_all n (listing s t 0) → node_is n ≡ g.node i → Inside g → m.count ≤ length s₀
      → m.count ≤ length t → i < m.count → length s ≡ length s₀ → c ≡ m.count → ((j : ℕ) → j < c → get_or s j 0 ≡ 0) → Spreading g i k 0
  unfolding graph_of
  reach_begin s₀ s t n k c hk hn inside hs ht hi e hc clear =
      subst (λ (z : Listing). Spreading g i z 0) (sym hk) (spread_first g i n (listing s t 0) hi hn inside (omega arith) ht (λ j h. clear j (omega arith)) (omega arith))

  module _ (s t : List ℕ) (n head : ℕ) (spread : Spreading g i (listing s t n) head) where
    pub reach_small : m.count ≤ 4000 → n ≤ 4000
    reach_small h = omega (arith, counted f m, spread.listed.tally)

    pub reach_up : head < n → head + 1 ≤ m.count
    reach_up h = omega (arith, counted f m, spread.listed.tally)

    pub reach_less : head < n → m.count - (head + 1) < m.count - head
    reach_less h = omega (arith, reach_up h)

    pub reach_more : (u : ℕ) (x : Node) (k : Listing) → k ≡ meet_all x (listing s t n) → head < n → u ≡ get_or t head 0 → node_is x ≡ g.node u
        → Spreading g i k (head + 1)
    reach_more u x k hk h hu hx =
        subst (λ (z : Listing). Spreading g i z (head + 1)) (sym hk) (spread_more g i x (listing s t n) head u spread h hu hx)

    module _ (x : ℕ) (hx : x ≡ get_or s i 0) where
      pub reach_yes : ltb 0 x ≡ true → Depends g i i
      reach_yes e = spread.listed.reached i spread.node (omega (arith, ltb-true 0 x e))

      pub reach_all : n ≤ head → Depends g i i → ltb 0 x ≡ true
      reach_all h d = lt-ltb 0 x (omega (arith, spread_all g i (listing s t n) head spread h i d))
