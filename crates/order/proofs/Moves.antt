-- The moves of the walk, over any graph: each keeps `Walking`. Assumes nothing.
use Prim.Native.Nat.{ℕ, zero, suc, ◌+◌, ◌-◌, ◌≤◌, ◌<◌}
use mathlib.Core.Path.{◌≡◌, sym, ap, subst, ◌∙◌}
use mathlib.Core.List.{List}
use mathlib.Core.Logic.{⊎_elim}
use native.Mathlib.Omega.{arith}
use native.Mathlib.Decide.{ℕ_discrete, dec_lt}
use lib.ListN.{length, get_or}
use Rattle.symbols.specs.Graph.{Id, Graph, Operand, Depends, direct, through, Inside}
use Rattle.symbols.specs.Order.{Arranged, Looped}
use Rattle.order.specs.Walking.{Walking}
use Rattle.order.specs.declared.walk.Walk.{Walk}
use Rattle.order.proofs.Storing.{Stored, away, zeros_less, zeros_same, zeros_all, zeros_none, zeros_met}

-- nothing is met yet
pub walk_begin : (g : Graph) (p o s : List ℕ) (w : Walk) → Inside g → g.count ≤ length p → g.count ≤ length o → g.count ≤ length s
    → ((i : Id) → i < g.count → get_or p i 0 ≡ 0) → w.next ≡ 0 → w.depth ≡ 0 → w.done ≡ 0 → Walking g p o s w
walk_begin g p o s w inside hp ho hs clear a b c =
    record {
      inside = inside;
      placed = hp;
      ordered = ho;
      stacked = hs;
      tally = omega (arith, zeros_all p g.count clear);
      next = omega arith;
      passed = λ i h. absurd (omega arith);
      known = λ k h. absurd (omega arith);
      opened = λ k h. absurd (omega arith);
      apart = λ k l h e. absurd (omega arith);
      chain = λ k h. absurd (omega arith);
      found = λ i h e. absurd (omega (arith, clear i h));
      bound = λ i h e. absurd (omega (arith, clear i h));
      holds = λ i h e. absurd (omega (arith, clear i h));
      kept = λ k h. absurd (omega arith);
      once = λ k h. absurd (omega arith);
      closed = λ i j h e. absurd (omega (arith, clear i h));
      before = λ i j h e. absurd (omega (arith, clear i h));
    }

module _ (g : Graph) (p o s : List ℕ) (w : Walk) (walk : Walking g p o s w) where
  -- some node is not met yet, where none is open and not all are done
  pub next_below : w.depth ≡ 0 → w.done < g.count → w.next < g.count
  next_below d h =
      elim (dec_lt w.next g.count) [
        | yes q ↦ q
        | no q ↦ absurd (omega (arith, walk.tally, zeros_none p g.count (λ i l. walk.passed i (omega arith))))
      ]

  -- the next node is met already
  pub walk_skip : (v : Walk) → w.next < g.count → 0 < get_or p w.next 0 → v.next ≡ w.next + 1 → v.depth ≡ w.depth → v.done ≡ w.done → Walking g p o s v
  walk_skip v h met a b c =
      record {
        inside = walk.inside;
        placed = walk.placed;
        ordered = walk.ordered;
        stacked = walk.stacked;
        tally = omega (arith, walk.tally);
        next = omega arith;
        passed = λ i l.
            elim (ℕ_discrete i w.next) [
              | yes e ↦ omega (arith, ap (λ (x : ℕ). get_or p x 0) e)
              | no e ↦ walk.passed i (omega arith)
            ];
        known = λ k l. walk.known k (omega arith);
        opened = λ k l. walk.opened k (omega arith);
        apart = λ k l q r. walk.apart k l q (omega arith);
        chain = λ k l. walk.chain k (omega arith);
        found = λ i l e. let f = walk.found i l e in record { at = f.at; below = omega (arith, f.below); holds = f.holds };
        bound = λ i l e. omega (arith, walk.bound i l e);
        holds = walk.holds;
        kept = λ k l. walk.kept k (omega arith);
        once = λ k l. walk.once k (omega arith);
        closed = walk.closed;
        before = walk.before;
      }

  -- a node that is not met yet is opened: an operand of the top, or any node on an empty stack
  module _ (q t : List ℕ) (v : Walk) (j : Id) (hj : j < g.count) (new : get_or p j 0 ≡ 0)
      (link : (k : ℕ) → suc k ≡ w.depth → Operand (g.node (get_or s k 0)) j) (P : Stored p q j 1) (S : Stored s t w.depth j) (a : v.next ≡ w.next)
      (b : v.depth ≡ w.depth + 1) (c : v.done ≡ w.done) where
    below : (k : ℕ) → k < w.depth → get_or t k 0 ≡ get_or s k 0
    below k h = ⊎_elim (λ y. absurd (omega (arith, y.0))) (λ n. n.1) (S.look k)

    top : (k : ℕ) → k ≡ w.depth → get_or t k 0 ≡ j
    top k e = ap (λ (x : ℕ). get_or t x 0) e ∙ S.here

    -- what is met keeps its mark
    still : (i : Id) → 0 < get_or p i 0 → get_or q i 0 ≡ get_or p i 0
    still i h = away P i (λ e. let z : get_or p i 0 ≡ get_or p j 0 = e in omega arith)

    -- what is done now was so before
    was : (i : Id) → 2 ≤ get_or q i 0 → get_or q i 0 ≡ get_or p i 0
    was i h = ⊎_elim (λ y. absurd (omega (arith, y.1))) (λ n. n.1) (P.look i)

    pub walk_push : Walking g q o t v
    walk_push =
        record {
          inside = walk.inside;
          placed = omega (arith, walk.placed, P.kept);
          ordered = walk.ordered;
          stacked = omega (arith, walk.stacked, S.kept);
          tally = omega (arith, walk.tally, zeros_less P g.count hj new (omega arith));
          next = omega (arith, walk.next);
          passed = λ i l. ⊎_elim (λ y. omega (arith, y.1)) (λ n. omega (arith, n.1, walk.passed i (omega arith))) (P.look i);
          known = λ k l.
              elim (ℕ_discrete k w.depth) [
                | yes e ↦ omega (arith, top k e)
                | no e ↦ omega (arith, below k (omega arith), walk.known k (omega arith))
              ];
          opened = λ k l.
              elim (ℕ_discrete k w.depth) [
                | yes e ↦ ap (λ (x : ℕ). get_or q x 0) (top k e) ∙ P.here
                | no e ↦
                    let one = walk.opened k (omega arith) in
                    ap (λ (x : ℕ). get_or q x 0) (below k (omega arith)) ∙ still (get_or s k 0) (omega (arith, one)) ∙ one
              ];
          apart = λ k l h r e.
              elim (ℕ_discrete l w.depth) [
                | yes z ↦
                    let same : get_or s k 0 ≡ j = sym (below k (omega arith)) ∙ e ∙ top l z in
                    omega (arith, walk.opened k (omega arith), ap (λ (x : ℕ). get_or p x 0) same)
                | no z ↦ walk.apart k l h (omega arith) (sym (below k (omega arith)) ∙ e ∙ below l (omega arith))
              ];
          chain = λ k l.
              elim (ℕ_discrete (suc k) w.depth) [
                | yes e ↦ rw (below k (omega arith), top (suc k) e) (link k e)
                | no e ↦ rw (below k (omega arith), below (suc k) (omega arith)) (walk.chain k (omega arith))
              ];
          found = λ i l e.
              ⊎_elim
              (λ y. record { at = w.depth; below = omega arith; holds = S.here ∙ sym y.0 })
              (λ n.
              let f = walk.found i l (sym n.1 ∙ e) in
              record { at = f.at; below = omega (arith, f.below); holds = below f.at f.below ∙ f.holds })
              (P.look i);
          bound = λ i l e. omega (arith, was i e, walk.bound i l (omega (arith, was i e)));
          holds = λ i l e. ap (λ (x : ℕ). get_or o (x - 2) 0) (was i e) ∙ walk.holds i l (omega (arith, was i e));
          kept = λ k l. walk.kept k (omega arith);
          once = λ k l. let r = walk.once k (omega arith) in still (get_or o k 0) (omega arith) ∙ r;
          closed = λ i x l e h.
              let r = walk.closed i x l (omega (arith, was i e)) h in
              omega (arith, still x (omega arith));
          before = λ i x l e h.
              let y : 2 ≤ get_or p i 0 = omega (arith, was i e) in
              let r = walk.closed i x l y h in
              omega (arith, was i e, still x (omega arith), walk.before i x l y h);
        }

  -- the top, whose operands are all done, gets the next place
  module _ (q r : List ℕ) (v : Walk) (u : Id) (k : ℕ) (hk : suc k ≡ w.depth) (hu : u ≡ get_or s k 0) (ready : (j : Id) → Operand (g.node u) j → 2 ≤ get_or p j 0)
      (P : Stored p q u (w.done + 2)) (O : Stored o r w.done u) (a : v.next ≡ w.next) (b : v.depth ≡ w.depth - 1) (c : v.done ≡ w.done + 1) where
    inside_u : u < g.count
    inside_u = omega (arith, walk.known k (omega arith))

    open_u : get_or p u 0 ≡ 1
    open_u = ap (λ (x : ℕ). get_or p x 0) hu ∙ walk.opened k (omega arith)

    -- what was done keeps its mark
    stays : (i : Id) → 2 ≤ get_or p i 0 → get_or q i 0 ≡ get_or p i 0
    stays i h = away P i (λ e. let z : get_or p i 0 ≡ get_or p u 0 = e in omega (arith, open_u))

    early : (l : ℕ) → l < w.done → get_or r l 0 ≡ get_or o l 0
    early l h = ⊎_elim (λ y. absurd (omega (arith, y.0))) (λ n. n.1) (O.look l)

    lower : (l : ℕ) → l < k → get_or q (get_or s l 0) 0 ≡ 1
    lower l h =
        ⊎_elim
        (λ y. absurd (walk.apart l k h (omega arith) (y.0 ∙ hu)))
        (λ n. n.1 ∙ walk.opened l (omega arith))
        (P.look (get_or s l 0))

    placed_now : (i : Id) → i ≡ u → get_or r (get_or q i 0 - 2) 0 ≡ i
    placed_now i e =
        let y : get_or q i 0 ≡ w.done + 2 = ap (λ (x : ℕ). get_or q x 0) e ∙ P.here in
        let z : get_or q i 0 - 2 ≡ w.done = omega arith in
        ap (λ (x : ℕ). get_or r x 0) z ∙ O.here ∙ sym e

    pub walk_pop : Walking g q r s v
    walk_pop =
        record {
          inside = walk.inside;
          placed = omega (arith, walk.placed, P.kept);
          ordered = omega (arith, walk.ordered, O.kept);
          stacked = walk.stacked;
          tally = omega (arith, walk.tally, zeros_same P g.count (omega (arith, open_u)) (omega arith));
          next = omega (arith, walk.next);
          passed = λ i l. ⊎_elim (λ y. omega (arith, y.1)) (λ n. omega (arith, n.1, walk.passed i (omega arith))) (P.look i);
          known = λ l h. walk.known l (omega arith);
          opened = λ l h. lower l (omega arith);
          apart = λ x y h e. walk.apart x y h (omega arith);
          chain = λ l h. walk.chain l (omega arith);
          found = λ i l e.
              ⊎_elim
              (λ y. absurd (omega (arith, y.1)))
              (λ n.
              let f = walk.found i l (sym n.1 ∙ e) in
              elim (ℕ_discrete f.at k) [
                | yes z ↦ absurd (n.0 (sym f.holds ∙ ap (λ (x : ℕ). get_or s x 0) z ∙ sym hu))
                | no z ↦ record { at = f.at; below = omega (arith, f.below); holds = f.holds }
              ])
              (P.look i);
          bound = λ i l e.
              ⊎_elim
              (λ y. omega (arith, y.1))
              (λ n. omega (arith, n.1, walk.bound i l (omega (arith, n.1))))
              (P.look i);
          holds = λ i l e.
              ⊎_elim
              (λ y. placed_now i y.0)
              (λ n.
              let h : 2 ≤ get_or p i 0 = omega (arith, n.1) in
              ap (λ (x : ℕ). get_or r (x - 2) 0) n.1 ∙ early (get_or p i 0 - 2) (omega (arith, walk.bound i l h)) ∙ walk.holds i l h)
              (P.look i);
          kept = λ l h.
              elim (ℕ_discrete l w.done) [
                | yes z ↦ omega (arith, ap (λ (x : ℕ). get_or r x 0) z, O.here, inside_u)
                | no z ↦ omega (arith, early l (omega arith), walk.kept l (omega arith))
              ];
          once = λ l h.
              elim (ℕ_discrete l w.done) [
                | yes z ↦ ap (λ (x : ℕ). get_or q x 0) (ap (λ (x : ℕ). get_or r x 0) z ∙ O.here) ∙ P.here ∙ omega arith
                | no z ↦
                    let e = walk.once l (omega arith) in
                    ap (λ (x : ℕ). get_or q x 0) (early l (omega arith)) ∙ stays (get_or o l 0) (omega arith) ∙ e
              ];
          closed = λ i j l e h. let z = done_operand i j l e h in omega (arith, stays j z);
          before = λ i j l e h.
              let z = done_operand i j l e h in
              ⊎_elim
              (λ y. omega (arith, y.1, stays j z, walk.bound j (walk.inside i j l h) z))
              (λ n. omega (arith, n.1, stays j z, walk.before i j l (omega (arith, n.1)) h))
              (P.look i);
        }
      where
        done_operand : (i j : Id) → i < g.count → 2 ≤ get_or q i 0 → Operand (g.node i) j → 2 ≤ get_or p j 0
        done_operand i j l e h =
            ⊎_elim
            (λ y. ready j (subst (λ (x : ℕ). Operand (g.node x) j) y.0 h))
            (λ n. walk.closed i j l (omega (arith, n.1)) h)
            (P.look i)

  -- from an entry of the stack up to the top, and on to the top's operand
  climb : (j : Id) (k : ℕ) → suc k ≡ w.depth → Operand (g.node (get_or s k 0)) j → (n l : ℕ) → l + n ≡ k → Depends g (get_or s l 0) j
  climb j k hk h zero l e = let same : k ≡ l = omega arith in direct _ j (subst (λ (x : ℕ). Operand (g.node (get_or s x 0)) j) same h)
  climb j k hk h (suc n) l e = through _ (get_or s (suc l) 0) j (walk.chain l (omega arith)) (climb j k hk h n (suc l) (omega arith))

  -- an operand of the top that is open reaches itself
  pub walk_loop : (j : Id) (k : ℕ) → suc k ≡ w.depth → Operand (g.node (get_or s k 0)) j → get_or p j 0 ≡ 1 → Looped g
  walk_loop j k hk h e =
      let l : j < g.count = walk.inside (get_or s k 0) j (walk.known k (omega arith)) h in
      let f = walk.found j l e in
      record {
        at = j;
        inside = l;
        loop = subst (λ (x : ℕ). Depends g x j) f.holds (climb j k hk h (k - f.at) f.at (omega (arith, f.below)));
      }

  -- every node is done
  pub walk_end : g.count ≤ w.done → Arranged g o
  walk_end h =
      record {
        place = λ i. get_or p i 0 - 2;
        within = λ i l. omega (arith, walk.bound i l (all i l), all i l, walk.tally);
        found = λ i l. walk.holds i l (all i l);
        known = λ k l. walk.kept k (omega arith);
        once = λ k l. omega (arith, walk.once k (omega arith));
        before = λ i j l e. omega (arith, walk.before i j l (all i l) e, walk.closed i j l (all i l) e);
      }
    where
      all : (i : Id) → i < g.count → 2 ≤ get_or p i 0
      all i l =
          elim (ℕ_discrete (get_or p i 0) 1) [
            | yes e ↦ absurd (omega (arith, (walk.found i l e).below, walk.tally))
            | no e ↦ omega (arith, zeros_met p g.count (omega (arith, walk.tally)) i l)
          ]
