-- Listing operands, over any graph. Assumes nothing.
use Prim.Native.Nat.{ℕ, ◌+◌, ◌≤◌, ◌<◌}
use mathlib.Core.Path.{◌≡◌, refl, sym, ap, subst, ◌∙◌}
use mathlib.Core.Logic.{inl, inr, ⊎_elim}
use native.Mathlib.Omega.{arith}
use native.Mathlib.Decide.{ℕ_discrete}
use lib.ListN.{length, get_or, set}
use borrow.Author.Tests.{eq-eqb, ne_eqb}
use Rattle.symbols.specs.Graph.{Id, Node, Graph, Operand, Depends, direct, through, Inside}
use Rattle.formula.specs.Graph.{node_is}
use Rattle.formula.specs.declared.Node as code
use Rattle.formula.specs.declared.Node.TheVariants as node
use Rattle.order.specs.Spreading.{Listing, listing, meet_one, meet_all, Listed, Spreading}
use Rattle.order.proofs.Depending.{depends_on}
use Rattle.order.proofs.Storing.{Stored, stored, zeros_less, zeros_all, zeros_room}

pub one_new : (l : Listing) (j : Id) → get_or l.seen j 0 ≡ 0 → listing (set l.seen j 1) (set l.todo l.tail j) (l.tail + 1) ≡ meet_one l j
unfolding meet_one
one_new l j e = rw (eq-eqb _ 0 e)

pub one_old : (l : Listing) (j : Id) → (get_or l.seen j 0 ≡ 0 → ⊥) → l ≡ meet_one l j
unfolding meet_one
one_old l j e = rw (ne_eqb _ 0 e)

-- what is listed stays so, at its place
record Grows (l k : Listing) : Type 0 where
  marks : (j : Id) → 0 < get_or l.seen j 0 → 0 < get_or k.seen j 0
  places : (n : ℕ) → n < l.tail → get_or k.todo n 0 ≡ get_or l.todo n 0
  more : l.tail ≤ k.tail

grows_not : (l : Listing) → Grows l l
grows_not l = record { marks = λ j h. h; places = λ n h. refl; more = omega arith }

grows_twice : (l k h : Listing) → Grows l k → Grows k h → Grows l h
grows_twice l k h a b =
    record {
      marks = λ j z. b.marks j (a.marks j z);
      places = λ n z. b.places n (omega (arith, a.more)) ∙ a.places n z;
      more = omega (arith, a.more, b.more);
    }

module _ (g : Graph) (i : Id) where
  record Met (l k : Listing) (n : Node) : Type 0 where
    listed : Listed g i k
    grows : Grows l k
    marked : (j : Id) → Operand n j → 0 < get_or k.seen j 0

  module _ (l : Listing) (old : Listed g i l) (j : Id) (hj : j < g.count) (way : Depends g i j) where
    module _ (new : get_or l.seen j 0 ≡ 0) where
      abbrev next : Listing
      next = listing (set l.seen j 1) (set l.todo l.tail j) (l.tail + 1)

      -- there is room for one that is not listed
      free : l.tail < g.count
      free = omega (arith, old.tally, zeros_room l.seen g.count j hj new)

      S : Stored l.seen next.seen j 1
      S = stored l.seen _ j 1 (omega (arith, old.marks)) refl

      T : Stored l.todo next.todo l.tail j
      T = stored l.todo _ l.tail j (omega (arith, old.room, free)) refl

      early : (k : ℕ) → k < l.tail → get_or next.todo k 0 ≡ get_or l.todo k 0
      early k h = ⊎_elim (λ y. absurd (omega (arith, y.0))) (λ n. n.1) (T.look k)

      late : (k : ℕ) → k ≡ l.tail → get_or next.todo k 0 ≡ j
      late k e = ap (λ (x : ℕ). get_or next.todo x 0) e ∙ T.here

      still : (k : Id) → 0 < get_or l.seen k 0 → 0 < get_or next.seen k 0
      still k h = ⊎_elim (λ y. omega (arith, y.1)) (λ n. omega (arith, n.1)) (S.look k)

      listed_new : Listed g i next
      listed_new =
          record {
            inside = old.inside;
            marks = omega (arith, old.marks, S.kept);
            room = omega (arith, old.room, T.kept);
            tally = omega (arith, old.tally, zeros_less S g.count hj new (omega arith));
            reached = λ k h e.
                ⊎_elim
                (λ y. subst (λ (x : ℕ). Depends g i x) (sym y.0) way)
                (λ n. old.reached k h (omega (arith, n.1)))
                (S.look k);
            found = λ k h e.
                ⊎_elim
                (λ y. record { at = l.tail; below = omega arith; holds = T.here ∙ sym y.0 })
                (λ n.
                let f = old.found k h (omega (arith, n.1)) in
                record { at = f.at; below = omega (arith, f.below); holds = early f.at f.below ∙ f.holds })
                (S.look k);
            known = λ k h.
                elim (ℕ_discrete k l.tail) [
                  | yes e ↦ omega (arith, late k e)
                  | no e ↦ omega (arith, early k (omega arith), old.known k (omega arith))
                ];
            met = λ k h.
                elim (ℕ_discrete k l.tail) [
                  | yes e ↦ omega (arith, ap (λ (x : ℕ). get_or next.seen x 0) (late k e), S.here)
                  | no e ↦
                      omega
                      (arith, ap (λ (x : ℕ). get_or next.seen x 0) (early k (omega arith)), still (get_or l.todo k 0) (old.met k (omega arith)))
                ];
          }

      grows_new : Grows l next
      grows_new = record { marks = still; places = early; more = omega arith }

    -- a node that i reaches is listed
    record One (k : Listing) : Type 0 where
      listed : Listed g i k
      grows : Grows l k
      marked : 0 < get_or k.seen j 0

    meet_one_lem : One (meet_one l j)
    meet_one_lem =
        elim (ℕ_discrete (get_or l.seen j 0) 0) [
          | yes e ↦ subst One (one_new l j e) record { listed = listed_new e; grows = grows_new e; marked = omega (arith, (S e).here) }
          | no e ↦ subst One (one_old l j e) record { listed = old; grows = grows_not l; marked = omega arith }
        ]

  -- a node's operands, which i reaches, are listed
  meet_all_lem : (n : code.Node) (l : Listing) → Listed g i l → ((j : Id) → Operand (node_is n) j → j < g.count)
      → ((j : Id) → Operand (node_is n) j → Depends g i j) → Met l (meet_all n l) (node_is n)
  meet_all_lem (node.Constant v) l old inside way = record { listed = old; grows = grows_not l; marked = λ j o. absurd o }
  meet_all_lem (node.Input e) l old inside way = record { listed = old; grows = grows_not l; marked = λ j o. absurd o }
  meet_all_lem (node.Unary a) l old inside way =
      let x = meet_one_lem l old a.0 (inside _ refl) (way _ refl) in
      record { listed = x.listed; grows = x.grows; marked = λ j o. subst (λ (z : ℕ). 0 < get_or (meet_one l a.0).seen z 0) (sym o) x.marked }
  meet_all_lem (node.Binary p a b) l old inside way =
      let x = meet_one_lem l old a.0 (inside _ (inl refl)) (way _ (inl refl)) in
      let y = meet_one_lem (meet_one l a.0) x.listed b.0 (inside _ (inr refl)) (way _ (inr refl)) in
      record {
        listed = y.listed;
        grows = grows_twice _ _ _ x.grows y.grows;
        marked = λ j o.
            ⊎_elim
            (λ e. subst (λ (z : ℕ). 0 < get_or (meet_one (meet_one l a.0) b.0).seen z 0) (sym e) (y.grows.marks a.0 x.marked))
            (λ e. subst (λ (z : ℕ). 0 < get_or (meet_one (meet_one l a.0) b.0).seen z 0) (sym e) y.marked)
            o;
      }

  -- nothing is listed yet
  listed_none : (l : Listing) → Inside g → g.count ≤ length l.seen → g.count ≤ length l.todo → ((k : Id) → k < g.count → get_or l.seen k 0 ≡ 0)
      → l.tail ≡ 0 → Listed g i l
  listed_none l inside hs ht clear e =
      record {
        inside = inside;
        marks = hs;
        room = ht;
        tally = omega (arith, zeros_all l.seen g.count clear);
        reached = λ j h z. absurd (omega (arith, clear j h));
        found = λ j h z. absurd (omega (arith, clear j h));
        known = λ k h. absurd (omega arith);
        met = λ k h. absurd (omega arith);
      }

  -- the first list: the operands of i
  pub spread_first : (n : code.Node) (l : Listing) → i < g.count → node_is n ≡ g.node i → Inside g → g.count ≤ length l.seen → g.count ≤ length l.todo
      → ((k : Id) → k < g.count → get_or l.seen k 0 ≡ 0) → l.tail ≡ 0 → Spreading g i (meet_all n l) 0
  spread_first n l hi hn inside hs ht clear e =
      let own : (j : Id) → Operand (node_is n) j → Operand (g.node i) j = λ j o. subst (λ (z : Node). Operand z j) hn o in
      let x = meet_all_lem n l (listed_none l inside hs ht clear e) (λ j o. inside i j hi (own j o)) (λ j o. direct i j (own j o)) in
      record {
        listed = x.listed;
        node = hi;
        within = omega arith;
        own = λ j o. x.marked j (subst (λ (z : Node). Operand z j) (sym hn) o);
        closed = λ k j h o. absurd (omega arith);
      }

  -- one more node's operands
  pub spread_more : (n : code.Node) (l : Listing) (head u : ℕ) → Spreading g i l head → head < l.tail → u ≡ get_or l.todo head 0 → node_is n ≡ g.node u
      → Spreading g i (meet_all n l) (head + 1)
  spread_more n l head u spread h hu hn =
      let old = spread.listed in
      let at : node_is n ≡ g.node (get_or l.todo head 0) = hn ∙ ap g.node hu in
      let own : (j : Id) → Operand (node_is n) j → Operand (g.node (get_or l.todo head 0)) j = λ j o. subst (λ (z : Node). Operand z j) at o in
      let hi = old.known head h in
      let x = meet_all_lem n l old (λ j o. old.inside _ j hi (own j o)) (λ j o. depends_on g j (old.reached _ hi (old.met head h)) (own j o)) in
      record {
        listed = x.listed;
        node = spread.node;
        within = omega (arith, x.grows.more);
        own = λ j o. x.grows.marks j (spread.own j o);
        closed = λ k j z o.
            let back : Operand (g.node (get_or l.todo k 0)) j = subst (λ (y : ℕ). Operand (g.node y) j) (x.grows.places k (omega arith)) o in
            elim (ℕ_discrete head k) [
              | yes e ↦ x.marked j (subst (λ (y : Node). Operand y j) (sym (at ∙ ap (λ (y : ℕ). g.node (get_or l.todo y 0)) e)) back)
              | no e ↦ x.grows.marks j (spread.closed k j (omega arith) back)
            ];
      }

  -- where the operands of all that is listed are listed, all that i reaches is
  module _ (l : Listing) (head : ℕ) (spread : Spreading g i l head) (over : l.tail ≤ head) where
    follow : {x j : Id} → x < g.count → ((y : Id) → Operand (g.node x) y → 0 < get_or l.seen y 0) → Depends g x j → 0 < get_or l.seen j 0
    follow h marked (direct x j o) = marked j o
    follow h marked (through x k j o d) =
        let hk = spread.listed.inside x k h o in
        let f = spread.listed.found k hk (marked k o) in
        follow hk
        (λ y z. spread.closed f.at y (omega (arith, f.below)) (subst (λ (n : ℕ). Operand (g.node n) y) (sym f.holds) z))
        d

    pub spread_all : (j : Id) → Depends g i j → 0 < get_or l.seen j 0
    spread_all j d = follow spread.node spread.own d
