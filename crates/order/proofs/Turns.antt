-- The walk as the code meets it: one law for each `return` and each turn of a loop. Assumes nothing.
use Prim.Native.Nat.{ℕ, suc, ◌+◌, ◌-◌, ◌*◌, ◌≤◌, ◌<◌}
use mathlib.Core.Path.{◌≡◌, refl, sym, ap, subst, ◌∙◌}
use mathlib.Core.List.{List}
use mathlib.Core.Logic.{inl, inr, ⊎_elim}
use native.Mathlib.Omega.{arith}
use native.Mathlib.Decide.{ℕ_discrete}
use lib.ListN.{length, get_or, set}
use borrow.Author.Tests.{eq-eqb, ne_eqb}
use Rattle.symbols.specs.Graph.{Id, Node, unary, binary, Graph, Operand, Inside}
use Rattle.symbols.specs.Order.{Arranged, Looped}
use Rattle.symbols.specs.declared.SymbolId.{SymbolId}
use Rattle.formula.specs.File.{File}
use Rattle.formula.specs.Graph.{graph_of, node_is}
use Rattle.formula.specs.declared.Formula.{Formula}
use Rattle.formula.specs.declared.Node as code
use Rattle.formula.specs.declared.Node.TheVariants as node
use Rattle.order.specs.Walking.{look_by, move_of, Walking, Small, spent, Turned}
use Rattle.order.specs.declared.walk.Walk.{Walk}
use Rattle.order.specs.declared.walk.Move.{Move}
use Rattle.order.specs.declared.walk.Move.TheVariants.{Push, Open, Pop}
use Rattle.std.specs.Prelude.{Option, Some}
use Rattle.order.proofs.Storing.{stored, zeros_room}
use Rattle.order.proofs.Moves.{walk_begin, next_below, walk_skip, walk_push, walk_pop, walk_loop, walk_end}

-- the match on a mark
module _ (k : ℕ) (j : SymbolId) (rest : Move) where
  pub look_new : k ≡ 0 → Push j ≡ look_by k j rest
  look_new e = rw (eq-eqb k 0 e)

  pub look_open : k ≡ 1 → Open j ≡ look_by k j rest
  look_open e = rw (ne_eqb k 0 (λ z. let y : k ≡ 0 = z in omega arith), eq-eqb k 1 e)

  pub look_done : (k ≡ 0 → ⊥) → (k ≡ 1 → ⊥) → rest ≡ look_by k j rest
  look_done a b = rw (ne_eqb k 0 a, ne_eqb k 1 b)

-- what a move says of a node
abbrev Says : Node → List ℕ → Move → Type 0
Says n p (Push j) = Operand n j.0 × (get_or p j.0 0 ≡ 0)
Says n p (Open j) = Operand n j.0 × (get_or p j.0 0 ≡ 1)
Says n p Pop = (j : Id) → Operand n j → 2 ≤ get_or p j 0

says_look : (n : Node) (p : List ℕ) (j : SymbolId) (rest : Move) → Operand n j.0 → (2 ≤ get_or p j.0 0 → Says n p rest)
    → Says n p (look_by (get_or p j.0 0) j rest)
says_look n p j rest h more =
    elim (ℕ_discrete (get_or p j.0 0) 0) [
      | yes e ↦ subst (Says n p) (look_new _ j rest e) (h, e)
      | no e ↦
          elim (ℕ_discrete (get_or p j.0 0) 1) [
            | yes z ↦ subst (Says n p) (look_open _ j rest z) (h, z)
            | no z ↦ subst (Says n p) (look_done _ j rest e z) (more (omega arith))
          ]
    ]

says : (n : code.Node) (p : List ℕ) → Says (node_is n) p (move_of n p)
says (node.Constant v) p = λ j o. absurd o
says (node.Input l) p = λ j o. absurd o
says (node.Unary a) p = says_look (unary a.0) p a Pop refl (λ h j o. subst (λ (x : ℕ). 2 ≤ get_or p x 0) (sym o) h)
says (node.Binary o a b) p =
    says_look (binary o a.0 b.0) p a (look_by (get_or p b.0 0) b Pop) (inl refl)
    (λ h. says_look (binary o a.0 b.0) p b Pop (inr refl)
    (λ k j e.
    ⊎_elim
    (λ z. subst (λ (x : ℕ). 2 ≤ get_or p x 0) (sym z) h)
    (λ z. subst (λ (x : ℕ). 2 ≤ get_or p x 0) (sym z) k)
    e))

pub counted : (f : File) (m : Formula) → (graph_of f m).count ≡ m.count
unfolding graph_of
counted f m = refl

module _ (f : File) (m : Formula) where
  abbrev g : Graph
  g = graph_of f m

  pub turn_begin : (p₀ p o s : List ℕ) (n : ℕ) (w : Walk) → Inside g → m.count ≤ length p₀ → m.count ≤ length o → m.count ≤ length s → length p ≡ length p₀
      → n ≡ m.count → ((k : ℕ) → k < n → get_or p k 0 ≡ 0) → w.next ≡ 0 → w.depth ≡ 0 → w.done ≡ 0 → Walking g p o s w
  unfolding graph_of
  turn_begin p₀ p o s n w inside hp ho hs e hn clear = walk_begin g p o s w inside (omega arith) ho hs (λ k h. clear k (omega arith))

  module _ (p o s : List ℕ) (w : Walk) (walk : Walking g p o s w) where
    pub turn_small : m.count ≤ 4000 → Small w
    turn_small h = let e = counted f m in record { next = omega arith; depth = omega arith; done = omega arith }

    pub turn_end : m.count ≤ w.done → Arranged g o
    turn_end h = walk_end g p o s w walk (omega (arith, counted f m))

    module _ (flat : w.depth ≤ 0) (left : w.done < m.count) where
      small_next : w.next < g.count
      small_next = next_below g p o s w walk (omega arith) (omega (arith, counted f m))

      pub turn_first : (x : ℕ) (q t : List ℕ) (v : Walk) → x ≡ get_or p w.next 0 → x ≡ 0 → q ≡ set p w.next 1 → t ≡ set s w.depth w.next
          → v.next ≡ w.next → v.depth ≡ w.depth + 1 → v.done ≡ w.done → Walking g q o t v
      turn_first x q t v hx new hq ht =
          walk_push g p o s w walk q t v w.next small_next (sym hx ∙ new) (λ k e. absurd (omega arith))
          (stored p q w.next 1 (omega (arith, small_next, walk.placed)) hq) (stored s t w.depth w.next (omega (arith, small_next, walk.stacked)) ht)

      pub turn_skip : (x : ℕ) (v : Walk) → x ≡ get_or p w.next 0 → 0 < x → v.next ≡ w.next + 1 → v.depth ≡ w.depth → v.done ≡ w.done → Walking g p o s v
      turn_skip x v hx met = walk_skip g p o s w walk v small_next (omega arith)

    -- at the top u of the stack
    module _ (u : ℕ) (n : code.Node) (x : Move) (deep : 0 < w.depth) (hu : u ≡ get_or s (w.depth - 1) 0) (hn : node_is n ≡ g.node u) (hx : x ≡ move_of n p) where
      said : (y : Move) → x ≡ y → Says (g.node (get_or s (w.depth - 1) 0)) p y
      said y e = subst (λ (z : Node). Says z p y) (hn ∙ ap g.node hu) (subst (Says (node_is n) p) (sym hx ∙ e) (says n p))

      top : suc (w.depth - 1) ≡ w.depth
      top = omega arith

      pub turn_loop : (j : SymbolId) → x ≡ Open j → Looped g
      turn_loop j e = let z = said (Open j) e in walk_loop g p o s w walk j.0 (w.depth - 1) top z.0 z.1

      pub turn_push : (j : SymbolId) → x ≡ Push j → (q t : List ℕ) (v : Walk) → q ≡ set p j.0 1 → t ≡ set s w.depth j.0 → v.next ≡ w.next
          → v.depth ≡ w.depth + 1 → v.done ≡ w.done → Walking g q o t v
      turn_push j e q t v hq ht =
          let z = said (Push j) e in
          let l : j.0 < g.count = walk.inside _ j.0 (walk.known (w.depth - 1) (omega arith)) z.0 in
          let room = zeros_room p g.count j.0 l z.1 in
          walk_push g p o s w walk q t v j.0 l z.1
          (λ k h. let y : w.depth - 1 ≡ k = omega arith in subst (λ (i : ℕ). Operand (g.node (get_or s i 0)) j.0) y z.0)
          (stored p q j.0 1 (omega (arith, walk.placed)) hq)
          (stored s t w.depth j.0 (omega (arith, walk.stacked, walk.tally)) ht)

    pub turn_pop : (u : ℕ) (q r : List ℕ) (v : Walk) → q ≡ set p u (w.done + 2) → r ≡ set o w.done u → (n : code.Node) (x : Move) → 0 < w.depth
        → u ≡ get_or s (w.depth - 1) 0 → node_is n ≡ g.node u → x ≡ move_of n p → x ≡ Pop → v.next ≡ w.next → v.depth ≡ w.depth - 1 → v.done ≡ w.done + 1
        → Walking g q r s v
    turn_pop u q r v hq hr n x deep hu hn hx e =
        let l = walk.known (w.depth - 1) (omega arith) in
        walk_pop g p o s w walk q r v u (w.depth - 1) (top u n x deep hu hn hx) hu
        (subst (λ (z : ℕ). (j : Id) → Operand (g.node z) j → 2 ≤ get_or p j 0) (sym hu) (said u n x deep hu hn hx Pop e))
        (stored p q u (w.done + 2) (omega (arith, walk.placed)) hq)
        (stored o r w.done u (omega (arith, walk.ordered, walk.tally)) hr)

  -- the turn that a step was
  module _ (p o s : List ℕ) (w : Walk) (x : Option Walk) (turned : Turned g p o s (spent w + 1) x) where
    module _ (v : Walk) (e : x ≡ Some v) where
      went : Walking g p o s v × (spent v ≡ spent w + 1)
      went = subst (Turned g p o s (spent w + 1)) e turned

      pub turn_on : Walking g p o s v
      turn_on = went.0

      pub turn_less : 3 * m.count - spent v < 3 * m.count - spent w
      turn_less = omega (arith, counted f m, went.1, went.0.tally, went.0.next)
