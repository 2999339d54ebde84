-- A turn at the top of the stack leaves ahead what was ahead: the walk lists what the source's `traverse` does. Assumes nothing.
use Prim.Native.Nat.{ℕ, zero, suc, ◌+◌, ◌-◌, ◌≤◌, ◌<◌}
use mathlib.Core.Path.{◌≡◌, refl, sym, ap, subst, ◌∙◌}
use mathlib.Core.List.{List, [], ◌∷◌, ◌++◌}
use mathlib.Core.Bool.{true, false}
use mathlib.Core.Logic.{inl, inr, ⊎_elim}
use native.Mathlib.Omega.{arith}
use native.Mathlib.Numerals.{add-one}
use native.Mathlib.Decide.{ℕ_discrete}
use lib.ListN.{get_or, set, take}
use lib.Seq.{get_or-set_same, get_or-set_other, take-suc-set}
use Rattle.symbols.specs.Graph.{Id, Graph, Operand}
use Rattle.symbols.specs.Order.{Acyclic}
use Rattle.symbols.specs.declared.SymbolId.{SymbolId}
use Rattle.formula.specs.Graph.{node_is}
use Rattle.formula.specs.declared.Node as code
use Rattle.formula.specs.declared.Node.TheVariants as node
use Rattle.visits.specs.Walk.{Ids, has, finish}
use Rattle.visits.proofs.Has.{refuted, has_at, at_of}
use Rattle.visits.proofs.Stack.{push_only, push_left, push_right, pop_done}
use Rattle.order.specs.Walking.{look_by, move_of, Walking}
use Rattle.order.specs.Finishing.{open_of, ahead, Steady}
use Rattle.order.specs.declared.walk.Walk.{Walk}
use Rattle.order.specs.declared.walk.Move.{Move}
use Rattle.order.specs.declared.walk.Move.TheVariants.{Push, Open, Pop}
use Rattle.std.specs.Prelude.{Some}
use Rattle.order.proofs.Storing.{zeros_room}
use Rattle.order.proofs.Turns.{look_new, look_open, look_done}

-- what holds of each move that a mark can ask for
look_by_lem : (P : Move → Type 0) (k : ℕ) (j : SymbolId) (rest : Move) → (k ≡ 0 → P (Push j)) → P (Open j) → (2 ≤ k → P rest) → P (look_by k j rest)
look_by_lem P k j rest new opened done =
    elim (ℕ_discrete k 0) [
      | yes e ↦ subst P (look_new k j rest e) (new e)
      | no e ↦
          elim (ℕ_discrete k 1) [
            | yes z ↦ subst P (look_open k j rest z) opened
            | no z ↦ subst P (look_done k j rest e z) (done (omega arith))
          ]
    ]

-- entries above the top do not count
open_below : (s : List ℕ) (d k v : ℕ) → d ≤ k → open_of (set s k v) d ≡ open_of s d
unfolding open_of
open_below s zero k v h = refl
open_below s (suc d) k v h =
    rw (get_or-set_other s k d v 0 (λ e. let z : d ≡ k = e in omega arith), open_below s d k v (omega arith))

module _ (g : Graph) (a : Acyclic g) (p o s : List ℕ) (w : Walk) (walk : Walking g p o s w) where
  abbrev seen : Ids
  seen = take w.done o

  -- a node is listed exactly when it is done
  is_listed : (i : Id) → i < g.count → 2 ≤ get_or p i 0 → has (take w.done o) i ≡ true
  is_listed i h e =
      subst (λ (x : ℕ). has (take w.done o) x ≡ true) (walk.holds i h e)
      (has_at o w.done (get_or p i 0 - 2) (omega (arith, walk.bound i h e)) (omega (arith, walk.bound i h e, walk.tally, walk.ordered)))

  not_listed : (i : Id) → get_or p i 0 < 2 → has (take w.done o) i ≡ false
  not_listed i h =
      refuted (has (take w.done o) i)
      (λ e. let r = at_of o w.done i e in omega (arith, walk.once r.at r.below, ap (λ (x : ℕ). get_or p x 0) r.is))

  module _ (k : ℕ) (deep : suc k ≡ w.depth) (u : Id) (hu : u ≡ get_or s k 0) where
    -- what a move at u does
    abbrev Does : Move → Type 0
    Does (Push j) = (w.depth < g.count) × (finish g (u ∷ open_of s k) (take w.done o) ≡ finish g (j.0 ∷ u ∷ open_of s k) (take w.done o))
    Does (Open j) = Unit {0}
    Does Pop = finish g (u ∷ open_of s k) (take w.done o) ≡ finish g (open_of s k) (take w.done o ++ (u ∷ []))

    inside_u : u < g.count
    inside_u = omega (arith, walk.known k (omega arith))

    new_u : has (take w.done o) u ≡ false
    new_u = not_listed u (omega (arith, ap (λ (x : ℕ). get_or p x 0) hu, walk.opened k (omega arith)))

    listed_operand : (j : Id) → Operand (g.node u) j → 2 ≤ get_or p j 0 → has (take w.done o) j ≡ true
    listed_operand j h e = is_listed j (walk.inside u j inside_u h) e

    -- there is room for an operand that is not met yet
    room : (j : Id) → Operand (g.node u) j → get_or p j 0 ≡ 0 → w.depth < g.count
    room j h e = omega (arith, walk.tally, zeros_room p g.count j (walk.inside u j inside_u h) e)

    does : (n : code.Node) → node_is n ≡ g.node u → Does (move_of n p)
    does (node.Constant v) e = pop_done g a u seen (open_of s k) inside_u new_u (λ j h. absurd (rw (← e) at h))
    does (node.Input l) e = pop_done g a u seen (open_of s k) inside_u new_u (λ j h. absurd (rw (← e) at h))
    does (node.Unary x) e =
        let ox : Operand (g.node u) x.0 = rw (← e) refl in
        look_by_lem Does (get_or p x.0 0) x Pop
        (λ z. (room x.0 ox z, push_only g a u seen (open_of s k) inside_u new_u x.0 (sym e)))
        tt
        (λ h. pop_done g a u seen (open_of s k) inside_u new_u (λ j q. let z : j ≡ x.0 = rw (← e) at q in rw z (listed_operand x.0 ox h)))
    does (node.Binary op x y) e =
        let ox : Operand (g.node u) x.0 = rw (← e) (inl refl) in
        let oy : Operand (g.node u) y.0 = rw (← e) (inr refl) in
        look_by_lem Does (get_or p x.0 0) x (look_by (get_or p y.0 0) y Pop)
        (λ z. (room x.0 ox z, push_left g a u seen (open_of s k) inside_u new_u op x.0 y.0 (sym e)))
        tt
        (λ h. look_by_lem Does (get_or p y.0 0) y Pop
        (λ z. (room y.0 oy z, push_right g a u seen (open_of s k) inside_u new_u op x.0 y.0 (sym e) (listed_operand x.0 ox h)))
        tt
        (λ h'. pop_done g a u seen (open_of s k) inside_u new_u
        (λ j q. ⊎_elim (λ (z : j ≡ x.0). rw z (listed_operand x.0 ox h)) (λ (z : j ≡ y.0). rw z (listed_operand y.0 oy h')) (rw (← e) at q))))

-- advance: at the top u of the stack
module _ (g : Graph) (p o s : List ℕ) (w : Walk) (walk : Walking g p o s w) (u : ℕ) (n : code.Node) (x : Move) (deep : 0 < w.depth)
    (hu : u ≡ get_or s (w.depth - 1) 0) (hn : node_is n ≡ g.node u) (hx : x ≡ move_of n p) where
  top : suc (w.depth - 1) ≡ w.depth
  top = omega arith

  open_top : open_of s w.depth ≡ u ∷ open_of s (w.depth - 1)
  unfolding open_of
  open_top = ap (open_of s) (sym top) ∙ ap (λ (y : ℕ). y ∷ open_of s (w.depth - 1)) (sym hu)

  did : (a : Acyclic g) (y : Move) → x ≡ y → Does g a p o s w walk (w.depth - 1) top u hu y
  did a y e = subst (Does g a p o s w walk (w.depth - 1) top u hu) (sym hx ∙ e) (does g a p o s w walk (w.depth - 1) top u hu n hn)

  pub steady_push : (j : SymbolId) → x ≡ Push j → (t : List ℕ) (v : Walk) → t ≡ set s w.depth j.0 → v.depth ≡ w.depth + 1 → v.done ≡ w.done
      → Steady g (ahead g o s w) o t (Some v)
  unfolding ahead open_of
  steady_push j e t v ht hd hr = λ a.
      let z = did a (Push j) e in
      let d : v.depth ≡ suc w.depth = omega arith in
      let below : open_of t w.depth ≡ open_of s w.depth = ap (λ (l : List ℕ). open_of l w.depth) ht ∙ open_below s w.depth w.depth j.0 (omega arith) in
      rw (d, hr, ht, get_or-set_same s w.depth j.0 0 (omega (arith, z.0, walk.stacked)), below, open_top) (sym z.1)

  pub steady_pop : x ≡ Pop → (r : List ℕ) (v : Walk) → r ≡ set o w.done u → v.depth ≡ w.depth - 1 → v.done ≡ w.done + 1 → Steady g (ahead g o s w) r s (Some v)
  unfolding ahead
  steady_pop e r v hr hd hc = λ a.
      rw (hd, hc, hr, add-one, take-suc-set o w.done u (omega (arith, walk.tally, walk.ordered)), open_top) (sym (did a Pop e))
