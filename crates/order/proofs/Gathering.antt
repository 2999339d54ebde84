-- Gathering the nodes below a node: one law for each `return` and each turn of the loop. Assumes nothing.
use Prim.Native.Nat.{ℕ, ◌≤◌, ◌<◌}
use mathlib.Core.Path.{◌≡◌, refl, subst, ◌∙◌}
use mathlib.Core.List.{List, []}
use native.Mathlib.Omega.{arith}
use lib.ListN.{length, get_or, set, take}
use lib.Seq.{get_or-set_same}
use Rattle.symbols.specs.Graph.{Graph}
use Rattle.symbols.specs.Order.{Acyclic}
use Rattle.symbols.proofs.Free.{acyclic_free}
use Rattle.symbols.specs.declared.SymbolId.{SymbolId}
use Rattle.formula.specs.File.{File}
use Rattle.formula.specs.Graph.{graph_of}
use Rattle.formula.specs.declared.Formula.{Formula}
use Rattle.visits.specs.Walk.{Ids, finish, visit}
use Rattle.order.specs.Walking.{Small, Walking, Turned}
use Rattle.order.specs.Finishing.{open_of, ahead, Steady}
use Rattle.order.specs.declared.walk.Walk.{Walk}
use Rattle.std.specs.Prelude.{Option, Some, None}
use Rattle.order.proofs.Storing.{stored}
use Rattle.order.proofs.Moves.{walk_begin, walk_push}

-- a walk that has met no node
abbrev nowhere : Walk
nowhere = record { next = 0; depth = 0; done = 0 }

pub gather_small : Small nowhere
gather_small = record { next = omega arith; depth = omega arith; done = omega arith }

module _ (f : File) (m : Formula) (a : Acyclic (graph_of f m)) where
  abbrev g : Graph
  g = graph_of f m

  -- the node alone is open
  module _ (id : SymbolId) (p₀ p q o s t : List ℕ) (v : Walk) (hid : id.0 < m.count) (hp : m.count ≤ length p₀) (ho : m.count ≤ length o) (hs : m.count ≤ length s)
      (kept : length p ≡ length p₀) (n : ℕ) (hn : n ≡ m.count) (cleared : (k : ℕ) → k < n → get_or p k 0 ≡ 0)
      (hq : q ≡ set p id.0 1) (ht : t ≡ set s 0 id.0) (vn : v.next ≡ 0) (vd : v.depth ≡ 1) (vc : v.done ≡ 0) where
    clear : (k : ℕ) → k < m.count → get_or p k 0 ≡ 0
    clear k h = cleared k (omega arith)

    pub gather_begin : Walking g q o t v
    unfolding graph_of
    gather_begin =
        walk_push g p o s nowhere (walk_begin g p o s nowhere a.inside (omega arith) ho hs clear refl refl refl) q t v id.0 hid (clear id.0 hid) (λ k e. absurd (omega arith))
        (stored p q id.0 1 (omega arith) hq) (stored s t 0 id.0 (omega arith) ht) vn vd vc

  pub gather_ahead : (id : SymbolId) (o s t : List ℕ) (v : Walk) (l : Ids) → id.0 < m.count → m.count ≤ length s → t ≡ set s 0 id.0 → v.depth ≡ 1 → v.done ≡ 0
      → l ≡ ahead g o t v
      → l ≡ visit g id.0 []
  unfolding ahead open_of finish
  gather_ahead id o s t v l hid hs ht vd vc e = e ∙ rw (vd, vc, ht, get_or-set_same s 0 id.0 0 (omega arith))

  -- a turn
  module _ (l : Ids) (o s : List ℕ) (x : Option Walk) (v : Walk) (e : x ≡ Some v) where
    pub gather_on : (k : Ids) → Steady g k o s x → k ≡ l → ahead g o s v ≡ l
    gather_on k h z = subst (Steady g k o s) e h a ∙ z

  -- no node reaches itself
  pub gather_looped : (p o s : List ℕ) (n : ℕ) (x : Option Walk) (k l : Ids) → Turned g p o s n x → x ≡ None → k ≡ l
  gather_looped p o s n x k l h e = let z = subst (Turned g p o s n) e h in absurd (acyclic_free g a z.at z.inside z.loop)

  -- nothing is open any more
  pub gather_end : (p o s : List ℕ) (w : Walk) (l : Ids) → Walking g p o s w → w.depth ≤ 0 → ahead g o s w ≡ l → take w.done o ≡ l
  unfolding ahead open_of finish
  gather_end p o s w l walk h e = let z : w.depth ≡ 0 = omega arith in rw z at e

  pub gather_few : (p o s : List ℕ) (w : Walk) → Walking g p o s w → w.done ≤ m.count
  unfolding graph_of
  gather_few p o s w walk = omega (arith, walk.tally)
