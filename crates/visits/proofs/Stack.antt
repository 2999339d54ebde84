-- A stack of nodes in place of recursion: what may be put on it or taken off it without a change of what is listed in the end.
-- Assumes nothing.
use Prim.Native.Nat.{ℕ, zero, suc, ◌<◌}
use mathlib.Core.Path.{◌≡◌, refl, sym, ap, ◌∙◌}
use mathlib.Core.List.{[], ◌∷◌, ◌++◌}
use mathlib.Core.Bool.{true, false}
use mathlib.Core.Logic.{◌⊎◌, inl, inr, ⊎_elim}
use native.Mathlib.Omega.{arith}
use Rattle.symbols.specs.Graph.{Id, unary, binary, Graph, Operand, Depends, direct, through}
use Rattle.symbols.specs.Order.{Acyclic}
use Rattle.symbols.specs.declared.BVOperator.{BVOperator}
use Rattle.symbols.proofs.Free.{acyclic_free}
use Rattle.visits.specs.Walk.{Ids, has, operands_by, walk, visit, finish}
use Rattle.visits.proofs.Has.{not_both, refuted}
use Rattle.visits.proofs.Walk.{operands_keep, operands_same, walk_again, walk_new, walk_lists, walk_keeps, walk_adds, walk_depth}

module _ (g : Graph) (a : Acyclic g) where
  -- the depth falls out
  visit_new : (i : Id) (seen : Ids) → i < g.count → has seen i ≡ false → visit g i seen ≡ operands_by (visit g) (g.node i) seen ++ (i ∷ [])
  visit_new i seen h e = deep g.count (a.bounded i h)
    where
      deep : (k : ℕ) → a.rank i < k → walk g k i seen ≡ operands_by (visit g) (g.node i) seen ++ (i ∷ [])
      deep zero u = absurd (omega arith)
      deep (suc k) u =
          walk_new g k i seen e
          ∙ ap (λ (s : Ids). s ++ (i ∷ []))
          (operands_same (walk g k) (visit g) (g.node i) seen
          (λ j o s. walk_depth g a k g.count j s (a.inside i j h o) (omega (arith, a.falls i j h o)) (a.bounded j (a.inside i j h o))))

  visit_own : (i : Id) (seen : Ids) → i < g.count → has (visit g i seen) i ≡ true
  visit_own i seen h = walk_lists g g.count i seen (omega arith)

  visit_again : (i : Id) (seen : Ids) → i < g.count → visit g i (visit g i seen) ≡ visit g i seen
  visit_again i seen h = walk_again g g.count i (visit g i seen) (visit_own i seen h)

  -- an operand's visit does not list the node that it is an operand of
  visit_spares : (i j : Id) (seen : Ids) → i < g.count → Operand (g.node i) j → has seen i ≡ false → has (visit g j seen) i ≡ false
  visit_spares i j seen h o e =
      refuted (has (visit g j seen) i)
      (λ x. ⊎_elim (λ y. not_both y e) (λ y. absurd (acyclic_free g a i h (back y))) (walk_adds g g.count j i seen x))
    where
      back : (i ≡ j) ⊎ Depends g j i → Depends g i i
      back (inl u) = direct i i (rw (← u) at o)
      back (inr d) = through i j i o d

  -- a node that is not listed, over what is listed and the rest of the stack
  module _ (i : Id) (seen rest : Ids) (h : i < g.count) (e : has seen i ≡ false) where
    -- a visit of an operand before the node's own, where the node's then lists the same
    operand_first : (j : Id) → Operand (g.node i) j → operands_by (visit g) (g.node i) (visit g j seen) ≡ operands_by (visit g) (g.node i) seen → finish g (i ∷ rest) seen ≡ finish g (j ∷ i ∷ rest) seen
    unfolding finish
    operand_first j o same =
        ap (finish g rest)
        (visit_new i seen h e ∙ ap (λ (s : Ids). s ++ (i ∷ [])) (sym same) ∙ sym (visit_new i (visit g j seen) h (visit_spares i j seen h o e)))

    pub push_only : (j : Id) → g.node i ≡ unary j → finish g (i ∷ rest) seen ≡ finish g (j ∷ i ∷ rest) seen
    push_only j n =
        let o : Operand (g.node i) j = rw n refl in
        operand_first j o (rw n (visit_again j seen (a.inside i j h o)))

    pub push_left : (p : BVOperator) (j b : Id) → g.node i ≡ binary p j b → finish g (i ∷ rest) seen ≡ finish g (j ∷ i ∷ rest) seen
    push_left p j b n =
        let o : Operand (g.node i) j = rw n (inl refl) in
        operand_first j o (rw n (ap (visit g b) (visit_again j seen (a.inside i j h o))))

    pub push_right : (p : BVOperator) (b j : Id) → g.node i ≡ binary p b j → has seen b ≡ true → finish g (i ∷ rest) seen ≡ finish g (j ∷ i ∷ rest) seen
    push_right p b j n l =
        let o : Operand (g.node i) j = rw n (inr refl) in
        operand_first j o
        (rw (n, walk_again g g.count b (visit g j seen) (walk_keeps g g.count j b seen l), walk_again g g.count b seen l) (visit_again j seen (a.inside i j h o)))

    pub pop_done : ((j : Id) → Operand (g.node i) j → has seen j ≡ true) → finish g (i ∷ rest) seen ≡ finish g rest (seen ++ (i ∷ []))
    unfolding finish
    pop_done l =
        ap (finish g rest)
        (visit_new i seen h e
        ∙ ap (λ (s : Ids). s ++ (i ∷ []))
        (operands_keep (λ s. s ≡ seen) (visit g) (g.node i) seen (λ j o s q. ap (visit g j) q ∙ walk_again g g.count j seen (l j o)) refl))
