-- One pass along an order in which operands come first leaves what `settle` says: Q-1, "operators are worked out after their operands".
-- Assumes nothing.
use Prim.Native.Nat.{ℕ, zero, suc, ◌≤◌, ◌<◌}
use mathlib.Core.Path.{◌≡◌, refl, sym, ap, subst, ◌∙◌}
use mathlib.Core.List.{List}
use native.Mathlib.Omega.{arith}
use native.Mathlib.Decide.{ℕ_discrete}
use lib.ListN.{length, get_or, set, length-set}
use lib.Seq.{get_or-set_same, get_or-set_other, set-get_or}
use Rattle.words.specs.Words.{Words}
use Rattle.symbols.specs.Graph.{Id, Graph, Inside, Sorted}
use Rattle.symbols.specs.Order.{Acyclic, Arranged}
use Rattle.search.specs.Machine.{Values, value_of}
use Rattle.assign.specs.Settle.{worked, settle, settle_one, along_up_to, along, upward}
use Rattle.assign.specs.Start.{given_up_to, start_from, start_along}
use Rattle.assign.proofs.Laws.{Leaf, RightAt, Right, SameLeaves, each_at, leaf_worked, worked_same, settle_only, given_length}

module _ (g : Graph) where
  one_other : (i : Id) (vs : Values) (j : Id) → (j ≡ i → ⊥) → value_of (settle_one g i vs) j ≡ value_of vs j
  unfolding settle_one
  one_other i vs j h = get_or-set_other vs i j _ 0 h

  one_self : (i : Id) (vs : Values) → i < length vs → value_of (settle_one g i vs) i ≡ worked (g.node i) (value_of vs i) (value_of vs)
  unfolding settle_one
  one_self i vs h = get_or-set_same vs i _ 0 h

  one_leaf : (i : Id) (vs : Values) → Leaf (g.node i) → settle_one g i vs ≡ vs
  unfolding settle_one
  one_leaf i vs l = ap (set vs i) (leaf_worked (g.node i) (value_of vs i) (value_of vs) l) ∙ set-get_or vs i 0

  module _ (order : List Id) where
    pub up_length : (k : ℕ) (vs : Values) → length (along_up_to g order k vs) ≡ length vs
    unfolding along_up_to settle_one
    up_length zero vs = refl
    up_length (suc k) vs = length-set (along_up_to g order k vs) (get_or order k 0) _ ∙ up_length k vs

    -- the length is kept, whatever the order
    pub along_length : (vs : Values) → length (along g order vs) ≡ length vs
    unfolding along
    along_length vs = up_length g.count vs

    up_leaf : (k : ℕ) (vs : Values) (j : Id) → Leaf (g.node j) → value_of (along_up_to g order k vs) j ≡ value_of vs j
    unfolding along_up_to
    up_leaf zero vs j l = refl
    up_leaf (suc k) vs j l =
        let us = along_up_to g order k vs in
        elim (ℕ_discrete j (get_or order k 0)) [
          | yes w ↦ ap (λ (xs : Values). value_of xs j) (one_leaf (get_or order k 0) us (subst (λ (x : ℕ). Leaf (g.node x)) w l))
          | no w ↦ one_other (get_or order k 0) us j w
        ]
        ∙ up_leaf k vs j l

    module _ (inside : Inside g) (arranged : Arranged g order) where
      -- the places are ranks
      pub arranged_acyclic : Acyclic g
      arranged_acyclic = record { rank = arranged.place; bounded = arranged.within; inside = inside; falls = arranged.before }

      -- a node at an earlier place is another one
      apart : (k : ℕ) (j : Id) → k < g.count → arranged.place j < k → j ≡ get_or order k 0 → ⊥
      apart k j b p w = let z : arranged.place j ≡ k = ap arranged.place w ∙ arranged.once k b in omega arith

      -- and another one stands at an earlier place
      earlier : (k : ℕ) (j : Id) → j < g.count → (get_or order k 0 ≡ j → ⊥) → arranged.place j < suc k → arranged.place j < k
      earlier k j q h p =
          elim (ℕ_discrete (arranged.place j) k) [
            | yes w ↦ absurd (h (ap (λ (x : ℕ). get_or order x 0) (sym w) ∙ arranged.found j q))
            | no w ↦ omega arith
          ]

      -- one more place: what is right stays so, and the node there becomes so
      one_right : (k : ℕ) (us : Values) → k < g.count → length us ≡ g.count → ((j : Id) → j < g.count → arranged.place j < k → RightAt g us j)
          → (j : Id) → j < g.count → arranged.place j < suc k → RightAt g (settle_one g (get_or order k 0) us) j
      one_right k us b l h j q p =
          let i = get_or order k 0 in
          let ws = settle_one g i us in
          let c : i < g.count = arranged.known k b in
          let other : (x : ℕ) → arranged.place x < k → value_of us x ≡ value_of ws x = λ x r. sym (one_other i us x (apart k x b r)) in
          let self : value_of ws i ≡ worked (g.node i) (value_of us i) (value_of us) = one_self i us (omega arith) in
          elim (ℕ_discrete i j) [
            | yes w ↦
                subst (RightAt g ws) w
                (self
                ∙ worked_same (g.node i) (value_of us i) (value_of ws i) (value_of us) (value_of ws)
                (λ x o. other x (omega (arith, arranged.before i x c o, arranged.once k b)))
                (λ f. sym (self ∙ leaf_worked (g.node i) (value_of us i) (value_of us) f)))
            | no w ↦
                let r = earlier k j q w p in
                sym (other j r)
                ∙ h j q r
                ∙ worked_same (g.node j) (value_of us j) (value_of ws j) (value_of us) (value_of ws)
                (λ x o. other x (omega (arith, arranged.before j x q o)))
                (λ f. other j r)
          ]

      up_right : (k : ℕ) (vs : Values) → k ≤ g.count → length vs ≡ g.count → (j : Id) → j < g.count → arranged.place j < k → RightAt g (along_up_to g order k vs) j
      unfolding along_up_to
      up_right zero vs b l j q p = absurd (omega arith)
      up_right (suc k) vs b l j q p = one_right k (along_up_to g order k vs) (omega arith) (up_length k vs ∙ l) (up_right k vs (omega arith) l) j q p

      -- every operator is right after the pass
      along_right : (vs : Values) → length vs ≡ g.count → Right g (along g order vs)
      unfolding along
      along_right vs l j q = up_right g.count vs (omega arith) l j q (arranged.within j q)

      along_leaf : (vs : Values) → SameLeaves g vs (along g order vs)
      unfolding along
      along_leaf vs j q f = up_leaf g.count vs j f

-- the pass leaves the one solution
pub along_is : (g : Graph) (order : List Id) → Inside g → Arranged g order → (vs : Values) → length vs ≡ g.count → along g order vs ≡ settle g vs
along_is g order inside arranged vs l =
    settle_only g (arranged_acyclic g order inside arranged) vs (along g order vs) (along_length g order vs ∙ l) (along_right g order inside arranged vs l)
    (along_leaf g order inside arranged vs)

-- and so does the start
pub start_along_lem : (g : Graph) (order : List Id) → Inside g → Arranged g order → (ws : Words) (vs : Values) → length vs ≡ g.count
    → start_along g order ws vs ≡ start_from g ws vs
unfolding start_along start_from
start_along_lem g order inside arranged ws vs l = along_is g order inside arranged (given_up_to g ws g.count vs) (given_length g ws g.count vs ∙ l)

-- where an operand's id is below its node's, the ids in their own order are such an order
module _ (g : Graph) (sorted : Sorted g) where
  at_home : (i : Id) → i < g.count → get_or (upward g) i 0 ≡ i
  at_home i p = each_at g.count (λ j. j) i p

  pub sorted_arranged : Arranged g (upward g)
  sorted_arranged = record {
    place = λ i. i;
    within = λ i p. p;
    found = at_home;
    known = λ k p. subst (λ (x : ℕ). x < g.count) (sym (at_home k p)) p;
    once = at_home;
    before = sorted.below;
  }

  -- document 01: "one upward pass, same end state"
  pub sorted_pass : (vs : Values) → length vs ≡ g.count → along g (upward g) vs ≡ settle g vs
  sorted_pass = along_is g (upward g) (λ i j p o. omega (arith, sorted.below i j p o)) sorted_arranged
