-- Q-2: "Nodes reachable from the root come once each, left operand first, operands before their operator." Assumes nothing.
use Prim.Native.Nat.{ℕ, zero, suc, ◌<◌}
use mathlib.Core.Path.{◌≡◌, refl}
use mathlib.Core.List.{[], ◌∷◌, ◌++◌}
use mathlib.Core.Bool.{true, false}
use mathlib.Core.Logic.{◌⊎◌, ◌↔◌, inl, inr, ⊎_elim}
use native.Mathlib.Omega.{arith}
use Rattle.symbols.specs.Graph.{Id, Graph, Operand, Depends, direct, through}
use Rattle.symbols.specs.Order.{Acyclic}
use Rattle.visits.specs.Walk.{Ids, has, operands_by, walk, listed, Tidy}
use Rattle.visits.proofs.Has.{tested, not_both, has_more, split_of, no_place, Seam, at_end, before, seam}
use Rattle.visits.proofs.Walk.{operands_keep, operands_listed, walk_again, walk_new, walk_lists, walk_keeps, walk_adds, operands_spare}

module _ (g : Graph) where
  pub tidy_none : Tidy g []
  tidy_none = record { once = λ p q i e. absurd (no_place p q i e); behind = λ p q i j e o. absurd (no_place p q i e) }

  pub tidy_last : (s : Ids) (x : Id) → Tidy g s → has s x ≡ false → ((j : Id) → Operand (g.node x) j → has s j ≡ true) → Tidy g (s ++ (x ∷ []))
  tidy_last s x t new below = record {
    once = λ p q i e. once_at p q i (seam s x p q i e);
    behind = λ p q i j e o. behind_at p q i j o (seam s x p q i e);
  }
    where
      once_at : (p q : Ids) (i : Id) → Seam s x p q i → has p i ≡ false
      once_at p q i (at_end u v) = rw (← u, ← v) new
      once_at p q i (before r u) = t.once p r i u

      behind_at : (p q : Ids) (i j : Id) → Operand (g.node i) j → Seam s x p q i → has p j ≡ true
      behind_at p q i j o (at_end u v) = rw (← u) (below j (rw v o))
      behind_at p q i j o (before r u) = t.behind p r i j u o

  -- what a tidy list has, it has with all that it depends on
  tidy_operand : (l : Ids) → Tidy g l → (i j : Id) → has l i ≡ true → Operand (g.node i) j → has l j ≡ true
  tidy_operand l t i j h o = let s = split_of l i h in rw s.is (has_more s.front (i ∷ s.rest) j (t.behind s.front s.rest i j s.is o))

  pub tidy_depends : (l : Ids) → Tidy g l → (i j : Id) → has l i ≡ true → Depends g i j → has l j ≡ true
  tidy_depends l t i j h (direct _ _ o) = tidy_operand l t i j h o
  tidy_depends l t i j h (through _ k _ o d) = tidy_depends l t k j (tidy_operand l t i k h o) d

  module _ (a : Acyclic g) where
    pub walk_tidy : (k : ℕ) (i : Id) (seen : Ids) → i < g.count → a.rank i < k → Tidy g seen → Tidy g (walk g k i seen)
    walk_tidy zero i seen h u t = absurd (omega arith)
    walk_tidy (suc k) i seen h u t =
        ⊎_elim
        (λ (e : has seen i ≡ true). rw (walk_again g (suc k) i seen e) t)
        (λ (e : has seen i ≡ false).
        rw (walk_new g k i seen e)
        (tidy_last (operands_by (walk g k) (g.node i) seen) i
        (operands_keep (Tidy g) (walk g k) (g.node i) seen (λ j o s p. walk_tidy k j s (a.inside i j h o) (omega (arith, a.falls i j h o)) p) t)
        (operands_spare g a k i seen h e)
        (operands_listed (walk g k) (g.node i) seen (λ j o s. walk_lists g k j s (omega (arith, a.falls i j h o))) (λ j b s. walk_keeps g k j b s))))
        (tested (has seen i))

    -- of the whole listing
    module _ (rooted : g.root < g.count) where
      pub listed_tidy : Tidy g (listed g)
      unfolding listed
      listed_tidy = walk_tidy g.count g.root [] rooted (a.bounded g.root rooted) tidy_none

      listed_root : has (listed g) g.root ≡ true
      unfolding listed
      listed_root = walk_lists g g.count g.root [] (omega arith)

      -- "Nodes reachable from the root"
      pub listed_exactly : (j : Id) → (has (listed g) j ≡ true) ↔ ((j ≡ g.root) ⊎ Depends g g.root j)
      unfolding listed has
      listed_exactly j = (listed_below, listed_above)
        where
          listed_below : has (listed g) j ≡ true → (j ≡ g.root) ⊎ Depends g g.root j
          listed_below h = ⊎_elim (λ e. not_both e refl) (λ x. x) (walk_adds g g.count g.root j [] h)

          listed_above : (j ≡ g.root) ⊎ Depends g g.root j → has (listed g) j ≡ true
          listed_above (inl e) = rw e listed_root
          listed_above (inr d) = tidy_depends (listed g) listed_tidy g.root j listed_root d
