-- Storing a number in a list, and how many zeros it leaves. Assumes nothing.
use Prim.Native.Nat.{ℕ, zero, suc, ◌+◌, ◌≤◌, ◌<◌}
use mathlib.Core.Path.{◌≡◌, refl, ap, ◌∙◌}
use mathlib.Core.List.{List}
use mathlib.Core.Bool.{true, false}
use mathlib.Core.Logic.{◌⊎◌, inl, inr, ⊎_elim}
use native.Mathlib.Omega.{arith}
use native.Mathlib.Decide.{ℕ_discrete}
use lib.ListN.{length, get_or, set, length-set}
use lib.Seq.{get_or-set_same, get_or-set_other}
use lib.Dec.{eqb}
use borrow.Author.Tests.{eq-eqb, ne_eqb}
use Rattle.order.specs.Marks.{zeros}

-- q is p with v at j
pub record Stored (p q : List ℕ) (j v : ℕ) : Type 0 where
  pub kept : length q ≡ length p
  pub here : get_or q j 0 ≡ v
  pub look : (i : ℕ) → ((i ≡ j) × (get_or q i 0 ≡ v)) ⊎ ((i ≡ j → ⊥) × (get_or q i 0 ≡ get_or p i 0))

pub stored : (p q : List ℕ) (j v : ℕ) → j < length p → q ≡ set p j v → Stored p q j v
stored p q j v h e =
    record {
      kept = ap length e ∙ length-set p j v;
      here = there ∙ get_or-set_same p j v 0 h;
      look = λ i.
          elim (ℕ_discrete i j) [
            | yes w ↦ inl (w, ap (λ (x : ℕ). get_or q x 0) w ∙ there ∙ get_or-set_same p j v 0 h)
            | no w ↦ inr (w, ap (λ (l : List ℕ). get_or l i 0) e ∙ get_or-set_other p j i v 0 w)
          ];
    }
  where
    there : get_or q j 0 ≡ get_or (set p j v) j 0
    there = ap (λ (l : List ℕ). get_or l j 0) e

module _ {p q : List ℕ} {j v : ℕ} (S : Stored p q j v) where
  -- what had another number than j keeps it
  pub away : (i : ℕ) → (get_or p i 0 ≡ get_or p j 0 → ⊥) → get_or q i 0 ≡ get_or p i 0
  away i h = ⊎_elim (λ y. absurd (h (ap (λ (x : ℕ). get_or p x 0) y.0))) (λ n. n.1) (S.look i)

  elsewhere : (i : ℕ) → (i ≡ j → ⊥) → get_or q i 0 ≡ get_or p i 0
  elsewhere i h = ⊎_elim (λ y. absurd (h y.0)) (λ n. n.1) (S.look i)

  pub zeros_past : (n : ℕ) → n ≤ j → zeros q n ≡ zeros p n
  unfolding zeros
  zeros_past zero h = refl
  zeros_past (suc n) h = rw (zeros_past n (omega arith), elsewhere n (λ e. let z : n ≡ j = e in omega arith))

  -- one that is met now
  pub zeros_less : (n : ℕ) → j < n → get_or p j 0 ≡ 0 → 0 < v → zeros q n + 1 ≡ zeros p n
  unfolding zeros
  zeros_less zero h z w = absurd (omega arith)
  zeros_less (suc n) h z w =
      elim (ℕ_discrete n j) [
        | yes e ↦
            let a : eqb (get_or q n 0) 0 ≡ false = ne_eqb _ _ (λ x. let y : get_or q n 0 ≡ 0 = x in omega (arith, ap (λ (k : ℕ). get_or q k 0) e, S.here)) in
            let b : eqb (get_or p n 0) 0 ≡ true = eq-eqb _ _ (ap (λ (k : ℕ). get_or p k 0) e ∙ z) in
            rw (a, b) (omega (arith, zeros_past n (omega arith)))
        | no e ↦ rw (elsewhere n e) (omega (arith, zeros_less n (omega arith) z w))
      ]

  -- one that was met and stays so
  pub zeros_same : (n : ℕ) → 0 < get_or p j 0 → 0 < v → zeros q n ≡ zeros p n
  unfolding zeros
  zeros_same zero h w = refl
  zeros_same (suc n) h w =
      elim (ℕ_discrete n j) [
        | yes e ↦
            let a : eqb (get_or q n 0) 0 ≡ false = ne_eqb _ _ (λ x. let y : get_or q n 0 ≡ 0 = x in omega (arith, ap (λ (k : ℕ). get_or q k 0) e, S.here)) in
            let b : eqb (get_or p n 0) 0 ≡ false = ne_eqb _ _ (λ x. let y : get_or p n 0 ≡ 0 = x in omega (arith, ap (λ (k : ℕ). get_or p k 0) e)) in
            rw (a, b, zeros_same n h w)
        | no e ↦ rw (elsewhere n e, zeros_same n h w)
      ]

module _ (p : List ℕ) where
  pub zeros_all : (n : ℕ) → ((i : ℕ) → i < n → get_or p i 0 ≡ 0) → zeros p n ≡ n
  unfolding zeros
  zeros_all zero h = refl
  zeros_all (suc n) h = rw (h n (omega arith), zeros_all n (λ i l. h i (omega arith))) (omega arith)

  pub zeros_none : (n : ℕ) → ((i : ℕ) → i < n → 0 < get_or p i 0) → zeros p n ≡ 0
  unfolding zeros
  zeros_none zero h = refl
  zeros_none (suc n) h =
      let a : eqb (get_or p n 0) 0 ≡ false = ne_eqb _ _ (λ x. let y : get_or p n 0 ≡ 0 = x in omega (arith, h n (omega arith))) in
      rw (a, zeros_none n (λ i l. h i (omega arith)))

  -- where no zero is left, every node is met
  pub zeros_met : (n : ℕ) → zeros p n ≡ 0 → (i : ℕ) → i < n → 0 < get_or p i 0
  unfolding zeros
  zeros_met zero e i l = absurd (omega arith)
  zeros_met (suc n) e i l =
      elim (ℕ_discrete (get_or p n 0) 0) [
        | yes z ↦ let b = eq-eqb (get_or p n 0) 0 z in let e1 = rw b at e in absurd (omega arith)
        | no z ↦
            let b = ne_eqb (get_or p n 0) 0 z in
            let e1 = rw b at e in
            elim (ℕ_discrete i n) [
              | yes q ↦ let y = ap (λ (k : ℕ). get_or p k 0) q in omega arith
              | no q ↦ zeros_met n (omega arith) i (omega arith)
            ]
      ]

  -- a node that is not met is counted
  pub zeros_room : (n i : ℕ) → i < n → get_or p i 0 ≡ 0 → 0 < zeros p n
  zeros_room n i l e =
      elim (ℕ_discrete (zeros p n) 0) [
        | yes z ↦ absurd (omega (arith, zeros_met n z i l))
        | no z ↦ omega arith
      ]
