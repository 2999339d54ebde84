-- `reaches` is the test of `Depends`. Assumes nothing.
use Prim.Native.Nat.{ℕ, zero, suc, ◌<◌}
use mathlib.Core.Path.{◌≡◌, refl, sym, subst}
use mathlib.Core.Bool.{true, true≢false, ◌&&◌}
use mathlib.Core.Logic.{◌↔◌, ◌⊎◌, inl, inr, ⊎_elim}
use native.Mathlib.Omega.{arith}
use native.Mathlib.Decide.{ℕ_discrete}
use lib.Dec.{eqb}
use borrow.Author.Tests.{eqb-true, eq-eqb}
use Rattle.symbols.specs.Graph as graph
use Rattle.symbols.specs.Graph.{Id, Node, constant, input, unary, binary, Graph, Operand, Depends, Inside}
use Rattle.symbols.specs.Reaching.{is_operand, reaches_below, reaches}
use Rattle.symbols.proofs.Tests.{either, both}

equal : (j a : Id) → (eqb j a ≡ true) ↔ (j ≡ a)
equal j a = (eqb-true j a, eq-eqb j a)

operand_is : (n : Node) (j : Id) → (is_operand n j ≡ true) ↔ Operand n j
operand_is (constant c) j = (λ e. absurd (true≢false (sym e)), λ h. absurd h)
operand_is (input l) j = (λ e. absurd (true≢false (sym e)), λ h. absurd h)
operand_is (unary a) j = equal j a
operand_is (binary o a b) j = either (eqb j a) (eqb j b) (equal j a) (equal j b)

-- a chain of operands whose inner nodes are below k
data Via (g : Graph) (k : ℕ) : Id → Id → Type 0 where
  direct : (i j : Id) → Operand (g.node i) j → Via g k i j
  through : (i x j : Id) → x < k → Operand (g.node i) x → Via g k x j → Via g k i j

module _ (g : Graph) (k : ℕ) where
  -- a chain below k + 1 leaves node k out, or comes to it and goes on from it
  split : (i j : Id) → Via g (suc k) i j → Via g k i j ⊎ (Via g k i k × Via g k k j)
  split i j (direct i' j' o) = inl (direct i j o)
  split i j (through i' x j' h o v) =
      elim (ℕ_discrete x k) [
        | yes e ↦
            let w = subst (λ (y : Id). Via g k y j ⊎ (Via g k y k × Via g k k j)) e (split x j v) in
            let a = direct i k (subst (Operand (g.node i)) e o) in
            inr (⊎_elim (λ b. (a, b)) (λ b. (a, b.1)) w)
        | no e ↦
            let p : x < k = omega arith in
            ⊎_elim (λ a. inl (through i x j p o a)) (λ a. inr (through i x k p o a.0, a.1)) (split x j v)
      ]

  wider : (i j : Id) → Via g k i j → Via g (suc k) i j
  wider i j (direct i' j' o) = direct i j o
  wider i j (through i' x j' h o v) = through i x j (omega arith) o (wider x j v)

  join : (i x j : Id) → x ≡ k → Via g k i x → Via g k x j → Via g (suc k) i j
  join i x j e (direct i' x' o) w = through i x j (omega arith) o (wider x j w)
  join i x j e (through i' y x' h o v) w = through i y j (omega arith) o (join y x j e v w)

below_is : (g : Graph) (k : ℕ) (i j : Id) → (reaches_below g k i j ≡ true) ↔ Via g k i j
unfolding reaches_below
below_is g zero i j =
    let o = operand_is (g.node i) j in (
      λ e. direct i j (o.0 e),
      λ v. o.1 (first i j v),
    )
  where
    first : (i j : Id) → Via g zero i j → Operand (g.node i) j
    first i j (direct i' j' o) = o
    first i j (through i' x j' h o v) = absurd (omega arith)
below_is g (suc k) i j =
    let w = either (reaches_below g k i j) (reaches_below g k i k && reaches_below g k k j) (below_is g k i j) (both (reaches_below g k i k) (reaches_below g k k j) (below_is g k i k) (below_is g k k j)) in (
      λ e. ⊎_elim (λ v. wider g k i j v) (λ v. join g k i k j refl v.0 v.1) (w.0 e),
      λ v. w.1 (split g k i j v),
    )

module _ (g : Graph) where
  any : (k : ℕ) (i j : Id) → Via g k i j → Depends g i j
  any k i j (direct i' j' o) = graph.direct i j o
  any k i j (through i' x j' h o v) = graph.through i x j o (any k x j v)

  module _ (inside : Inside g) where
    within : (i j : Id) → i < g.count → Depends g i j → Via g g.count i j
    within i j p (graph.direct i' j' o) = direct i j o
    within i j p (graph.through i' x j' o d) = through i x j (inside i x p o) o (within x j (inside i x p o) d)

    -- Q-1: "reaches itself through operands", as a test and as a chain
    pub reaches_is : (i j : Id) → i < g.count → (reaches g i j ≡ true) ↔ Depends g i j
    unfolding reaches
    reaches_is i j p =
        let b = below_is g g.count i j in (
          λ e. any g.count i j (b.0 e),
          λ d. b.1 (within i j p d),
        )
