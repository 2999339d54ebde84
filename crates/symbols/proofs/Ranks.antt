-- A graph in which no node reaches itself has ranks: how many nodes each one reaches. Assumes nothing.
use Prim.Native.Nat.{ℕ, zero, suc, ◌+◌, ◌≤◌, ◌<◌}
use mathlib.Core.Path.{◌≡◌, refl, sym}
use mathlib.Core.Bool.{Bool, true, false, true≢false}
use native.Mathlib.Omega.{arith}
use native.Mathlib.Decide.{ℕ_discrete}
use Rattle.laws.specs.Pick.{pick}
use Rattle.symbols.specs.Graph.{Id, Graph, Depends, direct, through, Inside}
use Rattle.symbols.specs.Reaching.{reaches}
use Rattle.symbols.specs.Order.{Acyclic}
use Rattle.symbols.proofs.Reaching.{reaches_is}
use Rattle.symbols.proofs.Tests.{not_yes}

-- of how many numbers below k the test holds
unfoldable pub counted : (ℕ → Bool) → ℕ → ℕ
counted p zero = 0
counted p (suc k) = pick (p k) 1 0 + counted p k

at_most : (a b : Bool) → (a ≡ true → b ≡ true) → pick a 1 0 ≤ pick b 1 0
at_most true true h = omega arith
at_most true false h = absurd (true≢false (sym (h refl)))
at_most false true h = omega arith
at_most false false h = omega arith

less : (a b : Bool) → a ≡ false → b ≡ true → pick a 1 0 < pick b 1 0
less true b u v = absurd (true≢false u)
less false true u v = omega arith
less false false u v = absurd (true≢false (sym v))

-- a test that holds only where another does, and not at some y where that one does
module _ (p q : ℕ → Bool) where
  pub no_more : (k : ℕ) → ((x : ℕ) → x < k → p x ≡ true → q x ≡ true) → counted p k ≤ counted q k
  unfolding counted
  no_more zero h = omega arith
  no_more (suc k) h = omega (arith, at_most (p k) (q k) (h k (omega arith)), no_more k (λ x b. h x (omega arith)))

  pub fewer : (k : ℕ) → ((x : ℕ) → x < k → p x ≡ true → q x ≡ true) → (y : ℕ) → y < k → p y ≡ false → q y ≡ true → counted p k < counted q k
  unfolding counted
  fewer zero h y b u v = absurd (omega arith)
  fewer (suc k) h y b u v =
      let h' : (x : ℕ) → x < k → p x ≡ true → q x ≡ true = λ x c. h x (omega arith) in
      elim (ℕ_discrete y k) [
        | yes e ↦ omega (arith, less (p k) (q k) (rw e at u) (rw e at v), no_more k h')
        | no e ↦ omega (arith, at_most (p k) (q k) (h k (omega arith)), fewer k h' y (omega arith) u v)
      ]

pub counted_all : (k : ℕ) → counted (λ x. true) k ≡ k
unfolding counted
counted_all zero = refl
counted_all (suc k) = let e = counted_all k in omega arith

-- Q-1: "no node reaches itself through operands"
pub well_formed_acyclic : (g : Graph) → Inside g → ((i : Id) → i < g.count → Depends g i i → ⊥) → Acyclic g
well_formed_acyclic g inside free = record {
  rank = λ i. counted (reaches g i) g.count;
  bounded = λ i p.
      let c = fewer (reaches g i) (λ x. true) g.count (λ x b e. refl) i p (never i p) refl in
      let a = counted_all g.count in
      omega arith;
  inside = inside;
  falls = λ i j p o.
      let b = inside i j p o in
      fewer (reaches g j) (reaches g i) g.count
      (λ x c e. (reaches_is g inside i x p).1 (through i j x o ((reaches_is g inside j x b).0 e)))
      j b (never j b)
      ((reaches_is g inside i j p).1 (direct i j o));
}
  where
    never : (i : Id) → i < g.count → reaches g i i ≡ false
    never i p = not_yes (reaches g i i) (λ e. free i p ((reaches_is g inside i i p).0 e))
