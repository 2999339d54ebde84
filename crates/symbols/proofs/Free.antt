-- Where a number falls along operands, no node reaches itself. Assumes nothing.
use Prim.Native.Nat.{ℕ, ◌<◌}
use mathlib.Core.List.{List}
use native.Mathlib.Omega.{arith}
use Rattle.symbols.specs.Graph.{Id, Graph, Operand, Depends, direct, through, Inside, Sorted}
use Rattle.symbols.specs.Order.{Acyclic, Arranged}

module _ (g : Graph) (inside : Inside g) (rank : Id → ℕ) (falls : (i j : Id) → i < g.count → Operand (g.node i) j → rank j < rank i) where
  falls_far : (i j : Id) → i < g.count → Depends g i j → rank j < rank i
  falls_far i j p (direct i' j' o) = falls i j p o
  falls_far i j p (through i' k j' o d) = let a = falls i k p o in let b = falls_far k j (inside i k p o) d in omega arith

  free : (i : Id) → i < g.count → Depends g i i → ⊥
  free i p d = let a = falls_far i i p d in omega arith

pub arranged_free : (g : Graph) (order : List Id) → Inside g → Arranged g order → (i : Id) → i < g.count → Depends g i i → ⊥
arranged_free g order inside a = free g inside a.place a.before

pub acyclic_free : (g : Graph) → Acyclic g → (i : Id) → i < g.count → Depends g i i → ⊥
acyclic_free g a = free g a.inside a.rank a.falls

pub sorted_inside : (g : Graph) → Sorted g → Inside g
sorted_inside g s i j p o = let b = s.below i j p o in omega arith

pub sorted_free : (g : Graph) → Sorted g → (i : Id) → i < g.count → Depends g i i → ⊥
sorted_free g s = free g (sorted_inside g s) (λ i. i) s.below
