-- 13 as the code meets it: one law for each `return` of the search for a cycle. Assumes nothing.
use mathlib.Core.Path.{◌≡◌, refl, sym, ap, ◌∙◌}
use Prim.Native.Nat.{ℕ, zero, suc, ◌+◌, ◌-◌, ◌≤◌, ◌<◌}
use mathlib.Core.List.{List}
use mathlib.Core.Bool.{Bool, true, false, true≢false}
use mathlib.Core.Logic.{⊎_elim}
use native.Mathlib.Omega.{arith}
use native.Mathlib.Decide.{ℕ_discrete}
use lib.Dec.{leb}
use borrow.Author.Tests.{leb-false}
use Rattle.laws.specs.Rows.{first, Never}
use Rattle.laws.proofs.Rows.{first_here, first_next, first_none, clear_both, clear_head}
use Rattle.symbols.specs.Graph.{Id, Node, constant, input, unary, binary, Graph, Operand, Depends, Inside}
use Rattle.symbols.specs.Reaching.{reaches}
use Rattle.symbols.specs.Order.{Arranged, Looped}
use Rattle.symbols.proofs.Tests.{or_no, not_yes}
use Rattle.symbols.proofs.Reaching.{reaches_is}
use Rattle.symbols.proofs.Free.{arranged_free}
use Rattle.symbols.specs.declared.Refusal.TheVariants.{Cycle}
use Rattle.formula.specs.File.{File, record_at}
use Rattle.formula.specs.Graph.{node_of, graph_of}
use Rattle.formula.specs.declared.Formula.{Formula}
use Rattle.checks.specs.Refusals.{Finding, outside, rows_of, record_rows, cycle_rows}
use Rattle.std.specs.Prelude.{Ok, Err, OnOk}
use Rattle.checks.proofs.Scanning.{refuses, rows_never}

-- "an operand id not below n"
pub inside_means : (n : ℕ) (j : Id) (x : Node) → outside n x ≡ false → Operand x j → j < n
inside_means n j (constant v) e h = absurd h
inside_means n j (input l) e h = absurd h
inside_means n j (unary a) e h = let b = leb-false n a e in omega arith
inside_means n j (binary o a b) e h =
    let w = or_no (leb n a) (leb n b) e in
    ⊎_elim (λ q. let x = leb-false n a w.0 in omega arith) (λ q. let x = leb-false n b w.1 in omega arith) h

-- of records that are clear, each operand is a node
module _ (f : File) (m : Formula) where
  rows_clear : (r : List ℕ) (i : ℕ) → first (rows_of r m.count i) (Ok tt) ≡ Ok tt → outside m.count (node_of r) ≡ false
  unfolding rows_of
  rows_clear r i e = (clear_head _ _ _ (Ok tt) (refuses _) (clear_head _ _ _ (Ok tt) (refuses _) e).1).0

  records_clear : (k i x : ℕ) → first (record_rows f m k i) (Ok tt) ≡ Ok tt → i ≤ x → x < i + k → outside m.count (node_of (record_at f m x)) ≡ false
  unfolding record_rows
  records_clear zero i x e p q = absurd (omega arith)
  records_clear (suc k) i x e p q =
      let w = clear_both (rows_of (record_at f m i) m.count i) (record_rows f m k (i + 1)) (Ok tt) (rows_never _ _ i) e in
      elim (ℕ_discrete i x) [
        | yes z ↦ ap (λ (y : ℕ). outside m.count (node_of (record_at f m y))) (sym z) ∙ rows_clear (record_at f m i) i w.0
        | no z ↦ records_clear k (i + 1) x w.1 (omega arith) (omega arith)
      ]

  pub clear_inside : (x : Finding) → x ≡ first (record_rows f m m.count 0) (Ok tt) → x ≡ Ok tt → Inside (graph_of f m)
  unfolding graph_of
  clear_inside x hx e i j p o = inside_means m.count j (node_of (record_at f m i)) (records_clear m.count 0 i (sym hx ∙ e) (omega arith) (omega arith)) o

module _ (g : Graph) where
  pub cycles_never : (k i : ℕ) → Never (cycle_rows g k i) (Ok tt)
  unfolding cycle_rows
  cycles_never zero i = tt
  cycles_never (suc k) i = (refuses _, cycles_never k (i + 1))

  -- no row holds
  free_clear : (k i : ℕ) → ((x : ℕ) → i ≤ x → x < i + k → reaches g x x ≡ false) → (Ok tt) ≡ first (cycle_rows g k i) (Ok tt)
  unfolding cycle_rows
  free_clear zero i h = first_none (Ok tt)
  free_clear (suc k) i h = first_next _ _ _ _ _ (h i (omega arith) (omega arith)) (free_clear k (i + 1) (λ x p q. h x (omega arith) (omega arith)))

  clear_free : (k i x : ℕ) → first (cycle_rows g k i) (Ok tt) ≡ Ok tt → i ≤ x → x < i + k → reaches g x x ≡ false
  unfolding cycle_rows
  clear_free zero i x e p q = absurd (omega arith)
  clear_free (suc k) i x e p q =
      let w = clear_head _ _ _ (Ok tt) (refuses _) e in
      elim (ℕ_discrete i x) [
        | yes z ↦ ap (λ (y : ℕ). reaches g y y) (sym z) ∙ w.0
        | no z ↦ clear_free k (i + 1) x w.1 (omega arith) (omega arith)
      ]

-- the scan: e is what the whole finds
pub cycle_begin : (g : Graph) (n : ℕ) → first (cycle_rows g (n - 0) 0) (Ok tt) ≡ first (cycle_rows g n 0) (Ok tt)
cycle_begin g n = let z : n - 0 ≡ n = omega arith in rw z

module _ (f : File) (m : Formula) where
  abbrev g : Graph
  g = graph_of f m

  free : Inside g → (i : ℕ) → i < m.count → (Depends g i i → ⊥) → reaches g i i ≡ false
  unfolding graph_of
  free inside i p h = not_yes (reaches g i i) (λ r. h ((reaches_is g inside i i p).0 r))

  module _ (i : ℕ) (e : Finding) (inside : Inside g) (inv : first (cycle_rows g (m.count - i) i) (Ok tt) ≡ e) where
    module _ (p : i < m.count) (b : Bool) where
      cycle_one : first (cycle_rows g (suc (m.count - (i + 1))) i) (Ok tt) ≡ e
      cycle_one = let z : m.count - i ≡ suc (m.count - (i + 1)) = omega arith in (rw z at inv)

      pub cycle_found : (b ≡ true → Depends g i i) → b ≡ true → Err (Cycle record { 0 = i }) ≡ e
      unfolding graph_of cycle_rows
      cycle_found h t = first_here _ _ _ _ ((reaches_is g inside i i p).1 (h t)) ∙ cycle_one

      pub cycle_again : (b ≡ false → Depends g i i → ⊥) → b ≡ false → first (cycle_rows g (m.count - (i + 1)) (i + 1)) (Ok tt) ≡ e
      unfolding cycle_rows
      cycle_again h t = first_next _ _ _ _ _ (free inside i p (h t)) refl ∙ cycle_one

    pub cycle_over : m.count ≤ i → (Ok tt) ≡ e
    unfolding cycle_rows
    cycle_over h = let z : m.count - i ≡ 0 = omega arith in first_none (Ok tt) ∙ (rw z at inv)

  -- an order has no cycle
  pub arranged_clear : Inside g → (o : List ℕ) → Arranged g o → ◌≡◌ {A = Finding} (Ok tt) (first (cycle_rows g m.count 0) (Ok tt))
  unfolding graph_of
  arranged_clear inside o a = free_clear g m.count 0 (λ x p q. free inside x (omega arith) (arranged_free g o inside a x (omega arith)))

  -- a cycle is found, so no order is promised
  pub looped_found : Inside g → (x : Finding) (A : Type 0) → Looped g → x ≡ first (cycle_rows g m.count 0) (Ok tt) → OnOk x A
  unfolding graph_of
  looped_found inside (Ok u) A l hx =
      let p = l.inside in
      absurd (true≢false (sym ((reaches_is g inside l.at l.at p).1 l.loop) ∙ clear_free g m.count 0 l.at (sym hx) (omega arith) (omega arith)))
  looped_found inside (Err r) A l hx = tt
