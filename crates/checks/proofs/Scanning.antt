-- The rows as the code meets them: one law for each `return` of the checks. Assumes nothing.
use mathlib.Core.Path.{◌≡◌, sym, ap, ◌∙◌}
use Prim.Native.Nat.{ℕ, zero, suc, ◌+◌, ◌-◌, ◌≤◌, ◌<◌}
use mathlib.Core.List.{List, ◌++◌}
use mathlib.Core.Bool.{true, false}
use native.Mathlib.Omega.{arith}
use Rattle.laws.specs.Rows.{first, Never}
use Rattle.laws.proofs.Rows.{first_here, first_next, first_none, append_given, append_clear, never_append}
use Rattle.symbols.specs.declared.SymbolId.{SymbolId}
use Rattle.symbols.specs.declared.Refusal.{Refusal}
use Rattle.symbols.specs.declared.Refusal.TheVariants as refusal
use Rattle.formula.specs.File.{File, Record, record_at}
use Rattle.formula.specs.Graph.{node_of}
use Rattle.checks.specs.Refusals.{Finding, bad_record, outside, Rows, head_rows, rows_of, record_rows}
use Rattle.formula.specs.declared.Formula.{Formula}
use Rattle.std.specs.Prelude.{Ok, Err}

-- a row refuses, so no row gives Ok
pub refuses : (r : Refusal) → ◌≡◌ {A = Finding} (Err r) (Ok tt) → ⊥
refuses r e = cc

pub head_never : (f : File) → Never (head_rows f) (Ok tt)
unfolding head_rows
head_never f = (refuses _, (refuses _, (refuses _, tt)))

pub rows_never : (r : Record) (n i : ℕ) → Never (rows_of r n i) (Ok tt)
unfolding rows_of
rows_never r n i = (refuses _, (refuses _, tt))

pub records_never : (f : File) (m : Formula) (k i : ℕ) → Never (record_rows f m k i) (Ok tt)
unfolding record_rows
records_never f m zero i = tt
records_never f m (suc k) i = search (never_append, rows_never, records_never f m k (i + 1))

-- one part of the table after another
module _ (a b : Rows) (x : Finding) (hx : x ≡ first a (Ok tt)) where
  pub then_refuse : (r : Refusal) → x ≡ Err r → Err r ≡ first (a ++ b) (Ok tt)
  then_refuse r e = sym (append_given a b (Ok tt) (Err r) (refuses r) (sym hx ∙ e))

  pub then_on : (y : Finding) → Never a (Ok tt) → x ≡ Ok tt → y ≡ first b (Ok tt) → y ≡ first (a ++ b) (Ok tt)
  then_on y v e h = h ∙ sym (append_clear a b (Ok tt) v (sym hx ∙ e))

-- the two rows of a record
module _ (r : Record) (n : ℕ) (i : SymbolId) where
  pub record_bad : bad_record r ≡ true → Err (refusal.Record i) ≡ first (rows_of r n i.0) (Ok tt)
  unfolding rows_of
  record_bad h = first_here _ _ _ _ h

  module _ (good : bad_record r ≡ false) where
    pub record_order : outside n (node_of r) ≡ true → Err (refusal.Order i) ≡ first (rows_of r n i.0) (Ok tt)
    unfolding rows_of
    record_order h = first_next _ _ _ _ _ good (first_here _ _ _ _ h)

    pub record_clear : outside n (node_of r) ≡ false → ◌≡◌ {A = Finding} (Ok tt) (first (rows_of r n i.0) (Ok tt))
    unfolding rows_of
    record_clear h = first_next _ _ _ _ _ good (first_next _ _ _ _ _ h (first_none _))

-- the scan: e is what the whole finds
pub scan_begin : (f : File) (m : Formula) → first (record_rows f m (m.count - 0) 0) (Ok tt) ≡ first (record_rows f m m.count 0) (Ok tt)
scan_begin f m = let z : m.count - 0 ≡ m.count = omega arith in rw z

module _ (f : File) (m : Formula) (i : ℕ) (e : Finding) (inv : first (record_rows f m (m.count - i) i) (Ok tt) ≡ e) where
  next_one : i < m.count → m.count - i ≡ suc (m.count - (i + 1))
  next_one h = omega arith

  module _ (h : i < m.count) (r : List ℕ) (x : Finding) (hr : r ≡ record_at f m i) (hx : x ≡ first (rows_of r m.count i) (Ok tt)) where
    scan_one : first (rows_of (record_at f m i) m.count i ++ record_rows f m (m.count - (i + 1)) (i + 1)) (Ok tt) ≡ e
    unfolding record_rows
    scan_one = rw (next_one h) at inv

    found : x ≡ first (rows_of (record_at f m i) m.count i) (Ok tt)
    found = hx ∙ ap (λ (l : List ℕ). first (rows_of l m.count i) (Ok tt)) hr

    pub scan_stop : (z : Refusal) → x ≡ Err z → Err z ≡ e
    scan_stop z q = then_refuse _ _ x found z q ∙ scan_one

    pub scan_again : x ≡ Ok tt → first (record_rows f m (m.count - (i + 1)) (i + 1)) (Ok tt) ≡ e
    scan_again q = sym (append_clear _ _ (Ok tt) (rows_never _ m.count i) (sym found ∙ q)) ∙ scan_one

  pub scan_over : m.count ≤ i → (Ok tt) ≡ e
  unfolding record_rows
  scan_over h = let z : m.count - i ≡ 0 = omega arith in first_none (Ok tt) ∙ (rw z at inv)
