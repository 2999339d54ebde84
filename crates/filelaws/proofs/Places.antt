-- No two rows of the check give the same refusal, so each row's refusal is given exactly when that row decides. Assumes nothing.
use Prim.Native.Nat.{ℕ, zero, suc, ◌+◌, ◌-◌, ◌*◌, ◌<◌}
use mathlib.Core.Path.{◌≡◌, refl, sym, ap, subst, ◌∙◌}
use mathlib.Core.Logic.{◌↔◌}
use native.Mathlib.Omega.{arith}
use native.Mathlib.Decide.{dec_le}
use lib.ListN.{length, length-append}
use Rattle.laws.specs.Rows.{gives_at, Decides, Given}
use Rattle.laws.proofs.Rows.{gives_left, gives_right, holds_within}
use Rattle.symbols.specs.Graph.{Graph}
use Rattle.symbols.specs.declared.Refusal.{Refusal}
use Rattle.symbols.specs.declared.Refusal.TheVariants as refusal
use Rattle.formula.specs.File.{File, formula_of}
use Rattle.formula.specs.Graph.{graph_of}
use Rattle.checks.specs.Refusals.{Finding, head_rows, rows_of, record_rows, cycle_rows, root_rows, body_rows, checks, refuse, verdict}
use Rattle.filelaws.proofs.Exactly.{graph_rows, refused_exactly}
use Rattle.formula.specs.declared.Formula.{Formula}
use Rattle.std.specs.Prelude.{Ok, Err}

-- where a refusal stands in the table of a file with n nodes
unfoldable pub place_of : ℕ → Refusal → ℕ
place_of n refusal.Size = 0
place_of n refusal.Trailer = 1
place_of n refusal.Span = 2
place_of n (refusal.Record i) = 3 + 2 * i.0
place_of n (refusal.Order i) = 4 + 2 * i.0
place_of n refusal.Root = 3 + 3 * n
place_of n refusal.FixedRoot = 4 + 3 * n
place_of n refusal.Room = 0
place_of n refusal.Words = 0
place_of n refusal.Arity = 0
place_of n refusal.NoInverse = 0
place_of n refusal.Dry = 0
place_of n (refusal.Cycle i) = 3 + 2 * n + i.0
place_of n refusal.Short = 0

unfoldable finding_place : ℕ → Finding → ℕ
finding_place n (Ok u) = 0
finding_place n (Err r) = place_of n r

pub records_length : (f : File) (m : Formula) (k i : ℕ) → length (record_rows f m k i) ≡ 2 * k
unfolding record_rows rows_of
records_length f m zero i = refl
records_length f m (suc k) i = let e = records_length f m k (i + 1) in omega arith

pub cycles_length : (g : Graph) (k i : ℕ) → length (cycle_rows g k i) ≡ k
unfolding cycle_rows
cycles_length g zero i = refl
cycles_length g (suc k) i = let e = cycles_length g k (i + 1) in omega arith

module _ (n : ℕ) where
  at_record : (f : File) (m : Formula) (k i j : ℕ) → j < 2 * k → finding_place n (gives_at (record_rows f m k i) (Ok tt) j) ≡ 3 + 2 * i + j
  unfolding record_rows rows_of place_of finding_place
  at_record f m zero i j p = absurd (omega arith)
  at_record f m (suc k) i zero p = omega arith
  at_record f m (suc k) i (suc zero) p = omega arith
  at_record f m (suc k) i (suc (suc j)) p = let e = at_record f m k (i + 1) j (omega arith) in omega arith

  at_cycle : (g : Graph) (k i j : ℕ) → j < k → finding_place n (gives_at (cycle_rows g k i) (Ok tt) j) ≡ 3 + 2 * n + i + j
  unfolding cycle_rows place_of finding_place
  at_cycle g zero i j p = absurd (omega arith)
  at_cycle g (suc k) i zero p = omega arith
  at_cycle g (suc k) i (suc j) p = let e = at_cycle g k (i + 1) j (omega arith) in omega arith

  at_root : (f : File) (m : Formula) (j : ℕ) → j < 2 → finding_place n (gives_at (root_rows f m) (Ok tt) j) ≡ 3 + 3 * n + j
  unfolding root_rows place_of finding_place
  at_root f m zero p = omega arith
  at_root f m (suc zero) p = omega arith
  at_root f m (suc (suc j)) p = absurd (omega arith)

at_graph : (f : File) (m : Formula) (j : ℕ) → j < m.count + 2 → finding_place m.count (gives_at (graph_rows f m) (Ok tt) j) ≡ 3 + 2 * m.count + j
at_graph f m j p =
    let n = m.count in
    let c = cycle_rows (graph_of f m) n 0 in
    let l = cycles_length (graph_of f m) n 0 in
    elim (dec_le n j) [
      | yes h ↦ ap (finding_place n) (gives_right c (root_rows f m) (Ok tt) j (j - n) (omega arith)) ∙ at_root n f m (j - n) (omega arith) ∙ (omega arith)
      | no h ↦ ap (finding_place n) (gives_left c (root_rows f m) (Ok tt) j (omega arith)) ∙ at_cycle n (graph_of f m) n 0 j (omega arith) ∙ (omega arith)
    ]

at_body : (f : File) (m : Formula) (j : ℕ) → j < 3 * m.count + 2 → finding_place m.count (gives_at (body_rows f m) (Ok tt) j) ≡ 3 + j
unfolding body_rows
at_body f m j p =
    let n = m.count in
    let l = records_length f m n 0 in
    elim (dec_le (2 * n) j) [
      | yes h ↦
          ap (finding_place n) (gives_right (record_rows f m n 0) (graph_rows f m) (Ok tt) j (j - 2 * n) (omega arith)) ∙ at_graph f m (j - 2 * n) (omega arith)
          ∙ (omega arith)
      | no h ↦
          ap (finding_place n) (gives_left (record_rows f m n 0) (graph_rows f m) (Ok tt) j (omega arith)) ∙ at_record n f m n 0 j (omega arith) ∙ (omega arith)
    ]

root_length : (f : File) (m : Formula) → length (root_rows f m) ≡ 2
unfolding root_rows
root_length f m = refl

body_length : (f : File) (m : Formula) → length (body_rows f m) ≡ 3 * m.count + 2
unfolding body_rows
body_length f m =
    let n = m.count in
    let l = records_length f m n 0 in
    let c = cycles_length (graph_of f m) n 0 in
    let r = root_length f m in
    let z = length-append (cycle_rows (graph_of f m) n 0) (root_rows f m) in
    length-append (record_rows f m n 0) (graph_rows f m) ∙ (omega arith)

-- three rows of the head, two of each record, one of each node, two of the root
pub checks_length : (f : File) → length (checks f) ≡ 3 * (formula_of f).count + 5
unfolding checks head_rows
checks_length f = let l = body_length f (formula_of f) in omega arith

place : (f : File) (i : ℕ) → i < length (checks f) → finding_place (formula_of f).count (gives_at (checks f) (Ok tt) i) ≡ i
unfolding checks head_rows place_of finding_place
place f zero p = refl
place f (suc zero) p = refl
place f (suc (suc zero)) p = refl
place f (suc (suc (suc j))) p = let l = body_length f (formula_of f) in at_body f (formula_of f) j (omega arith) ∙ (omega arith)

-- so a refusal is given at its own place only
pub given_place : (f : File) (r : Refusal) (g : Given (checks f) (Ok tt) (Err r)) → g.at ≡ place_of (formula_of f).count r
unfolding finding_place
given_place f r g =
    sym (place f g.at (holds_within (checks f) g.at g.decides.holds)) ∙ ap (finding_place (formula_of f).count) g.gives

-- refused with the refusal of row i ↔ row i's condition holds and no earlier one does
pub row_exactly : (f : File) (i : ℕ) (r : Refusal) → i < length (checks f) → gives_at (checks f) (Ok tt) i ≡ Err r → (verdict f ≡ refuse r) ↔ Decides (checks f) i
row_exactly f i r p e =
    let n = (formula_of f).count in (
      λ v.
          let g = (refused_exactly f r).0 v in
          let q : g.at ≡ i = sym (place f g.at (holds_within (checks f) g.at g.decides.holds)) ∙ ap (finding_place n) (g.gives ∙ sym e) ∙ place f i p in
          subst (Decides (checks f)) q g.decides,
      λ d. (refused_exactly f r).1 record { at = i; decides = d; gives = e },
    )
