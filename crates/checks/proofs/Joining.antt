-- The parts of the table joined: one law for each `return`, and what each part lends the next. Assumes nothing.
use mathlib.Core.Path.{◌≡◌, sym, ap, subst, ◌∙◌}
use Prim.Native.Nat.{◌-◌, ◌%◌, ◌≤◌}
use mathlib.Core.List.{◌++◌}
use mathlib.Core.Bool.{false, not, ◌||◌}
use native.Mathlib.Omega.{arith}
use lib.ListN.{length}
use lib.Dec.{ltb, eqb}
use borrow.Author.Tests.{ltb-false}
use Rattle.laws.specs.Rows.{first}
use Rattle.laws.proofs.Rows.{clear_head}
use Rattle.symbols.proofs.Tests.{or_no}
use Rattle.symbols.specs.declared.Refusal.{Refusal}
use Rattle.formula.specs.File.{File, distance_of, formula_of}
use Rattle.formula.specs.Graph.{graph_of}
use Rattle.formula.specs.declared.Formula.{Formula}
use Rattle.checks.specs.Refusals.{Finding, bad_span, head_rows, record_rows, cycle_rows, root_rows, body_rows, accepted, refuse, answer, checks, verdict}
use Rattle.std.specs.Prelude.{Ok, Err}
use Rattle.checks.proofs.Scanning.{refuses, head_never, records_never, then_refuse, then_on}
use Rattle.checks.proofs.Cycles.{cycles_never, clear_inside}

-- the cycles, then the root
module _ (f : File) (m : Formula) (x : Finding) (hx : x ≡ first (cycle_rows (graph_of f m) m.count 0) (Ok tt)) where
  pub graph_refuse : (r : Refusal) → x ≡ Err r → Err r ≡ first (cycle_rows (graph_of f m) m.count 0 ++ root_rows f m) (Ok tt)
  graph_refuse r e = then_refuse _ _ x hx r e

  pub graph_on : (y : Finding) → x ≡ Ok tt → y ≡ first (root_rows f m) (Ok tt) → y ≡ first (cycle_rows (graph_of f m) m.count 0 ++ root_rows f m) (Ok tt)
  graph_on y e h = then_on _ _ x hx y (cycles_never (graph_of f m) m.count 0) e h

-- the records, then the graph
module _ (f : File) (m : Formula) (x : Finding) (hx : x ≡ first (record_rows f m m.count 0) (Ok tt)) where
  pub body_refuse : (r : Refusal) → x ≡ Err r → Err r ≡ first (body_rows f m) (Ok tt)
  unfolding body_rows
  body_refuse r e = then_refuse _ _ x hx r e

  pub body_on : (y : Finding) → x ≡ Ok tt → y ≡ first (cycle_rows (graph_of f m) m.count 0 ++ root_rows f m) (Ok tt) → y ≡ first (body_rows f m) (Ok tt)
  unfolding body_rows
  body_on y e h = then_on _ _ x hx y (records_never f m m.count 0) e h

-- a distance of 64,000 is that of 4,000 nodes
pub span_few : (f : File) → bad_span f ≡ false → (formula_of f).count ≤ 4000
unfolding formula_of
span_few f e =
    let d = distance_of f in
    let h = or_no _ (ltb (length f - 16) d) e in
    let k = or_no (eqb d 0 || not (eqb (d % 16) 0)) (ltb 64000 d) h.0 in
    let l = ltb-false 64000 d k.1 in
    omega arith

pub head_few : (f : File) (m : Formula) (x : Finding) → m ≡ formula_of f → x ≡ first (head_rows f) (Ok tt) → x ≡ Ok tt → m.count ≤ 4000
unfolding head_rows
head_few f m x hm hx e =
    let a = clear_head _ _ _ (Ok tt) (refuses _) (sym hx ∙ e) in
    let b = clear_head _ _ _ (Ok tt) (refuses _) a.1 in
    let c = clear_head _ _ _ (Ok tt) (refuses _) b.1 in
    subst (λ (w : Formula). w.count ≤ 4000) (sym hm) (span_few f c.0)

-- the whole: what the parts find, one after another, is the verdict
module _ (f : File) (m : Formula) (hm : m ≡ formula_of f) where
  whole : (x : Finding) → x ≡ first (head_rows f ++ body_rows f m) (Ok tt) → answer x m ≡ verdict f
  unfolding verdict checks
  whole x hx = ap (λ (z : Finding). answer z m) hx ∙ ap (λ (z : Formula). answer (first (head_rows f ++ body_rows f z) (Ok tt)) z) hm

  module _ (h : Finding) (hh : h ≡ first (head_rows f) (Ok tt)) where
    pub refused_head : (r : Refusal) → h ≡ Err r → refuse r ≡ verdict f
    refused_head r e = whole (Err r) (then_refuse _ (body_rows f m) h hh r e)

    module _ (eh : h ≡ Ok tt) (x : Finding) (hx : x ≡ first (record_rows f m m.count 0) (Ok tt)) where
      on_body : (v : Finding) → v ≡ first (body_rows f m) (Ok tt) → answer v m ≡ verdict f
      on_body v e = whole v (then_on _ (body_rows f m) h hh v (head_never f) eh e)

      pub refused_records : (r : Refusal) → x ≡ Err r → refuse r ≡ verdict f
      refused_records r e = on_body (Err r) (body_refuse f m x hx r e)

      module _ (ex : x ≡ Ok tt) (y : Finding) (hy : y ≡ first (cycle_rows (graph_of f m) m.count 0) (Ok tt)) where
        pub refused_cycles : (r : Refusal) → y ≡ Err r → refuse r ≡ verdict f
        refused_cycles r e = on_body (Err r) (body_on f m x hx (Err r) ex (graph_refuse f m y hy r e))

        module _ (ey : y ≡ Ok tt) (z : Finding) (hz : z ≡ first (root_rows f m) (Ok tt)) where
          on_root : answer z m ≡ verdict f
          on_root = on_body z (body_on f m x hx z ex (graph_on f m y hy z ey hz))

          pub refused_root : (r : Refusal) → z ≡ Err r → refuse r ≡ verdict f
          refused_root r e = ap (λ (v : Finding). answer v m) (sym e) ∙ on_root

          pub accepted_file : z ≡ Ok tt → accepted m ≡ verdict f
          accepted_file e = ap (λ (v : Finding). answer v m) (sym e) ∙ on_root

-- what each return of the whole check rests on, and what each part lends the next
pub ruleset parts = (clear_inside, head_few, refused_head, refused_records, refused_cycles, refused_root, accepted_file)
