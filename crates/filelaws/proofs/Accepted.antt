-- What an accepted file is known to be: its bytes, and that its graph is well-formed. Assumes nothing.
use Prim.Native.Nat.{◌-◌, ◌%◌, ◌≤◌}
use mathlib.Core.Path.{◌≡◌, sym, ap, subst, ◌∙◌}
use mathlib.Core.Bool.{true, false, not, ◌||◌}
use native.Mathlib.Omega.{arith}
use lib.ListN.{length}
use lib.Dec.{ltb, eqb}
use borrow.Author.Tests.{ltb-false, eqb-true, eqb-false, not-false}
use Rattle.symbols.specs.Graph.{WellFormed}
use Rattle.symbols.specs.Order.{Acyclic}
use Rattle.symbols.proofs.Tests.{or_no}
use Rattle.symbols.proofs.Ranks.{well_formed_acyclic}
use Rattle.formula.specs.File.{File, Record, formula_of, record_at, distance_of}
use Rattle.formula.specs.Graph.{kind_of, node_of, graph_of}
use Rattle.checks.specs.Refusals.{unknown, clean, wide, bad_span, bad_record, accepted, verdict}
use Rattle.checks.proofs.Joining.{span_few}
use Rattle.formula.specs.declared.Formula.{Formula}
use Rattle.filelaws.specs.Known.{Known}
use Rattle.filelaws.proofs.Exactly.{accepted_formula}
use Rattle.filelaws.proofs.Numbers.{until_inside, accepted_when}

-- the distance of a good span
pub record Spanned (f : File) : Type 0 where
  pub some : distance_of f ≡ 0 → ⊥
  pub whole : distance_of f % 16 ≡ 0
  pub inside : distance_of f ≤ length f - 16

spanned : (f : File) → bad_span f ≡ false → Spanned f
spanned f e =
    let d = distance_of f in
    let h = or_no _ (ltb (length f - 16) d) e in
    let k = or_no _ (ltb 64000 d) h.0 in
    let l = or_no (eqb d 0) _ k.0 in
    record {
      some = eqb-false d 0 l.0;
      whole = eqb-true (d % 16) 0 (not-false _ l.1);
      inside = ltb-false (length f - 16) d h.1;
    }

good : (r : Record) → bad_record r ≡ false → (unknown (kind_of r) ≡ false) × (clean (kind_of r) r ≡ true) × (wide (node_of r) ≡ false)
good r e =
    let w = or_no (unknown (kind_of r) || not (clean (kind_of r) r)) (wide (node_of r)) e in
    let h = or_no (unknown (kind_of r)) (not (clean (kind_of r) r)) w.0 in
    (h.0, not-false (clean (kind_of r) r) h.1, w.1)

known_whole : (f : File) → verdict f ≡ accepted (formula_of f) → Known f (formula_of f)
unfolding formula_of
known_whole f e =
    let w = (accepted_when f).0 e in
    let s = spanned f w.0.records.headed.span in
    let z = or_no (ltb (length f) 16) _ w.0.records.headed.size in
    let low = ltb-false (length f) 16 z.0 in
    let high = ltb-false 65536 (length f) z.1 in
    record {
      some = let a = s.some in let b = s.whole in omega arith;
      few = span_few f w.0.records.headed.span;
      filled = let b = s.whole in let c = s.inside in omega arith;
      small = high;
      rooted = w.1;
      kinds = λ i p. (good (record_at f (formula_of f) i) (w.0.records.fine i p).known).0;
      zero = λ i p. (good (record_at f (formula_of f) i) (w.0.records.fine i p).known).1;
      narrow = λ i p. (good (record_at f (formula_of f) i) (w.0.records.fine i p).known).2;
    }

well_formed_whole : (f : File) → verdict f ≡ accepted (formula_of f) → WellFormed (graph_of f (formula_of f))
unfolding graph_of
well_formed_whole f e =
    let w = (accepted_when f).0 e in
    record { inside = until_inside f w.0.records; acyclic = w.0.free; rooted = w.1 }

module _ (f : File) (m : Formula) (e : verdict f ≡ accepted m) where
  own : m ≡ formula_of f
  own = accepted_formula f m e

  at_own : verdict f ≡ accepted (formula_of f)
  at_own = e ∙ ap accepted own

  pub accepted_known : Known f m
  accepted_known = subst (Known f) (sym own) (known_whole f at_own)

  -- what the check accepts is a well-formed graph
  pub accepted_well_formed : WellFormed (graph_of f m)
  accepted_well_formed = subst (λ (w : Formula). WellFormed (graph_of f w)) (sym own) (well_formed_whole f at_own)

  pub accepted_acyclic : Acyclic (graph_of f m)
  accepted_acyclic = let w = accepted_well_formed in well_formed_acyclic (graph_of f m) w.inside w.acyclic
