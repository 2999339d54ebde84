-- The note says nothing: accepted files that are alike from their first record on are the same graph. Assumes nothing.
use Prim.Native.Nat.{ℕ, ◌+◌, ◌-◌, ◌*◌, ◌/◌}
use mathlib.Core.Path.{◌≡◌, sym, ap, ap₂, fun_ext, subst, ◌∙◌}
use mathlib.Core.List.{List, []}
use native.Mathlib.Omega.{arith}
use lib.ListN.{length, take, drop, length-drop}
use lib.Seq.{drop-drop}
use lib.Dec.{ltb}
use Rattle.laws.specs.Pick.{pick}
use Rattle.symbols.specs.Graph.{Graph}
use Rattle.formula.specs.File.{File, Record, le32, trailer_of, record_at, formula_of}
use Rattle.formula.specs.Graph.{graph_of, node_of}
use Rattle.checks.specs.Refusals.{accepted, verdict}
use Rattle.formula.specs.declared.Formula.{Formula}
use Rattle.filelaws.proofs.Exactly.{accepted_formula}
use Rattle.filelaws.proofs.Accepted.{accepted_known}

-- the graph of a trailer and of what stands at each id
unfoldable graph_by : Record → (ℕ → Record) → Graph
graph_by t h = record { count = le32 t 0 / 16; root = le32 t 4; node = λ i. node_of (pick (ltb i (le32 t 0 / 16)) (h i) []) }

-- of the records and the trailer alone
unfoldable graph_from : List ℕ → Graph
graph_from s = graph_by (drop (length s - 16) s) (λ i. take 16 (drop (16 * i) s))

module _ (f : File) where
  abbrev rest : List ℕ
  rest = drop (formula_of f).first f

  trailer_from : (formula_of f).first + 16 * (formula_of f).count + 16 ≡ length f → trailer_of f ≡ drop (length rest - 16) rest
  unfolding trailer_of
  trailer_from h =
      let l = length-drop (formula_of f).first f in
      let z : length f - 16 ≡ (formula_of f).first + (length rest - 16) = omega arith in
      ap (λ (x : ℕ). drop x f) z ∙ sym (drop-drop (length rest - 16) (formula_of f).first f)

  from_rest : (formula_of f).first + 16 * (formula_of f).count + 16 ≡ length f → graph_of f (formula_of f) ≡ graph_from rest
  unfolding graph_of record_at formula_of graph_by graph_from
  from_rest h = ap₂ graph_by (trailer_from h) (fun_ext (λ i. ap (take 16) (sym (drop-drop (16 * i) (formula_of f).first f))))

accepted_rest : (f : File) (m : Formula) → verdict f ≡ accepted m → graph_of f m ≡ graph_from (drop m.first f)
accepted_rest f m e =
    let own = accepted_formula f m e in
    subst (λ (w : Formula). graph_of f w ≡ graph_from (drop w.first f)) (sym own) (from_rest f (subst (λ (w : Formula). w.first + 16 * w.count + 16 ≡ length f) own (accepted_known f m e).filled))

-- two accepted files that differ only in what stands before their first record decode to the same graph
pub same_graph : (f g : File) (m w : Formula) → verdict f ≡ accepted m → verdict g ≡ accepted w → drop m.first f ≡ drop w.first g → graph_of f m ≡ graph_of g w
same_graph f g m w e h q = accepted_rest f m e ∙ ap graph_from q ∙ sym (accepted_rest g w h)
