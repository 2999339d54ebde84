-- One law for each `return`. Assumes nothing.
use Prim.Native.Nat.{ℕ, ◌+◌, ◌*◌, ◌^◌, ◌≤◌, ◌<◌}
use mathlib.Core.Path.{◌≡◌}
use mathlib.Core.List.{[], ◌++◌, append_assoc}
use native.Mathlib.Numerals.{add-one}
use native.Mathlib.Omega.{arith}
use lib.ListN.{length, length-append}
use Rattle.text.specs.Text.{Text, Place, bytes, Wrote, WroteUpTo}
use Rattle.text.proofs.Writing.{wrote_nothing, wrote_append}
use Rattle.symbols.specs.Graph.{Id, Value, Graph}
use Rattle.formula.specs.File.{File}
use Rattle.formula.specs.Graph.{graph_of, node_is}
use Rattle.formula.specs.declared.Formula.{Formula}
use Rattle.formula.specs.declared.Node.{Node}
use Rattle.search.specs.Machine.{Values, value_of}
use Rattle.turns.specs.Turn.{end_of, out_of}
use Rattle.turns.specs.declared.Outcome.{Outcome}
use Rattle.report.specs.Report.{field, end_word, counts, first_line, input_line, line_of, lines_below, result_text}
use Rattle.report.proofs.Lengths.{input_length, first_length}

module _ (at a b c d : Place) (o p q s t : Text) (fits : length o < 2 ^ 64) where
  -- put_input
  pub input_line_lem : (i l v : ℕ) → i < 2 ^ 32 → l < 2 ^ 64 → v < 2 ^ 64 → Wrote (field "x" i) at o p a → Wrote (field " " l) a p q b → Wrote (field " " v) b q s c → Wrote (bytes "\n") c s t d
      → WroteUpTo 54 (input_line i l v) at o t d
  unfolding input_line
  input_line_lem i l v hi hl hv u w y z = record { wrote = wrote_append fits (wrote_append fits (wrote_append fits u w) y) z; short = input_length i l v hi hl hv }

  -- put_counts
  pub four_counts : (x : Outcome) → Wrote (field " rounds=" x.rounds) at o p a → Wrote (field " lost=" x.lost) a p q b → Wrote (field " steps=" x.steps) b q s c → Wrote (field " words=" x.words) c s t d
      → Wrote (counts (out_of x [])) at o t d
  unfolding counts
  four_counts x u v w y = rw (← append_assoc (field " rounds=" x.rounds ++ field " lost=" x.lost) (field " steps=" x.steps) (field " words=" x.words)) (wrote_append fits (wrote_append fits (wrote_append fits u v) w) y)

module _ (at a b c : Place) (o p q s : Text) (fits : length o < 2 ^ 64) where
  -- put_first
  pub first_line_lem : (x : Outcome) → x.rounds < 2 ^ 32 → x.lost < 2 ^ 32 → x.steps < 2 ^ 32 → x.words < 2 ^ 64
      → Wrote (end_word (end_of x.end)) at o p a
      → Wrote (counts (out_of x [])) a p q b
      → Wrote (bytes "\n") b q s c
      → WroteUpTo 85 (first_line (out_of x [])) at o s c
  unfolding first_line
  first_line_lem x hr hl hs hw u v w = record { wrote = wrote_append fits (wrote_append fits u v) w; short = first_length (out_of x []) hr hl hs hw }

-- result
pub whole_result : (x : Outcome) (f : File) (m : Formula) (vs : Values) (a b : Place) (o p q : Text) → length o < 2 ^ 64
    → WroteUpTo 85 (first_line (out_of x [])) 0 o p a
    → WroteUpTo (54 * m.count) (lines_below (graph_of f m) vs m.count) a p q b
    → WroteUpTo (85 + 54 * m.count) (result_text (graph_of f m) (out_of x vs)) 0 o q b
unfolding result_text first_line counts graph_of
whole_result x f m vs a b o p q fits u v = record { wrote = wrote_append fits u.wrote v.wrote; short = rw length-append (omega (arith, u.short, v.short)) }

-- put_lines, after i nodes
module _ (g : Graph) (vs : Values) where
  pub lines_begin : (at : Place) (o : Text) → at < 2 ^ 64 → WroteUpTo (54 * 0) (lines_below g vs 0) at o o at
  unfolding lines_below
  lines_begin at o fits = record { wrote = wrote_nothing at o fits; short = omega arith }

  pub lines_more : (i : Id) (x : Node) (v : Value) (at a b : Place) (o p q : Text) → length o < 2 ^ 64 → node_is x ≡ g.node i → v ≡ value_of vs i
      → WroteUpTo (54 * i) (lines_below g vs i) at o p a
      → WroteUpTo 54 (line_of i (node_is x) v) a p q b
      → WroteUpTo (54 * (i + 1)) (lines_below g vs (i + 1)) at o q b
  unfolding lines_below
  lines_more i x v at a b o p q fits ex ev u w =
      rw (add-one, ← ex, ← ev) record { wrote = wrote_append fits u.wrote w.wrote; short = rw length-append (omega (arith, u.short, w.short)) }

  pub lines_end : (i k : ℕ) (at n : Place) (o p : Text) → k ≤ i → i ≤ k → WroteUpTo (54 * i) (lines_below g vs i) at o p n → WroteUpTo (54 * k) (lines_below g vs k) at o p n
  lines_end i k at n o p h h' w = let e : k ≡ i = omega arith in rw e w
