-- The lines of a list of ids, after i of them. Assumes nothing.
use Prim.Native.Nat.{ℕ, ◌+◌, ◌-◌, ◌*◌, ◌^◌, ◌≤◌, ◌<◌}
use mathlib.Core.Path.{◌≡◌, refl, sym, ap, ◌∙◌}
use mathlib.Core.List.{[], ◌∷◌, ◌++◌, append-nil, append_assoc}
use native.Mathlib.Numerals.{add-one}
use native.Mathlib.Omega.{arith}
use lib.ListN.{length, get_or, take, drop, length-append, length-drop, take-append-drop, drop_of_length-le}
use lib.Seq.{take-suc, take_all}
use Rattle.text.specs.Text.{Text, Wrote, WroteUpTo}
use Rattle.text.proofs.Writing.{wrote_nothing, wrote_append, wrote_kept, placed_rest}
use Rattle.symbols.specs.Graph.{Id, Graph}
use Rattle.formula.specs.Graph.{node_is}
use Rattle.formula.specs.declared.Node.{Node}
use Rattle.visits.specs.Walk.{Ids}
use Rattle.listing.specs.Listing.{line_of, lines}

module _ (g : Graph) where
  pub lines_append : (s t : Ids) → lines g (s ++ t) ≡ lines g s ++ lines g t
  unfolding lines
  lines_append [] t = refl
  lines_append (i ∷ s) t = ap (λ (l : Text). line_of i (g.node i) ++ l) (lines_append s t) ∙ sym (append_assoc (line_of i (g.node i)) (lines g s) (lines g t))

  lines_one : (i : Id) → lines g (i ∷ []) ≡ line_of i (g.node i)
  unfolding lines
  lines_one i = append-nil (line_of i (g.node i))

  -- one line more
  pub lines_next : (order : Ids) (i : ℕ) → i < length order → lines g (take (i + 1) order) ≡ lines g (take i order) ++ line_of (get_or order i 0) (g.node (get_or order i 0))
  lines_next order i h =
      rw (add-one, take-suc order i 0 h) (lines_append (take i order) (get_or order i 0 ∷ []) ∙ ap (λ (l : Text). lines g (take i order) ++ l) (lines_one (get_or order i 0)))

  -- some lines are no longer than all
  pub lines_most : (order : Ids) (i : ℕ) → length (lines g (take i order)) ≤ length (lines g order)
  lines_most order i =
      let e : lines g order ≡ lines g (take i order) ++ lines g (drop i order) = ap (lines g) (sym (take-append-drop i order)) ∙ lines_append (take i order) (drop i order) in
      rw (e, length-append) (omega arith)

  module _ (order : Ids) (x : Node) where
    pub measure_more : (i j n k : ℕ) → i < length order → j ≡ get_or order i 0 → node_is x ≡ g.node j → n ≡ length (lines g (take i order)) → k ≡ length (line_of j (node_is x)) → n + k ≡ length (lines g (take (i + 1) order))
    measure_more i j n k h ej ex en ek = rw (lines_next order i h, length-append, ← ej, ← ex) (omega arith)

    -- write: a line at the front of the rest of the buffer is a line at the cursor
    pub write_more : (i j at n : ℕ) (o p q : Text) → i < length order → length order ≤ 4000 → j ≡ get_or order i 0 → node_is x ≡ g.node j → length o < 2 ^ 64 → at ≤ 41 * i
        → Wrote (lines g (take i order)) 0 o p at
        → WroteUpTo 41 (line_of j (node_is x)) 0 (take (length p - at) (drop at p)) q n
        → Wrote (lines g (take (i + 1) order)) 0 o (take at p ++ (q ++ drop (length p - at) (drop at p))) (at + n)
    write_more i j at n o p q h few ej ex fits small u w =
        let all : length (drop at p) ≤ length p - at = rw length-drop (omega arith) in
        rw (lines_next order i h, ← ej, ← ex, drop_of_length-le (drop at p) all, append-nil)
        (wrote_append fits u record {
          buffer = rw (w.wrote.buffer, take_all (length p - at) (drop at p) all) (placed_rest (line_of j (node_is x)) at p);
          place = omega (arith, w.short, w.wrote.place);
        })

  -- what is written so far is no more than the buffer holds
  pub write_inside : (order : Ids) (i at : ℕ) (o p : Text) → length (lines g order) ≤ length o → length o < 2 ^ 64 → Wrote (lines g (take i order)) 0 o p at → at ≤ length p
  write_inside order i at o p h fits w = omega (arith, wrote_kept w, w.place, lines_most order i)

  pub write_begin : (order : Ids) (o : Text) → Wrote (lines g (take 0 order)) 0 o o 0
  unfolding lines
  write_begin order o = wrote_nothing 0 o (omega arith)

  pub write_end : (order : Ids) (i at : ℕ) (o p : Text) → length order ≤ i → Wrote (lines g (take i order)) 0 o p at → Wrote (lines g order) 0 o p at
  write_end order i at o p h w = rw (← take_all i order h) w

  -- measure
  pub measure_begin : (order : Ids) → 0 ≡ length (lines g (take 0 order))
  unfolding lines
  measure_begin order = refl

  pub measure_end : (order : Ids) (i n : ℕ) → length order ≤ i → n ≡ length (lines g (take i order)) → n ≡ length (lines g order)
  measure_end order i n h e = rw (← take_all i order h) e
