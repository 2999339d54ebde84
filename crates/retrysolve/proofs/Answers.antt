-- One law for each `return`. Assumes nothing.
use Rattle.std.specs.Prelude.{Ok, Err}
use Prim.Native.Nat.{ℕ, ◌+◌, ◌*◌, ◌/◌, ◌≤◌}
use mathlib.Core.Path.{◌≡◌, refl, sym, ◌∙◌}
use mathlib.Core.Bool.{not}
use mathlib.Core.List.{List, [], ◌∷◌, ◌++◌}
use native.Mathlib.Omega.{arith}
use lib.ListN.{length, take, drop, replicate, length-replicate}
use lib.Seq.{length-take-le}
use lib.Dec.{ltb, eqb}
use Rattle.laws.specs.Rows.{row, first}
use Rattle.words.specs.Words.{Words}
use Rattle.text.specs.Text.{Text, Place, WroteUpTo}
use Rattle.symbols.specs.Graph.{Graph}
use Rattle.symbols.specs.declared.Refusal.TheVariants as refusal
use Rattle.formula.specs.File.{File}
use Rattle.formula.specs.Graph.{graph_of}
use Rattle.checks.specs.Refusals as file
use Rattle.checks.specs.Refusals.{Finding, verdict}
use Rattle.formula.specs.declared.Formula.{Formula}
use Rattle.search.specs.Machine.{Values}
use Rattle.rules.specs.One.{one}
use Rattle.assign.specs.Start.{wanted}
use Rattle.solve.specs.Solve.{lent_rows, run, on_graph, on_verdict, answer}
use Rattle.intake.specs.Words.{up_to, words_of, words_below}
use Rattle.intake.proofs.Words.{words_part}
use Rattle.retrysolve.specs.Printed.{budget, text_of, printed_with}

more : {j k : ℕ} {t : Text} {at n : Place} {o p : Text} → j ≤ k → WroteUpTo j t at o p n → WroteUpTo k t at o p n
more h w = record { wrote = w.wrote; short = omega (arith, w.short) }

-- the values lent do not matter, but for their number
module _ (g : Graph) (ws : Words) (vs us : Values) (e : length vs ≡ length us) where
  graph_any : (h : Graph) → text_of g (on_graph one h ws budget vs) ≡ text_of g (on_graph one h ws budget us)
  unfolding on_graph lent_rows
  graph_any h = rw e (same (first (row (not (eqb (length us) h.count)) (Err refusal.Room) ∷ row (ltb (length ws) (wanted h)) (Err refusal.Words) ∷ []) (Ok tt)))
    where
      same : (x : Finding) → text_of g (run one h ws budget vs x) ≡ text_of g (run one h ws budget us x)
      same (Ok u) = refl
      same (Err r) = refl

  verdict_any : (f : File) (a : file.Answer) → text_of g (on_verdict one f ws budget vs a) ≡ text_of g (on_verdict one f ws budget us a)
  verdict_any f (file.accepted m) = graph_any (graph_of f m)
  verdict_any f (file.refused k is) = refl

  answer_any : (f : File) → text_of g (answer one f ws budget vs) ≡ text_of g (answer one f ws budget us)
  unfolding answer
  answer_any f = verdict_any f (verdict f)

-- solve_it
module _ (f s : List ℕ) (m : Formula) (w p : Words) (k : ℕ) (vs : Values) (n r : ℕ) (o q : Text) where
  pub solved_it : 4096 ≡ length w → k ≡ up_to (length w) (length s / 8) → p ≡ words_below s k ++ drop k w → 4000 ≡ length vs → n ≡ up_to 4000 m.count
      → WroteUpTo (85 + 54 * m.count) (text_of (graph_of f m) (answer one f (take k p) budget (take n vs))) 0 o q r
      → WroteUpTo (85 + 54 * m.count) (printed_with (graph_of f m) f (words_of 4096 s) (up_to 4000 m.count)) 0 o q r
  unfolding printed_with
  solved_it hw hk hp hv hn u =
      rw (← answer_any (graph_of f m) (words_of 4096 s) (take n vs) (replicate (up_to 4000 m.count) 0) lengths f, ← words_part s w p k hp 4096 hw hk) u
    where
      lengths : length (take n vs) ≡ length (replicate {A = ℕ} (up_to 4000 m.count) 0)
      lengths = length-take-le n vs (omega arith) ∙ hn ∙ sym (length-replicate (up_to 4000 m.count) 0)
