-- A bigger allowance keeps the answer: a call that is solved is answered alike with a bigger budget and more words. Assumes nothing.
use Prim.Native.Nat.{ℕ, zero, suc, ◌+◌, ◌%◌, ◌≤◌}
use mathlib.Core.Path.{◌≡◌, refl, sym, ap, ◌∙◌}
use mathlib.Core.List.{◌++◌}
use native.Mathlib.Omega.{arith}
use lib.ListN.{length, set, replicate, length-append, get_or-append}
use Rattle.words.specs.Words.{Words, Place}
use Rattle.symbols.specs.Graph.{Node, constant, input, unary, binary, Graph}
use Rattle.symbols.specs.Width.{room}
use Rattle.formula.specs.File.{File}
use Rattle.search.specs.Machine.{Values, solved, Out, search_of}
use Rattle.search.proofs.Longer.{search_longer}
use Rattle.rules.specs.One.{one}
use Rattle.assign.specs.Settle.{settle}
use Rattle.assign.specs.Start.{takes, wanted_up_to, wanted, first_by, first_of, given_up_to, start_from, start_of}
use Rattle.monster.specs.Step.{play_of}
use Rattle.solve.specs.Solve.{ended, answer}
use Rattle.lawful.proofs.Steady.{one_steady}
use Rattle.lawful.proofs.Plays.{play_longer}
use Rattle.demands.specs.Call.{graph_in, Accepted, search_in}
use Rattle.demands.proofs.Numbers.{given_none}

-- the start looks at no word past those that it takes
first_longer : (n : Node) (ws us : Words) (m : Place) → m + takes n ≤ length ws → first_by n (ws ++ us) m ≡ first_by n ws m
first_longer (constant c) ws us m h = refl
first_longer (input p) ws us m h = ap (λ (w : ℕ). w % room p) (get_or-append ws us 0 m (omega arith))
first_longer (unary a) ws us m h = get_or-append ws us 0 m (omega arith)
first_longer (binary o a b) ws us m h = get_or-append ws us 0 m (omega arith)

module _ (g : Graph) (ws us : Words) where
  given_longer : (k : ℕ) (vs : Values) → wanted_up_to g k ≤ length ws → given_up_to g (ws ++ us) k vs ≡ given_up_to g ws k vs
  unfolding given_up_to wanted_up_to first_of
  given_longer zero vs h = refl
  given_longer (suc k) vs h =
      ap (λ (xs : Values). set xs k (first_of g (ws ++ us) k)) (given_longer k vs (omega arith))
      ∙ ap (set (given_up_to g ws k vs) k) (first_longer (g.node k) ws us (wanted_up_to g k) h)

  pub start_longer : wanted g ≤ length ws → start_of g (ws ++ us) ≡ start_of g ws
  unfolding start_of start_from wanted
  start_longer h = ap (settle g) (given_longer g.count (replicate g.count 0) h)

module _ (f : File) (ws us : Words) (b c : ℕ) (vs : Values) (o : Out) (e : answer one f ws b vs ≡ ended o) (s : o.end ≡ solved) (h : b ≤ c) where
  abbrev g : Graph
  g = graph_in f

  met : Accepted f ws vs
  met = ((given_none f ws b vs o).0 e).0

  result : o ≡ search_in f ws b
  result = ((given_none f ws b vs o).0 e).1

  still : Accepted f (ws ++ us) vs
  still = record { file = met.file; room = met.room; words = omega (arith, met.words, length-append ws us) }

  -- "solved with the same values, rounds, lost rounds, steps and words"
  pub bigger_allowance : answer one f (ws ++ us) c vs ≡ ended o
  bigger_allowance =
      (given_none f (ws ++ us) c vs o).1 (
        still,
        result ∙ sym (search_longer (play_of one g ws) (play_of one g (ws ++ us)).step (play_longer one one_steady g ws us) b c (start_of g ws) (wanted g) h (ap (λ (x : Out). x.end) (sym result) ∙ s))
            ∙ ap (λ (xs : Values). search_of (play_of one g (ws ++ us)) c xs (wanted g)) (sym (start_longer g ws us met.words)),
      )
