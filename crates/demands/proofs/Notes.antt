-- "an optional note": two accepted files that differ in their note only are answered alike. Assumes nothing.
use mathlib.Core.Path.{◌≡◌, ap}
use Prim.Native.Nat.{ℕ}
use lib.ListN.{drop}
use Rattle.words.specs.Words.{Words}
use Rattle.symbols.specs.Graph.{Graph}
use Rattle.formula.specs.File.{File}
use Rattle.checks.specs.Refusals.{accepted, verdict}
use Rattle.formula.specs.declared.Formula.{Formula}
use Rattle.filelaws.proofs.Notes.{same_graph}
use Rattle.search.specs.Machine.{Values}
use Rattle.rules.specs.Rules.{Rules}
use Rattle.solve.specs.Solve.{on_graph, answer}

pub note_alike : (ρ : Rules) (f g : File) (m w : Formula) (ws : Words) (budget : ℕ) (vs : Values) → verdict f ≡ accepted m → verdict g ≡ accepted w
    → drop m.first f ≡ drop w.first g → answer ρ f ws budget vs ≡ answer ρ g ws budget vs
unfolding answer
note_alike ρ f g m w ws budget vs e h d = rw (e, h) (ap (λ (x : Graph). on_graph ρ x ws budget vs) (same_graph f g m w e h d))
