-- The play of edition one owes nothing: over every accepted file it keeps what the search asks. Assumes nothing.
use Prim.Native.Nat.{◌≤◌}
use mathlib.Core.Path.{◌≡◌, sym, ap, subst, ◌∙◌}
use mathlib.Core.Logic.{inl, inr}
use mathlib.Core.List.{◌++◌}
use mathlib.Core.Bool.{false}
use native.Mathlib.Omega.{arith}
use lib.ListN.{length}
use lib.Dec.{eqb}
use borrow.Author.Tests.{eqb-true, not-false}
use Rattle.words.specs.Words.{Words, Place}
use Rattle.words.proofs.Draws.{Small}
use Rattle.symbols.specs.Graph.{Value, Node, constant, Graph}
use Rattle.symbols.specs.Order.{Acyclic}
use Rattle.formula.specs.File.{File, formula_of}
use Rattle.formula.specs.Graph.{graph_of}
use Rattle.checks.specs.Refusals.{accepted, verdict}
use Rattle.checks.specs.Refusals as refusals
use Rattle.formula.specs.declared.Formula.{Formula}
use Rattle.filelaws.proofs.Exactly.{accepted_formula}
use Rattle.filelaws.proofs.Numbers.{accepted_when}
use Rattle.filelaws.proofs.Accepted.{accepted_well_formed, accepted_acyclic}
use Rattle.filelaws.proofs.Nodes.{Bytes, constant_small}
use Rattle.search.specs.Machine.{value_of}
use Rattle.search.specs.Solution.{Sane}
use Rattle.search.specs.Lawful.{Redoes, Lawful, Forward, Longer}
use Rattle.rules.specs.Rules.{Rules}
use Rattle.rules.specs.One.{one}
use Rattle.promises.specs.Choice.{Onward}
use Rattle.assign.specs.Start.{start_of}
use Rattle.assign.proofs.Laws.{settle_length, settle_redone, all_below, start_sane}
use Rattle.monster.specs.Step.{play_of}
use Rattle.lawful.specs.Owed.{false_kinds, SteadyRules}
use Rattle.lawful.proofs.Steps.{LedTo, step_onward, step_same, step_led}

onward_on : (ws : Words) (n m : Place) → Onward ws n m → n ≤ m
onward_on ws n m (inl e) = omega arith
onward_on ws n m (inr f) = omega (arith, f.moved)

onward_within : (ws : Words) (n m : Place) → Onward ws n m → n ≤ length ws → m ≤ length ws
onward_within ws n m (inl e) h = omega arith
onward_within ws n m (inr f) h = f.within

-- of any graph, under any steady rules
module _ (ρ : Rules) (steady : SteadyRules ρ) (g : Graph) (ws : Words) where
  -- words are taken forward, and none past the last of the lent ones
  pub play_forward : Forward (play_of ρ g ws) (length ws)
  play_forward = record {
    on = λ vs i t m. onward_on ws m _ (step_onward ρ steady g vs ws i t m);
    within = λ vs i t m h. onward_within ws m _ (step_onward ρ steady g vs ws i t m) h;
  }

  -- with more words every step that did not run dry is the same
  pub play_longer : (us : Words) → Longer (play_of ρ g ws) (play_of ρ g (ws ++ us)).step
  play_longer us = record { same = λ vs i t m. step_same ρ steady g vs ws us i t m }

-- of an acyclic graph: what propagation leaves
pub play_redoes : (ρ : Rules) (g : Graph) (ws : Words) → Acyclic g → Redoes (play_of ρ g ws)
play_redoes ρ g ws acyclic = record { long = λ vs l. settle_length g vs; redone = λ vs l i p. settle_redone g acyclic vs i p }

-- of an accepted file
not_fixed : (q : Node) → refusals.fixed q ≡ false → (c : Value) → q ≡ constant c → c ≡ 1
not_fixed q h c e = let f : refusals.fixed (constant c) ≡ false = ap refusals.fixed (sym e) ∙ h in eqb-true c 1 (not-false (eqb c 1) f)

root_free : (f : File) (m : Formula) → m ≡ formula_of f → verdict f ≡ accepted m → refusals.fixed ((graph_of f m).node (graph_of f m).root) ≡ false
unfolding graph_of
root_free f m own e = subst (λ (w : Formula). refusals.fixed ((graph_of f w).node w.root.0) ≡ false) (sym own) ((accepted_when f).0 (e ∙ ap accepted own)).2

module _ (f : File) (m : Formula) (ok : verdict f ≡ accepted m) (ws : Words) (small : Small ws) where
  abbrev g : Graph
  g = graph_of f m

  acyclic : Acyclic g
  acyclic = accepted_acyclic f m ok

  -- "values are 0..M": the start's values are sane
  pub play_start : Bytes f → Sane g (start_of g ws)
  play_start bytes = start_sane g ws acyclic small (λ i c p e. constant_small f m i c bytes e)

  pub play_lawful : Lawful false_kinds (play_of one g ws)
  play_lawful = record {
    acyclic = acyclic;
    rooted = (accepted_well_formed f m ok).rooted;
    fixed = not_fixed (g.node g.root) (root_free f m (accepted_formula f m ok) ok);
    redoes = play_redoes one g ws acyclic;
    led =
        λ vs i t n x u k c sane p h e.
        subst (LedTo (g.node i) (value_of vs) t) e (step_led ws small vs (all_below g vs sane.long sane.below) t h g i n);
  }
