-- Demands 2 and 3 of the whole call, from the definition that `solve`'s contract names. All that is asked of a call is what lent
-- slices always are: bytes, and words of 64 bits. Assumes nothing else.
use Prim.Native.Nat.{ℕ}
use mathlib.Core.Path.{◌≡◌, sym, subst}
use mathlib.Core.List.{List, ◌∷◌, ◌++◌}
use Rattle.words.specs.Words.{Words}
use Rattle.symbols.specs.Graph.{Graph}
use Rattle.formula.specs.File.{File, formula_of}
use Rattle.search.specs.Machine.{Values, value_of, solved, spent, ran_dry, End, Out}
use Rattle.search.specs.Round.{Round}
use Rattle.search.specs.Solution.{Input, Sane}
use Rattle.search.specs.Demand.{All, none, more, Fair, Concluded}
use Rattle.search.specs.Result.{Says, RootSays, Means}
use Rattle.search.specs.Lawful.{Lawful}
use Rattle.search.proofs.Hits.{Trail}
use Rattle.search.proofs.Widths.{sane_fits}
use Rattle.search.proofs.Results as results
use Rattle.search.proofs.Results.{search_means, search_counts, search_unique, search_words, search_lent, search_trails}
use Rattle.rules.specs.One.{one}
use Rattle.assign.specs.Start.{wanted, start_of}
use Rattle.solve.specs.Solve.{ended, answer}
use Rattle.lawful.specs.Owed.{false_kinds}
use Rattle.lawful.proofs.Steady.{one_steady}
use Rattle.lawful.proofs.Plays.{play_forward, play_start, play_lawful}
use Rattle.demands.specs.Call.{Lent, graph_in, Accepted, play_in, search_in, rounds_in}
use Rattle.demands.specs.Result.{InputsFit, Meant, Counted}
use Rattle.demands.proofs.Numbers.{given_none}

rounds_fit : (g : Graph) (rs : List Round) → All (λ r. Sane g r.after) rs → All (λ r. InputsFit g r.after) rs
rounds_fit g rs none = none
rounds_fit g rs (more r rs' h hs) = more r rs' (sane_fits g r.after h) (rounds_fit g rs' hs)

module _ (f : File) (ws : Words) (budget : ℕ) (vs : Values) (lent : Lent f ws) (a : Accepted f ws vs) where
  abbrev G : Graph
  G = graph_in f

  law : Lawful false_kinds (play_in f ws)
  law = play_lawful f (formula_of f) a.file ws lent.words

  start : Sane G (start_of G ws)
  start = play_start f (formula_of f) a.file ws lent.words lent.bytes

  means : Means (play_in f ws) (start_of G ws) (wanted G) (rounds_in f ws budget) (search_in f ws budget)
  means = search_means law budget (start_of G ws) (wanted G) start

  says_at : (x : End) → (search_in f ws budget).end ≡ x → Says G (start_of G ws) (rounds_in f ws budget) x
  says_at x e = subst (Says G (start_of G ws) (rounds_in f ws budget)) e means.says

  root_at : (x : End) → (search_in f ws budget).end ≡ x → RootSays x (value_of (search_in f ws budget).vals G.root)
  root_at x e = subst (λ (y : End). RootSays y (value_of (search_in f ws budget).vals G.root)) e means.root

  meant : Meant f ws budget (search_in f ws budget)
  meant = record {
    solved_root = root_at solved;
    solved_when = says_at solved;
    spent_rounds = says_at spent;
    dry_rounds = says_at ran_dry;
    dry_step = means.ran_dry;
    long = means.sane.long;
    below = means.sane.below;
    right = means.sane.solution;
    fits = sane_fits G (search_in f ws budget).vals means.sane;
    only = search_unique law budget (start_of G ws) (wanted G) start;
    last = means.values;
    linked = means.linked;
    leaves = means.leaves;
    always = means.always;
    always_fits = rounds_fit G (rounds_in f ws budget) means.always;
  }

  counted : Counted f ws budget (search_in f ws budget)
  counted = record {
    run = search_counts law budget (start_of G ws) (wanted G) start;
    start = search_words law budget (start_of G ws) (wanted G) start (play_forward one one_steady G ws);
    lent = search_lent law budget (start_of G ws) (wanted G) start (play_forward one one_steady G ws) a.words;
  }

  trails : All (λ r. Trail false_kinds G (value_of r.before) r.steps r.node r.target) (rounds_in f ws budget)
  trails = search_trails law budget (start_of G ws) (wanted G) start

  concluded : (pre : List Round) (r : Round) (later : List Round) → rounds_in f ws budget ≡ pre ++ (r ∷ later) → Input (G.node r.node) → Fair false_kinds G r
      → Concluded G r later (search_in f ws budget)
  concluded = results.demand_3 law budget (start_of G ws) (wanted G) start

module _ (f : File) (ws : Words) (budget : ℕ) (vs : Values) (o : Out) (lent : Lent f ws) (e : answer one f ws budget vs ≡ ended o) where
  met : Accepted f ws vs
  met = ((given_none f ws budget vs o).0 e).0

  result : o ≡ search_in f ws budget
  result = ((given_none f ws budget vs o).0 e).1

  -- demand 2: what the end says and what the values are
  pub demand_2 : Meant f ws budget o
  demand_2 = subst (Meant f ws budget) (sym result) (meant f ws budget vs lent met)

  -- demand 2: what the counts are
  pub demand_2_counts : Counted f ws budget o
  demand_2_counts = subst (Counted f ws budget) (sym result) (counted f ws budget vs lent met)

  -- the steps of every round lead from the root with target 1 to the leaf where it ended, by the rules: so they are that round's steps
  pub round_trails : All (λ r. Trail false_kinds (graph_in f) (value_of r.before) r.steps r.node r.target) (rounds_in f ws budget)
  round_trails = trails f ws budget vs lent met

  -- demand 3: "Take a round that ends at an input. Suppose every step at a binary operator took the inverse value, no step is one of
  -- document 01's two false kinds, and no operand passed by is that input or depends on it. Then the root is 1 when the round ends, and
  -- the search stops there as solved.": any round of the run, the first or a later one. Q-3: "demand 3 gains the premise that the target
  -- fits", one of `Fair`'s
  pub demand_3 : (before : List Round) (r : Round) (later : List Round) → rounds_in f ws budget ≡ before ++ (r ∷ later) → Input ((graph_in f).node r.node)
      → Fair false_kinds (graph_in f) r → Concluded (graph_in f) r later o
  demand_3 before r later p i h = subst (Concluded (graph_in f) r later) (sym result) (concluded f ws budget vs lent met before r later p i h)
