-- The search as a whole, over a lawful play and from values that solve the graph: what its result means and what its counts
-- are (demand 2), and demand 3. Assumes nothing.
use Prim.Native.Nat.{ℕ, ◌<◌, ◌≤◌}
use mathlib.Core.Path.{◌≡◌, refl, sym, ap, subst, ◌∙◌}
use mathlib.Core.Logic.{inl, inr}
use mathlib.Core.List.{List, [], ◌∷◌, ◌++◌}
use mathlib.Core.Bool.{Bool, true, false, true≢false}
use native.Mathlib.Omega.{arith}
use Rattle.laws.specs.Pick.{pick}
use Rattle.words.specs.Words.{Place}
use Rattle.symbols.specs.Graph.{Id, Value, Node, constant, input, unary, binary, Graph}
use Rattle.symbols.specs.Width.{fits}
use Rattle.symbols.proofs.Fitting.{one_fits}
use Rattle.search.specs.Machine.{Values, value_of, Play, St, End, solved, spent, ran_dry, Out, stored, Landing, stores, loses, walks, landing, landing_at, begin, search_of}
use Rattle.search.specs.Round.{Comes, Round, round_of, root_after, landed, last_after, lost_one, rounds_of, Leaves, Linked, NotOne, LastOne, last, earlier}
use Rattle.search.specs.Solution.{Input, Fits, Right, Sane}
use Rattle.search.specs.Demand.{All, none, more, FalseKinds, Fair, Concluded}
use Rattle.search.specs.Result.{Says, RootSays, RanDry, Means, Counts}
use Rattle.search.specs.Lawful.{Lawful, Forward}
use Rattle.search.proofs.Runs.{Searches, at_once, at_input, at_constant, by_steps, searches}
use Rattle.search.proofs.Ends.{not_solved, dry_solved, run_unsolved, run_solved, run_values, run_linked, run_leaves, run_ran_dry, run_stops}
use Rattle.search.proofs.Counts.{run_rounds, run_lost, run_steps, run_spent, run_dry, run_few, run_made, run_exact, run_words, run_lent, lost_among}
use Rattle.search.proofs.Unique.{unique_values, store_holds, store_sane}
use Rattle.search.proofs.Hits.{Trail, starts}
use Rattle.search.proofs.Rounds.{stores_input, stores_fits, Ready, comes_ready, run_sane, run_trails, run_fair}

-- the last values, by the rounds
last_sane : (g : Graph) (vs : Values) (rs : List Round) → Sane g vs → All (λ r. Sane g r.after) rs → Sane g (last_after vs rs)
last_sane g vs rs h none = h
last_sane g vs rs h (more r rs' p ps) = last_sane g r.after rs' p ps

last_not : (g : Graph) (vs : Values) (rs : List Round) → (value_of vs g.root ≡ 1 → ⊥) → All (NotOne g) rs → value_of (last_after vs rs) g.root ≡ 1 → ⊥
last_not g vs rs h none = h
last_not g vs rs h (more r rs' p ps) = last_not g r.after rs' p ps

last_one : (g : Graph) (vs : Values) (rs : List Round) → LastOne g rs → value_of (last_after vs rs) g.root ≡ 1
last_one g vs rs (last r e) = e
last_one g vs rs (earlier r rs' ne l) = last_one g r.after rs' l

root_says : (g : Graph) (vs : Values) (rs : List Round) (e : End) → Says g vs rs e → RootSays e (value_of (last_after vs rs) g.root)
root_says g vs rs solved (inl h) = ap (λ (l : List Round). value_of (last_after vs l) g.root) h.idle ∙ h.one
root_says g vs rs solved (inr h) = last_one g vs rs h.rounds
root_says g vs rs spent h = last_not g vs rs h.start h.rounds
root_says g vs rs ran_dry h = last_not g vs rs h.start h.rounds

-- an entry of a list
all_at : {A : Round → Type 0} (pre : List Round) (r : Round) (later : List Round) → All A (pre ++ (r ∷ later)) → A r
all_at [] r later (more r' rs p ps) = p
all_at (x ∷ pre) r later (more x' rs p ps) = all_at pre r later ps

not_none : (pre : List Round) (r : Round) (later : List Round) → pre ++ (r ∷ later) ≡ [] → ⊥
not_none [] r later e = let z : ◌≡◌ {A = ℕ} 0 1 = cc in omega arith
not_none (x ∷ pre) r later e = let z : ◌≡◌ {A = ℕ} 0 1 = cc in omega arith

-- no round comes after one that made the root 1
none_later : (g : Graph) (pre : List Round) (r : Round) (later : List Round) → LastOne g (pre ++ (r ∷ later)) → root_after g r ≡ 1 → later ≡ []
none_later g [] r [] (last r' e) h = refl
none_later g [] r [] (earlier r' rs ne l) h = refl
none_later g [] r (y ∷ ys) (earlier r' rs ne l) h = absurd (ne h)
none_later g (x ∷ []) r later (earlier x' rs ne l) h = none_later g [] r later l h
none_later g (x ∷ (y ∷ pre)) r later (earlier x' rs ne l) h = none_later g (y ∷ pre) r later l h

one_stores : (b : Bool) → b ≡ true → pick b stores loses ≡ loses → ⊥
one_stores true e q = let z : ◌≡◌ {A = ℕ} 0 1 = cc in omega arith
one_stores false e q = true≢false (sym e)

-- in values that solve the graph a root that loses the round at once is 1: it is a constant, where no other is accepted, for 1
-- fits every input
loses_constant : (n : Node) (v : Id → Value) (i : Id) → landing n 1 ≡ loses → ((c : Value) → n ≡ constant c → c ≡ 1) → Right n v i → v i ≡ 1
loses_constant (constant c) v i e f r = r ∙ f c refl
loses_constant (input p) v i e f r = absurd (one_stores (fits p 1) (one_fits p) e)
loses_constant (unary a) v i e f r = let z : ◌≡◌ {A = ℕ} 0 1 = cc in absurd (omega arith)
loses_constant (binary o a b) v i e f r = let z : ◌≡◌ {A = ℕ} 0 1 = cc in absurd (omega arith)

module _ {F : FalseKinds} {P : Play} (law : Lawful F P) (budget : ℕ) (vs : Values) (n : Place) (sane : Sane P.graph vs) where
  abbrev first : St
  first = begin P.graph.root vs n

  first_ready : landing_at P.graph first ≡ walks → Ready law first
  first_ready q = record { inside = law.rooted; operator = q; below = omega arith; sane = sane }

  no_constant : (value_of vs P.graph.root ≡ 1 → ⊥) → landing_at P.graph first ≡ loses → ⊥
  no_constant ne q = ne (loses_constant (P.graph.node P.graph.root) (value_of vs) P.graph.root q law.fixed (sane.solution.right P.graph.root law.rooted))

  module _ (q : landing_at P.graph first ≡ stores) where
    root_input : Input (P.graph.node P.graph.root)
    root_input = stores_input (P.graph.node P.graph.root) 1 q

    root_fits : Fits (P.graph.node P.graph.root) 1
    root_fits = stores_fits (P.graph.node P.graph.root) 1 q

    root_one : value_of (stored P first).vals P.graph.root ≡ 1
    root_one = store_holds P law.acyclic law.redoes vs sane P.graph.root 1 law.rooted root_input root_fits (omega arith)

    root_sane : Sane P.graph (stored P first).vals
    root_sane = store_sane P law.acyclic law.redoes vs sane P.graph.root 1 law.rooted root_input root_fits (omega arith)

    root_leaves : Leaves P (landing (P.graph.node P.graph.root) 1) (round_of [] first (stored P first).vals)
    root_leaves = subst (λ (l : Landing). Leaves P l (round_of [] first (stored P first).vals)) (sym q) refl

  by_end : (rs : List Round) (e : End) → (e ≡ solved → LastOne P.graph rs) → ((e ≡ solved → ⊥) → All (NotOne P.graph) rs) → (value_of vs P.graph.root ≡ 1 → ⊥)
      → Says P.graph vs rs e
  by_end rs solved f h ne = inr record { start = ne; rounds = f refl }
  by_end rs spent f h ne = record { start = ne; rounds = h (not_solved refl) }
  by_end rs ran_dry f h ne = record { start = ne; rounds = h dry_solved }

  says : {rs : List Round} {o : Out} → Searches P budget vs n rs o → Says P.graph vs rs o.end
  says (at_once e) = inl record { one = e; idle = refl }
  says (at_input ne q) = inr record { start = ne; rounds = last _ (root_one q) }
  says (at_constant ne q) = absurd (no_constant ne q)
  says (by_steps {rs} {o} ne q r) = by_end rs o.end (run_solved r) (run_unsolved r) ne

  always : {rs : List Round} {o : Out} → Searches P budget vs n rs o → All (λ r. Sane P.graph r.after) rs
  always (at_once e) = none
  always (at_input ne q) = more _ _ (root_sane q) none
  always (at_constant ne q) = none
  always (by_steps ne q r) = run_sane law q r (first_ready q)

  values : {rs : List Round} {o : Out} → Searches P budget vs n rs o → o.vals ≡ last_after vs rs
  values (at_once e) = refl
  values (at_input ne q) = refl
  values (at_constant ne q) = refl
  values (by_steps ne q r) = run_values r

  linked : {rs : List Round} {o : Out} → Searches P budget vs n rs o → Linked vs rs
  linked (at_once e) = tt
  linked (at_input ne q) = (refl, tt)
  linked (at_constant ne q) = tt
  linked (by_steps ne q r) = run_linked r

  leaves : {rs : List Round} {o : Out} → Searches P budget vs n rs o → All (λ r. Leaves P (landed P.graph r) r) rs
  leaves (at_once e) = none
  leaves (at_input ne q) = more _ _ (root_leaves q) none
  leaves (at_constant ne q) = none
  leaves (by_steps ne q r) = run_leaves r

  dried : {rs : List Round} {o : Out} → Searches P budget vs n rs o → o.end ≡ ran_dry → RanDry P first o
  dried (at_once e) h = absurd (dry_solved (sym h))
  dried (at_input ne q) h = absurd (dry_solved (sym h))
  dried (at_constant ne q) h = absurd (no_constant ne q)
  dried (by_steps ne q r) h = run_ran_dry r h

  means : {rs : List Round} {o : Out} → Searches P budget vs n rs o → Means P vs n rs o
  means {rs} {o} r = record {
    says = says r;
    root = subst (λ (us : Values). RootSays o.end (value_of us P.graph.root)) (sym (values r)) (root_says P.graph vs rs o.end (says r));
    sane = subst (Sane P.graph) (sym (values r)) (last_sane P.graph vs rs sane (always r));
    ran_dry = dried r;
    always = always r;
    values = values r;
    linked = linked r;
    leaves = leaves r;
  }

  -- demand 2, of the values and of every completed round
  pub search_means : Means P vs n (rounds_of P budget vs n) (search_of P budget vs n)
  search_means = means (searches P budget vs n)

  -- "the values are always the one solution": no other values of the graph have these inputs
  pub search_unique : (ws : Values) → Sane P.graph ws → ((i : Id) → i < P.graph.count → Input (P.graph.node i) → value_of ws i ≡ value_of (search_of P budget vs n).vals i)
      → ws ≡ (search_of P budget vs n).vals
  search_unique ws h inputs = unique_values P.graph law.acyclic (search_of P budget vs n).vals ws search_means.sane h inputs

  -- the same of every state that the search comes to
  pub search_states : (s : St) → landing_at P.graph first ≡ walks → Comes P first s → Sane P.graph s.vals
  search_states s q c = (comes_ready law q c (first_ready q)).sane

  trails : {rs : List Round} {o : Out} → Searches P budget vs n rs o → All (λ r. Trail F P.graph (value_of r.before) r.steps r.node r.target) rs
  trails (at_once e) = none
  trails (at_input ne q) = more _ _ starts none
  trails (at_constant ne q) = none
  trails (by_steps ne q r) = run_trails law q r (first_ready q) starts

  -- the steps of every round lead from the root with target 1 to its end
  pub search_trails : All (λ r. Trail F P.graph (value_of r.before) r.steps r.node r.target) (rounds_of P budget vs n)
  search_trails = trails (searches P budget vs n)

  counts : {rs : List Round} {o : Out} → Searches P budget vs n rs o → Counts P budget rs o
  counts (at_once e) = record {
    rounds = refl;
    lost = refl;
    among = omega arith;
    each = inl (omega arith);
    within = omega arith;
    used = λ h. absurd (not_solved h refl);
    unused = λ h. absurd (dry_solved (sym h));
    made = omega arith;
    exact = λ h. refl;
  }
  counts (at_input ne q) = record {
    rounds = refl;
    lost = omega (arith, ap lost_one q);
    among = omega arith;
    each = inr record { root = root_input q; one = refl; none = refl };
    within = omega arith;
    used = λ h. absurd (not_solved h refl);
    unused = λ h. absurd (dry_solved (sym h));
    made = omega arith;
    exact = λ h. refl;
  }
  counts (at_constant ne q) = absurd (no_constant ne q)
  counts (by_steps {rs} {o} ne q r) = record {
    rounds = omega (arith, run_rounds r);
    lost = omega (arith, run_lost r);
    among = omega (arith, run_rounds r, run_lost r, lost_among P.graph rs);
    each = inl (omega (arith, run_rounds r, run_few r));
    within = omega (arith, run_steps r);
    used = λ h. omega (arith, run_spent r h);
    unused = λ h. omega (arith, run_dry r h);
    made = omega (arith, run_made r);
    exact = λ h. omega (arith, run_exact r h);
  }

  -- demand 2, of the counts
  pub search_counts : Counts P budget (rounds_of P budget vs n) (search_of P budget vs n)
  search_counts = counts (searches P budget vs n)

  module _ {lent : ℕ} (f : Forward P lent) where
    words : {rs : List Round} {o : Out} → Searches P budget vs n rs o → n ≤ o.words
    words (at_once e) = omega arith
    words (at_input ne q) = omega arith
    words (at_constant ne q) = omega arith
    words (by_steps ne q r) = run_words f r

    lends : {rs : List Round} {o : Out} → n ≤ lent → Searches P budget vs n rs o → o.words ≤ lent
    lends b (at_once e) = b
    lends b (at_input ne q) = b
    lends b (at_constant ne q) = b
    lends b (by_steps ne q r) = run_lent f r b

    -- "Words taken count the start": at least those, and no more than were lent
    pub search_words : n ≤ (search_of P budget vs n).words
    search_words = words (searches P budget vs n)

    pub search_lent : n ≤ lent → (search_of P budget vs n).words ≤ lent
    search_lent b = lends b (searches P budget vs n)

  -- demand 3
  fair : {rs : List Round} {o : Out} → Searches P budget vs n rs o → All (λ r. Input (P.graph.node r.node) → Fair F P.graph r → root_after P.graph r ≡ 1) rs
  fair (at_once e) = none
  fair (at_input ne q) = more _ _ (λ i f. root_one q) none
  fair (at_constant ne q) = none
  fair (by_steps ne q r) = run_fair law q r (first_ready q) starts

  stops : {rs : List Round} {o : Out} → Searches P budget vs n rs o → All (λ r. root_after P.graph r ≡ 1 → (o.end ≡ solved) × (o.vals ≡ r.after)) rs
  stops (at_once e) = none
  stops (at_input ne q) = more _ _ (λ z. (refl, refl)) none
  stops (at_constant ne q) = none
  stops (by_steps ne q r) = run_stops r

  concluded : {o : Out} (pre : List Round) (r : Round) (later : List Round) → Searches P budget vs n (pre ++ (r ∷ later)) o → Input (P.graph.node r.node) → Fair F P.graph r
      → Concluded P.graph r later o
  concluded {o} pre r later c i f =
      let one = all_at pre r later (fair c) i f in
      let end = all_at pre r later (stops c) one in
      record { one = one; stops = none_later P.graph pre r later (by_last (subst (Says P.graph vs (pre ++ (r ∷ later))) end.0 (says c))) one; as_solved = end.0; values = end.1 }
    where
      by_last : Says P.graph vs (pre ++ (r ∷ later)) solved → LastOne P.graph (pre ++ (r ∷ later))
      by_last (inl h) = absurd (not_none pre r later h.idle)
      by_last (inr h) = h.rounds

  -- demand 3: any round of the search, the first or a later one, that ends at an input and is fair
  pub demand_3 : (pre : List Round) (r : Round) (later : List Round) → rounds_of P budget vs n ≡ pre ++ (r ∷ later) → Input (P.graph.node r.node) → Fair F P.graph r
      → Concluded P.graph r later (search_of P budget vs n)
  demand_3 pre r later e i f = concluded pre r later (subst (λ (rs : List Round). Searches P budget vs n rs (search_of P budget vs n)) e (searches P budget vs n)) i f
