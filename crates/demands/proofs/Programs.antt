-- Each of the paper's "programs to shut out" and "mistakes that look right" breaks `solve`'s contract. Assumes nothing.
use Prim.Native.Nat.{ℕ, ◌≤◌}
use mathlib.Core.Path.{◌≡◌, refl, sym, ap, ◌∙◌}
use mathlib.Core.List.{[], ◌∷◌}
use native.Mathlib.Omega.{arith}
use lib.Count.{count_trailing_zeros}
use Rattle.laws.specs.Rows.{first}
use Rattle.laws.specs.Newton.{lifts}
use Rattle.bitvec.specs.Word.{M}
use Rattle.bitvec.specs.Inverse.{inverse_of}
use Rattle.words.specs.Words.{Words, draw_at, range_at, coin_at, choosing_at, two_from, two_at, redraw, not_at}
use Rattle.symbols.specs.Reaching.{reaches_below, reaches}
use Rattle.formula.specs.File.{File, le32, le64, zeros, trailer_of, formula_of, record_at}
use Rattle.formula.specs.Graph.{kind_no, graph_of}
use Rattle.checks.specs.Refusals.{head_rows, rows_of, record_rows, cycle_rows, root_rows, body_rows, checks, verdict}
use Rattle.search.specs.Machine.{Values, value_of, solved, spent, Out, round, reached, stepped, turn_of, run_from, from_root, search_of}
use Rattle.reach.specs.Table.{table_says}
use Rattle.rules.specs.Rules.{invert_at, value_at}
use Rattle.rules.specs.One.{mul_value, inverse_at, consistent_at, hinders_one, one}
use Rattle.assign.specs.Settle.{worth, each_below, settle}
use Rattle.assign.specs.Start.{wanted_up_to, wanted, first_of, given_up_to, start_from, start_of}
use Rattle.monster.specs.Step.{essential, sides, way_at, along_way, step_from}
use Rattle.solve.specs.Solve.{Result, ended, refused, lent_rows, on_graph, answer}
use Rattle.demands.specs.Call.{Lent}
use Rattle.demands.specs.Cases as cases
use Rattle.demands.specs.Cases.{ones, pair_file, pair_words, pair_first, pair_second, pair_out, quotient_file, quotient_round}
use Rattle.demands.specs.Programs.{Program, Permitted, RefusesAlways, EndsAlways, LeavesValues, FirstRoundOnly, MadeUp, rounds_made, lost_made, steps_made, words_taken, by_rules, always_consistent, own_operator, no_consistent, shift_by64, product_file, product_words, times_zero_file, times_zero_words}
use Rattle.demands.proofs.Whole.{demand_2_counts}
use Rattle.demands.proofs.Trace.{steps_counted, words_counted}
use Rattle.demands.proofs.Cases.{pair_answer, pair_rounds, quotient_answer}
use Rattle.demands.proofs.Needed.{lent, pair_lent, quotient_missed}

abbrev words_in : Result → ℕ
words_in (ended o) = o.words
words_in (refused k is vs) = 0

-- the first node's value
abbrev first_in : Result → ℕ
first_in (ended o) = value_of o.vals 0
first_in (refused k is vs) = 0

-- the third node's
abbrev third_in : Result → ℕ
third_in (ended o) = value_of o.vals 2
third_in (refused k is vs) = 0

module _ (p : Program) (permitted : Permitted p) where
  pair_is : p pair_file pair_words 8 (ones 8) ≡ ended pair_out
  pair_is = permitted.keeps pair_file pair_words 8 (ones 8) pair_lent ∙ pair_answer

  quotient_is : p quotient_file cases.zeros 2 (ones 5) ≡ ended record { end = spent; rounds = 1; lost = 0; steps = 2; words = 7; vals = quotient_round.after }
  quotient_is = permitted.keeps quotient_file cases.zeros 2 (ones 5) quotient_missed.lent ∙ quotient_answer

  pub not_refuses_always : RefusesAlways p → ⊥
  not_refuses_always h = h pair_file pair_words 8 (ones 8) pair_out pair_is

  pub not_solved_always : EndsAlways solved p → ⊥
  not_solved_always h =
      let e : spent ≡ solved = h quotient_file cases.zeros 2 (ones 5) _ quotient_is in
      let z : ◌≡◌ {A = ℕ} 0 1 = cc in omega arith

  pub not_spent_always : EndsAlways spent p → ⊥
  not_spent_always h =
      let e : solved ≡ spent = h pair_file pair_words 8 (ones 8) pair_out pair_is in
      let z : ◌≡◌ {A = ℕ} 0 1 = cc in omega arith

  pub not_leaves_values : LeavesValues p → ⊥
  not_leaves_values h =
      let z : ◌≡◌ {A = ℕ} 5 1 = ap (λ (vs : Values). value_of vs 0) (h pair_file pair_words 8 (ones 8) pair_out pair_is) in
      omega arith

  pub not_first_round_only : FirstRoundOnly p → ⊥
  not_first_round_only h =
      let z : ◌≡◌ {A = ℕ} 5 6 = ap (λ (vs : Values). value_of vs 0) (h pair_file pair_words 8 (ones 8) pair_out pair_first (pair_second ∷ []) pair_is pair_rounds) in
      omega arith

  -- of a call and its answer
  module _ (f : File) (ws : Words) (budget : ℕ) (vs : Values) (l : Lent f ws) (o : Out) (a : p f ws budget vs ≡ ended o) where
    by_contract : answer one f ws budget vs ≡ ended o
    by_contract = sym (permitted.keeps f ws budget vs l) ∙ a

    -- "rounds completed, lost ones among them, steps completed, words taken": each is that of the run
    pub counts_of_the_run : (o.rounds ≡ rounds_made f ws budget) × (o.lost ≡ lost_made f ws budget) × (o.steps ≡ steps_made f ws budget) × (o.words ≡ words_taken f ws budget)
    counts_of_the_run =
        let c = (demand_2_counts f ws budget vs o l by_contract).run in
        (c.rounds, c.lost, steps_counted f ws budget vs o by_contract, words_counted f ws budget vs o by_contract)

    -- "Testing the budget once a round.": never a step more than the budget
    pub budget_tested : o.steps ≤ budget
    budget_tested = (demand_2_counts f ws budget vs o l by_contract).run.within

  pub not_made_up_rounds : MadeUp p (λ o. o.rounds) rounds_made → ⊥
  not_made_up_rounds h = h.other (counts_of_the_run h.file h.words h.budget h.values h.lent h.out h.answered).0

  pub not_made_up_lost : MadeUp p (λ o. o.lost) lost_made → ⊥
  not_made_up_lost h = h.other (counts_of_the_run h.file h.words h.budget h.values h.lent h.out h.answered).1

  pub not_made_up_steps : MadeUp p (λ o. o.steps) steps_made → ⊥
  not_made_up_steps h = h.other (counts_of_the_run h.file h.words h.budget h.values h.lent h.out h.answered).2

  pub not_made_up_words : MadeUp p (λ o. o.words) words_taken → ⊥
  not_made_up_words h = h.other (counts_of_the_run h.file h.words h.budget h.values h.lent h.out h.answered).3

-- programs by other rules: a call whose words or first value they answer otherwise
consistent_words : words_in (answer always_consistent quotient_file cases.zeros 2 (ones 5)) ≡ 5
unfolding first draw_at range_at coin_at choosing_at two_from two_at redraw not_at le32 le64 zeros trailer_of formula_of record_at kind_no graph_of reaches_below reaches head_rows rows_of record_rows cycle_rows root_rows body_rows checks verdict round reached stepped turn_of run_from from_root search_of table_says invert_at value_at mul_value inverse_at consistent_at hinders_one worth each_below settle wanted_up_to wanted first_of given_up_to start_from start_of essential sides way_at along_way step_from lent_rows on_graph answer
consistent_words = refl

own_words : words_in (answer own_operator product_file product_words 1 (ones 4)) ≡ 7
unfolding first draw_at range_at coin_at choosing_at two_from two_at redraw not_at le32 le64 zeros trailer_of formula_of record_at kind_no graph_of reaches_below reaches head_rows rows_of record_rows cycle_rows root_rows body_rows checks verdict round reached stepped turn_of run_from from_root search_of table_says invert_at value_at mul_value inverse_at consistent_at hinders_one worth each_below settle wanted_up_to wanted first_of given_up_to start_from start_of essential sides way_at along_way step_from lent_rows on_graph answer
own_words = refl

product_words_lem : words_in (answer one product_file product_words 1 (ones 4)) ≡ 6
unfolding first draw_at range_at coin_at choosing_at two_from two_at redraw not_at le32 le64 zeros trailer_of formula_of record_at kind_no graph_of reaches_below reaches head_rows rows_of record_rows cycle_rows root_rows body_rows checks verdict round reached stepped turn_of run_from from_root search_of table_says invert_at value_at mul_value inverse_at consistent_at hinders_one worth each_below settle wanted_up_to wanted first_of given_up_to start_from start_of essential sides way_at along_way step_from lent_rows on_graph answer
product_words_lem = refl

without_words : words_in (answer no_consistent quotient_file cases.zeros 2 (ones 5)) ≡ 5
unfolding first draw_at range_at coin_at choosing_at two_from two_at redraw not_at le32 le64 zeros trailer_of formula_of record_at kind_no graph_of reaches_below reaches head_rows rows_of record_rows cycle_rows root_rows body_rows checks verdict round reached stepped turn_of run_from from_root search_of table_says invert_at value_at mul_value inverse_at consistent_at hinders_one worth each_below settle wanted_up_to wanted first_of given_up_to start_from start_of essential sides way_at along_way step_from lent_rows on_graph answer
without_words = refl

shift_value : first_in (answer shift_by64 times_zero_file times_zero_words 2 (ones 5)) ≡ 0
unfolding count_trailing_zeros inverse_of lifts first draw_at range_at coin_at choosing_at two_from two_at redraw not_at le32 le64 zeros trailer_of formula_of record_at kind_no graph_of reaches_below reaches head_rows rows_of record_rows cycle_rows root_rows body_rows checks verdict round reached stepped turn_of run_from from_root search_of table_says invert_at value_at mul_value inverse_at consistent_at hinders_one worth each_below settle wanted_up_to wanted first_of given_up_to start_from start_of essential sides way_at along_way step_from lent_rows on_graph answer
shift_value = refl

zero_value : first_in (answer one times_zero_file times_zero_words 2 (ones 5)) ≡ 9
unfolding first draw_at range_at coin_at choosing_at two_from two_at redraw not_at le32 le64 zeros trailer_of formula_of record_at kind_no graph_of reaches_below reaches head_rows rows_of record_rows cycle_rows root_rows body_rows checks verdict round reached stepped turn_of run_from from_root search_of table_says invert_at value_at mul_value inverse_at consistent_at hinders_one worth each_below settle wanted_up_to wanted first_of given_up_to start_from start_of essential sides way_at along_way step_from lent_rows on_graph answer
zero_value = refl

quotient_words : words_in (answer one quotient_file cases.zeros 2 (ones 5)) ≡ 7
quotient_words = ap words_in quotient_answer

-- "Demand 3 is stated over these definitions, so always drawing consistent values can't satisfy it."
pub not_always_consistent : Permitted (by_rules always_consistent) → ⊥
not_always_consistent h =
    let z : ◌≡◌ {A = ℕ} 5 7 = sym consistent_words ∙ ap words_in (h.keeps quotient_file cases.zeros 2 (ones 5) quotient_missed.lent) ∙ quotient_words in
    omega arith

-- "Asking the node's own operator in the essential rule."
pub not_own_operator : Permitted (by_rules own_operator) → ⊥
not_own_operator h =
    let z : ◌≡◌ {A = ℕ} 7 6 = sym own_words ∙ ap words_in (h.keeps product_file product_words 1 (ones 4) (lent product_file product_words refl refl)) ∙ product_words_lem in
    omega arith

-- "Drawing no consistent value when the inverse will be used."
pub not_without_consistent : Permitted (by_rules no_consistent) → ⊥
not_without_consistent h =
    let z : ◌≡◌ {A = ℕ} 5 7 = sym without_words ∙ ap words_in (h.keeps quotient_file cases.zeros 2 (ones 5) quotient_missed.lent) ∙ quotient_words in
    omega arith

-- "Shifting by 64 for s = 0."
pub not_shift_by_64 : Permitted (by_rules shift_by64) → ⊥
not_shift_by_64 h =
    let z : ◌≡◌ {A = ℕ} 0 9 =
    sym shift_value ∙ ap first_in (h.keeps times_zero_file times_zero_words 2 (ones 5) (lent times_zero_file times_zero_words refl refl)) ∙ zero_value in
    omega arith

-- the other three, each by a call that a permitted program answers so
start_answer : answer one quotient_file cases.zeros 0 (ones 5) ≡ ended record { end = spent; rounds = 0; lost = 0; steps = 0; words = 3; vals = quotient_round.before }
unfolding first draw_at range_at coin_at choosing_at two_from two_at redraw not_at le32 le64 zeros trailer_of formula_of record_at kind_no graph_of reaches_below reaches head_rows rows_of record_rows cycle_rows root_rows body_rows checks verdict round reached stepped turn_of run_from from_root search_of table_says invert_at value_at mul_value inverse_at consistent_at hinders_one worth each_below settle wanted_up_to wanted first_of given_up_to start_from start_of essential sides way_at along_way step_from lent_rows on_graph answer
start_answer = refl

few_answer : answer one pair_file (0 ∷ 0 ∷ 5 ∷ 0 ∷ 0 ∷ 0 ∷ []) 8 (ones 8) ≡ refused 9 [] (ones 8)
unfolding first draw_at range_at coin_at choosing_at two_from two_at redraw not_at le32 le64 zeros trailer_of formula_of record_at kind_no graph_of reaches_below reaches head_rows rows_of record_rows cycle_rows root_rows body_rows checks verdict round reached stepped turn_of run_from from_root search_of table_says invert_at value_at mul_value inverse_at consistent_at hinders_one worth each_below settle wanted_up_to wanted first_of given_up_to start_from start_of essential sides way_at along_way step_from lent_rows on_graph answer
few_answer = refl

short_answer : answer one pair_file pair_words 3 (ones 8) ≡ ended record { end = spent; rounds = 0; lost = 0; steps = 3; words = 10; vals = pair_first.before }
unfolding first draw_at range_at coin_at choosing_at two_from two_at redraw not_at le32 le64 zeros trailer_of formula_of record_at kind_no graph_of reaches_below reaches head_rows rows_of record_rows cycle_rows root_rows body_rows checks verdict round reached stepped turn_of run_from from_root search_of table_says invert_at value_at mul_value inverse_at consistent_at hinders_one worth each_below settle wanted_up_to wanted first_of given_up_to start_from start_of essential sides way_at along_way step_from lent_rows on_graph answer
short_answer = refl

module _ (p : Program) (permitted : Permitted p) where
  -- "Taking x/0 as 0.": 7/0 is M
  pub zero_quotient : (o : Out) → p quotient_file cases.zeros 0 (ones 5) ≡ ended o → value_of o.vals 2 ≡ M
  zero_quotient o a =
      let e : ended record { end = spent; rounds = 0; lost = 0; steps = 0; words = 3; vals = quotient_round.before } ≡ ended o =
      sym start_answer ∙ sym (permitted.keeps quotient_file cases.zeros 0 (ones 5) quotient_missed.lent) ∙ a in
      sym (ap third_in e)

  -- "Giving words to inputs only.": two inputs and five operators, and six words are too few
  pub words_for_operators : p pair_file (0 ∷ 0 ∷ 5 ∷ 0 ∷ 0 ∷ 0 ∷ []) 8 (ones 8) ≡ refused 9 [] (ones 8)
  words_for_operators = permitted.keeps pair_file (0 ∷ 0 ∷ 5 ∷ 0 ∷ 0 ∷ 0 ∷ []) 8 (ones 8) (lent pair_file (0 ∷ 0 ∷ 5 ∷ 0 ∷ 0 ∷ 0 ∷ []) refl refl) ∙ few_answer

  -- "Testing the budget once a round.": a round of four steps is left after three
  pub budget_within_a_round : p pair_file pair_words 3 (ones 8) ≡ ended record { end = spent; rounds = 0; lost = 0; steps = 3; words = 10; vals = pair_first.before }
  budget_within_a_round = permitted.keeps pair_file pair_words 3 (ones 8) pair_lent ∙ short_answer
