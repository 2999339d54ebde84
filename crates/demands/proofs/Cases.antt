-- Computed searches, from file bytes to answers and rounds. Assumes nothing.
use mathlib.Core.Path.{◌≡◌, refl}
use mathlib.Core.List.{[], ◌∷◌}
use Rattle.laws.specs.Rows.{first}
use Rattle.words.specs.Words.{draw_at, range_at, coin_at, choosing_at, two_from, two_at, redraw, not_at}
use Rattle.symbols.specs.Reaching.{reaches_below, reaches}
use Rattle.formula.specs.File.{le32, le64, zeros, trailer_of, formula_of, record_at}
use Rattle.formula.specs.Graph.{kind_no, graph_of}
use Rattle.checks.specs.Refusals.{head_rows, rows_of, record_rows, cycle_rows, root_rows, body_rows, checks, verdict}
use Rattle.search.specs.Machine.{spent, round, reached, stepped, turn_of, run_from, from_root, search_of}
use Rattle.search.specs.Round.{rounds_from, root_rounds, rounds_of}
use Rattle.reach.specs.Table.{table_says}
use Rattle.rules.specs.Rules.{invert_at, value_at}
use Rattle.rules.specs.One.{inverse_at, consistent_at, hinders_one, one}
use Rattle.assign.specs.Settle.{worth, each_below, settle}
use Rattle.assign.specs.Start.{wanted_up_to, wanted, first_of, given_up_to, start_from, start_of}
use Rattle.monster.specs.Step.{essential, sides, way_at, along_way, step_from}
use Rattle.solve.specs.Solve.{ended, lent_rows, on_graph, answer}
use Rattle.demands.specs.Call.{rounds_in}
use Rattle.demands.specs.Cases as cases
use Rattle.demands.specs.Cases.{ones, pair_file, pair_words, pair_first, pair_second, pair_out, quotient_file, quotient_round, truth_file, truth_round, not_file, not_round, twice_file, twice_round, sum_file, sum_round, narrow_file, narrow_words, narrow_round}

-- two rounds: the first misses, the second solves
pub pair_answer : answer one pair_file pair_words 8 (ones 8) ≡ ended pair_out
unfolding first draw_at range_at coin_at choosing_at two_from two_at redraw not_at le32 le64 zeros trailer_of formula_of record_at kind_no graph_of reaches_below reaches head_rows rows_of record_rows cycle_rows root_rows body_rows checks verdict round reached stepped turn_of run_from from_root search_of table_says invert_at value_at inverse_at consistent_at hinders_one worth each_below settle wanted_up_to wanted first_of given_up_to start_from start_of essential sides way_at along_way step_from lent_rows on_graph answer
pair_answer = refl

pub pair_rounds : rounds_in pair_file pair_words 8 ≡ pair_first ∷ pair_second ∷ []
unfolding first draw_at range_at coin_at choosing_at two_from two_at redraw not_at le32 le64 zeros trailer_of formula_of record_at kind_no graph_of round reached table_says invert_at value_at inverse_at consistent_at hinders_one worth each_below settle wanted_up_to wanted first_of given_up_to start_from start_of essential sides way_at along_way step_from rounds_from root_rounds rounds_of
pair_rounds = refl

-- one round each, of two steps; then the budget is used
pub quotient_answer : answer one quotient_file cases.zeros 2 (ones 5) ≡ ended record { end = spent; rounds = 1; lost = 0; steps = 2; words = 7; vals = quotient_round.after }
unfolding first draw_at range_at coin_at choosing_at two_from two_at redraw not_at le32 le64 zeros trailer_of formula_of record_at kind_no graph_of reaches_below reaches head_rows rows_of record_rows cycle_rows root_rows body_rows checks verdict round reached stepped turn_of run_from from_root search_of table_says invert_at value_at inverse_at consistent_at hinders_one worth each_below settle wanted_up_to wanted first_of given_up_to start_from start_of essential sides way_at along_way step_from lent_rows on_graph answer
quotient_answer = refl

pub quotient_rounds : rounds_in quotient_file cases.zeros 2 ≡ quotient_round ∷ []
unfolding first draw_at range_at coin_at choosing_at two_from two_at redraw not_at le32 le64 zeros trailer_of formula_of record_at kind_no graph_of round reached table_says invert_at value_at inverse_at consistent_at hinders_one worth each_below settle wanted_up_to wanted first_of given_up_to start_from start_of essential sides way_at along_way step_from rounds_from root_rounds rounds_of
quotient_rounds = refl

pub truth_answer : answer one truth_file cases.zeros 2 (ones 5) ≡ ended record { end = spent; rounds = 1; lost = 0; steps = 2; words = 7; vals = truth_round.after }
unfolding first draw_at range_at coin_at choosing_at two_from two_at redraw not_at le32 le64 zeros trailer_of formula_of record_at kind_no graph_of reaches_below reaches head_rows rows_of record_rows cycle_rows root_rows body_rows checks verdict round reached stepped turn_of run_from from_root search_of table_says invert_at value_at inverse_at consistent_at hinders_one worth each_below settle wanted_up_to wanted first_of given_up_to start_from start_of essential sides way_at along_way step_from lent_rows on_graph answer
truth_answer = refl

pub truth_rounds : rounds_in truth_file cases.zeros 2 ≡ truth_round ∷ []
unfolding first draw_at range_at coin_at choosing_at two_from two_at redraw not_at le32 le64 zeros trailer_of formula_of record_at kind_no graph_of round reached table_says invert_at value_at inverse_at consistent_at hinders_one worth each_below settle wanted_up_to wanted first_of given_up_to start_from start_of essential sides way_at along_way step_from rounds_from root_rounds rounds_of
truth_rounds = refl

pub not_answer : answer one not_file cases.zeros 2 (ones 4) ≡ ended record { end = spent; rounds = 1; lost = 0; steps = 2; words = 5; vals = not_round.after }
unfolding first draw_at range_at coin_at choosing_at two_from two_at redraw not_at le32 le64 zeros trailer_of formula_of record_at kind_no graph_of reaches_below reaches head_rows rows_of record_rows cycle_rows root_rows body_rows checks verdict round reached stepped turn_of run_from from_root search_of table_says invert_at value_at inverse_at consistent_at hinders_one worth each_below settle wanted_up_to wanted first_of given_up_to start_from start_of essential sides way_at along_way step_from lent_rows on_graph answer
not_answer = refl

pub not_rounds : rounds_in not_file cases.zeros 2 ≡ not_round ∷ []
unfolding first draw_at range_at coin_at choosing_at two_from two_at redraw not_at le32 le64 zeros trailer_of formula_of record_at kind_no graph_of round reached table_says invert_at value_at inverse_at consistent_at hinders_one worth each_below settle wanted_up_to wanted first_of given_up_to start_from start_of essential sides way_at along_way step_from rounds_from root_rounds rounds_of
not_rounds = refl

pub twice_answer : answer one twice_file cases.zeros 2 (ones 4) ≡ ended record { end = spent; rounds = 1; lost = 0; steps = 2; words = 8; vals = twice_round.after }
unfolding first draw_at range_at coin_at choosing_at two_from two_at redraw not_at le32 le64 zeros trailer_of formula_of record_at kind_no graph_of reaches_below reaches head_rows rows_of record_rows cycle_rows root_rows body_rows checks verdict round reached stepped turn_of run_from from_root search_of table_says invert_at value_at inverse_at consistent_at hinders_one worth each_below settle wanted_up_to wanted first_of given_up_to start_from start_of essential sides way_at along_way step_from lent_rows on_graph answer
twice_answer = refl

pub twice_rounds : rounds_in twice_file cases.zeros 2 ≡ twice_round ∷ []
unfolding first draw_at range_at coin_at choosing_at two_from two_at redraw not_at le32 le64 zeros trailer_of formula_of record_at kind_no graph_of round reached table_says invert_at value_at inverse_at consistent_at hinders_one worth each_below settle wanted_up_to wanted first_of given_up_to start_from start_of essential sides way_at along_way step_from rounds_from root_rounds rounds_of
twice_rounds = refl

pub sum_answer : answer one sum_file cases.zeros 2 (ones 6) ≡ ended record { end = spent; rounds = 1; lost = 0; steps = 2; words = 9; vals = sum_round.after }
unfolding first draw_at range_at coin_at choosing_at two_from two_at redraw not_at le32 le64 zeros trailer_of formula_of record_at kind_no graph_of reaches_below reaches head_rows rows_of record_rows cycle_rows root_rows body_rows checks verdict round reached stepped turn_of run_from from_root search_of table_says invert_at value_at inverse_at consistent_at hinders_one worth each_below settle wanted_up_to wanted first_of given_up_to start_from start_of essential sides way_at along_way step_from lent_rows on_graph answer
sum_answer = refl

pub sum_rounds : rounds_in sum_file cases.zeros 2 ≡ sum_round ∷ []
unfolding first draw_at range_at coin_at choosing_at two_from two_at redraw not_at le32 le64 zeros trailer_of formula_of record_at kind_no graph_of round reached table_says invert_at value_at inverse_at consistent_at hinders_one worth each_below settle wanted_up_to wanted first_of given_up_to start_from start_of essential sides way_at along_way step_from rounds_from root_rounds rounds_of
sum_rounds = refl

-- Q-3: "A round that brings a target of 2^width or more is a lost round."
pub narrow_answer : answer one narrow_file narrow_words 1 (ones 3) ≡ ended record { end = spent; rounds = 1; lost = 1; steps = 1; words = 4; vals = narrow_round.after }
unfolding first draw_at range_at coin_at choosing_at two_from two_at redraw not_at le32 le64 zeros trailer_of formula_of record_at kind_no graph_of reaches_below reaches head_rows rows_of record_rows cycle_rows root_rows body_rows checks verdict round reached stepped turn_of run_from from_root search_of table_says invert_at value_at inverse_at consistent_at hinders_one worth each_below settle wanted_up_to wanted first_of given_up_to start_from start_of essential sides way_at along_way step_from lent_rows on_graph answer
narrow_answer = refl

pub narrow_rounds : rounds_in narrow_file narrow_words 1 ≡ narrow_round ∷ []
unfolding first draw_at range_at coin_at choosing_at two_from two_at redraw not_at le32 le64 zeros trailer_of formula_of record_at kind_no graph_of round reached table_says invert_at value_at inverse_at consistent_at hinders_one worth each_below settle wanted_up_to wanted first_of given_up_to start_from start_of essential sides way_at along_way step_from rounds_from root_rounds rounds_of
narrow_rounds = refl
