-- The marked cases hold: the replies of the table are what the definitions give, computed. Assumes nothing.
use mathlib.Core.Path.{◌≡◌, refl}
use lib.Count.{count_trailing_zeros}
use Rattle.laws.specs.Newton.{lifts}
use Rattle.laws.specs.Rows.{first}
use Rattle.bitvec.specs.Inverse.{inverse_of}
use Rattle.words.specs.Words.{draw_at, range_at, coin_at, redraw, not_at, choosing_at}
use Rattle.symbols.specs.Reaching.{reaches_below, reaches}
use Rattle.formula.specs.File.{le32, le64, zeros, trailer_of, formula_of, record_at}
use Rattle.formula.specs.Graph.{kind_no, graph_of}
use Rattle.checks.specs.Refusals.{head_rows, rows_of, record_rows, cycle_rows, root_rows, body_rows, checks, verdict}
use Rattle.search.specs.Machine.{round, reached, stepped, turn_of, run_from, from_root, search_of}
use Rattle.reach.specs.Table.{table_says}
use Rattle.rules.specs.Rules.{invert_at, value_at}
use Rattle.rules.specs.One.{mul_value, divisor_of, inverse_at, consistent_at, hinders_one}
use Rattle.values.specs.Answers.{inverse_answer, consistent_answer}
use Rattle.assign.specs.Settle.{worth, each_below, settle}
use Rattle.assign.specs.Start.{wanted_up_to, wanted, first_of, given_up_to, start_from, start_of}
use Rattle.monster.specs.Step.{essential, sides, way_at, along_way, step_from}
use Rattle.solve.specs.Solve.{lent_rows, on_graph, answer}
use Rattle.marked.specs.Cases.{ask, asked, replied, table}

pub marked : asked table ≡ replied table
unfolding table ask count_trailing_zeros lifts first inverse_of draw_at range_at coin_at redraw not_at choosing_at table_says mul_value divisor_of inverse_at consistent_at inverse_answer consistent_answer le32 le64 zeros trailer_of formula_of record_at kind_no graph_of reaches_below reaches head_rows rows_of record_rows cycle_rows root_rows body_rows checks verdict round reached stepped turn_of run_from from_root search_of invert_at value_at hinders_one worth each_below settle wanted_up_to wanted first_of given_up_to start_from start_of essential sides way_at along_way step_from lent_rows on_graph answer
marked = refl
