-- `assign::initialize_ab` meets its contract. Assumes nothing.
use borrow.Author.Rules.{rules}
use Rattle.formula.specs.Graph.{graph_of}
use Rattle.assign.specs.Start.{start_along}
use Rattle.assign.proofs.initialize_ab.Goals as goal

pub returns : goal.returns
unfolding start_along graph_of
returns c = search rules
