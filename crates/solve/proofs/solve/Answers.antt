-- `solve::solve` meets its contract. Assumes nothing.
use mathlib.Core.Path.{sym}
use Rattle.filelaws.proofs.Accepted.{accepted_well_formed}
use Rattle.solve.proofs.solve.Goals as goal

pub run-requires-clause-inside : goal.run-requires-clause-inside
run-requires-clause-inside c = (accepted_well_formed c.args.file.now c.in_ok-layout.layout (sym c.in_ok-layout.ensures.answered)).inside
