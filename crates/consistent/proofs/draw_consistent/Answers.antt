-- `consistent::draw_consistent` meets its contract: of Mul the side does not matter. Assumes nothing.
use Rattle.consistent.proofs.draw_consistent.Goals as goal

pub returns-in-Mul : goal.returns-in-Mul
returns-in-Mul c = rw c.in-Mul.is (c.consistent_mul.ensures c.args.d)
