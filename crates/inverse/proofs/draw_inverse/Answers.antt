-- `inverse::draw_inverse` meets its contract: of Mul the side does not matter. Assumes nothing.
use Rattle.inverse.proofs.draw_inverse.Goals as goal

pub returns-in-Mul-default : goal.returns-in-Mul-default
returns-in-Mul-default c = rw c.in-Mul-default.is-0 (c.inverse_mul.ensures c.args.d)
