-- `consistent::mul::consistent_mul` meets its contract: two words that are both 0 are not drawn. Assumes nothing.
use mathlib.Core.Path.{sym, ◌∙◌}
use Rattle.words.proofs.Draws.{two_is}
use Rattle.consistent.proofs.mul.consistent_mul.Goals as goal

pub mul_consistent-requires : goal.mul_consistent-requires
mul_consistent-requires c = (two_is _ _ _ _ _ (sym c.two.ensures ∙ c.in_ok-low.was)).some
