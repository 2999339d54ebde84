-- `words::WordSource::two` meets its contract: what the source now answers is what the first one answers. Assumes nothing.
use Rattle.std.proofs.Common.{◌≡◌, ◌-◌, ◌≤◌, length}
use Rattle.words.specs.Words.{two_at}
use Rattle.words.proofs.WordSource.two.Given as goal

abbrev pub invariant-loop-high : goal.invariant-loop-high
invariant-loop-high l = (l.source.at ≤ length l.words) × (two_at l.words l.source.at ≡ two_at l.words l.fn.self.at)

abbrev pub decreases-loop-high : goal.decreases-loop-high
decreases-loop-high l = length l.words - l.source.at
