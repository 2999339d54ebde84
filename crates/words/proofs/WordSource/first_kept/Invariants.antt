-- `words::WordSource::first_kept` meets its contract: what the source now answers is what the first one answers. Assumes nothing.
use Rattle.std.proofs.Common.{◌≡◌, ℕ, Bool, ◌-◌, length}
use Rattle.words.specs.Words.{redraw_at, KeepsRest}
use Rattle.words.proofs.WordSource.first_kept.Given as goal

abbrev pub invariant-loop-kept : goal.invariant-loop-kept
invariant-loop-kept g l =
    (drop : ℕ → Bool) → KeepsRest (goal.F-post g l.kept) drop → redraw_at drop l.words l.source.at ≡ redraw_at drop l.words l.fn.self.at

abbrev pub decreases-loop-kept : goal.decreases-loop-kept
decreases-loop-kept g l = length l.words - l.source.at
