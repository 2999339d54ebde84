-- One of two, by a test. Assumes nothing.
use Rattle.std.specs.Prelude.{Bool, true, false}

abbrev pub pick : {X : Type 0} → Bool → X → X → X
pick true x y = x
pick false x y = y
