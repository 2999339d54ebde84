-- What an adapter leaves in the lent buffer. Assumes nothing.
use Rattle.std.specs.Prelude.{ℕ, ◌+◌, List, [], ◌∷◌, Option, Some, None, set}

-- the answer's number at 0 and its value at 1; entries that the buffer lacks are not written
abbrev pub written : Option ℕ → List ℕ → List ℕ
written (Some v) out = set (set out 0 1) 1 v
written None out = set (set out 0 0) 1 0

-- fields from place i on, one after the other
abbrev pub laid : List ℕ → ℕ → List ℕ → List ℕ
laid [] i out = out
laid (v ∷ vs) i out = laid vs (i + 1) (set out i v)

-- three entries, six entries
abbrev pub three : ℕ → ℕ → ℕ → List ℕ → List ℕ
three a b c = laid (a ∷ b ∷ c ∷ []) 0

abbrev pub six : ℕ → ℕ → ℕ → ℕ → ℕ → ℕ → List ℕ → List ℕ
six a b c d e f = laid (a ∷ b ∷ c ∷ d ∷ e ∷ f ∷ []) 0
