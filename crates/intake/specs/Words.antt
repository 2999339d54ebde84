-- Document 01, "The program": "little-endian words of 8 bytes from standard input (a rest under 8 is ignored)". Assumes nothing.
use Rattle.std.specs.Prelude.{ℕ, zero, suc, ◌-◌, ◌*◌, ◌/◌, List, [], ◌∷◌, ◌++◌, length}
use Rattle.formula.specs.File.{le64}

-- n, or the most where n is more
abbrev pub up_to : ℕ → ℕ → ℕ
up_to most n = n - (n - most)

-- the first k words of the bytes
unfoldable pub words_below : List ℕ → ℕ → List ℕ
words_below s zero = []
words_below s (suc k) = words_below s k ++ (le64 s (8 * k) ∷ [])

-- the words of the bytes, up to so many
unfoldable pub words_of : ℕ → List ℕ → List ℕ
words_of most s = words_below s (up_to most (length s / 8))
