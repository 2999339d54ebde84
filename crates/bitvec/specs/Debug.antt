-- Document 01, "What is ported" 1: the Debug text of a word, as bytes, and the array of 66 that holds it. Assumes nothing.
use Rattle.std.specs.Prelude.{ℕ, zero, suc, ◌+◌, ◌-◌, ◌/◌, ◌%◌, List, [], ◌∷◌, ◌++◌, length, replicate, ◌==◌}
use Rattle.laws.specs.Pick.{pick}

-- "binary digits without leading zeros": those of x, at most k of them, the highest first; none of 0
unfoldable pub binary : ℕ → ℕ → List ℕ
binary zero x = []
binary (suc k) x = pick (x == 0) [] (binary k (x / 2) ++ ((48 + x % 2) ∷ []))

-- "`<`, binary digits without leading zeros, `>`; zero is `<>`"
unfoldable pub debug_text : ℕ → List ℕ
debug_text x = 60 ∷ (binary 64 x ++ (62 ∷ []))

-- "at most 66 bytes, answered by value": the text, and zeros behind it
unfoldable pub held : List ℕ → List ℕ
held t = t ++ replicate (66 - length t) 0
