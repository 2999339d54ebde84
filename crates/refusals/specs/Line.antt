-- Document 01, "The program": the line that a refusal prints. Assumes nothing.
use Rattle.std.specs.Prelude.{ℕ, List, [], ◌∷◌, ◌++◌}
use Rattle.text.specs.Text.{Text, bytes, decimal}

-- numbers, each after a space
unfoldable pub spaced : List ℕ → Text
spaced [] = []
spaced (v ∷ vs) = (bytes " " ++ decimal v) ++ spaced vs

-- "a refusal prints `refused N`, with the id after a space for 4 and 5": its number and its values
unfoldable pub refusal_text : ℕ → List ℕ → Text
refusal_text k is = (bytes "refused " ++ decimal k) ++ spaced is ++ bytes "\n"
