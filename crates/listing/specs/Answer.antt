-- Q-2: the whole call: a graph file and the lent buffer. Assumes nothing.
use Rattle.std.specs.Prelude.{ℕ, ◌≤◌, ◌≡◌, List, ◌++◌, Result as Answered, Ok, Err, length, drop, nat_le}
use Rattle.laws.specs.Pick.{pick}
use Rattle.text.specs.Text.{Text}
use Rattle.symbols.specs.Refusals.{number_of, values_of}
use Rattle.symbols.specs.declared.Refusal.{Refusal}
use Rattle.symbols.specs.declared.Refusal.TheVariants.{Short}
use Rattle.formula.specs.File.{File}
use Rattle.formula.specs.Graph.{graph_of}
use Rattle.formula.specs.declared.Formula.{Formula}
use Rattle.checks.specs.Refusals as file
use Rattle.checks.specs.Refusals.{verdict}
use Rattle.listing.specs.Listing.{listing}

-- the listing's length, or a refusal's number and values; and the buffer after the call
pub data Result : Type 0 where
  written : ℕ → Text → Result
  refused : ℕ → List ℕ → Text → Result

abbrev pub refuse : Refusal → Text → Result
refuse r out = refused (number_of r) (values_of r) out

-- "The answer is the length. Bytes past it stay." "14 Short, exactly when the listing is longer than the buffer …; nothing is written."
unfoldable pub fitted : Text → Text → Result
fitted text out = pick (nat_le (length text) (length out)) (written (length text) (text ++ drop (length text) out)) (refuse Short out)

abbrev pub on_verdict : File → Text → file.Answer → Result
on_verdict f out (file.accepted m) = fitted (listing (graph_of f m)) out
on_verdict f out (file.refused k is) = refused k is out

-- "after 1 to 7 and 13"
unfoldable pub answer : File → Text → Result
answer f out = on_verdict f out (verdict f)

-- the code's answer, with the buffer after the call
abbrev pub result_of : Answered ℕ Refusal → Text → Result
result_of (Ok n) out = written n out
result_of (Err r) out = refuse r out

-- 4,000 lines of at most 41 bytes
abbrev pub Bounded : File → Type 0
Bounded f = (m : Formula) → verdict f ≡ file.accepted m → length (listing (graph_of f m)) ≤ 164000
