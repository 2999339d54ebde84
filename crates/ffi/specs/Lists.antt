-- The listing of a graph file, as the comparison asks for it. Assumes nothing.
use Rattle.std.specs.Prelude.{ℕ, List, get_or}
use Rattle.text.specs.Text.{Text}
use Rattle.listing.specs.Answer.{Result, written, refused}
use Rattle.ffi.specs.Out.{three}

-- 0 and the length; or the refusal's number and the id that it names
abbrev pub listed_as : Result → List ℕ → List ℕ
listed_as (written n text) out = three 0 n 0 out
listed_as (refused k ids text) out = three k (get_or ids 0 0) 0 out

-- the buffer after the call
abbrev pub text_after : Result → Text
text_after (written n text) = text
text_after (refused k ids text) = text
