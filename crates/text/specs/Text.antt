-- Text in a lent buffer, and numbers in decimal. Assumes nothing.
use Rattle.std.specs.Prelude.{ℕ, zero, suc, ◌+◌, ◌-◌, ◌/◌, ◌%◌, ◌≤◌, ◌≡◌, List, [], ◌∷◌, ◌++◌, length, set, ltb}
use Prim.Native.Char.{code}
use Prim.Native.String as string
use Prim.Native.String.{String}
use Rattle.laws.specs.Pick.{pick}

-- bytes, one after the other
abbrev pub Text : Type 0
Text = List ℕ

-- a quoted text's bytes
abbrev pub bytes : String → Text
bytes string.[] = []
bytes (string.◌∷◌ c s) = code c ∷ bytes s

-- a place in a buffer
abbrev pub Place : Type 0
Place = ℕ

-- the buffer with the text from the place on: what would stand past its end is not stored
unfoldable pub placed : Text → Place → Text → Text
placed [] n out = out
placed (b ∷ bs) n out = placed bs (n + 1) (set out n b)

-- the last place that a usize holds: 2^64 − 1
abbrev pub last : Place
last = 0xffff_ffff_ffff_ffff

-- the place k bytes on, or the last
abbrev pub after : Place → ℕ → Place
after n k = (n + k) - (n + k - last)

-- what writing a text at a place leaves, and the place after it
pub record Wrote (text : Text) (at : Place) (entry exit : Text) (next : Place) : Type 0 where
  pub buffer : exit ≡ placed text at entry
  pub place : next ≡ after at (length text)

-- the same of a text of at most so many bytes
pub record WroteUpTo (most : ℕ) (text : Text) (at : Place) (entry exit : Text) (next : Place) : Type 0 where
  pub wrote : Wrote text at entry exit next
  pub short : length text ≤ most

-- the byte of a digit
abbrev pub digit : ℕ → ℕ
digit d = 48 + d

-- a number in decimal, without leading zeros, where it has at most k digits
unfoldable pub digits : ℕ → ℕ → Text
digits zero v = []
digits (suc k) v = pick (ltb v 10) (digit v ∷ []) (digits k (v / 10) ++ (digit (v % 10) ∷ []))

-- a number in decimal, without leading zeros; 0 is "0"
unfoldable pub decimal : ℕ → Text
unfolding digits
decimal v = digits (suc v) v
