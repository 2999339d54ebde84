-- Document 01, "Words and draws": "Words are a lent list of u64, read from the front; a word source that has given a word is a new
-- word source, and a draw answers either the words and the source after them, or Dry." Document 02, Q-5: even draws. Assumes nothing.
use Rattle.std.specs.Prelude.{◌≡◌, ℕ, zero, suc, ◌+◌, ◌-◌, ◌*◌, ◌/◌, ◌%◌, ◌^◌, List, Bool, not, ◌&&◌, ◌||◌, length, get_or, ltb, leb, eqb, Option, Some, None}
use Rattle.laws.specs.Pick.{pick}
use Rattle.words.specs.declared.WordSource.{WordSource}

-- the lent words, and the place of the next one
abbrev pub Words : Type 0
Words = List ℕ

abbrev pub Place : Type 0
Place = ℕ

-- the source at a place
abbrev pub from : Place → WordSource
from n = record { at = n }

-- "the words and the source after them, or Dry": Dry is `None`, since the caller still has its own source, unmoved
abbrev pub Drawn : Type 0 → Type 0
Drawn X = Option (X × WordSource)

abbrev pub Draw : Type 0
Draw = Drawn ℕ

-- one word, or Dry where none is left
unfoldable pub draw_at : Words → Place → Draw
draw_at ws n = pick (ltb n (length ws)) (Some (get_or ws n 0, from (n + 1))) None

-- what is made of what was drawn
abbrev pub map_draw : {X Y : Type 0} → (X → Y) → Drawn X → Drawn Y
map_draw f (Some (x, s)) = Some (f x, s)
map_draw f None = None

-- words are passed over while drop says so, and the next one is taken: k words are left to look at
unfoldable pub redraw : (ℕ → Bool) → ℕ → Words → Place → Draw
redraw drop zero ws n = None
redraw drop (suc k) ws n = pick (drop (get_or ws n 0)) (redraw drop k ws (n + 1)) (Some (get_or ws n 0, from (n + 1)))

abbrev pub redraw_at : (ℕ → Bool) → Words → Place → Draw
redraw_at drop ws n = redraw drop (length ws - n) ws n

-- a test that says which words are kept, by what it may answer at each, keeps those that are not dropped
abbrev pub KeepsRest : (ℕ → Bool → Type 0) → (ℕ → Bool) → Type 0
KeepsRest answers drop = (w : ℕ) (b : Bool) → answers w b → drop w ≡ not b

-- "the largest multiple of m that is at most 2^64"
abbrev pub multiple : ℕ → ℕ
multiple m = 2 ^ 64 / m * m

-- "For a range of size m below 2^64, a word at or above the largest multiple … is discarded"
abbrev pub discards : ℕ → ℕ → Bool
discards m w = ltb m (2 ^ 64) && leb (multiple m) w

-- "and the next one taken"
abbrev pub even_at : Words → Place → ℕ → Draw
even_at ws n m = redraw_at (discards m) ws n

-- "Range a..b (both included): one word w; w if the range is everything, else a + w mod (b − a + 1).", of the word that is taken
abbrev pub in_range : ℕ → ℕ → ℕ → ℕ
in_range a b w = pick (eqb (b - a) 0xffff_ffff_ffff_ffff) w (a + w % (b - a + 1))

-- "12 Dry … or a range a..b with a > b is asked"
unfoldable pub range_at : Words → Place → ℕ → ℕ → Draw
range_at ws n a b = pick (ltb b a) None (map_draw (in_range a b) (even_at ws n (b - a + 1)))

-- "Coin: true when w ≥ 2^63."
abbrev pub coin_of : ℕ → Bool
coin_of w = leb (2 ^ 63) w

unfoldable pub coin_at : Words → Place → Drawn Bool
coin_at ws n = map_draw coin_of (draw_at ws n)

-- "Inverse chosen when floor(w/2048) < 8106479329266893"
abbrev pub chosen_of : ℕ → Bool
chosen_of w = ltb (w / 2048) 8106479329266893

unfoldable pub choosing_at : Words → Place → Drawn Bool
choosing_at ws n = map_draw chosen_of (draw_at ws n)

-- "two words, low first, as r, redrawn while r = 0": k pairs are left to look at
unfoldable pub two_from : ℕ → Words → Place → Drawn (ℕ × ℕ)
two_from zero ws n = None
two_from (suc k) ws n =
    let low = get_or ws n 0 in
    let high = get_or ws (n + 1) 0 in
    pick (not (eqb low 0) || not (eqb high 0)) (Some ((low, high), from (n + 2))) (two_from k ws (n + 2))

unfoldable pub two_at : Words → Place → Drawn (ℕ × ℕ)
two_at ws n = two_from ((length ws - n) / 2) ws n

-- "words until one ≠ s"; "one word redrawn while 0" is `not_at ws n 0`
unfoldable pub not_at : Words → Place → ℕ → Draw
not_at ws n s = redraw_at (eqb s) ws n
