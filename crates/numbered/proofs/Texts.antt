-- A byte of the Debug text, as the adapter meets it. Assumes nothing.
use Rattle.std.proofs.Common.{◌≡◌, ℕ, ◌≤◌, ◌<◌, List, Some, None, length, take, get_or, ap}
use borrow.Author.Tests.{lt-ltb, le-ltb}
use Rattle.bitvec.specs.Debug.{debug_text, held}
use Rattle.bitvec.proofs.Text.{held_text}
use Rattle.numbered.specs.Bitvec.{text_byte}

-- the first bytes that the buffer holds are the text
shown : (a n : ℕ) (bytes : List ℕ) → n ≡ length (debug_text a) → bytes ≡ held (debug_text a) → take n bytes ≡ debug_text a
shown a n bytes e b = rw (e, b) (held_text (debug_text a))

pub byte_found : (a i n x : ℕ) (bytes : List ℕ) → n ≡ length (debug_text a) → bytes ≡ held (debug_text a) → i < length (take n bytes) → x ≡ get_or (take n bytes) i 0 → Some x ≡ text_byte a i
unfolding text_byte
byte_found a i n x bytes e b l h =
    let s = shown a n bytes e b in
    let l' : i < length (debug_text a) = rw s at l in
    rw (lt-ltb i (length (debug_text a)) l') (ap Some (rw s at h))

pub byte_none : (a i n : ℕ) (bytes : List ℕ) → n ≡ length (debug_text a) → bytes ≡ held (debug_text a) → length (take n bytes) ≤ i → None ≡ text_byte a i
unfolding text_byte
byte_none a i n bytes e b l =
    let s = shown a n bytes e b in
    let l' : length (debug_text a) ≤ i = rw s at l in
    rw (le-ltb i (length (debug_text a)) l')
