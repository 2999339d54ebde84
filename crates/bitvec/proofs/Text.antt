-- The Debug text (`specs/Debug.antt`): its length, and how an array is filled with it from the last digit on. Assumes nothing.
use Rattle.std.proofs.Common.{◌≡◌, ℕ, zero, suc, ◌+◌, ◌-◌, ◌*◌, ◌/◌, ◌%◌, ◌^◌, ◌<◌, ◌≤◌, List, [], ◌∷◌, ◌++◌, length, take, drop, set, replicate, sym, refl, ◌∙◌, append_assoc, add-zero, add-suc, add-one, arith, length-append, length-set, take-append-drop, drop-cons, get_or-set_same, drop-set-lt, lt-length-set, ne_eqb}
use native.Mathlib.Nat.{suc-sub-suc}
use lib.Count.{count_leading_zeros, leading_length, leading_le}
use lib.Seq.{take-append_seam, append_snoc, take-set-le}
use Rattle.bitvec.specs.Debug.{binary, debug_text, held}

-- x has k binary digits, and no leading zero among them
pub record Tall (k x : ℕ) : Type 0 where
  pub fits : x < 2 ^ k
  pub full : 2 ^ k ≤ 2 * x + 1

tall : (x k : ℕ) → x < 2 ^ 64 → count_leading_zeros 64 x + k ≡ 64 → Tall k x
tall x k h e =
    let p = leading_length 64 x h in
    let same : p.0 ≡ k = omega arith in
    record { fits = rw same at p.2; full = rw same at p.3 }

half : {k x : ℕ} → Tall (suc k) x → Tall k (x / 2)
half t = record { fits = omega arith; full = omega arith }

binary_suc : (k x : ℕ) → Tall (suc k) x → binary (suc k) x ≡ binary k (x / 2) ++ ((48 + x % 2) ∷ [])
unfolding binary
binary_suc k x t = simp (ne_eqb x 0 (omega arith))

binary_zero : (k : ℕ) → binary k 0 ≡ []
unfolding binary
binary_zero zero = refl
binary_zero (suc k) = refl

-- more digits than x has change nothing
binary_more : (d k x : ℕ) → x < 2 ^ k → binary (d + k) x ≡ binary k x
unfolding binary
binary_more d zero x h = let e : x ≡ 0 = omega arith in rw (e, add-zero d) (binary_zero d)
binary_more d (suc k) x h = rw (add-suc d k, binary_more d k (x / 2) (omega arith))

length_binary : (k x : ℕ) → Tall k x → length (binary k x) ≡ k
unfolding binary
length_binary zero x t = refl
length_binary (suc k) x t = rw (binary_suc k x t, length-append, length_binary k (x / 2) (half t)) (add-one k)

-- the text of a word of k digits
text_is : (x k : ℕ) → k ≤ 64 → Tall k x → debug_text x ≡ 60 ∷ (binary k x ++ (62 ∷ []))
unfolding debug_text
text_is x k h t = let e : 64 - k + k ≡ 64 = omega arith in rw (← e, binary_more (64 - k) k x t.fits)

text_length : (x k : ℕ) → k ≤ 64 → Tall k x → length (debug_text x) ≡ k + 2
text_length x k h t = rw (text_is x k h t, length-append, length_binary k x t) (omega arith)

-- "zero is `<>`"; and ten is `<1010>`
pub text_zero : debug_text 0 ≡ 60 ∷ 62 ∷ []
unfolding debug_text binary
text_zero = refl

pub text_ten : debug_text 10 ≡ 60 ∷ 49 ∷ 48 ∷ 49 ∷ 48 ∷ 62 ∷ []
unfolding debug_text binary
text_ten = refl

-- bytes, where the digits from the i-th on are set: x has what is left of the word's digits
pub record Filling (word i x : ℕ) (bytes : List ℕ) : Type 0 where
  pub left : Tall i x
  pub short : i ≤ 64
  pub long : length bytes ≡ 66
  pub text : take 1 bytes ++ (binary i x ++ drop (suc i) bytes) ≡ held (debug_text word)

turn : {word i x : ℕ} {bytes : List ℕ} → Filling word (suc i) x bytes → Filling word i (x / 2) (set bytes (suc i) (48 + x % 2))
turn {word} {i} {x} {bytes} f =
    let d = 48 + x % 2 in
    let in_range_lem : suc i < length bytes = omega arith in
    let now : drop (suc i) (set bytes (suc i) d) ≡ d ∷ drop (suc (suc i)) bytes =
    drop-cons (set bytes (suc i) d) (suc i) 0 (lt-length-set bytes (suc i) d in_range_lem)
    ∙ rw (get_or-set_same bytes (suc i) d 0 in_range_lem, drop-set-lt (suc (suc i)) bytes (suc i) d (omega arith)) in
    record {
      left = half f.left;
      short = omega arith;
      long = length-set bytes (suc i) d ∙ f.long;
      text =
          rw
          (take-set-le 1 bytes (suc i) d (omega arith), now, ← append_snoc (binary i (x / 2)) d (drop (suc (suc i)) bytes), ← binary_suc i x f.left)
          f.text;
    }

pub fill_turn : (word i x : ℕ) (bytes : List ℕ) → zero < i → Filling word i x bytes → Filling word (i - 1) (x / 2) (set bytes i (48 + x % 2))
fill_turn word zero x bytes pos f = absurd (omega arith)
fill_turn word (suc i) x bytes pos f = let e : suc i - 1 ≡ i = omega arith in rw e (turn f)

pub fill_end : (word i x : ℕ) (bytes : List ℕ) → i ≤ 0 → Filling word i x bytes → bytes ≡ held (debug_text word)
unfolding binary
fill_end word zero x bytes z f = sym (take-append-drop 1 bytes) ∙ f.text
fill_end word (suc i) x bytes z f = absurd (omega arith)

held_is : (x k : ℕ) → k ≤ 64 → Tall k x → held (debug_text x) ≡ 60 ∷ (binary k x ++ (62 ∷ replicate (65 - suc k) 0))
unfolding held
held_is x k h t =
    let e : 66 - length (debug_text x) ≡ 65 - suc k = omega (arith, text_length x k h t) in
    rw (e, text_is x k h t, append_assoc)

drop_zeros : (n k v : ℕ) → k < n → drop k (set (replicate n 0) k v) ≡ v ∷ replicate (n - suc k) 0
drop_zeros zero k v h = absurd (omega arith)
drop_zeros (suc n) zero v h = let e : suc n - 1 ≡ n = omega arith in rw e
drop_zeros (suc n) (suc k) v h = rw (drop_zeros n k v (omega arith), suc-sub-suc n (suc k))

-- the digits of a word are those behind its leading zeros
abbrev count : ℕ → ℕ
count x = 64 - count_leading_zeros 64 x

module _ (x : ℕ) (h : x < 2 ^ 64) where
  counted : Tall (count x) x
  counted = tall x (count x) h (omega (arith, leading_le 64 x))

  pub count_length : count x + 2 ≡ length (debug_text x)
  count_length = sym (text_length x (count x) (omega arith) counted)

  pub fill_begin : Filling x (count x) x (set (set (replicate 66 0) 0 60) (count x + 1) 62)
  fill_begin =
      record {
        left = counted;
        short = omega arith;
        long = length-set (set (replicate 66 0) 0 60) (count x + 1) 62;
        text = rw (add-one (count x), drop_zeros 65 (count x) 62 (omega arith)) (sym (held_is x (count x) (omega arith) counted));
      }

  -- "at most 66 bytes"
  pub text_short : length (debug_text x) ≤ 66
  text_short = omega (arith, count_length)

-- the first bytes of the array are the text
pub held_text : (t : List ℕ) → take (length t) (held t) ≡ t
unfolding held
held_text t = take-append_seam t _
