-- Laws of words from bytes, and one law for each `return`. Assumes nothing.
use Prim.Native.Nat.{ℕ, zero, suc, ◌+◌, ◌-◌, ◌*◌, ◌/◌, ◌≤◌, ◌<◌}
use mathlib.Core.Path.{◌≡◌, refl, sym, ap, ◌∙◌}
use mathlib.Core.List.{List, [], ◌++◌}
use native.Mathlib.Nat.{add-zero, add_assoc}
use native.Mathlib.Numerals.{add-one}
use native.Mathlib.Omega.{arith}
use lib.ListN.{length, get_or, take, drop, set, length-append, length-drop}
use Rattle.std.proofs.lemmas.List.{append-nil, drop_all}
use lib.Seq.{length-take-le, get_or-drop, drop-cons, set_at, append_snoc, take_at, take_all}
use Rattle.formula.specs.File.{le32, le64}
use Rattle.intake.specs.Words.{up_to, words_below, words_of}

pub words_length : (s : List ℕ) (k : ℕ) → length (words_below s k) ≡ k
unfolding words_below
words_length s zero = refl
words_length s (suc k) = length-append (words_below s k) _ ∙ omega (arith, words_length s k)

word_drop : (s : List ℕ) (a : ℕ) → le64 (drop a s) 0 ≡ le64 s a
unfolding le64 le32
word_drop s a = simp (get_or-drop, add-zero, add_assoc)

-- as the code lends the rest
word_rest : (s : List ℕ) (a : ℕ) → le64 (take (length s - a) (drop a s)) 0 ≡ le64 s a
word_rest s a = ap (λ (l : List ℕ). le64 l 0) (take_all (length s - a) (drop a s) (omega (arith, length-drop a s))) ∙ word_drop s a

-- words_from, after i words
module _ (s o : List ℕ) where
  pub words_begin : o ≡ words_below s 0 ++ drop 0 o
  unfolding words_below
  words_begin = refl

  pub words_more : (i w : ℕ) (p : List ℕ) → i < length o → p ≡ words_below s i ++ drop i o → w ≡ le64 (take (length s - 8 * i) (drop (8 * i) s)) 0
      → set p i w ≡ words_below s (i + 1) ++ drop (i + 1) o
  unfolding words_below
  words_more i w p h e ew =
      rw (add-one, e, drop-cons o i 0 h, ew ∙ word_rest s (8 * i), set_at (words_below s i) (get_or o i 0) (drop (suc i) o) (le64 s (8 * i)) i (words_length s i))
      (sym (append_snoc (words_below s i) (le64 s (8 * i)) (drop (suc i) o)))

-- the first n places of a buffer are filled
pub words_end : (s o p : List ℕ) (i n : ℕ) → n ≤ length o → i ≤ length (take n o) → length (take n o) ≤ i → p ≡ words_below s i ++ drop i (take n o)
    → p ++ drop n o ≡ words_below s n ++ drop n o
words_end s o p i n h g k e =
    let whole : i ≡ n = omega (arith, length-take-le n o h) in
    let none : drop n (take n o) ≡ [] = drop_all n (take n o) (omega arith) in
    rw (e, whole, none, append-nil)

-- the part of the buffer that was filled
module _ (s o p : List ℕ) (r : ℕ) (e : p ≡ words_below s r ++ drop r o) where
  words_front : take r p ≡ words_below s r
  words_front = ap (take r) e ∙ take_at (words_below s r) (drop r o) r (words_length s r)

  pub words_count : r ≡ length (take r p)
  words_count = sym (ap length words_front ∙ words_length s r)

  pub words_part : (most : ℕ) → most ≡ length o → r ≡ up_to (length o) (length s / 8) → take r p ≡ words_of most s
  unfolding words_of
  words_part most h hr = words_front ∙ ap (words_below s) (hr ∙ ap (λ (k : ℕ). up_to k (length s / 8)) (sym h))
