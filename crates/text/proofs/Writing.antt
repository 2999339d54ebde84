-- Laws of writing: what stands where, texts one after the other, and one law for each `return`. Assumes nothing.
use Prim.Native.Nat.{ℕ, ◌+◌, ◌^◌, ◌≤◌, ◌<◌}
use mathlib.Core.Path.{◌≡◌, refl, sym, ap, ◌∙◌}
use mathlib.Core.List.{[], ◌∷◌, ◌++◌}
use native.Mathlib.Numerals.{add-one}
use native.Mathlib.Decide.{dec_le}
use native.Mathlib.Omega.{arith}
use lib.ListN.{length, get_or, take, drop, set, length-append, length-set, take-append-drop}
use lib.Seq.{take-suc, take_all, set_out, sets, sets-eq, take-set-le, drop-set-add}
use Rattle.text.specs.Text.{Text, Place, placed, last, after, Wrote, WroteUpTo}

pub placed_length : (s : Text) (n : Place) (o : Text) → length (placed s n o) ≡ length o
unfolding placed
placed_length [] n o = refl
placed_length (b ∷ s) n o = placed_length s (n + 1) (set o n b) ∙ length-set o n b

pub placed_past : (s : Text) (n : Place) (o : Text) → length o ≤ n → placed s n o ≡ o
unfolding placed
placed_past [] n o h = refl
placed_past (b ∷ s) n o h = rw (set_out o n b h) (placed_past s (n + 1) o (omega arith))

placed_sets : (s : Text) (n : Place) (o : Text) → placed s n o ≡ sets o n s
unfolding placed
placed_sets [] n o = refl
placed_sets (b ∷ s) n o = placed_sets s (n + 1) (set o n b) ∙ ap (λ (k : ℕ). sets (set o n b) k s) (add-one n)

-- where the buffer is long enough, the text stands there and all other bytes stay
pub placed_fits : (s : Text) (n : Place) (o : Text) → n + length s ≤ length o → placed s n o ≡ take n o ++ s ++ drop (n + length s) o
placed_fits s n o h = placed_sets s n o ∙ sets-eq s o n h

-- two texts, one after the other
pub placed_append : (s t : Text) (n : Place) (o : Text) → placed (s ++ t) n o ≡ placed t (n + length s) (placed s n o)
unfolding placed
placed_append [] t n o = ap (λ (k : ℕ). placed t k o) (omega arith)
placed_append (b ∷ s) t n o = placed_append s t (n + 1) (set o n b) ∙ ap (λ (k : ℕ). placed t k (placed s (n + 1) (set o n b))) (omega arith)

placed_from : (s : Text) (n k : Place) (o : Text) → take n o ++ placed s k (drop n o) ≡ placed s (n + k) o
unfolding placed
placed_from [] n k o = take-append-drop n o
placed_from (b ∷ s) n k o =
    ap (λ (l : Text). take n o ++ placed s (k + 1) l) (sym (drop-set-add n o k b))
    ∙ ap (λ (l : Text). l ++ placed s (k + 1) (drop n (set o (n + k) b))) (sym (take-set-le n o (n + k) b (omega arith)))
    ∙ placed_from s n (k + 1) (set o (n + k) b)
    ∙ ap (λ (i : ℕ). placed s i (set o (n + k) b)) (omega arith)

-- writing into the rest of a buffer, from a cursor on, is writing at the cursor
pub placed_rest : (s : Text) (n : Place) (o : Text) → take n o ++ placed s 0 (drop n o) ≡ placed s n o
placed_rest s n o = placed_from s n 0 o ∙ ap (λ (i : ℕ). placed s i o) (omega arith)

-- past every buffer's end one place is as good as another
placed_after : (t : Text) (n k : ℕ) (o : Text) → length o < 2 ^ 64 → placed t (after n k) o ≡ placed t (n + k) o
placed_after t n k o h =
    elim (dec_le (n + k) last) [
      | yes g ↦ ap (λ (i : ℕ). placed t i o) (omega arith)
      | no g ↦ placed_past t (after n k) o (omega arith) ∙ sym (placed_past t (n + k) o (omega arith))
    ]

-- no text
pub wrote_nothing : (at : Place) (o : Text) → at < 2 ^ 64 → Wrote [] at o o at
unfolding placed
wrote_nothing at o h = record { buffer = refl; place = omega arith }

-- texts one after the other
pub wrote_append : {s t : Text} {at n m : Place} {o p q : Text} → length o < 2 ^ 64 → Wrote s at o p n → Wrote t n p q m → Wrote (s ++ t) at o q m
wrote_append {s} {t} {at} {n} {m} {o} {p} {q} h u v = record {
  buffer = v.buffer ∙ ap (placed t n) u.buffer ∙ ap (λ (i : ℕ). placed t i (placed s at o)) u.place ∙ placed_after t at (length s) (placed s at o) (rw placed_length h) ∙ sym (placed_append s t at o);
  place = omega (arith, v.place, u.place, length-append s t);
}

pub wrote_kept : {s : Text} {at n : Place} {o p : Text} → Wrote s at o p n → length p ≡ length o
wrote_kept {s} {at} {n} {o} u = ap length u.buffer ∙ placed_length s at o

pub wrote_kept_short : {most : ℕ} {s : Text} {at n : Place} {o p : Text} → WroteUpTo most s at o p n → length p ≡ length o
wrote_kept_short u = wrote_kept u.wrote

-- put_byte
pub byte_put : (b : ℕ) (at : Place) (o p : Text) (n : Place) → p ≡ set o at b → n ≡ after at 1 → Wrote (b ∷ []) at o p n
unfolding placed
byte_put b at o p n e r = record { buffer = e; place = r }

-- put_text, after i bytes
pub text_begin : (s : Text) (at : Place) (o : Text) → at < 2 ^ 64 → Wrote (take 0 s) at o o at
text_begin s at o h = wrote_nothing at o h

pub text_more : (s : Text) (i : ℕ) (at n m : Place) (o p q : Text) → i < length s → length o < 2 ^ 64 → Wrote (take i s) at o p n → Wrote (get_or s i 0 ∷ []) n p q m
    → Wrote (take (i + 1) s) at o q m
text_more s i at n m o p q h g u v = rw (add-one, take-suc s i 0) (wrote_append g u v)

pub text_whole : (s : Text) (i : ℕ) (at n : Place) (o p : Text) → length s ≤ i → Wrote (take i s) at o p n → Wrote s at o p n
text_whole s i at n o p h u = rw (← take_all i s h) u
