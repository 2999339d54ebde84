-- Document 02, Q-5, "Even draws": which words a range discards, and that each of its values has equally many words. Assumes nothing.
use mathlib.Core.Path.{◌≡◌, refl, sym, ap, ◌∙◌}
use Prim.Native.Nat.{ℕ, ◌+◌, ◌-◌, ◌*◌, ◌/◌, ◌%◌, ◌^◌, ◌≤◌, ◌<◌}
use mathlib.Core.Logic.{◌↔◌}
use mathlib.Core.List.{[], ◌∷◌}
use mathlib.Core.Bool.{Bool, true, false, ◌&&◌, true≢false}
use native.Mathlib.Nat.{add-mul, div-mul-le_self, div-add-mod', div-lt_iff_lt-mul, le-div_iff_mul-le, mod-eq_of_lt, add-mul-mod_self_right, mul-le-mul_right, eq_of_mul-eq-mul_left, mul_comm}
use native.Mathlib.Omega.{arith}
use lib.ListN.{length, get_or}
use lib.Dec.{ltb, leb, eqb}
use borrow.Author.Tests.{ltb-false, leb-true, leb-false, lt-leb, eqb-true}
use Rattle.std.specs.Prelude.{Some, None}
use Rattle.laws.specs.Pick.{pick}
use Rattle.words.specs.declared.WordSource.{WordSource}
use Rattle.words.specs.Words.{Words, Place, Draw, from, map_draw, redraw, multiple, discards, even_at, in_range, range_at}
use Rattle.words.proofs.Laws.{redraw_taken}
use Rattle.words.proofs.Redraw.{Found, Dropped, redraw_is, redraw_dry}
use Rattle.words.proofs.Draws.{Small, range_of, range_is}

-- "the largest multiple of m that is at most 2^64": no other multiple is larger
pub multiple_at_most : (m : ℕ) → multiple m ≤ 2 ^ 64
multiple_at_most m = div-mul-le_self (2 ^ 64) m

pub multiple_largest : (m k : ℕ) → 0 < m → k * m ≤ 2 ^ 64 → k * m ≤ multiple m
multiple_largest m k p h = mul-le-mul_right m ((le-div_iff_mul-le p).1 h)

-- a word is accepted exactly when it is below the multiple; where the range is everything each is
module _ (m w : ℕ) (k : w < 2 ^ 64) (h : m ≤ 2 ^ 64) where
  below_by : (c : Bool) → ltb m (2 ^ 64) ≡ c → (c && leb (multiple m) w) ≡ false → w < multiple m
  below_by true t e = leb-false (multiple m) w e
  below_by false t e = let z : m ≡ 2 ^ 64 = omega (arith, ltb-false m (2 ^ 64) t) in rw z k

  accepted_by : (c : Bool) → w < multiple m → (c && leb (multiple m) w) ≡ false
  accepted_by true l = lt-leb (multiple m) w l
  accepted_by false l = refl

  pub accepted_is : (discards m w ≡ false) ↔ (w < multiple m)
  accepted_is = (below_by (ltb m (2 ^ 64)) refl, accepted_by (ltb m (2 ^ 64)))

-- the word of a range that was answered, and those before it
module _ (ws : Words) (n a b v : ℕ) (s : WordSource) (e : range_at ws n a b ≡ Some (v, s)) where
  found : (w : ℕ) × Found (discards (b - a + 1)) ws n w s
  found = let r = range_is ws n a b v s e in (r.1.0, (redraw_is (discards (b - a + 1)) ws r.1.0 s n).0 r.1.1)

  pub accepted_below : b < 2 ^ 64 → Small ws → get_or ws (s.at - 1) 0 < multiple (b - a + 1)
  accepted_below h k =
      let f = found.1 in
      (accepted_is (b - a + 1) (get_or ws (s.at - 1) 0) (k (s.at - 1)) (omega arith)).0 (ap (discards (b - a + 1)) (sym f.last) ∙ f.taken)

  pub discarded_above : (i : ℕ) → n ≤ i → i + 1 < s.at → multiple (b - a + 1) ≤ get_or ws i 0
  discarded_above i l h = leb-true (multiple (b - a + 1)) (get_or ws i 0) (and_right (ltb (b - a + 1) (2 ^ 64)) _ (found.1.passed i l h))
    where
      and_right : (c d : Bool) → (c && d) ≡ true → d ≡ true
      and_right true d t = t
      and_right false d t = absurd (true≢false (sym t))

-- where m divides 2^64 "the largest multiple is then 2^64 itself and no word is discarded"
pub divides_none_discarded : (m w : ℕ) → m ≤ 2 ^ 64 → 2 ^ 64 % m ≡ 0 → w < 2 ^ 64 → discards m w ≡ false
divides_none_discarded m w l d h = (accepted_is m w h l).1 (omega (arith, div-add-mod' (2 ^ 64) m))

-- a range is dry exactly when every word from n on is discarded
pub never_dry : (ws : Words) (n a b : ℕ) → a ≤ b → (range_at ws n a b ≡ None) ↔ Dropped (discards (b - a + 1)) ws n
never_dry ws n a b h = (λ e. (redraw_dry _ ws n).0 (dry (even_at ws n (b - a + 1)) (sym (range_of ws n a b h) ∙ e)), λ d. rw (range_of ws n a b h, (redraw_dry _ ws n).1 d))
  where
    dry : (r : Draw) → map_draw (in_range a b) r ≡ None → r ≡ None
    dry (Some (w, s)) e = let z : ◌≡◌ {A = ℕ} 0 1 = cc in absurd (omega arith)
    dry None e = refl

-- evenness: "for each v in a..b the words that give v at once are exactly (v − a) + j·m for j below floor(2^64 / m), each once"
module _ (a b v : ℕ) (lo : a ≤ v) (hi : v ≤ b) (small : b < 2 ^ 64) where
  abbrev m : ℕ
  m = b - a + 1

  -- the j-th word of v
  abbrev word : ℕ → ℕ
  word j = v - a + j * m

  pub each_once : (i j : ℕ) → word i ≡ word j → i ≡ j
  each_once i j e = eq_of_mul-eq-mul_left m (omega arith) i j (mul_comm m i ∙ omega arith ∙ mul_comm j m)

  below : (j : ℕ) → j < 2 ^ 64 / m → word j < multiple m
  below j h = omega (arith, mul-le-mul_right {m = j + 1} {n = 2 ^ 64 / m} m (omega arith), add-mul j 1 m)

  pub each_small : (j : ℕ) → j < 2 ^ 64 / m → word j < 2 ^ 64
  each_small j h = omega (arith, below j h, multiple_at_most m)

  in_is : (w : ℕ) → w < 2 ^ 64 → (c : Bool) → eqb (b - a) 0xffff_ffff_ffff_ffff ≡ c → pick c w (a + w % m) ≡ a + w % m
  in_is w h true t =
      let z : b - a ≡ 0xffff_ffff_ffff_ffff = eqb-true (b - a) 0xffff_ffff_ffff_ffff t in
      let f : w % m ≡ w = mod-eq_of_lt (omega arith) in
      omega arith
  in_is w h false t = refl

  in_range_lem : (w : ℕ) → w < 2 ^ 64 → in_range a b w ≡ a + w % m
  in_range_lem w h = in_is w h (eqb (b - a) 0xffff_ffff_ffff_ffff) refl

  module _ (ws : Words) (n : Place) (some : n < length ws) (w : ℕ) (is : get_or ws n 0 ≡ w) (k : w < 2 ^ 64) where
    to : range_at ws n a b ≡ Some (v, from (n + 1)) → (j : ℕ) × (j < 2 ^ 64 / m) × (w ≡ word j)
    to e =
        let r = range_is ws n a b v (from (n + 1)) e in
        let f = (redraw_is (discards m) ws r.1.0 (from (n + 1)) n).0 r.1.1 in
        let p : n + 1 - 1 ≡ n = omega arith in
        let x : r.1.0 ≡ w = f.last ∙ ap (λ (i : ℕ). get_or ws i 0) p ∙ is in
        let t : discards m w ≡ false = ap (discards m) (sym x) ∙ f.taken in
        let g : v ≡ a + w % m = r.1.2 ∙ ap (in_range a b) x ∙ in_range_lem w k in
        (w / m, (div-lt_iff_lt-mul {k = m} {x = w} {y = 2 ^ 64 / m} (omega arith)).1 ((accepted_is m w k (omega arith)).0 t), omega (arith, div-add-mod' w m))

    of : (j : ℕ) → j < 2 ^ 64 / m → w ≡ word j → range_at ws n a b ≡ Some (v, from (n + 1))
    of j h e =
        let t : discards m w ≡ false = (accepted_is m w k (omega arith)).1 (omega (arith, below j h)) in
        let r : w % m ≡ v - a = ap (λ (x : ℕ). x % m) e ∙ add-mul-mod_self_right (v - a) j m ∙ mod-eq_of_lt (omega arith) in
        let o : even_at ws n m ≡ Some (w, from (n + 1)) = sym (redraw_taken (discards m) ws n some (ap (discards m) is ∙ t)) ∙ ap (λ (x : ℕ). Some (x, from (n + 1))) is in
        let g : in_range a b w ≡ v = in_range_lem w k ∙ omega arith in
        rw (range_of ws n a b (omega arith), o) (ap (λ (x : ℕ). Some (x, from (n + 1))) g)

    pub even : (range_at ws n a b ≡ Some (v, from (n + 1))) ↔ ((j : ℕ) × (j < 2 ^ 64 / m) × (w ≡ word j))
    even = (to, λ h. of h.0 h.1 h.2)

-- both occur: of size 3 the last word alone is discarded, and without a next one the range is dry
pub discarded_occurs : range_at (0xffff_ffff_ffff_ffff ∷ 5 ∷ []) 0 0 2 ≡ Some (2, from 2)
unfolding range_at redraw
discarded_occurs = refl

pub dry_occurs : range_at (0xffff_ffff_ffff_ffff ∷ []) 0 0 2 ≡ None
unfolding range_at redraw
dry_occurs = refl
