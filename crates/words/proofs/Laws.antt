-- Laws of the definitions of `Words`, as the proofs of this crate and of those above it cite them.
-- Assumes nothing.
use mathlib.Core.Path.{◌≡◌, refl, sym, ap, ◌∙◌}
use Prim.Native.Nat.{ℕ, suc, ◌+◌, ◌-◌, ◌%◌, ◌^◌, ◌≤◌, ◌<◌}
use mathlib.Core.List.{List}
use mathlib.Core.Bool.{Bool, true, false}
use native.Mathlib.Nat.{div-add-mod', mod-add-mod, mod-lt}
use native.Mathlib.Omega.{arith}
use lib.ListN.{length, get_or}
use lib.Dec.{ltb}
use borrow.Author.Tests.{ltb-true, ltb-false, lt-ltb, le-ltb, eq-eqb, ne_eqb}
use Rattle.std.specs.Prelude.{Some, None}
use Rattle.std.proofs.lemmas.Option.{same_Some, none-some}
use Rattle.words.specs.declared.WordSource.{WordSource}
use Rattle.words.specs.Words.{Drawn, Draw, from, draw_at, map_draw, redraw, redraw_at, multiple, discards, even_at, in_range, range_at}

-- two answers are the same only with the same value and the same source
pub same_drawn : {X : Type 0} (x y : X) (s q : WordSource) → ◌≡◌ {A = Drawn X} (Some (x, s)) (Some (y, q)) → (x ≡ y) × (s ≡ q)
same_drawn {X = X} x y s q e = let p = same_Some (x, s) (y, q) e in (ap (λ (z : X × WordSource). z.0) p, ap (λ (z : X × WordSource). z.1) p)

pub none_drawn : {X Y : Type 0} (x : X) (s : WordSource) → ◌≡◌ {A = Drawn X} None (Some (x, s)) → Y
none_drawn x s e = absurd (none-some (x, s) e)

-- Each law has what the code knows at one return as its premises, and what is returned there on its left, so that `search` finds
-- the premises by itself.
module _ (ws : List ℕ) (n : ℕ) where
  pub draw_word : n < length ws → Some (get_or ws n 0, from (n + 1)) ≡ draw_at ws n
  unfolding draw_at
  draw_word h = rw (lt-ltb n (length ws) h)

  pub draw_dry : length ws ≤ n → None ≡ draw_at ws n
  unfolding draw_at
  draw_dry h = rw (le-ltb n (length ws) h)

-- words passed over: what is left to look at from n
module _ (drop : ℕ → Bool) (ws : List ℕ) (n : ℕ) where
  pub redraw_past : length ws ≤ n → None ≡ redraw_at drop ws n
  unfolding redraw
  redraw_past h = let e : length ws - n ≡ 0 = omega arith in rw e

  module _ (h : n < length ws) where
    one_less : length ws - n ≡ suc (length ws - (n + 1))
    one_less = omega arith

    pub redraw_taken : drop (get_or ws n 0) ≡ false → Some (get_or ws n 0, from (n + 1)) ≡ redraw_at drop ws n
    unfolding redraw
    redraw_taken f = rw (one_less, f)

    pub redraw_passed : drop (get_or ws n 0) ≡ true → redraw_at drop ws (n + 1) ≡ redraw_at drop ws n
    unfolding redraw
    redraw_passed f = rw (one_less, f)

  pub redraw_once : drop (get_or ws n 0) ≡ false → redraw_at drop ws n ≡ draw_at ws n
  redraw_once f = go (ltb n (length ws)) refl
    where
      go : (c : Bool) → ltb n (length ws) ≡ c → redraw_at drop ws n ≡ draw_at ws n
      go true t = let h = ltb-true n (length ws) t in sym (redraw_taken h f) ∙ draw_word ws n h
      go false t = let h = ltb-false n (length ws) t in sym (redraw_past h) ∙ draw_dry ws n h

-- the word below the largest multiple of m that is at most 2^64
pub last_is : (m : ℕ) → 0 < m → m < 2 ^ 64 → 0xffff_ffff_ffff_ffff - (0xffff_ffff_ffff_ffff % m + 1) % m + 1 ≡ multiple m
last_is m p k =
    let d = div-add-mod' (2 ^ 64) m in
    let r : (0xffff_ffff_ffff_ffff % m + 1) % m ≡ 2 ^ 64 % m = mod-add-mod 0xffff_ffff_ffff_ffff m 1 in
    omega (arith, mod-lt (2 ^ 64) p)

-- a range
kept : (f : ℕ → ℕ) (r : Draw) → ((w : ℕ) → f w ≡ w) → map_draw f r ≡ r
kept f (Some (w, s)) h = ap (λ (x : ℕ). Some (x, s)) (h w)
kept f None h = refl

module _ (ws : List ℕ) (n a b : ℕ) where
  pub range_over : b < a → None ≡ range_at ws n a b
  unfolding range_at
  range_over h = rw (lt-ltb b a h)

  module _ (r : Draw) (h : a ≤ b) where
    pub range_all : b - a ≡ 0xffff_ffff_ffff_ffff → r ≡ draw_at ws n → r ≡ range_at ws n a b
    unfolding range_at
    range_all m d =
        let f : discards (b - a + 1) (get_or ws n 0) ≡ false = rw (le-ltb (b - a + 1) (2 ^ 64) (omega arith)) in
        let k : map_draw (in_range a b) (even_at ws n (b - a + 1)) ≡ even_at ws n (b - a + 1) = kept (in_range a b) _ (λ w. rw (eq-eqb (b - a) 0xffff_ffff_ffff_ffff m)) in
        rw (le-ltb b a h) (d ∙ sym (k ∙ redraw_once (discards (b - a + 1)) ws n f))

    module _ (d : r ≡ even_at ws n (b - a + 1)) where
      pub range_dry : r ≡ None → None ≡ range_at ws n a b
      unfolding range_at
      range_dry e = rw (le-ltb b a h) (ap (map_draw (in_range a b)) (sym e ∙ d))

      pub range_part : (w : ℕ) (s : WordSource) → r ≡ Some (w, s) → (b - a ≡ 0xffff_ffff_ffff_ffff → ⊥) → Some (a + w % (b - a + 1), s) ≡ range_at ws n a b
      unfolding range_at
      range_part w s e m = rw (le-ltb b a h, sym (sym e ∙ d), ne_eqb (b - a) 0xffff_ffff_ffff_ffff m)
