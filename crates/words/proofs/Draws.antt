-- What callers know of draws, instead of their text: where the word lies, that the place moves forward and stays within the list,
-- and that a draw that is answered is answered alike on every longer list. Assumes nothing.
use mathlib.Core.Path.{◌≡◌, refl, sym, ap, ◌∙◌}
use Prim.Native.Nat.{ℕ, zero, suc, ◌+◌, ◌-◌, ◌*◌, ◌/◌, ◌%◌, ◌^◌, ◌≤◌, ◌<◌}
use mathlib.Core.List.{◌++◌}
use mathlib.Core.Bool.{Bool, true, false, not, ◌||◌}
use native.Mathlib.Nat.{mod-lt}
use native.Mathlib.Omega.{arith}
use Rattle.std.proofs.lemmas.Bool.Decides.{nat_tests}
use lib.ListN.{length, get_or, length-append, get_or-append}
use lib.Dec.{ltb, eqb}
use borrow.Author.Tests.{ltb-true, ltb-false, lt-ltb, le-ltb, eqb-true, eqb-false, eq-eqb}
use Rattle.std.specs.Prelude.{Some, None}
use Rattle.laws.specs.Pick.{pick}
use Rattle.words.specs.declared.WordSource.{WordSource}
use Rattle.words.specs.Words.{Words, Place, Drawn, Draw, from, draw_at, map_draw, redraw_at, even_at, in_range, range_at, coin_of, coin_at, chosen_of, choosing_at, two_from, two_at, not_at}
use Rattle.words.proofs.Laws.{same_drawn, none_drawn, draw_word, redraw_past, redraw_taken, redraw_passed}
use Rattle.words.proofs.Redraw.{redraw_is, redraw_longer}

-- every word of a lent list is one of 64 bits
abbrev pub Small : Words → Type 0
Small ws = (i : ℕ) → get_or ws i 0 < 2 ^ 64

-- from n the source has moved to m
pub record Forward (ws : Words) (n m : Place) : Type 0 where
  pub moved : n < m
  pub within : m ≤ length ws

-- one word
module _ (ws : Words) (n w : ℕ) (s : WordSource) where
  draw_by : (b : Bool) → ltb n (length ws) ≡ b → pick {X = Draw} b (Some (get_or ws n 0, from (n + 1))) None ≡ Some (w, s) → (n < length ws) × (w ≡ get_or ws n 0) × (s ≡ from (n + 1))
  draw_by true t e = let p = same_drawn (get_or ws n 0) w (from (n + 1)) s e in (ltb-true n (length ws) t, sym p.0, sym p.1)
  draw_by false t e = let z : ◌≡◌ {A = ℕ} 0 1 = cc in absurd (omega arith)

  pub draw_is : draw_at ws n ≡ Some (w, s) → (n < length ws) × (w ≡ get_or ws n 0) × (s ≡ from (n + 1))
  unfolding draw_at
  draw_is e = draw_by (ltb n (length ws)) refl e

  pub draw_forward : draw_at ws n ≡ Some (w, s) → Forward ws n s.at
  draw_forward e = let h = draw_is e in let a : s.at ≡ n + 1 = ap (λ (x : WordSource). x.at) h.2 in record { moved = omega arith; within = omega (arith, h.0) }

  pub draw_small : Small ws → draw_at ws n ≡ Some (w, s) → w < 2 ^ 64
  draw_small k e = let h = draw_is e in omega (arith, k n, h.1)

  pub draw_longer : (us : Words) → draw_at ws n ≡ Some (w, s) → draw_at (ws ++ us) n ≡ Some (w, s)
  unfolding draw_at
  draw_longer us e =
      let h = draw_is e in
      let l : n < length (ws ++ us) = omega (arith, h.0, length-append ws us) in
      let g : get_or (ws ++ us) n 0 ≡ get_or ws n 0 = get_or-append ws us 0 n h.0 in
      rw (lt-ltb n (length (ws ++ us)) l, g, sym h.1, sym h.2)

-- a word of which something is made
pub made : {X Y : Type 0} (f : X → Y) (d : Drawn X) (y : Y) (s : WordSource) → map_draw f d ≡ Some (y, s) → (x : X) × (d ≡ Some (x, s)) × (y ≡ f x)
made f (Some (x, q)) y s e = let p = same_drawn (f x) y q s e in (x, ap (λ (z : WordSource). Some (x, z)) p.1, sym p.0)
made f None y s e = none_drawn y s e

-- a range
module _ (ws : Words) (n a b : ℕ) where
  pub range_of : a ≤ b → range_at ws n a b ≡ map_draw (in_range a b) (even_at ws n (b - a + 1))
  unfolding range_at
  range_of h = rw (le-ltb b a h)

  module _ (v : ℕ) (s : WordSource) where
    range_by : (c : Bool) → ltb b a ≡ c → pick c None (map_draw (in_range a b) (even_at ws n (b - a + 1))) ≡ Some (v, s)
        → (a ≤ b) × ((w : ℕ) × (even_at ws n (b - a + 1) ≡ Some (w, s)) × (v ≡ in_range a b w))
    range_by true t e = let z : ◌≡◌ {A = ℕ} 0 1 = cc in absurd (omega arith)
    range_by false t e = (ltb-false b a t, made (in_range a b) (even_at ws n (b - a + 1)) v s e)

    pub range_is : range_at ws n a b ≡ Some (v, s) → (a ≤ b) × ((w : ℕ) × (even_at ws n (b - a + 1) ≡ Some (w, s)) × (v ≡ in_range a b w))
    unfolding range_at
    range_is e = range_by (ltb b a) refl e

    -- the range's answer on a list where its word is found too
    pub range_as : (us : Words) → range_at ws n a b ≡ Some (v, s) → ((w : ℕ) → even_at ws n (b - a + 1) ≡ Some (w, s) → even_at us n (b - a + 1) ≡ Some (w, s))
        → range_at us n a b ≡ Some (v, s)
    unfolding range_at
    range_as us e f = let h = range_is e in rw (le-ltb b a h.0, f h.1.0 h.1.1) (ap (λ (x : ℕ). Some (x, s)) (sym h.1.2))

module _ (ws : Words) (n a b v : ℕ) (s : WordSource) where
  -- one word or more
  pub range_forward : range_at ws n a b ≡ Some (v, s) → Forward ws n s.at
  range_forward e = let r = range_is ws n a b v s e in let h = (redraw_is _ ws r.1.0 s n).0 r.1.1 in record { moved = h.moved; within = h.within }

  in_range_lem : (w : ℕ) (c : Bool) → a ≤ b → b < 2 ^ 64 → w < 2 ^ 64 → eqb (b - a) 0xffff_ffff_ffff_ffff ≡ c → pick c w (a + w % (b - a + 1)) ≡ v → (a ≤ v) × (v ≤ b)
  in_range_lem w true l h k t e = let q = eqb-true (b - a) 0xffff_ffff_ffff_ffff t in (omega arith, omega arith)
  in_range_lem w false l h k t e = let m = mod-lt w {m = b - a + 1} (omega arith) in (omega arith, omega arith)

  pub range_within : b < 2 ^ 64 → Small ws → range_at ws n a b ≡ Some (v, s) → (a ≤ v) × (v ≤ b)
  range_within h k e =
      let r = range_is ws n a b v s e in
      let f = (redraw_is _ ws r.1.0 s n).0 r.1.1 in
      in_range_lem r.1.0 (eqb (b - a) 0xffff_ffff_ffff_ffff) r.0 h (omega (arith, k (s.at - 1), f.last)) refl (sym r.1.2)

  pub range_longer : (us : Words) → range_at ws n a b ≡ Some (v, s) → range_at (ws ++ us) n a b ≡ Some (v, s)
  range_longer us e = range_as ws n a b v s (ws ++ us) e (λ w d. redraw_longer _ ws n w s d us)

-- a coin and the choosing word
module _ (ws : Words) (n : ℕ) (b : Bool) (s : WordSource) where
  pub coin_forward : coin_at ws n ≡ Some (b, s) → Forward ws n s.at
  unfolding coin_at
  coin_forward e = let h = made coin_of (draw_at ws n) b s e in draw_forward ws n h.0 s h.1

  pub coin_longer : (us : Words) → coin_at ws n ≡ Some (b, s) → coin_at (ws ++ us) n ≡ Some (b, s)
  unfolding coin_at
  coin_longer us e = let h = made coin_of (draw_at ws n) b s e in rw (draw_longer ws n h.0 s us h.1) (ap (λ (x : Bool). Some (x, s)) (sym h.2))

  pub choosing_forward : choosing_at ws n ≡ Some (b, s) → Forward ws n s.at
  unfolding choosing_at
  choosing_forward e = let h = made chosen_of (draw_at ws n) b s e in draw_forward ws n h.0 s h.1

  pub choosing_longer : (us : Words) → choosing_at ws n ≡ Some (b, s) → choosing_at (ws ++ us) n ≡ Some (b, s)
  unfolding choosing_at
  choosing_longer us e = let h = made chosen_of (draw_at ws n) b s e in rw (draw_longer ws n h.0 s us h.1) (ap (λ (x : Bool). Some (x, s)) (sym h.2))

-- words until one is not s
pub record Until (ws : Words) (n s w : ℕ) (q : WordSource) : Type 0 where
  pub moved : n < q.at
  pub within : q.at ≤ length ws
  pub last : w ≡ get_or ws (q.at - 1) 0
  pub other : w ≡ s → ⊥

module _ (ws : Words) (s w : ℕ) (q : WordSource) where
  pub not_is : (n : ℕ) → not_at ws n s ≡ Some (w, q) → Until ws n s w q
  unfolding not_at
  not_is n e =
      let h = (redraw_is (eqb s) ws w q n).0 e in
      record { moved = h.moved; within = h.within; last = h.last; other = λ y. eqb-false s w h.taken (sym y) }

  pub not_forward : (n : ℕ) → not_at ws n s ≡ Some (w, q) → Forward ws n q.at
  not_forward n e = let h = not_is n e in record { moved = h.moved; within = h.within }

  pub not_small : (n : ℕ) → Small ws → not_at ws n s ≡ Some (w, q) → w < 2 ^ 64
  not_small n k e = let h = not_is n e in omega (arith, k (q.at - 1), h.last)

  pub not_longer : (n : ℕ) (us : Words) → not_at ws n s ≡ Some (w, q) → not_at (ws ++ us) n s ≡ Some (w, q)
  unfolding not_at
  not_longer n us e = redraw_longer (eqb s) ws n w q e us

-- two words
pub record Two (ws : Words) (n low high : ℕ) (q : WordSource) : Type 0 where
  pub moved : n < q.at
  pub within : q.at ≤ length ws
  pub first : low ≡ get_or ws (q.at - 2) 0
  pub second : high ≡ get_or ws (q.at - 1) 0
  pub some : low ≡ 0 → high ≡ 0 → ⊥

some_by : (a b : ℕ) → (not (eqb a 0) || not (eqb b 0)) ≡ true → a ≡ 0 → b ≡ 0 → ⊥
some_by a b e x y = let f : (not (eqb a 0) || not (eqb b 0)) ≡ false = rw (eq-eqb a 0 x, eq-eqb b 0 y) in let z : ◌≡◌ {A = ℕ} 0 1 = cc in omega arith

module _ (ws : Words) (low high : ℕ) (q : WordSource) where
  two_from_lem : (k n : ℕ) → 2 * k + n ≤ length ws → two_from k ws n ≡ Some ((low, high), q) → Two ws n low high q
  unfolding two_from
  two_from_lem zero n l e = let z : ◌≡◌ {A = ℕ} 0 1 = cc in absurd (omega arith)
  two_from_lem (suc k) n l e = go (two_from_lem k (n + 2) (omega arith)) (not (eqb (get_or ws n 0) 0) || not (eqb (get_or ws (n + 1) 0) 0)) refl e
    where
      go : (two_from k ws (n + 2) ≡ Some ((low, high), q) → Two ws (n + 2) low high q) → (c : Bool) → (not (eqb (get_or ws n 0) 0) || not (eqb (get_or ws (n + 1) 0) 0)) ≡ c
          → pick {X = Drawn (ℕ × ℕ)} c (Some ((get_or ws n 0, get_or ws (n + 1) 0), from (n + 2))) (two_from k ws (n + 2)) ≡ Some ((low, high), q) → Two ws n low high q
      go rest true t f =
          let p = same_drawn (get_or ws n 0, get_or ws (n + 1) 0) (low, high) (from (n + 2)) q f in
          let a : from (n + 2) ≡ q = p.1 in
          let m : n + 2 ≡ q.at = ap (λ (x : WordSource). x.at) a in
          let s : q.at - 2 ≡ n = omega arith in
          let r : q.at - 1 ≡ n + 1 = omega arith in
          let v : get_or ws n 0 ≡ low = ap (λ (z : ℕ × ℕ). z.0) p.0 in
          let u : get_or ws (n + 1) 0 ≡ high = ap (λ (z : ℕ × ℕ). z.1) p.0 in
          record {
            moved = omega arith;
            within = omega arith;
            first = rw s (sym v);
            second = rw r (sym u);
            some = λ x y. some_by (get_or ws n 0) (get_or ws (n + 1) 0) t (v ∙ x) (u ∙ y);
          }
      go rest false t f =
          let r = rest f in
          record { moved = let m = r.moved in omega arith; within = r.within; first = r.first; second = r.second; some = r.some }

  two_longer_from : (us : Words) (j k n : ℕ) → 2 * k + n ≤ length ws → two_from k ws n ≡ Some ((low, high), q) → two_from (k + j) (ws ++ us) n ≡ Some ((low, high), q)
  unfolding two_from
  two_longer_from us j zero n l e = let z : ◌≡◌ {A = ℕ} 0 1 = cc in absurd (omega arith)
  two_longer_from us j (suc k) n l e =
      let g : get_or (ws ++ us) n 0 ≡ get_or ws n 0 = get_or-append ws us 0 n (omega arith) in
      let h : get_or (ws ++ us) (n + 1) 0 ≡ get_or ws (n + 1) 0 = get_or-append ws us 0 (n + 1) (omega arith) in
      let m : suc k + j ≡ suc (k + j) = omega arith in
      rw (m, g, h) (go (two_longer_from us j k (n + 2) (omega arith)) (not (eqb (get_or ws n 0) 0) || not (eqb (get_or ws (n + 1) 0) 0)) e)
    where
      go : (two_from k ws (n + 2) ≡ Some ((low, high), q) → two_from (k + j) (ws ++ us) (n + 2) ≡ Some ((low, high), q)) → (c : Bool) → pick {X = Drawn (ℕ × ℕ)} c (Some ((get_or ws n 0, get_or ws (n + 1) 0), from (n + 2))) (two_from k ws (n + 2)) ≡ Some ((low, high), q)
          → pick {X = Drawn (ℕ × ℕ)} c (Some ((get_or ws n 0, get_or ws (n + 1) 0), from (n + 2))) (two_from (k + j) (ws ++ us) (n + 2)) ≡ Some ((low, high), q)
      go rest true f = f
      go rest false f = rest f

  two_past_end : (n : ℕ) → two_from ((length ws - n) / 2) ws n ≡ Some ((low, high), q) → n ≤ length ws
  unfolding two_from
  two_past_end n e = go (ltb (length ws) n) refl
    where
      go : (c : Bool) → ltb (length ws) n ≡ c → n ≤ length ws
      go true t = let h = ltb-true (length ws) n t in let k : (length ws - n) / 2 ≡ 0 = omega arith in let f = rw k at e in let z : ◌≡◌ {A = ℕ} 0 1 = cc in absurd (omega arith)
      go false t = ltb-false (length ws) n t

  pub two_is : (n : ℕ) → two_at ws n ≡ Some ((low, high), q) → Two ws n low high q
  unfolding two_at
  two_is n e = let h = two_past_end n e in two_from_lem ((length ws - n) / 2) n (omega arith) e

  pub two_forward : (n : ℕ) → two_at ws n ≡ Some ((low, high), q) → Forward ws n q.at
  two_forward n e = let h = two_is n e in record { moved = h.moved; within = h.within }

  pub two_small : (n : ℕ) → Small ws → two_at ws n ≡ Some ((low, high), q) → (low < 2 ^ 64) × (high < 2 ^ 64)
  two_small n k e = let h = two_is n e in (omega (arith, k (q.at - 2), h.first), omega (arith, k (q.at - 1), h.second))

  pub two_longer : (n : ℕ) (us : Words) → two_at ws n ≡ Some ((low, high), q) → two_at (ws ++ us) n ≡ Some ((low, high), q)
  unfolding two_at
  two_longer n us e =
      let h = two_past_end n e in
      let k = (length ws - n) / 2 in
      let l : (length (ws ++ us) - n) / 2 ≡ k + ((length (ws ++ us) - n) / 2 - k) = omega (arith, length-append ws us) in
      rw l (two_longer_from us ((length (ws ++ us) - n) / 2 - k) k n (omega arith) e)

-- the two words, drawn one after the other
no_word : (ws : Words) (n : ℕ) → draw_at ws n ≡ None → length ws ≤ n
unfolding draw_at
no_word ws n e = go (ltb n (length ws)) refl e
  where
    go : (b : Bool) → ltb n (length ws) ≡ b → ◌≡◌ {A = Draw} (pick b (Some (get_or ws n 0, from (n + 1))) None) None → length ws ≤ n
    go true t f = none_drawn (get_or ws n 0) (from (n + 1)) (sym f)
    go false t f = ltb-false n (length ws) t

-- a word that is drawn, and kept or passed over
pub drawn_dry : (drop : ℕ → Bool) (ws : Words) (n : ℕ) → draw_at ws n ≡ None → None ≡ redraw_at drop ws n
drawn_dry drop ws n e = redraw_past drop ws n (no_word ws n e)

module _ (drop : ℕ → Bool) (ws : Words) (n w : ℕ) (q : WordSource) (d : draw_at ws n ≡ Some (w, q)) where
  pub drawn_taken : drop w ≡ false → Some (w, q) ≡ redraw_at drop ws n
  drawn_taken f =
      let h = draw_is ws n w q d in
      ap (λ (x : ℕ). Some (x, q)) h.1 ∙ ap (λ (s : WordSource). Some (get_or ws n 0, s)) h.2 ∙ redraw_taken drop ws n h.0 (ap drop (sym h.1) ∙ f)

  pub drawn_passed : drop w ≡ true → redraw_at drop ws q.at ≡ redraw_at drop ws n
  drawn_passed f = let h = draw_is ws n w q d in ap (λ (s : WordSource). redraw_at drop ws s.at) h.2 ∙ redraw_passed drop ws n h.0 (ap drop (sym h.1) ∙ f)

some_not : (a b : ℕ) → (a ≡ 0 → b ≡ 0 → ⊥) → (not (eqb a 0) || not (eqb b 0)) ≡ true
some_not a b f = grind (arith, nat_tests)

module _ (ws : Words) (n low : ℕ) (p : WordSource) (d : draw_at ws n ≡ Some (low, p)) where
  module _ (high : ℕ) (q : WordSource) (e : draw_at ws p.at ≡ Some (high, q)) where
    at_p : p.at ≡ n + 1
    at_p = ap (λ (s : WordSource). s.at) (draw_is ws n low p d).2

    at_q : q ≡ from (n + 2)
    at_q = (draw_is ws p.at high q e).2 ∙ ap from (omega (arith, at_p))

    one_less : (length ws - n) / 2 ≡ suc ((length ws - (n + 2)) / 2)
    one_less = omega (arith, (draw_is ws p.at high q e).0, at_p)

    is_low : get_or ws n 0 ≡ low
    is_low = sym (draw_is ws n low p d).1

    is_high : get_or ws (n + 1) 0 ≡ high
    is_high = ap (λ (i : ℕ). get_or ws i 0) (sym at_p) ∙ sym (draw_is ws p.at high q e).1

    pub two_taken : (low ≡ 0 → high ≡ 0 → ⊥) → Some ((low, high), q) ≡ two_at ws n
    unfolding two_at two_from
    two_taken f = let t = some_not low high f in rw (one_less, is_low, is_high, t, at_q)

    pub two_again : low ≡ 0 → high ≡ 0 → two_at ws q.at ≡ two_at ws n
    unfolding two_at two_from
    two_again a b = let t : (not (eqb low 0) || not (eqb high 0)) ≡ false = rw (eq-eqb low 0 a, eq-eqb high 0 b) in rw (one_less, is_low, is_high, t, at_q)

  pub two_short : draw_at ws p.at ≡ None → None ≡ two_at ws n
  unfolding two_at two_from
  two_short e =
      let a : p.at ≡ n + 1 = ap (λ (s : WordSource). s.at) (draw_is ws n low p d).2 in
      let z : (length ws - n) / 2 ≡ 0 = omega (arith, no_word ws p.at e) in
      rw z

pub two_over : (ws : Words) (n : ℕ) → draw_at ws n ≡ None → None ≡ two_at ws n
unfolding two_at two_from
two_over ws n e = let z : (length ws - n) / 2 ≡ 0 = omega (arith, no_word ws n e) in rw z

-- a pair by its second word
pub pair_past : (ws : Words) (n : ℕ) → length ws < n → None ≡ two_at ws n
unfolding two_at two_from
pair_past ws n l = let z : (length ws - n) / 2 ≡ 0 = omega arith in rw z

pub pair_short : (ws : Words) (n : ℕ) → draw_at ws (n + 1) ≡ None → None ≡ two_at ws n
unfolding two_at two_from
pair_short ws n e = let z : (length ws - n) / 2 ≡ 0 = omega (arith, no_word ws (n + 1) e) in rw z

module _ (ws : Words) (n high : ℕ) (q : WordSource) (d : draw_at ws (n + 1) ≡ Some (high, q)) where
  by_q : q.at ≡ n + 2
  by_q = ap (λ (s : WordSource). s.at) (draw_is ws (n + 1) high q d).2 ∙ omega arith

  pub pair_within : n < length ws
  pair_within = omega (arith, (draw_is ws (n + 1) high q d).0)

  pub pair_inside : q.at ≤ length ws
  pair_inside = omega (arith, by_q, (draw_is ws (n + 1) high q d).0)

  pub pair_forward : Forward ws n q.at
  pair_forward = record { moved = omega (arith, by_q); within = pair_inside }

  -- the first word drawn
  module _ (low : ℕ) (p : WordSource) (e : draw_at ws n ≡ Some (low, p)) where
    second_drawn : draw_at ws p.at ≡ Some (high, q)
    second_drawn = let a : p.at ≡ n + 1 = ap (λ (s : WordSource). s.at) (draw_is ws n low p e).2 in ap (draw_at ws) a ∙ d

    pub both_taken : (low ≡ 0 → high ≡ 0 → ⊥) → Some ((low, high), q) ≡ two_at ws n
    both_taken f = two_taken ws n low p e high q second_drawn f

    pub both_again : low ≡ 0 → high ≡ 0 → two_at ws q.at ≡ two_at ws n
    both_again a b = two_again ws n low p e high q second_drawn a b

  -- or read at its place
  first_drawn : draw_at ws n ≡ Some (get_or ws n 0, from (n + 1))
  first_drawn = sym (draw_word ws n pair_within)

  pub pair_taken : (get_or ws n 0 ≡ 0 → high ≡ 0 → ⊥) → Some ((get_or ws n 0, high), q) ≡ two_at ws n
  pair_taken f = both_taken (get_or ws n 0) (from (n + 1)) first_drawn f

  pub pair_again : get_or ws n 0 ≡ 0 → high ≡ 0 → two_at ws q.at ≡ two_at ws n
  pair_again a b = both_again (get_or ws n 0) (from (n + 1)) first_drawn a b
