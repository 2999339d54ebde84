-- A draw takes the words up to the place after it: with these alone it answers the same, with fewer it is dry. Assumes nothing.
use Prim.Native.Nat.{ℕ, zero, suc, ◌+◌, ◌-◌, ◌*◌, ◌/◌, ◌%◌, ◌≤◌, ◌<◌}
use mathlib.Core.Path.{◌≡◌, refl, sym, ap}
use mathlib.Core.Bool.{Bool, true, false, not, ◌||◌}
use native.Mathlib.Omega.{arith}
use lib.ListN.{length, get_or, take, length-take}
use lib.Seq.{get_or-take}
use lib.Dec.{eqb}
use borrow.Author.Tests.{lt-ltb, le-ltb}
use Rattle.std.specs.Prelude.{Some, None}
use Rattle.laws.specs.Pick.{pick}
use Rattle.words.specs.Words.{Words, Place, Drawn, from, draw_at, range_at, not_at, two_from, two_at}
use Rattle.words.specs.declared.WordSource.{WordSource}
use Rattle.words.proofs.Laws.{same_drawn, none_drawn}
use Rattle.words.proofs.Redraw.{redraw_enough, redraw_fewer}
use Rattle.words.proofs.Draws.{draw_is, range_of, range_is, range_as, two_forward}

-- one word
module _ (ws : Words) (n w : ℕ) (q : WordSource) (e : draw_at ws n ≡ Some (w, q)) (m : ℕ) where
  at : q.at ≡ n + 1
  at = ap (λ (x : WordSource). x.at) (draw_is ws n w q e).2

  pub draw_enough : q.at ≤ m → draw_at (take m ws) n ≡ Some (w, q)
  unfolding draw_at
  draw_enough l =
      let h = draw_is ws n w q e in
      let g : get_or (take m ws) n 0 ≡ get_or ws n 0 = get_or-take m ws n 0 (omega (arith, at)) in
      let k : n < length (take m ws) = omega (arith, at, h.0, length-take m ws) in
      rw (lt-ltb n (length (take m ws)) k, g, sym h.1, sym h.2)

  pub draw_fewer : m < q.at → draw_at (take m ws) n ≡ None
  unfolding draw_at
  draw_fewer l = let k : length (take m ws) ≤ n = omega (arith, at, length-take m ws) in rw (le-ltb n (length (take m ws)) k)

-- a range
module _ (ws : Words) (n a b v : ℕ) (q : WordSource) (e : range_at ws n a b ≡ Some (v, q)) (m : ℕ) where
  pub range_enough : q.at ≤ m → range_at (take m ws) n a b ≡ Some (v, q)
  range_enough l = range_as ws n a b v q (take m ws) e (λ w d. redraw_enough _ ws n w q d m l)

  pub range_fewer : m < q.at → range_at (take m ws) n a b ≡ None
  range_fewer l = let h = range_is ws n a b v q e in rw (range_of (take m ws) n a b h.0, redraw_fewer _ ws n h.1.0 q h.1.1 m l)

-- words until one is not s
module _ (ws : Words) (s w : ℕ) (q : WordSource) (m : ℕ) (n : Place) (e : not_at ws n s ≡ Some (w, q)) where
  pub not_enough : q.at ≤ m → not_at (take m ws) n s ≡ Some (w, q)
  unfolding not_at
  not_enough l = redraw_enough (eqb s) ws n w q e m l

  pub not_fewer : m < q.at → not_at (take m ws) n s ≡ None
  unfolding not_at
  not_fewer l = redraw_fewer (eqb s) ws n w q e m l

-- two words: j pairs are looked at, of the words up to m
module _ (ws : Words) (low high : ℕ) (q : WordSource) (m : ℕ) where
  after_two : (n x y : ℕ) → ◌≡◌ {A = Drawn (ℕ × ℕ)} (Some ((x, y), from n)) (Some ((low, high), q)) → q.at ≡ n
  after_two n x y e = ap (λ (s : WordSource). s.at) (sym (same_drawn (x, y) (low, high) (from n) q e).1)

  dry_two : {X : Type 0} → ◌≡◌ {A = Drawn (ℕ × ℕ)} None (Some ((low, high), q)) → X
  dry_two e = none_drawn (low, high) q e

  abbrev some : ℕ → Bool
  some n = not (eqb (get_or ws n 0) 0) || not (eqb (get_or ws (n + 1) 0) 0)

  abbrev here : ℕ → Drawn (ℕ × ℕ)
  here n = Some ((get_or ws n 0, get_or ws (n + 1) 0), from (n + 2))

  past_two : (k n : ℕ) → two_from k ws n ≡ Some ((low, high), q) → n + 2 ≤ q.at
  unfolding two_from
  past_two zero n e = dry_two e
  past_two (suc k) n e = go (past_two k (n + 2)) (some n) e
    where
      go : (two_from k ws (n + 2) ≡ Some ((low, high), q) → n + 2 + 2 ≤ q.at) → (c : Bool) → pick c (here n) (two_from k ws (n + 2)) ≡ Some ((low, high), q) → n + 2 ≤ q.at
      go rest true f = omega (arith, after_two (n + 2) (get_or ws n 0) (get_or ws (n + 1) 0) f)
      go rest false f = let h = rest f in omega arith

  -- whole pairs
  even_two : (k n : ℕ) → two_from k ws n ≡ Some ((low, high), q) → (q.at - n) % 2 ≡ 0
  unfolding two_from
  even_two zero n e = dry_two e
  even_two (suc k) n e = go (past_two k (n + 2)) (even_two k (n + 2)) (some n) e
    where
      go : (two_from k ws (n + 2) ≡ Some ((low, high), q) → n + 2 + 2 ≤ q.at) → (two_from k ws (n + 2) ≡ Some ((low, high), q) → (q.at - (n + 2)) % 2 ≡ 0) → (c : Bool)
          → pick c (here n) (two_from k ws (n + 2)) ≡ Some ((low, high), q) → (q.at - n) % 2 ≡ 0
      go far rest true f = omega (arith, after_two (n + 2) (get_or ws n 0) (get_or ws (n + 1) 0) f)
      go far rest false f = let p = far f in let h = rest f in omega arith

  two_enough_from : (k n j : ℕ) → q.at ≤ m → q.at ≤ 2 * j + n → two_from k ws n ≡ Some ((low, high), q) → two_from j (take m ws) n ≡ Some ((low, high), q)
  unfolding two_from
  two_enough_from zero n j l h e = dry_two e
  two_enough_from (suc k) n zero l h e = let p = past_two (suc k) n e in absurd (omega arith)
  two_enough_from (suc k) n (suc j) l h e =
      let p = past_two (suc k) n e in
      let g : get_or (take m ws) n 0 ≡ get_or ws n 0 = get_or-take m ws n 0 (omega arith) in
      let i : get_or (take m ws) (n + 1) 0 ≡ get_or ws (n + 1) 0 = get_or-take m ws (n + 1) 0 (omega arith) in
      rw (g, i) (go (two_enough_from k (n + 2) j l (omega arith)) (some n) e)
    where
      go : (two_from k ws (n + 2) ≡ Some ((low, high), q) → two_from j (take m ws) (n + 2) ≡ Some ((low, high), q)) → (c : Bool) → pick c (here n) (two_from k ws (n + 2)) ≡ Some ((low, high), q)
          → pick c (here n) (two_from j (take m ws) (n + 2)) ≡ Some ((low, high), q)
      go rest true f = f
      go rest false f = rest f

  two_fewer_from : (k n j : ℕ) → m < q.at → 2 * j ≤ m - n → two_from k ws n ≡ Some ((low, high), q) → two_from j (take m ws) n ≡ None
  unfolding two_from
  two_fewer_from zero n j l h e = dry_two e
  two_fewer_from (suc k) n zero l h e = refl
  two_fewer_from (suc k) n (suc j) l h e =
      let g : get_or (take m ws) n 0 ≡ get_or ws n 0 = get_or-take m ws n 0 (omega arith) in
      let i : get_or (take m ws) (n + 1) 0 ≡ get_or ws (n + 1) 0 = get_or-take m ws (n + 1) 0 (omega arith) in
      rw (g, i) (go (two_fewer_from k (n + 2) j l (omega arith)) (some n) e)
    where
      go : (two_from k ws (n + 2) ≡ Some ((low, high), q) → two_from j (take m ws) (n + 2) ≡ None) → (c : Bool) → pick c (here n) (two_from k ws (n + 2)) ≡ Some ((low, high), q)
          → pick c (here n) (two_from j (take m ws) (n + 2)) ≡ None
      go rest true f = absurd (omega (arith, after_two (n + 2) (get_or ws n 0) (get_or ws (n + 1) 0) f))
      go rest false f = rest f

  module _ (n : Place) (e : two_at ws n ≡ Some ((low, high), q)) where
    pub two_enough : q.at ≤ m → two_at (take m ws) n ≡ Some ((low, high), q)
    unfolding two_at
    two_enough l =
        let h = two_forward ws low high q n e in
        let even = even_two ((length ws - n) / 2) n e in
        two_enough_from ((length ws - n) / 2) n ((length (take m ws) - n) / 2) l (omega (arith, h.moved, h.within, length-take m ws)) e

    pub two_fewer : m < q.at → two_at (take m ws) n ≡ None
    unfolding two_at
    two_fewer l = two_fewer_from ((length ws - n) / 2) n ((length (take m ws) - n) / 2) l (omega (arith, length-take m ws)) e
