-- Words passed over, whatever the test: the word taken is the first that is not dropped, so a list that agrees up to it gives it too,
-- and a list with none of those is dry. Assumes nothing.
use mathlib.Core.Path.{◌≡◌, refl, sym, ap, ◌∙◌}
use Prim.Native.Nat.{ℕ, zero, suc, ◌+◌, ◌-◌, ◌≤◌, ◌<◌}
use mathlib.Core.Logic.{◌↔◌}
use mathlib.Core.List.{◌++◌}
use mathlib.Core.Bool.{Bool, true, false}
use native.Mathlib.Decide.{ℕ_discrete}
use native.Mathlib.Omega.{arith}
use lib.ListN.{length, get_or, take, drop as list_drop, length-append, length-take, length-drop, get_or-append}
use lib.Seq.{get_or-take}
use Rattle.std.proofs.lemmas.List.{get_or-drop}
use Rattle.std.specs.List.{slice_range}
use Rattle.std.specs.Prelude.{Some, None}
use Rattle.words.specs.declared.WordSource.{WordSource}
use Rattle.words.specs.Words.{Words, from, redraw_at}
use Rattle.words.proofs.Laws.{same_drawn, redraw_past, redraw_taken, redraw_passed}

pub record Found (drop : ℕ → Bool) (ws : Words) (n w : ℕ) (q : WordSource) : Type 0 where
  pub moved : n < q.at
  pub within : q.at ≤ length ws
  pub last : w ≡ get_or ws (q.at - 1) 0
  pub taken : drop w ≡ false
  -- every word before it is dropped
  pub passed : (i : ℕ) → n ≤ i → i + 1 < q.at → drop (get_or ws i 0) ≡ true

-- all words from n on are dropped
abbrev pub Dropped : (ℕ → Bool) → Words → ℕ → Type 0
Dropped drop ws n = (i : ℕ) → n ≤ i → i < length ws → drop (get_or ws i 0) ≡ true

module _ (drop : ℕ → Bool) (ws : Words) where
  module _ (w : ℕ) (q : WordSource) where
    is_from : (k n : ℕ) → length ws - n ≡ k → redraw_at drop ws n ≡ Some (w, q) → Found drop ws n w q
    is_from zero n l e = let d = sym (redraw_past drop ws n (omega arith)) in let z : ◌≡◌ {A = ℕ} 0 1 = cc in absurd (omega arith)
    is_from (suc k) n l e = go (is_from k (n + 1) (omega arith)) (drop (get_or ws n 0)) refl
      where
        go : (redraw_at drop ws (n + 1) ≡ Some (w, q) → Found drop ws (n + 1) w q) → (c : Bool) → drop (get_or ws n 0) ≡ c → Found drop ws n w q
        go rest true t =
            let r = rest (redraw_passed drop ws n (omega arith) t ∙ e) in
            record {
              moved = let m = r.moved in omega arith;
              within = r.within;
              last = r.last;
              taken = r.taken;
              passed = λ i a b. elim (ℕ_discrete i n) [ yes z ↦ ap (λ (x : ℕ). drop (get_or ws x 0)) z ∙ t | no z ↦ r.passed i (omega arith) b ];
            }
        go rest false t =
            let f = same_drawn (get_or ws n 0) w (from (n + 1)) q (redraw_taken drop ws n (omega arith) t ∙ e) in
            let a : from (n + 1) ≡ q = f.1 in
            let m : n + 1 ≡ q.at = ap (λ (x : WordSource). x.at) a in
            let p : q.at - 1 ≡ n = omega arith in
            let v : get_or ws n 0 ≡ w = f.0 in
            record { moved = omega arith; within = omega arith; last = rw p (sym v); taken = ap drop (sym v) ∙ t; passed = λ i a b. absurd (omega arith) }

    by_from : (j n : ℕ) → n + 1 + j ≡ q.at → Found drop ws n w q → redraw_at drop ws n ≡ Some (w, q)
    by_from zero n l h =
        let p : q.at - 1 ≡ n = omega arith in
        let v : w ≡ get_or ws n 0 = h.last ∙ ap (λ (x : ℕ). get_or ws x 0) p in
        let a : n + 1 ≡ q.at = omega arith in
        sym (redraw_taken drop ws n (omega (arith, h.within)) (ap drop (sym v) ∙ h.taken)) ∙ ap (λ (x : ℕ). Some (x, from (n + 1))) (sym v) ∙ ap (λ (x : ℕ). Some (w, from x)) a
    by_from (suc j) n l h =
        sym (redraw_passed drop ws n (omega (arith, h.within)) (h.passed n (omega arith) (omega arith)))
        ∙ by_from j (n + 1) (omega arith) (record {
          moved = omega arith;
          within = h.within;
          last = h.last;
          taken = h.taken;
          passed = λ i a b. h.passed i (omega arith) b;
        })

    pub redraw_is : (n : ℕ) → (redraw_at drop ws n ≡ Some (w, q)) ↔ Found drop ws n w q
    redraw_is n = (is_from (length ws - n) n refl, λ h. by_from (q.at - (n + 1)) n (omega (arith, h.moved)) h)

  -- "a list that never yields an accepted word is Dry", and no other
  dry_from : (k n : ℕ) → length ws - n ≡ k → Dropped drop ws n → redraw_at drop ws n ≡ None
  dry_from zero n l h = sym (redraw_past drop ws n (omega arith))
  dry_from (suc k) n l h = sym (redraw_passed drop ws n (omega arith) (h n (omega arith) (omega arith))) ∙ dry_from k (n + 1) (omega arith) (λ i a b. h i (omega arith) b)

  at_dry : (n : ℕ) → n < length ws → redraw_at drop ws n ≡ None → drop (get_or ws n 0) ≡ true
  at_dry n h e = go (drop (get_or ws n 0)) refl
    where
      go : (c : Bool) → drop (get_or ws n 0) ≡ c → drop (get_or ws n 0) ≡ true
      go true t = t
      go false t = let f = redraw_taken drop ws n h t ∙ e in let z : ◌≡◌ {A = ℕ} 0 1 = cc in absurd (omega arith)

  dropped_from : (j n i : ℕ) → n + j ≡ i → i < length ws → redraw_at drop ws n ≡ None → drop (get_or ws i 0) ≡ true
  dropped_from zero n i l h e = let z : n ≡ i = omega arith in ap (λ (x : ℕ). drop (get_or ws x 0)) (sym z) ∙ at_dry n (omega arith) e
  dropped_from (suc j) n i l h e =
      let k : n < length ws = omega arith in
      dropped_from j (n + 1) i (omega arith) h (redraw_passed drop ws n k (at_dry n k e) ∙ e)

  pub redraw_dry : (n : ℕ) → (redraw_at drop ws n ≡ None) ↔ Dropped drop ws n
  redraw_dry n = (λ e i a b. dropped_from (i - n) n i (omega arith) b e, dry_from (length ws - n) n refl)

module _ (drop : ℕ → Bool) (ws : Words) (n w : ℕ) (q : WordSource) (e : redraw_at drop ws n ≡ Some (w, q)) where
  -- on a list that agrees up to q
  alike : (us : Words) → q.at ≤ length us → ((i : ℕ) → i < q.at → get_or us i 0 ≡ get_or ws i 0) → redraw_at drop us n ≡ Some (w, q)
  alike us l same =
      let h = (redraw_is drop ws w q n).0 e in
      (redraw_is drop us w q n).1 (record {
        moved = h.moved;
        within = l;
        last = h.last ∙ sym (same (q.at - 1) (omega (arith, h.moved)));
        taken = h.taken;
        passed = λ i a b. ap drop (same i (omega arith)) ∙ h.passed i a b;
      })

  pub redraw_longer : (us : Words) → redraw_at drop (ws ++ us) n ≡ Some (w, q)
  redraw_longer us =
      let h = (redraw_is drop ws w q n).0 e in
      alike (ws ++ us) (omega (arith, length-append ws us, h.within)) (λ i l. get_or-append ws us 0 i (omega (arith, h.within)))

  module _ (m : ℕ) where
    pub redraw_enough : q.at ≤ m → redraw_at drop (take m ws) n ≡ Some (w, q)
    redraw_enough l =
        let h = (redraw_is drop ws w q n).0 e in
        alike (take m ws) (omega (arith, length-take m ws, h.within)) (λ i k. get_or-take m ws i 0 (omega arith))

    pub redraw_fewer : m < q.at → redraw_at drop (take m ws) n ≡ None
    redraw_fewer l =
        let h = (redraw_is drop ws w q n).0 e in
        (redraw_dry drop (take m ws) n).1 (λ i a b.
        let k : i < m = omega (arith, length-take m ws) in
        ap drop (get_or-take m ws i 0 k) ∙ h.passed i a (omega arith))

-- the words from n on as a list of their own
module _ (drop : ℕ → Bool) (ws rest : Words) (n : ℕ) (l : n ≤ length ws) (is : rest ≡ slice_range ws n (length ws)) where
  rest_len : length rest ≡ length ws - n
  rest_len = rw is (omega (arith, length-take (length ws - n) (list_drop n ws), length-drop n ws))

  rest_at : (i : ℕ) → i < length rest → get_or rest i 0 ≡ get_or ws (n + i) 0
  rest_at i h = rw is (get_or-take (length ws - n) (list_drop n ws) i 0 (omega (arith, rest_len)) ∙ get_or-drop n ws i 0)

  -- its word k is the first that is not dropped
  pub first_is : (k : ℕ) → k < length rest → drop (get_or rest k 0) ≡ false → ((i : ℕ) → i < k → drop (get_or rest i 0) ≡ true) → Some (get_or ws (n + k) 0, from (n + k + 1)) ≡ redraw_at drop ws n
  first_is k h t p =
      sym ((redraw_is drop ws (get_or ws (n + k) 0) (from (n + k + 1)) n).1 (record {
        moved = omega arith;
        within = omega (arith, rest_len);
        last = let e : n + k + 1 - 1 ≡ n + k = omega arith in ap (λ (i : ℕ). get_or ws i 0) (sym e);
        taken = ap drop (sym (rest_at k h)) ∙ t;
        passed = λ i a b. let e : n + (i - n) ≡ i = omega arith in ap (λ (j : ℕ). drop (get_or ws j 0)) (sym e) ∙ ap drop (sym (rest_at (i - n) (omega arith))) ∙ p (i - n) (omega arith);
      }))

  -- each is dropped
  pub none_is : ((i : ℕ) → i < length rest → drop (get_or rest i 0) ≡ true) → None ≡ redraw_at drop ws n
  none_is p =
      sym ((redraw_dry drop ws n).1 (λ i a b.
      let e : n + (i - n) ≡ i = omega arith in
      ap (λ (j : ℕ). drop (get_or ws j 0)) (sym e) ∙ ap drop (sym (rest_at (i - n) (omega (arith, rest_len)))) ∙ p (i - n) (omega (arith, rest_len))))
