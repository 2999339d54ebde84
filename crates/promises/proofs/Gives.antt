-- "in every other yes the inverse value gives t": for every word list, in every yes that is not of kind (a) or (b). Assumes nothing.
use mathlib.Core.Path.{◌≡◌, refl, sym, ap, ◌∙◌}
use mathlib.Core.Logic.{inl, inr, ⊎_elim}
use mathlib.Core.Bool.{Bool, true, false, not, ◌&&◌, ◌||◌}
use Prim.Native.Nat.{ℕ, ◌+◌, ◌-◌, ◌*◌, ◌/◌, ◌%◌, ◌^◌, ◌≤◌, ◌<◌, min}
use native.Mathlib.Nat.{eq-zero-or-pos, ne_of_gt, pos_of_ne-zero, mul_comm, mod-eq_of_lt, div-eq_of_lt, div-eq_of_lt-le, div-one, div-le_self, le-div_iff_mul-le, div-add-mod', min-le_left, min-le_right}
use native.Mathlib.Decide.{ℕ_discrete}
use native.Mathlib.Omega.{arith}
use lib.Dec.{ltb, eqb}
use lib.Arith.{digits_mod}
use lib.Bits.{and_comm}
use borrow.Author.Tests.{eqb-true, eqb-false, eq-eqb, ne_eqb, not-true, ltb-true, leb-true, lt-ltb, le-ltb}
use Rattle.std.specs.Prelude.{Some}
use Rattle.laws.specs.Pick.{pick}
use Rattle.bitvec.specs.Word.{M, bvadd, bvsub, bvmul, bvudiv, bvurem, sltu, equals, bvand, bvor, bvnot, bvlshr, ctz}
use Rattle.bitvec.specs.Inverse.{inverse_of}
use Rattle.bitvec.proofs.Inverses.{div_is, rem_is}
use Rattle.bitvec.proofs.Laws.{odd_part, inverse_is, mul_inverse, mul_inverse_lem, mul_zero_inverse, and_inverse_word}
use Rattle.words.specs.Words.{Words, Place, draw_at, range_at}
use Rattle.words.specs.declared.WordSource.{WordSource}
use Rattle.words.proofs.Draws.{Small, draw_small, range_within, not_is, made}
use Rattle.symbols.specs.Graph.{Value}
use Rattle.symbols.specs.Operators.{apply_at}
use Rattle.symbols.specs.declared.OperandSide.{OperandSide}
use Rattle.symbols.specs.declared.OperandSide.TheVariants.{Lhs, Rhs}
use Rattle.symbols.specs.declared.BVOperator.{BVOperator}
use Rattle.symbols.specs.declared.BVOperator.TheVariants.{Add, Sub, Mul, Divu, Sltu, Remu, Not, Equals, BitwiseAnd}
use Rattle.reach.specs.Table.{table_says}
use Rattle.existence.specs.Kinds.{FalseYes, at_divu, at_sltu, at_equals}
use Rattle.rules.specs.One.{mul_value, divisor_of, inverse_at}
use Rattle.promises.proofs.Splits.{split, never, is_value}

sltu_one : (a b : ℕ) → a < b → sltu a b ≡ 1
sltu_one a b h = rw (lt-ltb a b h)

sltu_zero : (a b : ℕ) → b ≤ a → sltu a b ≡ 0
sltu_zero a b h = rw (le-ltb a b h)

both : (a b : Bool) → (a && b) ≡ true → (a ≡ true) × (b ≡ true)
both true b e = (refl, e)
both false b e = let z : ◌≡◌ {A = ℕ} 0 1 = cc in absurd (omega arith)

after_false : (a b : Bool) → a ≡ false → (a || b) ≡ true → b ≡ true
after_false true b f e = let z : ◌≡◌ {A = ℕ} 0 1 = cc in absurd (omega arith)
after_false false b f e = e

-- "ours is always one of those": a divisor of s − t above t
pub record Divisor (s t x : Value) : Type 0 where
  pub times : ℕ
  pub divides : times * x ≡ s - t
  pub above : t < x

pub divisor_draw : (s t w : Value) → s < 2 ^ 64 → t < s → t < s - t → Divisor s t (divisor_of s t w)
unfolding divisor_of
divisor_draw s t w hs l h = go (eqb (D % k) 0 && ltb t (D / k)) refl
  where
    D : ℕ
    D = bvsub s t

    k : ℕ
    k = 1 + w % 4096

    is : D ≡ s - t
    is = omega arith

    go : (c : Bool) → (eqb (D % k) 0 && ltb t (D / k)) ≡ c → Divisor s t (pick c (D / k) D)
    go true e =
        let p = both (eqb (D % k) 0) (ltb t (D / k)) e in
        let z = eqb-true (D % k) 0 p.0 in
        record { times = k; divides = omega (arith, is, z, mul_comm k (D / k), div-add-mod' D k); above = ltb-true t (D / k) p.1 }
    go false e = record { times = 1; divides = omega (arith, is); above = omega (arith, is) }

module _ (s t : Value) (hs : s < 2 ^ 64) (ht : t < 2 ^ 64) (ws : Words) (small : Small ws) (n : Place) (v : Value) (q : WordSource) where
  word : {w : ℕ} → draw_at ws n ≡ Some (w, q) → w < 2 ^ 64
  word {w} = draw_small ws n w q small

  mul_gives : (d : OperandSide) → table_says Mul d s t ≡ true → inverse_at Mul d s t ws n ≡ Some (v, q) → bvmul v s ≡ t
  unfolding table_says inverse_at mul_value
  mul_gives d y e =
      let m = made (mul_value s t) (draw_at ws n) v q e in
      let test = eqb-true _ t y in
      ⊎_elim (λ z. mul_zero_inverse s t v z test)
      (λ p.
      let is : v ≡ mul_inverse s t (inverse_of (bvlshr s (ctz s))) m.0 = m.2 ∙ rw (ne_eqb s 0 (ne_of_gt p)) in
      ap (λ (x : ℕ). bvmul x s) is ∙ mul_inverse_lem s t (inverse_of (bvlshr s (ctz s))) m.0 p hs ht test (inverse_is (bvlshr s (ctz s)) (odd_part s p hs).odd))
      (eq-zero-or-pos s)

  div_left : table_says Divu Lhs s t ≡ true → inverse_at Divu Lhs s t ws n ≡ Some (v, q) → bvudiv v s ≡ t
  unfolding table_says inverse_at
  div_left y e =
      split (eqb s 0) e
      (λ c f. let z = eqb-true s 0 c in let m : eqb t M ≡ true = rw (eq-eqb s 0 z) at y in rw z (sym (eqb-true t M m)))
      (λ c f.
      let nz = eqb-false s 0 c in
      let p : 0 < s = pos_of_ne-zero nz in
      let l : t * s ≤ M = leb-true (t * s) M (rw (ne_eqb s 0 nz) at y) in
      split (eqb t M && eqb s 1) f
      (λ b g. let o = both (eqb t M) (eqb s 1) b in let x = eqb-true t M o.0 in let z = eqb-true s 1 o.1 in rw (is_value M n v q g, z, x))
      (λ b g.
      let w : bvmul t s ≡ t * s = mod-eq_of_lt (omega arith) in
      let r = range_within ws n (bvmul t s) (min M (bvmul t s + (s - 1))) v q (omega (arith, min-le_left M (bvmul t s + (s - 1)))) small g in
      div_is v s p ∙ div-eq_of_lt-le s (omega (arith, r.0)) (omega (arith, r.1, min-le_right M (bvmul t s + (s - 1))))))

  div_right : table_says Divu Rhs s t ≡ true → (FalseYes Divu Rhs s t → ⊥) → inverse_at Divu Rhs s t ws n ≡ Some (v, q) → bvudiv s v ≡ t
  unfolding table_says inverse_at
  div_right y k e =
      split (eqb t M && eqb s M) e
      (λ b f.
      let o = both (eqb t M) (eqb s M) b in
      let x = eqb-true t M o.0 in
      let z = eqb-true s M o.1 in
      let r = range_within ws n 0 1 v q (omega arith) small f in
      ⊎_elim (λ u. rw u (sym x)) (λ u. let i : v ≡ 1 = omega (arith, r.1) in rw i (div-one s ∙ z ∙ sym x)) (eq-zero-or-pos v))
      (λ b f.
      split (eqb t M) f
      (λ c g. rw (is_value 0 n v q g) (sym (eqb-true t M c)))
      (λ c g. ⊎_elim (by_zero (is_value _ n v q g)) (by_pos (eqb-false t M c) (is_value _ n v q g)) (eq-zero-or-pos t)))
    where
      by_zero : v ≡ bvudiv s t → t ≡ 0 → bvudiv s v ≡ t
      by_zero i z =
          let m : not (eqb s M) ≡ true = rw (eq-eqb t 0 z) at y in
          let ne : s ≡ M → ⊥ = eqb-false s M (not-true (eqb s M) m) in
          let w : v ≡ M = i ∙ rw z in
          rw (w, z) (div-eq_of_lt (omega arith))

      by_pos : (t ≡ M → ⊥) → v ≡ bvudiv s t → 0 < t → bvudiv s v ≡ t
      by_pos m i p =
          let l : t ≤ s = leb-true t s (rw (ne_eqb t 0 (ne_of_gt p), ne_eqb t M m) at y) in
          let w : v ≡ s / t = i ∙ div_is s t p in
          let h : 1 ≤ s / t = (le-div_iff_mul-le p).1 (omega arith) in
          ap (bvudiv s) w ∙ div_is s (s / t) h
          ∙ elim (ℕ_discrete (s / (s / t)) t) [
            | yes z ↦ z
            | no z ↦ absurd (k (inl (at_divu p (omega arith) l z)))
          ]

  sltu_left : table_says Sltu Lhs s t ≡ true → (1 < t → ⊥) → inverse_at Sltu Lhs s t ws n ≡ Some (v, q) → sltu v s ≡ t
  unfolding table_says inverse_at
  sltu_left y k e =
      split (eqb t 0) e
      (λ c f. sltu_zero v s (range_within ws n s M v q (omega arith) small f).0 ∙ sym (eqb-true t 0 c))
      (λ c f.
      let nz = eqb-false t 0 c in
      let ne : s ≡ 0 → ⊥ = eqb-false s 0 (not-true (eqb s 0) (after_false (eqb t 0) _ c y)) in
      sltu_one v s (omega (arith, (range_within ws n 0 (bvsub s 1) v q (omega arith) small f).1)) ∙ omega arith)

  sltu_right : table_says Sltu Rhs s t ≡ true → (1 < t → ⊥) → inverse_at Sltu Rhs s t ws n ≡ Some (v, q) → sltu s v ≡ t
  unfolding table_says inverse_at
  sltu_right y k e =
      split (eqb t 0) e
      (λ c f. sltu_zero s v (range_within ws n 0 s v q hs small f).1 ∙ sym (eqb-true t 0 c))
      (λ c f.
      let nz = eqb-false t 0 c in
      let ne : s ≡ M → ⊥ = eqb-false s M (not-true (eqb s M) (after_false (eqb t 0) _ c y)) in
      sltu_one s v (omega (arith, (range_within ws n (bvadd s 1) M v q (omega arith) small f).0)) ∙ omega arith)

  rem_left : table_says Remu Lhs s t ≡ true → inverse_at Remu Lhs s t ws n ≡ Some (v, q) → bvurem v s ≡ t
  unfolding table_says inverse_at
  rem_left y e =
      let l : t < s = ltb-true t s y in
      let p : 0 < s = omega arith in
      split (ltb most 1) e
      (λ c f. rem_is v s p ∙ ap (λ (x : ℕ). x % s) (is_value t n v q f) ∙ mod-eq_of_lt l)
      (λ c f.
      let m = made (λ y. bvadd (bvmul y s) t) (range_at ws n 1 most) v q f in
      let r = range_within ws n 1 most m.0 q (most_small p) small m.1 in
      let fits : m.0 * s ≤ M - t = (le-div_iff_mul-le p).0 (omega (arith, r.1, most_is p)) in
      let once : bvmul m.0 s ≡ m.0 * s = mod-eq_of_lt (omega arith) in
      let twice : bvadd (bvmul m.0 s) t ≡ m.0 * s + t = rw once (mod-eq_of_lt (omega arith)) in
      rem_is v s p ∙ ap (λ (x : ℕ). x % s) (m.2 ∙ twice) ∙ digits_mod m.0 l)
    where
      most : ℕ
      most = bvudiv (bvsub M t) s

      most_is : 0 < s → most ≡ (M - t) / s
      most_is p = div_is (bvsub M t) s p ∙ ap (λ (x : ℕ). x / s) (omega arith)

      most_small : 0 < s → most < 2 ^ 64
      most_small p = omega (arith, most_is p, div-le_self (M - t) s)

  rem_right : table_says Remu Rhs s t ≡ true → inverse_at Remu Rhs s t ws n ≡ Some (v, q) → bvurem s v ≡ t
  unfolding table_says inverse_at
  rem_right y e =
      split (eqb s t) e
      (λ c f.
      let z = eqb-true s t c in
      let m = made (λ x. pick (eqb x t) 0 x) (range_at ws n t M) v q f in
      let r = range_within ws n t M m.0 q (omega arith) small m.1 in
      same z m.0 r.0 (eqb m.0 t) refl m.2)
      (λ c f.
      let o = both (ltb t s) (ltb t (s - t)) (after_false (eqb s t) _ c y) in
      let m = made (divisor_of s t) (draw_at ws n) v q f in
      let x = divisor_draw s t m.0 hs (ltb-true t s o.0) (ltb-true t (s - t) o.1) in
      let l : t < v = omega (arith, m.2, x.above) in
      let h : t < s = ltb-true t s o.0 in
      let whole : s ≡ x.times * v + t = omega (arith, x.divides, ap (λ (z : ℕ). x.times * z) m.2) in
      rem_is s v (omega arith) ∙ ap (λ (a : ℕ). a % v) whole ∙ digits_mod x.times l)
    where
      same : s ≡ t → (x : ℕ) → t ≤ x → (c : Bool) → eqb x t ≡ c → v ≡ pick c 0 x → bvurem s v ≡ t
      same z x l true c i = rw i z
      same z x l false c i = let ne = eqb-false x t c in rw i (rem_is s x (omega arith) ∙ mod-eq_of_lt (omega arith) ∙ z)

  and_gives : (d : OperandSide) → table_says BitwiseAnd d s t ≡ true → inverse_at BitwiseAnd d s t ws n ≡ Some (v, q) → bvand v s ≡ t
  unfolding table_says inverse_at
  and_gives d y e =
      let m = made (λ w. bvor (bvand w (bvnot s)) t) (draw_at ws n) v q e in
      ap (λ (x : ℕ). bvand x s) m.2 ∙ and_inverse_word s t m.0 hs ht (word m.1) (eqb-true _ t y)

  equals_left : (d : OperandSide) → (1 < t → ⊥) → inverse_at Equals d s t ws n ≡ Some (v, q) → (t ≡ 0 → v ≡ s → ⊥) × ((t ≡ 0 → ⊥) → (v ≡ s) × (t ≡ 1))
  unfolding inverse_at
  equals_left d k e =
      split (eqb t 0) e
      (λ c f. (λ z. (not_is ws s v q n f).other, λ nz. absurd (nz (eqb-true t 0 c))))
      (λ c f. let nz = eqb-false t 0 c in (λ z. absurd (nz z), λ u. (is_value s n v q f, omega arith)))

  equal_by : (x y : ℕ) → (t ≡ 0 → x ≡ y → ⊥) → ((t ≡ 0 → ⊥) → (x ≡ y) × (t ≡ 1)) → equals x y ≡ t
  equal_by x y f g =
      elim (ℕ_discrete t 0) [
        | yes z ↦ rw (ne_eqb x y (f z)) (sym z)
        | no z ↦ let r = g z in rw (eq-eqb x y r.0) (sym r.1)
      ]

  pub inverse_gives : (o : BVOperator) (d : OperandSide) → table_says o d s t ≡ true → (FalseYes o d s t → ⊥) → inverse_at o d s t ws n ≡ Some (v, q) → apply_at o d v s ≡ t
  unfolding inverse_at
  inverse_gives Add Lhs y k e = let i = is_value _ n v q e in omega arith
  inverse_gives Add Rhs y k e = let i = is_value _ n v q e in omega arith
  inverse_gives Sub Lhs y k e = let i = is_value _ n v q e in omega arith
  inverse_gives Sub Rhs y k e = let i = is_value _ n v q e in omega arith
  inverse_gives Mul Lhs y k e = mul_gives Lhs y e
  inverse_gives Mul Rhs y k e = ap (λ (x : ℕ). x % 2 ^ 64) (mul_comm s v) ∙ mul_gives Rhs y e
  inverse_gives Divu Lhs y k e = div_left y e
  inverse_gives Divu Rhs y k e = div_right y k e
  inverse_gives Sltu Lhs y k e = sltu_left y (λ h. k (inr (at_sltu h y))) e
  inverse_gives Sltu Rhs y k e = sltu_right y (λ h. k (inr (at_sltu h y))) e
  inverse_gives Remu Lhs y k e = rem_left y e
  inverse_gives Remu Rhs y k e = rem_right y e
  inverse_gives Not d y k e = never v q e
  inverse_gives Equals Lhs y k e = let r = equals_left Lhs (λ h. k (inr (at_equals h y))) e in equal_by v s r.0 r.1
  inverse_gives Equals Rhs y k e = let r = equals_left Rhs (λ h. k (inr (at_equals h y))) e in equal_by s v (λ z u. r.0 z (sym u)) (λ z. (sym (r.1 z).0, (r.1 z).1))
  inverse_gives BitwiseAnd Lhs y k e = and_gives Lhs y e
  inverse_gives BitwiseAnd Rhs y k e = and_comm s v ∙ and_gives Rhs y e
