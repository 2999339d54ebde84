-- Row by row: where the table says yes there is an x, or this is a false yes; where there is an x the table says yes, or this is a false
-- no. Assumes nothing.
use mathlib.Core.Path.{◌≡◌, refl, sym, ap, ◌∙◌}
use mathlib.Core.Logic.Iff
use mathlib.Core.Logic.{◌↔◌, ◌⊎◌, inl, inr, ⊎_elim}
use mathlib.Core.Bool.{Bool, true, false, not, ◌&&◌, ◌||◌, false≢true}
use Prim.Native.Nat.{ℕ, zero, suc, ◌+◌, ◌-◌, ◌*◌, ◌/◌, ◌%◌, ◌^◌, ◌<◌, ◌≤◌}
use native.Mathlib.Nat.{eq-zero-or-pos, mul_comm, mod-lt, ne_of_gt, pos_of_ne-zero, div-le_self, div-eq_of_lt, div-lt_iff_lt-mul, le-div_iff_mul-le}
use native.Mathlib.Omega.{arith}
use native.Mathlib.Decide.{ℕ_discrete}
use lib.Dec.{ltb, leb, eqb}
use lib.Bits.{and_comm}
use mir.Val.{bool_byte}
use borrow.Author.Tests.{eqb-true, eqb-false, eq-eqb, ne_eqb, ltb-true, lt-ltb, le-ltb, leb-true, le-leb, not-true}
use Rattle.laws.specs.Pick.{pick}
use Rattle.laws.proofs.Modular.{mod_mul_mod}
use Rattle.bitvec.specs.Word.{M, bvadd, bvsub, bvmul, bvudiv, bvurem, bvand}
use Rattle.bitvec.proofs.Laws.{mul_test, and_test}
use Rattle.bitvec.proofs.Inverses.{Some, div_is, div_left, rem_left, rem_right}
use Rattle.symbols.specs.Graph.{Value}
use Rattle.symbols.specs.declared.OperandSide.{OperandSide}
use Rattle.symbols.specs.declared.OperandSide.TheVariants.{Lhs, Rhs}
use Rattle.symbols.specs.declared.BVOperator.{BVOperator}
use Rattle.symbols.specs.declared.BVOperator.TheVariants.{Add, Sub, Mul, Divu, Sltu, Remu, Not, Equals, BitwiseAnd}
use Rattle.reach.specs.Table.{table_says}
use Rattle.existence.specs.Kinds.{Reachable, FalseYes, FalseNo, at_divu, at_sltu, at_equals, at_not, at_remu}

-- tests and facts
eqb_iff : (a b : ℕ) → (eqb a b ≡ true) ↔ (a ≡ b)
eqb_iff a b = (eqb-true a b, eq-eqb a b)

or_iff : (a b : Bool) → ((a || b) ≡ true) ↔ ((a ≡ true) ⊎ (b ≡ true))
or_iff true b = (λ e. inl refl, λ e. refl)
or_iff false b = (λ e. inr e, ⊎_elim (λ e. absurd (false≢true e)) (λ e. e))

and_iff : (a b : Bool) → ((a && b) ≡ true) ↔ ((a ≡ true) × (b ≡ true))
and_iff true b = (λ e. (refl, e), λ p. p.1)
and_iff false b = (λ e. absurd (false≢true e), λ p. p.0)

ne_iff : (a b : ℕ) → (not (eqb a b) ≡ true) ↔ (a ≡ b → ⊥)
ne_iff a b = (λ e. eqb-false a b (not-true _ e), λ n. ap not (ne_eqb a b n))

-- "a = 0: x; else y"
pick_iff : (a : ℕ) (x y : Bool) → (pick (eqb a 0) x y ≡ true) ↔ (((a ≡ 0) × (x ≡ true)) ⊎ ((0 < a) × (y ≡ true)))
pick_iff a x y =
    ⊎_elim
    (λ z. rw (eq-eqb a 0 z) (λ e. inl (z, e), ⊎_elim (λ p. p.1) (λ p. absurd (omega arith))))
    (λ h. rw (ne_eqb a 0 (ne_of_gt h)) (λ e. inr (h, e), ⊎_elim (λ p. absurd (omega arith)) (λ p. p.1)))
    (eq-zero-or-pos a)

-- "t = 0 or a ≠ b"
zero_iff : (t a b : ℕ) → ((eqb t 0 || not (eqb a b)) ≡ true) ↔ ((t ≡ 0) ⊎ (a ≡ b → ⊥))
zero_iff t a b =
    Iff.trans (or_iff (eqb t 0) _) (
      ⊎_elim (λ e. inl (eqb-true _ _ e)) (λ e. inr ((ne_iff a b).0 e)),
      ⊎_elim (λ e. inl (eq-eqb _ _ e)) (λ n. inr ((ne_iff a b).1 n)),
    )

-- a test f that has a word for each answer gives 0 and 1
bit : (f : ℕ → Bool) (t : ℕ) → (t ≡ 0 → Some (λ x. f x ≡ false)) → (t ≡ 1 → Some (λ x. f x ≡ true)) → Some (λ x. bool_byte (f x) ≡ t) ⊎ (1 < t)
bit f zero z o = let p = z refl in inl (p.0, p.1, ap bool_byte p.2)
bit f (suc zero) z o = let p = o refl in inl (p.0, p.1, ap bool_byte p.2)
bit f (suc (suc t)) z o = inr (omega arith)

bit_set : (b : Bool) (t : ℕ) → 0 < t → bool_byte b ≡ t → b ≡ true
bit_set true t h e = refl
bit_set false t h e = absurd (omega arith)

-- the order of the operands does not matter
turned : {P Q : ℕ → Type 0} → ((x : ℕ) → P x → Q x) → ((x : ℕ) → Q x → P x) → Some P ↔ Some Q
turned f g = (λ p. (p.0, p.1, f p.0 p.2), λ p. (p.0, p.1, g p.0 p.2))

-- what is shown of a row
abbrev pub Row : BVOperator → OperandSide → Value → Value → Type 0
Row o d s t = (table_says o d s t ≡ true → Reachable o d s t ⊎ FalseYes o d s t) × (Reachable o d s t → (table_says o d s t ≡ true) ⊎ FalseNo o d s t)

-- a row without a false kind
exact : (o : BVOperator) (d : OperandSide) (s t : Value) → (table_says o d s t ≡ true) ↔ Reachable o d s t → Row o d s t
exact o d s t p = (λ y. inl (p.0 y), λ r. inl (p.1 r))

module _ (s t : Value) (hs : s < 2 ^ 64) (ht : t < 2 ^ 64) where
  mul : (d : OperandSide) → (table_says Mul d s t ≡ true) ↔ Some (λ x. bvmul x s ≡ t)
  unfolding table_says
  mul d =
      Iff.trans (eqb_iff _ _) (Iff.trans (mul_test s t hs ht)
      (λ p. (p.0 % 2 ^ 64, mod-lt p.0 (omega arith), mod_mul_mod p.0 s (2 ^ 64) ∙ p.1), λ p. (p.0, p.2)))

  and : (d : OperandSide) → (table_says BitwiseAnd d s t ≡ true) ↔ Some (λ x. bvand x s ≡ t)
  unfolding table_says
  and d = Iff.trans (eqb_iff _ _) (λ e. (t, ht, e), λ p. (and_test s t).1 (p.0, p.2))

  divu_lhs_lem : (table_says Divu Lhs s t ≡ true) ↔ Some (λ x. bvudiv x s ≡ t)
  unfolding table_says
  divu_lhs_lem = Iff.trans (pick_iff s (eqb t M) (leb (t * s) M)) (⊎_elim by_zero by_pos, back)
    where
      by_zero : (s ≡ 0) × (eqb t M ≡ true) → Some (λ x. bvudiv x s ≡ t)
      by_zero p = (0, omega arith, rw p.0 (sym (eqb-true t M p.1)))

      by_pos : (0 < s) × (leb (t * s) M ≡ true) → Some (λ x. bvudiv x s ≡ t)
      by_pos p = let l = leb-true (t * s) M p.1 in (div_left s t p.0).0 (omega arith)

      back : Some (λ x. bvudiv x s ≡ t) → ((s ≡ 0) × (eqb t M ≡ true)) ⊎ ((0 < s) × (leb (t * s) M ≡ true))
      back p =
          ⊎_elim
          (λ z. inl (z, eq-eqb t M (sym (rw z at p.2))))
          (λ h. let l = (div_left s t h).1 p in inr (h, le-leb (t * s) M (omega arith)))
          (eq-zero-or-pos s)

  -- "t = 0: s ≠ M; else t = M or s ≥ t"
  divu_rhs_iff : (table_says Divu Rhs s t ≡ true) ↔ (((t ≡ 0) × (s ≡ M → ⊥)) ⊎ ((0 < t) × ((t ≡ M) ⊎ (t ≤ s))))
  unfolding table_says
  divu_rhs_iff =
      Iff.trans (pick_iff t (not (eqb s M)) (eqb t M || leb t s)) (
        ⊎_elim
            (λ p. inl (p.0, (ne_iff s M).0 p.1))
            (λ p. inr (p.0, ⊎_elim (λ e. inl (eqb-true t M e)) (λ e. inr (leb-true t s e)) ((or_iff (eqb t M) (leb t s)).0 p.1))),
        ⊎_elim
            (λ p. inl (p.0, (ne_iff s M).1 p.1))
            (λ p. inr (p.0, (or_iff (eqb t M) (leb t s)).1 (⊎_elim (λ e. inl (eq-eqb t M e)) (λ l. inr (le-leb t s l)) p.1))),
      )

  divu_rhs_lem : Row Divu Rhs s t
  divu_rhs_lem = (λ y. ⊎_elim by_zero by_pos (divu_rhs_iff.0 y), λ p. inl (divu_rhs_iff.1 (⊎_elim (back_zero p) (back_pos p) (eq-zero-or-pos t))))
    where
      by_zero : (t ≡ 0) × (s ≡ M → ⊥) → Reachable Divu Rhs s t ⊎ FalseYes Divu Rhs s t
      by_zero p = let n = p.1 in inl (M, omega arith, div-eq_of_lt (omega arith) ∙ sym p.0)

      by_ones : t ≡ M → Reachable Divu Rhs s t ⊎ FalseYes Divu Rhs s t
      by_ones e = inl (0, omega arith, sym e)

      by_quotient : 0 < t → t < M → t ≤ s → Reachable Divu Rhs s t ⊎ FalseYes Divu Rhs s t
      by_quotient h m l =
          let q : 1 ≤ s / t = (le-div_iff_mul-le h).1 (omega arith) in
          elim (ℕ_discrete (s / (s / t)) t) [
            | yes e ↦ inl (s / t, omega (arith, div-le_self s t), div_is s (s / t) q ∙ e)
            | no n ↦ inr (inl (at_divu {s = s} {t = t} (omega arith) (omega arith) (omega arith) n))
          ]

      by_pos : (0 < t) × ((t ≡ M) ⊎ (t ≤ s)) → Reachable Divu Rhs s t ⊎ FalseYes Divu Rhs s t
      by_pos p =
          elim (ℕ_discrete t M) [
            | yes e ↦ by_ones e
            | no n ↦ ⊎_elim by_ones (by_quotient p.0 (omega arith)) p.1
          ]

      back_zero : Reachable Divu Rhs s t → t ≡ 0 → ((t ≡ 0) × (s ≡ M → ⊥)) ⊎ ((0 < t) × ((t ≡ M) ⊎ (t ≤ s)))
      back_zero p z =
          let x = p.0 in
          inl (
            z,
            λ e.
                ⊎_elim
                (λ n. let w : M ≡ t = rw n at p.2 in omega arith)
                (λ h. let w : s / x ≡ t = sym (div_is s x h) ∙ p.2 in omega (arith, p.1, (div-lt_iff_lt-mul {k = x} {x = s} {y = 1} h).0 (omega arith)))
                (eq-zero-or-pos x),
          )

      back_pos : Reachable Divu Rhs s t → 0 < t → ((t ≡ 0) × (s ≡ M → ⊥)) ⊎ ((0 < t) × ((t ≡ M) ⊎ (t ≤ s)))
      back_pos p h =
          let x = p.0 in
          inr (
            h,
            ⊎_elim
                (λ n. inl (sym (rw n at p.2)))
                (λ k. let w : s / x ≡ t = sym (div_is s x k) ∙ p.2 in inr (omega (arith, div-le_self s x)))
                (eq-zero-or-pos x),
          )

  sltu_lhs_iff : (table_says Sltu Lhs s t ≡ true) ↔ ((t ≡ 0) ⊎ (s ≡ 0 → ⊥))
  unfolding table_says
  sltu_lhs_iff = zero_iff t s 0

  sltu_rhs_iff : (table_says Sltu Rhs s t ≡ true) ↔ ((t ≡ 0) ⊎ (s ≡ M → ⊥))
  unfolding table_says
  sltu_rhs_iff = zero_iff t s M

  sltu_lhs_lem : Row Sltu Lhs s t
  sltu_lhs_lem = (
    λ y. ⊎_elim inl (λ h. inr (inr (at_sltu {s = s} {t = t} (omega arith) (cc))))
        (bit (λ x. ltb x s) t (λ z. (M, omega arith, le-ltb M s (omega arith)))
        (λ o. (0, omega arith, ⊎_elim (λ z. absurd (omega arith)) (λ n. lt-ltb 0 s (pos_of_ne-zero n)) (sltu_lhs_iff.0 y)))),
    λ p. inl (sltu_lhs_iff.1 (⊎_elim inl (λ h. let l = ltb-true p.0 s (bit_set _ t h p.2) in inr (ne_of_gt (omega arith))) (eq-zero-or-pos t))),
  )

  sltu_rhs_lem : Row Sltu Rhs s t
  sltu_rhs_lem = (
    λ y. ⊎_elim inl (λ h. inr (inr (at_sltu {s = s} {t = t} (omega arith) (cc))))
        (bit (λ x. ltb s x) t (λ z. (0, omega arith, le-ltb s 0 (omega arith)))
        (λ o. (M, omega arith, ⊎_elim (λ z. absurd (omega arith)) (λ n. lt-ltb s M (omega arith)) (sltu_rhs_iff.0 y)))),
    λ p. inl (sltu_rhs_iff.1 (⊎_elim inl (λ h. let l = ltb-true s p.0 (bit_set _ t h p.2) in let m = p.1 in inr (λ e. omega arith)) (eq-zero-or-pos t))),
  )

  remu_lhs_lem : Row Remu Lhs s t
  unfolding table_says
  remu_lhs_lem = (
    λ y. let l = ltb-true t s y in inl ((rem_left s t (omega arith) hs).0 l),
    λ p. ⊎_elim (λ z. inr (at_remu {s = s} (omega arith))) (λ h. inl (lt-ltb t s ((rem_left s t h hs).1 p))) (eq-zero-or-pos s),
  )

  remu_rhs_lem : (table_says Remu Rhs s t ≡ true) ↔ Some (λ x. bvurem s x ≡ t)
  unfolding table_says
  remu_rhs_lem = Iff.trans facts (rem_right s t hs)
    where
      facts : ((eqb s t || (ltb t s && ltb t (s - t))) ≡ true) ↔ ((s ≡ t) ⊎ (t + t < s))
      facts =
          Iff.trans (or_iff (eqb s t) (ltb t s && ltb t (s - t))) (
            ⊎_elim (λ e. inl (eqb-true _ _ e)) (λ e. let p = (and_iff (ltb t s) _).0 e in let a = ltb-true t s p.0 in let b = ltb-true t (s - t) p.1 in inr (omega arith)),
            ⊎_elim (λ e. inl (eq-eqb _ _ e)) (λ h. inr ((and_iff (ltb t s) _).1 (lt-ltb t s (omega arith), lt-ltb t (s - t) (omega arith)))),
          )

  equals_lhs : Row Equals Lhs s t
  unfolding table_says
  equals_lhs = (
    λ y. ⊎_elim inl (λ h. inr (inr (at_equals {s = s} {t = t} (omega arith) (cc))))
        (bit (λ x. eqb x s) t (λ z. (1 - s, omega arith, ne_eqb (1 - s) s (λ e. omega arith))) (λ o. (s, hs, eq-eqb s s refl))),
    λ p. inl refl,
  )

  equals_rhs : Row Equals Rhs s t
  unfolding table_says
  equals_rhs = (
    λ y. ⊎_elim inl (λ h. inr (inr (at_equals {s = s} {t = t} (omega arith) (cc))))
        (bit (λ x. eqb s x) t (λ z. (1 - s, omega arith, ne_eqb s (1 - s) (λ e. omega arith))) (λ o. (s, hs, eq-eqb s s refl))),
    λ p. inl refl,
  )

  negation : (d : OperandSide) → Row Not d s t
  unfolding table_says
  negation d = (
    λ y. ⊎_elim inl (λ h. inr (inr (at_not {t = t} (omega arith)))) (bit (λ x. eqb x 0) t (λ z. (1, omega arith, refl)) (λ o. (0, omega arith, refl))),
    λ p. inl refl,
  )

  sum : (d : OperandSide) → (table_says Add d s t ≡ true) ↔ Some (λ x. bvadd x s ≡ t)
  unfolding table_says
  sum d = (λ y. (bvsub t s, omega arith, omega arith), λ p. refl)

  difference : (d : OperandSide) → Row Sub d s t
  unfolding table_says
  difference Lhs = (λ y. inl (bvadd t s, omega arith, omega arith), λ p. inl refl)
  difference Rhs = (λ y. inl (bvsub s t, omega arith, omega arith), λ p. inl refl)

  pub row : (o : BVOperator) (d : OperandSide) → Row o d s t
  row Add Lhs = exact Add Lhs s t (sum Lhs)
  row Add Rhs = exact Add Rhs s t (Iff.trans (sum Rhs) (turned (λ x e. omega arith) (λ x e. omega arith)))
  row Sub d = difference d
  row Mul Lhs = exact Mul Lhs s t (mul Lhs)
  row Mul Rhs = exact Mul Rhs s t (Iff.trans (mul Rhs) (turned (λ x e. rw (mul_comm s x) e) (λ x e. rw (mul_comm x s) e)))
  row Divu Lhs = exact Divu Lhs s t divu_lhs_lem
  row Divu Rhs = divu_rhs_lem
  row Sltu Lhs = sltu_lhs_lem
  row Sltu Rhs = sltu_rhs_lem
  row Remu Lhs = remu_lhs_lem
  row Remu Rhs = exact Remu Rhs s t remu_rhs_lem
  row Not d = negation d
  row Equals Lhs = equals_lhs
  row Equals Rhs = equals_rhs
  row BitwiseAnd Lhs = exact BitwiseAnd Lhs s t (and Lhs)
  row BitwiseAnd Rhs = exact BitwiseAnd Rhs s t (Iff.trans (and Rhs) (turned (λ x e. and_comm s x ∙ e) (λ x e. and_comm x s ∙ e)))
