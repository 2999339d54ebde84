-- Each refusal of a single value is given exactly when document 01 says, for every edition of the rules. Assumes nothing.
use mathlib.Core.Path.{◌≡◌, refl}
use mathlib.Core.Logic.{◌↔◌}
use mathlib.Core.List.{[], ◌∷◌}
use mathlib.Core.Bool.{Bool, true, false, not}
use Prim.Native.Nat.{ℕ}
use native.Mathlib.Omega.{arith}
use Rattle.laws.specs.Rows.{row, first}
use Rattle.std.specs.Prelude.{Some, None}
use Rattle.words.specs.Words.{Words, Place, Draw}
use Rattle.symbols.specs.Graph.{Value}
use Rattle.symbols.specs.Operators.{is_unary}
use Rattle.symbols.specs.Refusals.{number_of, values_of}
use Rattle.symbols.specs.declared.OperandSide.{OperandSide}
use Rattle.symbols.specs.declared.BVOperator.{BVOperator}
use Rattle.symbols.specs.declared.Refusal.TheVariants.{Arity, NoInverse, Dry}
use Rattle.rules.specs.Rules.{Rules, not_value}
use Rattle.values.specs.Answers.{Answer, refusal, drawn, inverse_answer, consistent_answer, unary_value, unary_refused, unary_answer}

-- of the truth values and the draw that decide
abbrev Asked : Bool → Bool → Draw → Answer
Asked u b r = first (row u (refusal Arity) ∷ row (not b) (refusal NoInverse) ∷ []) (drawn r)

arity_by : (u b : Bool) (r : Draw) → Asked u b r ≡ refusal Arity → u ≡ true
unfolding first
arity_by true b r e = refl
arity_by false true (Some (v, s)) e = let z : ◌≡◌ {A = ℕ} 0 1 = cc in absurd (omega arith)
arity_by false true None e = let z : ◌≡◌ {A = ℕ} 12 10 = cc in absurd (omega arith)
arity_by false false r e = let z : ◌≡◌ {A = ℕ} 11 10 = cc in absurd (omega arith)

none_by : (u b : Bool) (r : Draw) → Asked u b r ≡ refusal NoInverse → (u ≡ false) × (b ≡ false)
unfolding first
none_by true b r e = let z : ◌≡◌ {A = ℕ} 10 11 = cc in absurd (omega arith)
none_by false true (Some (v, s)) e = let z : ◌≡◌ {A = ℕ} 0 1 = cc in absurd (omega arith)
none_by false true None e = let z : ◌≡◌ {A = ℕ} 12 11 = cc in absurd (omega arith)
none_by false false r e = (refl, refl)

dry_by : (u b : Bool) (r : Draw) → Asked u b r ≡ refusal Dry → (u ≡ false) × (b ≡ true) × (r ≡ None)
unfolding first
dry_by true b r e = let z : ◌≡◌ {A = ℕ} 10 12 = cc in absurd (omega arith)
dry_by false true (Some (v, s)) e = let z : ◌≡◌ {A = ℕ} 0 1 = cc in absurd (omega arith)
dry_by false true None e = (refl, refl, refl)
dry_by false false r e = let z : ◌≡◌ {A = ℕ} 11 12 = cc in absurd (omega arith)

module _ (ρ : Rules) (o : BVOperator) (d : OperandSide) (s t : Value) (ws : Words) (n : Place) where
  -- "10 Arity: a binary rule asked of Not"
  pub inverse_arity_exactly : (inverse_answer ρ o d s t ws n ≡ refusal Arity) ↔ (is_unary o ≡ true)
  unfolding inverse_answer first
  inverse_arity_exactly = (arity_by (is_unary o) (ρ.table o d s t) (ρ.inverse o d s t ws n), λ u. rw u)

  -- "11 NoInverse: inverse asked where the table says no"
  pub inverse_none_exactly : (inverse_answer ρ o d s t ws n ≡ refusal NoInverse) ↔ ((is_unary o ≡ false) × (ρ.table o d s t ≡ false))
  unfolding inverse_answer first
  inverse_none_exactly = (none_by (is_unary o) (ρ.table o d s t) (ρ.inverse o d s t ws n), λ p. rw (p.0, p.1))

  -- "12 Dry: a single value's words run out"
  pub inverse_dry_exactly : (inverse_answer ρ o d s t ws n ≡ refusal Dry) ↔ ((is_unary o ≡ false) × (ρ.table o d s t ≡ true) × (ρ.inverse o d s t ws n ≡ None))
  unfolding inverse_answer first
  inverse_dry_exactly = (dry_by (is_unary o) (ρ.table o d s t) (ρ.inverse o d s t ws n), λ p. rw (p.0, p.1, p.2))

  pub consistent_arity_exactly : (consistent_answer ρ o d t ws n ≡ refusal Arity) ↔ (is_unary o ≡ true)
  unfolding consistent_answer first
  consistent_arity_exactly = (arity_by (is_unary o) true (ρ.consistent o d t ws n), λ u. rw u)

  pub consistent_dry_exactly : (consistent_answer ρ o d t ws n ≡ refusal Dry) ↔ ((is_unary o ≡ false) × (ρ.consistent o d t ws n ≡ None))
  unfolding consistent_answer first
  consistent_dry_exactly = (λ e. let p = dry_by (is_unary o) true (ρ.consistent o d t ws n) e in (p.0, p.2), λ p. rw (p.0, p.1))

-- "or the unary rule of another operator"
pub unary_arity_exactly : (o : BVOperator) (t : Value) → (unary_answer o t ≡ unary_refused (number_of Arity) (values_of Arity)) ↔ (is_unary o ≡ false)
unfolding unary_answer first
unary_arity_exactly o t = (by (is_unary o), λ u. rw u)
  where
    by : (u : Bool) → first (row (not u) (unary_refused (number_of Arity) (values_of Arity)) ∷ []) (unary_value (not_value t)) ≡ unary_refused (number_of Arity) (values_of Arity) → u ≡ false
    by true e = let z : ◌≡◌ {A = ℕ} 0 1 = cc in absurd (omega arith)
    by false e = refl
