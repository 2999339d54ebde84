-- The table says yes exactly where some x gives the target, but for the kinds of `specs/Kinds.antt`; each of these is wrong. Assumes nothing.
use Prim.Native.Nat.{◌^◌, ◌<◌}
use mathlib.Core.Path.{◌≡◌, refl, sym, ◌∙◌}
use mathlib.Core.Logic.{⊎_elim}
use mathlib.Core.Bool.{true, true≢false}
use native.Mathlib.Omega.{arith}
use Rattle.symbols.specs.Graph.{Value}
use Rattle.symbols.specs.declared.OperandSide.{OperandSide}
use Rattle.symbols.specs.declared.OperandSide.TheVariants.{Lhs, Rhs}
use Rattle.symbols.specs.declared.BVOperator.{BVOperator}
use Rattle.symbols.specs.declared.BVOperator.TheVariants.{Divu, Sltu, Remu, Not, Equals}
use Rattle.reach.specs.Table.{table_says}
use Rattle.existence.specs.Kinds.{Reachable, KindA, KindB, KindC, at_divu, at_sltu, at_equals, at_not, at_remu, FalseYes, Existence}
use Rattle.existence.proofs.Wrong.{kind_a, kind_b, kind_c}
use Rattle.existence.proofs.Rows.{row}

pub existence : (o : BVOperator) (d : OperandSide) (s t : Value) → s < 2 ^ 64 → t < 2 ^ 64 → Existence o d s t
existence o d s t hs ht =
    let r = row s t hs ht o d in
    record {
      false_yes = (⊎_elim (kind_a hs ht) (kind_b hs ht), λ p. ⊎_elim (λ x. absurd (p.1 x)) (λ k. k) (r.0 p.0));
      false_no = (kind_c ht, λ p. ⊎_elim (λ y. absurd (true≢false (sym y ∙ p.0))) (λ k. k) (r.1 p.1));
      elsewhere = λ a c. (λ y. ⊎_elim (λ x. x) (λ k. absurd (a k)) (r.0 y), λ x. ⊎_elim (λ y. y) (λ k. absurd (c k)) (r.1 x));
    }

-- in every yes that is not of kind (a) or (b) there is an x
pub yes_reaches : (o : BVOperator) (d : OperandSide) (s t : Value) → s < 2 ^ 64 → t < 2 ^ 64 → table_says o d s t ≡ true → (FalseYes o d s t → ⊥) → Reachable o d s t
yes_reaches o d s t hs ht y n = ⊎_elim (λ x. x) (λ k. absurd (n k)) ((row s t hs ht o d).0 y)

-- no kind is empty: (a) at 7 and 4, which the first marked case shows; (b) at each of its operators; (c) at the fourth marked case
pub kinds_occur : KindA Divu Rhs 7 4 × KindB Sltu Lhs 3 2 × KindB Equals Lhs 3 2 × KindB Not Lhs 3 2 × KindC Remu Lhs 0 9
unfolding table_says
kinds_occur = (
  at_divu {s = 7} {t = 4} (omega arith) (omega arith) (omega arith) (λ e. omega arith),
  at_sltu {s = 3} {t = 2} (omega arith) refl,
  at_equals {s = 3} {t = 2} (omega arith) refl,
  at_not {t = 2} (omega arith),
  at_remu refl,
)
