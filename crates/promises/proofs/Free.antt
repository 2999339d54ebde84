-- Where the paper takes no word none is taken, and everywhere else some are. Assumes nothing.
use Prim.Native.Nat.{◌+◌, ◌-◌, ◌/◌, min}
use mathlib.Core.Path.{◌≡◌, refl, sym, ap, ◌∙◌}
use mathlib.Core.Bool.{Bool, true, false, not, ◌&&◌, ◌||◌, true≢false}
use native.Mathlib.Omega.{arith}
use lib.Dec.{ltb, eqb}
use borrow.Author.Tests.{eqb-true, ne_eqb}
use Rattle.std.specs.Prelude.{None}
use Rattle.laws.specs.Pick.{pick}
use Rattle.bitvec.specs.Word.{M, bvadd, bvsub, bvmul, bvudiv, bvand, bvor, bvnot}
use Rattle.words.specs.Words.{draw_at, range_at, not_at, two_at, map_draw}
use Rattle.words.proofs.Draws.{draw_forward, range_forward, not_forward, two_forward, made}
use Rattle.symbols.specs.Graph.{Value}
use Rattle.symbols.specs.declared.OperandSide.{OperandSide}
use Rattle.symbols.specs.declared.OperandSide.TheVariants.{Lhs, Rhs}
use Rattle.symbols.specs.declared.BVOperator.{BVOperator}
use Rattle.symbols.specs.declared.BVOperator.TheVariants.{Add, Sub, Mul, Divu, Sltu, Remu, Not, Equals, BitwiseAnd}
use Rattle.rules.specs.One.{no_word, mul_value, divisor_of, inverse_at, mul_consistent, consistent_at}
use Rattle.promises.specs.Keeps.{Rule, Takes, Told, inverse_free, consistent_free}
use Rattle.promises.proofs.Splits.{never, made_two}

told_free : (x : Value) → Told true (λ ws n. no_word x n)
told_free x = record { none = λ e. (x, λ ws n. refl); some = λ e. absurd (true≢false e) }

told_takes : (f : Rule) → Takes f → Told false f
told_takes f h = record { none = λ e. absurd (true≢false (sym e)); some = λ e. h }

told_draw : Told false draw_at
told_draw = told_takes draw_at (λ ws n v q e. (draw_forward ws n v q e).moved)

told_range : (a b : Value) → Told false (λ ws n. range_at ws n a b)
told_range a b = told_takes (λ ws n. range_at ws n a b) (λ ws n v q e. (range_forward ws n a b v q e).moved)

told_not : (s : Value) → Told false (λ ws n. not_at ws n s)
told_not s = told_takes (λ ws n. not_at ws n s) (λ ws n v q e. (not_forward ws s v q n e).moved)

told_dry : Told false (λ ws n. None)
told_dry = told_takes (λ ws n. None) (λ ws n v q e. never v q e)

told_map : (g : Value → Value) (f : Rule) → Told false f → Told false (λ ws n. map_draw g (f ws n))
told_map g f h = told_takes (λ ws n. map_draw g (f ws n)) (λ ws n v q e. let m = made g (f ws n) v q e in h.some refl ws n m.0 q m.1)

told_two : (g : Value → Value → Value) → Told false (λ ws n. map_draw (λ p. g p.0 p.1) (two_at ws n))
told_two g = told_takes (λ ws n. map_draw (λ p. g p.0 p.1) (two_at ws n)) (λ ws n v q e. let m = made_two g (two_at ws n) v q e in (two_forward ws m.0 m.1 q n m.2).moved)

told_pick : (c a b : Bool) (f g : Rule) → Told a f → Told b g → Told (pick c a b) (λ ws n. pick c (f ws n) (g ws n))
told_pick true a b f g x y = x
told_pick false a b f g x y = y

alike : (a b : Bool) (f : Rule) → a ≡ b → Told a f → Told b f
alike a b f e x = rw (← e) x

-- the picked truth values, in the paper's words
itself : (c : Bool) → pick c true false ≡ c
itself true = refl
itself false = refl

neither : (c : Bool) → pick c false false ≡ false
neither true = refl
neither false = refl

opposite : (c : Bool) → pick c false true ≡ not c
opposite true = refl
opposite false = refl

unless_both : (a b : Bool) → pick (a && b) false (pick a true true) ≡ not (a && b)
unless_both true b = opposite b
unless_both false b = refl

at_one : (s : Value) (a : Bool) → pick (eqb s 0) false (pick (a && eqb s 1) true false) ≡ (a && eqb s 1)
at_one s a = go (eqb s 0) refl a
  where
    go : (c : Bool) → eqb s 0 ≡ c → (a : Bool) → pick c false (pick (a && eqb s 1) true false) ≡ (a && eqb s 1)
    go false e a = itself (a && eqb s 1)
    go true e false = refl
    go true e true = let z = eqb-true s 0 e in sym (ne_eqb s 1 (λ i. omega arith))

module _ (s t : Value) where
  pub inverse_told : (o : BVOperator) (d : OperandSide) → Told (inverse_free o d s t) (inverse_at o d s t)
  unfolding inverse_at
  inverse_told Add d = told_free (bvsub t s)
  inverse_told Sub Lhs = told_free (bvadd t s)
  inverse_told Sub Rhs = told_free (bvsub s t)
  inverse_told Mul d = told_map (mul_value s t) draw_at told_draw
  inverse_told Divu Lhs =
      alike _ _ _ (at_one s (eqb t M))
      (told_pick (eqb s 0) false (pick (eqb t M && eqb s 1) true false) _ _ (told_range 0 M)
      (told_pick (eqb t M && eqb s 1) true false _ _ (told_free M) (told_range (bvmul t s) (min M (bvmul t s + (s - 1))))))
  inverse_told Divu Rhs =
      alike _ _ _ (unless_both (eqb t M) (eqb s M))
      (told_pick (eqb t M && eqb s M) false (pick (eqb t M) true true) _ _ (told_range 0 1)
      (told_pick (eqb t M) true true _ _ (told_free 0) (told_free (bvudiv s t))))
  inverse_told Sltu Lhs = alike _ _ _ (neither (eqb t 0)) (told_pick (eqb t 0) false false _ _ (told_range s M) (told_range 0 (bvsub s 1)))
  inverse_told Sltu Rhs = alike _ _ _ (neither (eqb t 0)) (told_pick (eqb t 0) false false _ _ (told_range 0 s) (told_range (bvadd s 1) M))
  inverse_told Remu Lhs =
      alike _ _ _ (itself (ltb (bvudiv (bvsub M t) s) 1))
      (told_pick (ltb (bvudiv (bvsub M t) s) 1) true false _ _ (told_free t)
      (told_map (λ y. bvadd (bvmul y s) t) _ (told_range 1 (bvudiv (bvsub M t) s))))
  inverse_told Remu Rhs =
      alike _ _ _ (neither (eqb s t))
      (told_pick (eqb s t) false false _ _ (told_map (λ x. pick (eqb x t) 0 x) _ (told_range t M)) (told_map (divisor_of s t) draw_at told_draw))
  inverse_told Not d = told_dry
  inverse_told Equals d = alike _ _ _ (opposite (eqb t 0)) (told_pick (eqb t 0) false true _ _ (told_not s) (told_free s))
  inverse_told BitwiseAnd d = told_map (λ w. bvor (bvand w (bvnot s)) t) draw_at told_draw

module _ (t : Value) where
  pub consistent_told : (o : BVOperator) (d : OperandSide) → Told (consistent_free o d t) (consistent_at o d t)
  unfolding consistent_at
  consistent_told Add d = told_draw
  consistent_told Sub d = told_draw
  consistent_told Mul d = alike _ _ _ (itself (eqb t 0)) (told_pick (eqb t 0) true false _ _ (told_free 0) (told_two (mul_consistent t)))
  consistent_told Divu Lhs =
      alike _ _ _ (neither (eqb t 0 || eqb t M)) (told_pick (eqb t 0 || eqb t M) false false _ _ (told_range 0 (M - 1)) (told_map (λ y. bvmul y t) _ (told_not 0)))
  consistent_told Divu Rhs =
      alike _ _ _ (ap (pick (eqb t M) false) (neither (eqb t 0)) ∙ neither (eqb t M))
      (told_pick (eqb t M) false (pick (eqb t 0) false false) _ _ (told_range 0 1) (told_pick (eqb t 0) false false _ _ (told_range 1 M) (told_range 0 (M / t))))
  consistent_told Sltu Lhs = alike _ _ _ (neither (eqb t 0)) (told_pick (eqb t 0) false false _ _ (told_range 0 M) (told_range 0 (M - 1)))
  consistent_told Sltu Rhs = alike _ _ _ (neither (eqb t 0)) (told_pick (eqb t 0) false false _ _ (told_range 0 M) (told_range 1 (M - 1)))
  consistent_told Remu Lhs = alike _ _ _ (itself (eqb t M)) (told_pick (eqb t M) true false _ _ (told_free M) (told_range t M))
  consistent_told Remu Rhs = alike _ _ _ (itself (eqb t M)) (told_pick (eqb t M) true false _ _ (told_free 0) (told_range (t + 1) M))
  consistent_told Not d = told_dry
  consistent_told Equals d = told_draw
  consistent_told BitwiseAnd d = told_map (λ w. bvor w t) draw_at told_draw
