-- Every rule of edition one goes forward, whatever the values: one law for each way in which a rule is put together. Assumes nothing.
use Prim.Native.Nat.{ℕ, ◌+◌, ◌-◌, ◌/◌, min}
use mathlib.Core.Path.{sym, ap}
use mathlib.Core.Logic.{inl, inr}
use mathlib.Core.Bool.{Bool, true, false, ◌&&◌, ◌||◌}
use lib.Dec.{ltb, eqb}
use Rattle.std.specs.Prelude.{Some, None}
use Rattle.laws.specs.Pick.{pick}
use Rattle.bitvec.specs.Word.{M, bvadd, bvsub, bvmul, bvudiv, bvand, bvor, bvnot}
use Rattle.words.specs.Words.{draw_at, range_at, not_at, two_at, map_draw}
use Rattle.words.proofs.Draws.{draw_forward, draw_longer, range_forward, range_longer, not_forward, not_longer, two_forward, two_longer, made}
use Rattle.symbols.specs.Graph.{Value}
use Rattle.symbols.specs.declared.OperandSide.{OperandSide}
use Rattle.symbols.specs.declared.OperandSide.TheVariants.{Lhs, Rhs}
use Rattle.symbols.specs.declared.BVOperator.{BVOperator}
use Rattle.symbols.specs.declared.BVOperator.TheVariants.{Add, Sub, Mul, Divu, Sltu, Remu, Not, Equals, BitwiseAnd}
use Rattle.rules.specs.One.{no_word, mul_value, divisor_of, inverse_at, mul_consistent, consistent_at, one}
use Rattle.promises.specs.Keeps.{Rule}
use Rattle.promises.proofs.Splits.{never, is_place, made_two}
use Rattle.lawful.specs.Owed.{Steady, SteadyRules}

none_steady : (x : Value) → Steady (λ ws n. no_word x n)
none_steady x = record { moves = λ ws n v q e. inl (is_place x n v q e); longer = λ ws us n v q e. e }

dry_steady : Steady (λ ws n. None)
dry_steady = record { moves = λ ws n v q e. never v q e; longer = λ ws us n v q e. e }

draw_steady : Steady draw_at
draw_steady = record { moves = λ ws n v q e. inr (draw_forward ws n v q e); longer = λ ws us n v q e. draw_longer ws n v q us e }

range_steady : (a b : Value) → Steady (λ ws n. range_at ws n a b)
range_steady a b = record {
  moves = λ ws n v q e. inr (range_forward ws n a b v q e);
  longer = λ ws us n v q e. range_longer ws n a b v q us e;
}

not_steady : (s : Value) → Steady (λ ws n. not_at ws n s)
not_steady s = record { moves = λ ws n v q e. inr (not_forward ws s v q n e); longer = λ ws us n v q e. not_longer ws s v q n us e }

map_steady : (g : Value → Value) (f : Rule) → Steady f → Steady (λ ws n. map_draw g (f ws n))
map_steady g f k = record {
  moves = λ ws n v q e. let m = made g (f ws n) v q e in k.moves ws n m.0 q m.1;
  longer = λ ws us n v q e. let m = made g (f ws n) v q e in rw (k.longer ws us n m.0 q m.1) (ap (λ (x : ℕ). Some (x, q)) (sym m.2));
}

two_steady : (g : Value → Value → Value) → Steady (λ ws n. map_draw (λ p. g p.0 p.1) (two_at ws n))
two_steady g = record {
  moves = λ ws n v q e. let m = made_two g (two_at ws n) v q e in inr (two_forward ws m.0 m.1 q n m.2);
  longer =
      λ ws us n v q e.
      let m = made_two g (two_at ws n) v q e in
      rw (two_longer ws m.0 m.1 q n us m.2) (ap (λ (x : ℕ). Some (x, q)) (sym m.3));
}

pick_steady : (c : Bool) (f g : Rule) → Steady f → Steady g → Steady (λ ws n. pick c (f ws n) (g ws n))
pick_steady true f g x y = x
pick_steady false f g x y = y

inverse_steady : (o : BVOperator) (d : OperandSide) (s t : Value) → Steady (inverse_at o d s t)
unfolding inverse_at
inverse_steady Add d s t = none_steady (bvsub t s)
inverse_steady Sub Lhs s t = none_steady (bvadd t s)
inverse_steady Sub Rhs s t = none_steady (bvsub s t)
inverse_steady Mul d s t = map_steady (mul_value s t) draw_at draw_steady
inverse_steady Divu Lhs s t =
    pick_steady (eqb s 0) _ _ (range_steady 0 M)
    (pick_steady (eqb t M && eqb s 1) _ _ (none_steady M) (range_steady (bvmul t s) (min M (bvmul t s + (s - 1)))))
inverse_steady Divu Rhs s t =
    pick_steady (eqb t M && eqb s M) _ _ (range_steady 0 1) (pick_steady (eqb t M) _ _ (none_steady 0) (none_steady (bvudiv s t)))
inverse_steady Sltu Lhs s t = pick_steady (eqb t 0) _ _ (range_steady s M) (range_steady 0 (bvsub s 1))
inverse_steady Sltu Rhs s t = pick_steady (eqb t 0) _ _ (range_steady 0 s) (range_steady (bvadd s 1) M)
inverse_steady Remu Lhs s t =
    pick_steady (ltb (bvudiv (bvsub M t) s) 1) _ _ (none_steady t) (map_steady (λ y. bvadd (bvmul y s) t) _ (range_steady 1 (bvudiv (bvsub M t) s)))
inverse_steady Remu Rhs s t =
    pick_steady (eqb s t) _ _ (map_steady (λ x. pick (eqb x t) 0 x) _ (range_steady t M)) (map_steady (divisor_of s t) draw_at draw_steady)
inverse_steady Not d s t = dry_steady
inverse_steady Equals d s t = pick_steady (eqb t 0) _ _ (not_steady s) (none_steady s)
inverse_steady BitwiseAnd d s t = map_steady (λ w. bvor (bvand w (bvnot s)) t) draw_at draw_steady

consistent_steady : (o : BVOperator) (d : OperandSide) (t : Value) → Steady (consistent_at o d t)
unfolding consistent_at
consistent_steady Add d t = draw_steady
consistent_steady Sub d t = draw_steady
consistent_steady Mul d t = pick_steady (eqb t 0) _ _ (none_steady 0) (two_steady (mul_consistent t))
consistent_steady Divu Lhs t = pick_steady (eqb t 0 || eqb t M) _ _ (range_steady 0 (M - 1)) (map_steady (λ y. bvmul y t) _ (not_steady 0))
consistent_steady Divu Rhs t = pick_steady (eqb t M) _ _ (range_steady 0 1) (pick_steady (eqb t 0) _ _ (range_steady 1 M) (range_steady 0 (M / t)))
consistent_steady Sltu Lhs t = pick_steady (eqb t 0) _ _ (range_steady 0 M) (range_steady 0 (M - 1))
consistent_steady Sltu Rhs t = pick_steady (eqb t 0) _ _ (range_steady 0 M) (range_steady 1 (M - 1))
consistent_steady Remu Lhs t = pick_steady (eqb t M) _ _ (none_steady M) (range_steady t M)
consistent_steady Remu Rhs t = pick_steady (eqb t M) _ _ (none_steady 0) (range_steady (t + 1) M)
consistent_steady Not d t = dry_steady
consistent_steady Equals d t = draw_steady
consistent_steady BitwiseAnd d t = map_steady (λ w. bvor w t) draw_at draw_steady

pub one_steady : SteadyRules one
one_steady = record { inverses = inverse_steady; consistents = consistent_steady }
