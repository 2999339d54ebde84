-- Every value of edition one keeps to specs/Keeps.antt: one law for each way in which a rule is put together. Assumes nothing.
use Prim.Native.Nat.{ℕ, ◌+◌, ◌-◌, ◌*◌, ◌/◌, ◌%◌, ◌^◌, ◌<◌, min}
use mathlib.Core.Path.{sym, ap}
use mathlib.Core.Logic.{inl, inr}
use mathlib.Core.Bool.{Bool, true, false, ◌&&◌, ◌||◌}
use native.Mathlib.Nat.{div-le_self, min-le_left, lt_of_le_of_lt}
use native.Mathlib.Omega.{arith}
use lib.Dec.{ltb, eqb}
use lib.Bits.{and_le_l, or_lt}
use Rattle.std.specs.Prelude.{Some, None}
use Rattle.laws.specs.Pick.{pick}
use Rattle.bitvec.specs.Word.{M, bvadd, bvsub, bvmul, bvudiv, bvand, bvor, bvnot, bvlshr, ctz}
use Rattle.bitvec.specs.Inverse.{inverse_of}
use Rattle.words.specs.Words.{draw_at, range_at, not_at, two_at, map_draw}
use Rattle.words.proofs.Draws.{draw_forward, draw_small, draw_longer, range_forward, range_within, range_longer, not_forward, not_small, not_longer, two_forward, two_small, two_longer, made}
use Rattle.words.proofs.Enough.{draw_enough, draw_fewer, range_enough, range_fewer, not_enough, not_fewer, two_enough, two_fewer}
use Rattle.symbols.specs.Graph.{Value}
use Rattle.symbols.specs.declared.OperandSide.{OperandSide}
use Rattle.symbols.specs.declared.OperandSide.TheVariants.{Lhs, Rhs}
use Rattle.symbols.specs.declared.BVOperator.{BVOperator}
use Rattle.symbols.specs.declared.BVOperator.TheVariants.{Add, Sub, Mul, Divu, Sltu, Remu, Not, Equals, BitwiseAnd}
use Rattle.rules.specs.One.{no_word, mul_value, divisor_of, inverse_at, mul_consistent, consistent_at}
use Rattle.promises.specs.Keeps.{Rule, Keeps}
use Rattle.promises.proofs.Splits.{never, is_value, is_place, made_two}

-- a value that needs no word, and none
none_keeps : (x : Value) → x < 2 ^ 64 → Keeps (λ ws n. no_word x n)
none_keeps x h ws k n v q e =
    let i = is_value x n v q e in
    let p = is_place x n v q e in
    record { small = omega arith; moves = inl p; longer = λ us. e; enough = λ m l. e; fewer = λ m a b. absurd (omega arith) }

dry_keeps : Keeps (λ ws n. None)
dry_keeps ws k n v q e = never v q e

-- a word, a range, words until one is not s
draw_keeps : Keeps draw_at
draw_keeps ws k n v q e = record {
  small = draw_small ws n v q k e;
  moves = inr (draw_forward ws n v q e);
  longer = λ us. draw_longer ws n v q us e;
  enough = λ m l. draw_enough ws n v q e m l;
  fewer = λ m a b. draw_fewer ws n v q e m b;
}

range_keeps : (a b : Value) → b < 2 ^ 64 → Keeps (λ ws n. range_at ws n a b)
range_keeps a b h ws k n v q e = record {
  small = omega (arith, (range_within ws n a b v q h k e).1);
  moves = inr (range_forward ws n a b v q e);
  longer = λ us. range_longer ws n a b v q us e;
  enough = λ m l. range_enough ws n a b v q e m l;
  fewer = λ m x y. range_fewer ws n a b v q e m y;
}

not_keeps : (s : Value) → Keeps (λ ws n. not_at ws n s)
not_keeps s ws k n v q e = record {
  small = not_small ws s v q n k e;
  moves = inr (not_forward ws s v q n e);
  longer = λ us. not_longer ws s v q n us e;
  enough = λ m l. not_enough ws s v q m n e l;
  fewer = λ m a b. not_fewer ws s v q m n e b;
}

-- what is made of a word, or of two
map_keeps : (g : Value → Value) (f : Rule) → ((x : Value) → x < 2 ^ 64 → g x < 2 ^ 64) → Keeps f → Keeps (λ ws n. map_draw g (f ws n))
map_keeps g f h keeps ws k n v q e =
    let m = made g (f ws n) v q e in
    let r = keeps ws k n m.0 q m.1 in
    let is = sym m.2 in
    record {
      small = rw m.2 (h m.0 r.small);
      moves = r.moves;
      longer = λ us. rw (r.longer us) (ap (λ (x : ℕ). Some (x, q)) is);
      enough = λ j l. rw (r.enough j l) (ap (λ (x : ℕ). Some (x, q)) is);
      fewer = λ j a b. rw (r.fewer j a b);
    }

two_keeps : (g : Value → Value → Value) → ((x y : Value) → x < 2 ^ 64 → y < 2 ^ 64 → g x y < 2 ^ 64) → Keeps (λ ws n. map_draw (λ p. g p.0 p.1) (two_at ws n))
two_keeps g h ws k n v q e =
    let m = made_two g (two_at ws n) v q e in
    let s = two_small ws m.0 m.1 q n k m.2 in
    let is = sym m.3 in
    record {
      small = rw m.3 (h m.0 m.1 s.0 s.1);
      moves = inr (two_forward ws m.0 m.1 q n m.2);
      longer = λ us. rw (two_longer ws m.0 m.1 q n us m.2) (ap (λ (x : ℕ). Some (x, q)) is);
      enough = λ j l. rw (two_enough ws m.0 m.1 q j n m.2 l) (ap (λ (x : ℕ). Some (x, q)) is);
      fewer = λ j a b. rw (two_fewer ws m.0 m.1 q j n m.2 b);
    }

-- the row that a test picks
pick_keeps : (c : Bool) (f g : Rule) → Keeps f → Keeps g → Keeps (λ ws n. pick c (f ws n) (g ws n))
pick_keeps true f g x y = x
pick_keeps false f g x y = y

-- the values are words
wrap_small : (x : ℕ) → x % 2 ^ 64 < 2 ^ 64
wrap_small x = omega arith

mul_small : (s t w : Value) → w < 2 ^ 64 → mul_value s t w < 2 ^ 64
unfolding mul_value
mul_small s t w h = go (eqb s 0)
  where
    go : (c : Bool) → pick c w (bvor (bvmul (bvlshr t (ctz s)) (inverse_of (bvlshr s (ctz s)))) (bvand w (bvnot (bvlshr M (ctz s))))) < 2 ^ 64
    go true = h
    go false =
        let c = ctz s in
        or_lt 64 (bvmul (bvlshr t c) (inverse_of (bvlshr s c))) (bvand w (bvnot (bvlshr M c))) (wrap_small (bvlshr t c * inverse_of (bvlshr s c)))
        (lt_of_le_of_lt (and_le_l w (bvnot (bvlshr M c))) h)

quotient_small : (a b : Value) → a < 2 ^ 64 → bvudiv a b < 2 ^ 64
quotient_small a b h = go (eqb b 0)
  where
    go : (c : Bool) → pick c M (a / b) < 2 ^ 64
    go true = omega arith
    go false = lt_of_le_of_lt (div-le_self a b) h

divisor_small : (s t w : Value) → divisor_of s t w < 2 ^ 64
unfolding divisor_of
divisor_small s t w = go (eqb (bvsub s t % (1 + w % 4096)) 0 && ltb t (bvsub s t / (1 + w % 4096)))
  where
    go : (c : Bool) → pick c (bvsub s t / (1 + w % 4096)) (bvsub s t) < 2 ^ 64
    go true = lt_of_le_of_lt (div-le_self (bvsub s t) (1 + w % 4096)) (wrap_small _)
    go false = wrap_small _

same_small : (t x : Value) → x < 2 ^ 64 → pick (eqb x t) 0 x < 2 ^ 64
same_small t x h = go (eqb x t)
  where
    go : (c : Bool) → pick c 0 x < 2 ^ 64
    go true = omega arith
    go false = h

two_small_low : (t low high : Value) → mul_consistent t low high < 2 ^ 64
unfolding mul_consistent
two_small_low t low high = wrap_small _

module _ (s t : Value) (hs : s < 2 ^ 64) (ht : t < 2 ^ 64) where
  pub inverse_keeps : (o : BVOperator) (d : OperandSide) → Keeps (inverse_at o d s t)
  unfolding inverse_at
  inverse_keeps Add d = none_keeps (bvsub t s) (wrap_small _)
  inverse_keeps Sub Lhs = none_keeps (bvadd t s) (wrap_small _)
  inverse_keeps Sub Rhs = none_keeps (bvsub s t) (wrap_small _)
  inverse_keeps Mul d = map_keeps (mul_value s t) draw_at (mul_small s t) draw_keeps
  inverse_keeps Divu Lhs =
      pick_keeps (eqb s 0) _ _ (range_keeps 0 M (omega arith))
      (pick_keeps (eqb t M && eqb s 1) _ _ (none_keeps M (omega arith))
      (range_keeps (bvmul t s) (min M (bvmul t s + (s - 1))) (omega (arith, min-le_left M (bvmul t s + (s - 1))))))
  inverse_keeps Divu Rhs =
      pick_keeps (eqb t M && eqb s M) _ _ (range_keeps 0 1 (omega arith))
      (pick_keeps (eqb t M) _ _ (none_keeps 0 (omega arith)) (none_keeps (bvudiv s t) (quotient_small s t hs)))
  inverse_keeps Sltu Lhs = pick_keeps (eqb t 0) _ _ (range_keeps s M (omega arith)) (range_keeps 0 (bvsub s 1) (wrap_small _))
  inverse_keeps Sltu Rhs = pick_keeps (eqb t 0) _ _ (range_keeps 0 s hs) (range_keeps (bvadd s 1) M (omega arith))
  inverse_keeps Remu Lhs =
      pick_keeps (ltb (bvudiv (bvsub M t) s) 1) _ _ (none_keeps t ht)
      (map_keeps (λ y. bvadd (bvmul y s) t) _ (λ x h. wrap_small _) (range_keeps 1 (bvudiv (bvsub M t) s) (quotient_small (bvsub M t) s (wrap_small _))))
  inverse_keeps Remu Rhs =
      pick_keeps (eqb s t) _ _ (map_keeps (λ x. pick (eqb x t) 0 x) _ (same_small t) (range_keeps t M (omega arith)))
      (map_keeps (divisor_of s t) draw_at (λ x h. divisor_small s t x) draw_keeps)
  inverse_keeps Not d = dry_keeps
  inverse_keeps Equals d = pick_keeps (eqb t 0) _ _ (not_keeps s) (none_keeps s hs)
  inverse_keeps BitwiseAnd d = map_keeps (λ w. bvor (bvand w (bvnot s)) t) draw_at (λ x h. or_lt 64 _ t (lt_of_le_of_lt (and_le_l x _) h) ht) draw_keeps

module _ (t : Value) (ht : t < 2 ^ 64) where
  pub consistent_keeps : (o : BVOperator) (d : OperandSide) → Keeps (consistent_at o d t)
  unfolding consistent_at
  consistent_keeps Add d = draw_keeps
  consistent_keeps Sub d = draw_keeps
  consistent_keeps Mul d = pick_keeps (eqb t 0) _ _ (none_keeps 0 (omega arith)) (two_keeps (mul_consistent t) (λ x y a b. two_small_low t x y))
  consistent_keeps Divu Lhs = pick_keeps (eqb t 0 || eqb t M) _ _ (range_keeps 0 (M - 1) (omega arith)) (map_keeps (λ y. bvmul y t) _ (λ x h. wrap_small _) (not_keeps 0))
  consistent_keeps Divu Rhs =
      pick_keeps (eqb t M) _ _ (range_keeps 0 1 (omega arith))
      (pick_keeps (eqb t 0) _ _ (range_keeps 1 M (omega arith)) (range_keeps 0 (M / t) (lt_of_le_of_lt (div-le_self M t) (omega arith))))
  consistent_keeps Sltu Lhs = pick_keeps (eqb t 0) _ _ (range_keeps 0 M (omega arith)) (range_keeps 0 (M - 1) (omega arith))
  consistent_keeps Sltu Rhs = pick_keeps (eqb t 0) _ _ (range_keeps 0 M (omega arith)) (range_keeps 1 (M - 1) (omega arith))
  consistent_keeps Remu Lhs = pick_keeps (eqb t M) _ _ (none_keeps M (omega arith)) (range_keeps t M (omega arith))
  consistent_keeps Remu Rhs = pick_keeps (eqb t M) _ _ (none_keeps 0 (omega arith)) (range_keeps (t + 1) M (omega arith))
  consistent_keeps Not d = dry_keeps
  consistent_keeps Equals d = draw_keeps
  consistent_keeps BitwiseAnd d = map_keeps (λ w. bvor w t) draw_at (λ x h. or_lt 64 x t h ht) draw_keeps
