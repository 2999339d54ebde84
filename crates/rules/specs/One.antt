-- Document 01, "Reachability, inverse and consistent values": edition one. s is the other operand's value, t the target; Lhs: the
-- operand sought is left. One clause a row and side, in the paper's order, under its text. Sums, differences, products and quotients are
-- those of words; in the inverse's rows of Divu, Sltu and Remu none wraps where the table says yes. Assumes nothing.
use Rattle.std.specs.Prelude.{◌+◌, ◌-◌, ◌*◌, ◌/◌, ◌%◌, ◌^◌, min, Bool, false, not, ◌&&◌, ◌||◌, ltb, eqb, Some, None}
use Rattle.std.specs.Int.Count.{count_trailing_zeros}
use Rattle.laws.specs.Pick.{pick}
use Rattle.bitvec.specs.Word.{M, bvadd, bvsub, bvmul, bvudiv, bvand, bvor, bvnot, bvlshr, ctz}
use Rattle.bitvec.specs.Inverse.{inverse_of}
use Rattle.words.specs.Words.{Words, Place, Draw, from, draw_at, range_at, not_at, two_at, map_draw}
use Rattle.symbols.specs.Graph.{Value, Node, constant, input, unary, binary}
use Rattle.symbols.specs.declared.OperandSide.{OperandSide}
use Rattle.symbols.specs.declared.OperandSide.TheVariants.{Lhs, Rhs}
use Rattle.symbols.specs.declared.BVOperator.{BVOperator}
use Rattle.symbols.specs.declared.BVOperator.TheVariants.{Add, Sub, Mul, Divu, Sltu, Remu, Not, Equals, BitwiseAnd}
use Rattle.reach.specs.Table.{table_says}
use Rattle.rules.specs.Rules.{Rules}

-- a value that needs no word
abbrev pub no_word : Value → Place → Draw
no_word v n = Some (v, from n)

-- "c is the number of trailing zeros of s; (t>>c) times the inverse of s>>c, or-ed with one word's top c bits (a word is drawn for
-- c = 0 too). s = t = 0: one word": with s = 0 the table says yes for t = 0 alone
unfoldable pub mul_value : Value → Value → Value → Value
mul_value s t w =
    let c = ctz s in
    pick (eqb s 0) w (bvor (bvmul (bvlshr t c) (inverse_of (bvlshr s c))) (bvand w (bvnot (bvlshr M c))))

-- "Divisor draw: one word w, k = 1 + w mod 4096, D = s − t; D/k if k divides D and D/k > t, else D."
unfoldable pub divisor_of : Value → Value → Value → Value
divisor_of s t w =
    let k = 1 + w % 4096 in
    let D = bvsub s t in
    pick (eqb (D % k) 0 && ltb t (D / k)) (D / k) D

-- "Inverse value"
unfoldable pub inverse_at : BVOperator → OperandSide → Value → Value → Words → Place → Draw
-- "t − s"
inverse_at Add d s t ws n = no_word (bvsub t s) n
-- "Lhs t + s; Rhs s − t"
inverse_at Sub Lhs s t ws n = no_word (bvadd t s) n
inverse_at Sub Rhs s t ws n = no_word (bvsub s t) n
-- one word, whatever c is
inverse_at Mul d s t ws n = map_draw (mul_value s t) (draw_at ws n)
-- "s = 0: 0..M; t = M, s = 1: M, no word; else t·s..min(M, t·s + s − 1)"
inverse_at Divu Lhs s t ws n =
    pick (eqb s 0) (range_at ws n 0 M)
    (pick (eqb t M && eqb s 1) (no_word M n)
    (range_at ws n (bvmul t s) (min M (bvmul t s + (s - 1)))))
-- "t = s = M: 0..1; else t = M: 0; else s/t by the operator"
inverse_at Divu Rhs s t ws n =
    pick (eqb t M && eqb s M) (range_at ws n 0 1)
    (pick (eqb t M) (no_word 0 n)
    (no_word (bvudiv s t) n))
-- "t = 0: s..M; else 0..s−1"
inverse_at Sltu Lhs s t ws n = pick (eqb t 0) (range_at ws n s M) (range_at ws n 0 (bvsub s 1))
-- "t = 0: 0..s; else s+1..M"
inverse_at Sltu Rhs s t ws n = pick (eqb t 0) (range_at ws n 0 s) (range_at ws n (bvadd s 1) M)
-- "y·s + t, y from 1..(M−t)/s; if that is empty, t, no word"
inverse_at Remu Lhs s t ws n =
    let most = bvudiv (bvsub M t) s in
    pick (ltb most 1) (no_word t n)
    (map_draw (λ y. bvadd (bvmul y s) t) (range_at ws n 1 most))
-- "s = t: from t..M, t read as 0; else divisor draw"
inverse_at Remu Rhs s t ws n =
    pick (eqb s t) (map_draw (λ x. pick (eqb x t) 0 x) (range_at ws n t M))
    (map_draw (divisor_of s t) (draw_at ws n))
-- "(word and not s) or t"
inverse_at BitwiseAnd d s t ws n = map_draw (λ w. bvor (bvand w (bvnot s)) t) (draw_at ws n)
-- "t = 0: words until one ≠ s; else s"
inverse_at Equals d s t ws n = pick (eqb t 0) (not_at ws n s) (no_word s n)
-- "10 Arity: a binary rule asked of Not": no row
inverse_at Not d s t ws n = None

-- "two words, low first, as r … if r has more trailing zeros than t, shift right to t's number; low 64 bits"
unfoldable pub mul_consistent : Value → Value → Value → Value
mul_consistent t low high =
    let r = low + 2 ^ 64 * high in
    let zeros = count_trailing_zeros 128 r in
    pick (ltb (ctz t) zeros) (r / 2 ^ (zeros - ctz t)) r % 2 ^ 64

-- "Consistent values"
unfoldable pub consistent_at : BVOperator → OperandSide → Value → Words → Place → Draw
-- "Add, Sub, Equals one word."
consistent_at Add d t ws n = draw_at ws n
consistent_at Sub d t ws n = draw_at ws n
consistent_at Equals d t ws n = draw_at ws n
-- "BitwiseAnd word or t."
consistent_at BitwiseAnd d t ws n = map_draw (λ w. bvor w t) (draw_at ws n)
-- "Mul: t = 0 gives 0; else two words, low first, as r, redrawn while r = 0"
consistent_at Mul d t ws n = pick (eqb t 0) (no_word 0 n) (map_draw (λ r. mul_consistent t r.0 r.1) (two_at ws n))
-- "Divu Lhs: t = 0 or M: 0..M−1; else y·t wrapped, y one word redrawn while 0."
consistent_at Divu Lhs t ws n = pick (eqb t 0 || eqb t M) (range_at ws n 0 (M - 1)) (map_draw (λ y. bvmul y t) (not_at ws n 0))
-- "Divu Rhs: t = M: 0..1; t = 0: 1..M (the source panics); else 0..M/t."
consistent_at Divu Rhs t ws n = pick (eqb t M) (range_at ws n 0 1) (pick (eqb t 0) (range_at ws n 1 M) (range_at ws n 0 (M / t)))
-- "Sltu Lhs: t = 0: 0..M; else 0..M−1."
consistent_at Sltu Lhs t ws n = pick (eqb t 0) (range_at ws n 0 M) (range_at ws n 0 (M - 1))
-- "Sltu Rhs: t = 0: 0..M; else 1..M−1."
consistent_at Sltu Rhs t ws n = pick (eqb t 0) (range_at ws n 0 M) (range_at ws n 1 (M - 1))
-- "Remu Lhs: t = M: M; else t..M."
consistent_at Remu Lhs t ws n = pick (eqb t M) (no_word M n) (range_at ws n t M)
-- "Remu Rhs: t = M: 0; else t+1..M."
consistent_at Remu Rhs t ws n = pick (eqb t M) (no_word 0 n) (range_at ws n (t + 1) M)
-- "10 Arity: a binary rule asked of Not": no row
consistent_at Not d t ws n = None

-- "An operand p is essential when its sibling is an operator q and q's table says no for s = value of p, the node's t, and the side
-- opposite p": the node's own operator is not asked
unfoldable pub hinders_one : BVOperator → Node → OperandSide → Value → Value → Bool
hinders_one own (constant c) d s t = false
hinders_one own (input l) d s t = false
hinders_one own (unary a) d s t = not (table_says Not d s t)
hinders_one own (binary q a b) d s t = not (table_says q d s t)

-- edition one
abbrev pub one : Rules
one = record { table = table_says; inverse = inverse_at; consistent = consistent_at; hinders = hinders_one }
