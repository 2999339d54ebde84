-- The operations of BitVector by number, as the comparison asks for them. Assumes nothing.
use Rattle.std.specs.Prelude.{ℕ, ◌%◌, List, [], ◌∷◌, Option, Some, None, ◌==◌, nat_le, nat_lt, length, get_or}
use mir.Val.{bool_byte}
use Rattle.laws.specs.Pick.{pick}
use Rattle.laws.specs.Rows.{Row, row, first}
use Rattle.bitvec.specs.Word.{M, bvadd, bvneg, bvsub, bvmul, bvudiv, bvurem, bvult, sltu, equals, is_zero, bvand, bvor, bvxor, bvnot, bvshl, bvlshr, ctz, addo, mulo}
use Rattle.bitvec.specs.Inverse.{inverse_of}
use Rattle.bitvec.specs.Debug.{debug_text}

unfoldable pub inverse_found : ℕ → Option ℕ
inverse_found a = pick (a % 2 == 1) (Some (inverse_of a)) None

-- byte i of the Debug text
unfoldable pub text_byte : ℕ → ℕ → Option ℕ
text_byte a i = pick (nat_lt i (length (debug_text a))) (Some (get_or (debug_text a) i 0)) None

abbrev pub method_rows : ℕ → ℕ → ℕ → List (Row (Option ℕ))
method_rows op a b =
    row (op == 0) (Some M)
    ∷ row (op == 1) (Some (ctz a))
    ∷ row (op == 2) (Some (bool_byte (a % 2 == 1)))
    ∷ row (op == 3) (Some (a % 2))
    ∷ row (op == 4) (inverse_found a)
    ∷ row (op == 5) (Some (bool_byte (addo a b)))
    ∷ row (op == 6) (Some (bool_byte (mulo a b)))
    ∷ row (op == 7) (Some (bvneg a))
    ∷ []

-- a shift's count is the lower half of b, as a u32
abbrev pub word_rows : ℕ → ℕ → ℕ → List (Row (Option ℕ))
word_rows op a b =
    row (op == 8) (Some (bvadd a b))
    ∷ row (op == 9) (Some (bvsub a b))
    ∷ row (op == 10) (Some (bvmul a b))
    ∷ row (op == 11) (Some (bvudiv a b))
    ∷ row (op == 12) (Some (bvurem a b))
    ∷ row (op == 13) (Some (bvor a b))
    ∷ row (op == 14) (Some (bvand a b))
    ∷ row (op == 15) (Some (bvxor a b))
    ∷ row (op == 16) (Some (bvshl a (b % 0x1_0000_0000 % 64)))
    ∷ row (op == 17) (Some (bvlshr a (b % 0x1_0000_0000 % 64)))
    ∷ []

abbrev pub test_rows : ℕ → ℕ → ℕ → List (Row (Option ℕ))
test_rows op a b =
    row (op == 18) (Some (bvnot a))
    ∷ row (op == 19) (Some (bool_byte (bvult a b)))
    ∷ row (op == 20) (Some (bool_byte (nat_le a b)))
    ∷ row (op == 21) (Some (bool_byte (a == b)))
    ∷ row (op == 22) (Some (sltu a b))
    ∷ row (op == 23) (Some (equals a b))
    ∷ row (op == 24) (Some (is_zero a))
    ∷ row (op == 25) (Some (length (debug_text a)))
    ∷ row (op == 26) (text_byte a b)
    ∷ []

unfoldable pub bitvec_op : ℕ → ℕ → ℕ → Option ℕ
bitvec_op op a b = first (method_rows op a b) (first (word_rows op a b) (first (test_rows op a b) None))
