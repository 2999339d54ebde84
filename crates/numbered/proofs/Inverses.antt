-- The inverse of a word, found or not. Assumes nothing.
use Rattle.std.proofs.Common.{◌≡◌, ℕ, ◌%◌, ◌^◌, ◌<◌, Some, None, ap, arith, eq-eqb, ne_eqb}
use Rattle.bitvec.specs.Word.{bvmul}
use Rattle.bitvec.proofs.Laws.{inverse_only}
use Rattle.numbered.specs.Bitvec.{inverse_found}

pub inverse_value_lem : (a x : ℕ) → x < 2 ^ 64 → a % 2 ≡ 1 → bvmul x a ≡ 1 → Some x ≡ inverse_found a
unfolding inverse_found
inverse_value_lem a x l o e = rw (eq-eqb (a % 2) 1 o) (ap Some (inverse_only a x l e o))

pub inverse_nothing : (a : ℕ) → a % 2 ≡ 0 → None ≡ inverse_found a
unfolding inverse_found
inverse_nothing a z = rw (ne_eqb (a % 2) 1 (λ q. let o : a % 2 ≡ 1 = q in omega arith))
