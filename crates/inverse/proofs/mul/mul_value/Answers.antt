-- `inverse::mul::mul_value` meets its contract. Assumes nothing.
use mathlib.Core.Path.{◌≡◌}
use Prim.Native.Nat.{◌%◌}
use Rattle.bitvec.specs.Word.{M, bvmul, bvand, bvor, bvnot, bvlshr}
use borrow.Author.Rules.{rules}
use Rattle.inverse.proofs.Rows.{mul_no_part, mul_part}
use Rattle.inverse.proofs.mul.mul_value.Goals as goal

pub returns-in_default : goal.returns-in_default
returns-in_default c = search (mul_no_part, rules)

pub returns : goal.returns
returns c =
    let value : c.bitor.result.0 ≡ bvor (bvmul (bvlshr c.args.t.0 (c.ctz-c.result % 64)) c.in-Some.i.0) (bvand c.args.w.0 (bvnot (bvlshr M (c.ctz-c.result % 64)))) = cc in
    search (mul_part, rules)
