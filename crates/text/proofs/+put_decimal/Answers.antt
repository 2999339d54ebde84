-- `text::put_decimal` meets its contract: the last digit, and what stands before it. Assumes nothing.
use Prim.Native.Nat.{◌<◌}
use native.Mathlib.Omega.{arith}
use borrow.Author.Rules.{rules}
use Rattle.text.proofs.Decimals.{last_digit, next_digit}
use Rattle.text.proofs.+put_decimal.Goals as goal

pub returns-then-one_digit : goal.returns-then-one_digit
returns-then-one_digit t c =
    let below : c.args.v < 10 = omega arith in
    search (last_digit, rules)

pub returns-else-one_digit : goal.returns-else-one_digit
returns-else-one_digit t c = search (next_digit, rules)
