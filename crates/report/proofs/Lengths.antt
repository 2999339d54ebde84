-- How long what is printed can be: a first line has at most 85 bytes, a line of an input at most 54, or 48 where its id is below
-- 10,000. Assumes nothing.
use Prim.Native.Nat.{ℕ, suc, ◌+◌, ◌^◌, ◌≤◌, ◌<◌}
use native.Mathlib.Omega.{arith}
use lib.ListN.{length, length-append}
use Rattle.text.proofs.Decimals.{decimal_length}
use Rattle.search.specs.Machine.{End, solved, spent, ran_dry, Out}
use Rattle.report.specs.Report.{end_word, counts, first_line, input_line}

input_by : (k i l v : ℕ) → i < 10 ^ suc k → l < 2 ^ 64 → v < 2 ^ 64 → length (input_line i l v) ≤ 45 + k
unfolding input_line
input_by k i l v hi hl hv = simp length-append (omega (arith, decimal_length k i hi, decimal_length 19 l (omega arith), decimal_length 19 v (omega arith)))

pub input_short : (i l v : ℕ) → i < 10000 → l < 2 ^ 64 → v < 2 ^ 64 → length (input_line i l v) ≤ 48
input_short i l v hi hl hv = input_by 3 i l v hi hl hv

pub input_length : (i l v : ℕ) → i < 2 ^ 32 → l < 2 ^ 64 → v < 2 ^ 64 → length (input_line i l v) ≤ 54
input_length i l v hi hl hv = input_by 9 i l v (omega arith) hl hv

pub counts_length : (o : Out) → o.rounds < 2 ^ 32 → o.lost < 2 ^ 32 → o.steps < 2 ^ 32 → o.words < 2 ^ 64 → length (counts o) ≤ 78
unfolding counts
counts_length o r l s w =
    simp length-append (omega (arith, decimal_length 9 o.rounds (omega arith), decimal_length 9 o.lost (omega arith), decimal_length 9 o.steps (omega arith), decimal_length 19 o.words (omega arith)))

end_length : (e : End) → length (end_word e) ≤ 6
end_length solved = omega arith
end_length spent = omega arith
end_length ran_dry = omega arith

pub first_length : (o : Out) → o.rounds < 2 ^ 32 → o.lost < 2 ^ 32 → o.steps < 2 ^ 32 → o.words < 2 ^ 64 → length (first_line o) ≤ 85
unfolding first_line
first_length o r l s w = simp length-append (omega (arith, end_length o.end, counts_length o r l s w))
