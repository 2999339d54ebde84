-- What a buffer begins with after a part of it was lent and written.
use Rattle.std.specs.Prelude.{◌≡◌, ℕ, ◌+◌, ◌-◌, ◌≤◌, List, ◌++◌, length, take}
use Rattle.std.proofs.Common.{arith, sym, ap, ◌∙◌, slice_range, drop_at, length-take-le, le_refl}
use Rattle.std.proofs.lemmas.Slice.{take-put_mid_below}
use borrow.Rule.Slice.PartMut.{put_mid, post_of}
use lib.Seq.{take-add, take-append-le}

part_of-put_mid : (a k n : ℕ) (xs ys : List ℕ) → a ≤ length xs → n ≤ length ys → slice_range (put_mid a k xs ys) a (a + n) ≡ take n ys
part_of-put_mid a k n xs ys within fits =
    let same : (a + n) - a ≡ n = omega arith in
    let after = post_of a k xs in
    ap (take ((a + n) - a)) (drop_at (take a xs) (ys ++ after) a (length-take-le a xs within)) ∙ ap (λ m. take m (ys ++ after)) same ∙ take-append-le n ys after fits

-- a first bytes and the first n of what was written behind them
pub begins_with_both : (a k n : ℕ) (xs ys : List ℕ) → a ≤ length xs → n ≤ length ys → take a xs ++ take n ys ≡ take (a + n) (put_mid a k xs ys)
begins_with_both a k n xs ys within fits =
    let new = put_mid a k xs ys in
    let same : a + ((a + n) - a) ≡ a + n = omega arith in
    ap (λ l. take a xs ++ l) (sym (part_of-put_mid a k n xs ys within fits))
    ∙ ap (λ l. l ++ slice_range new a (a + n)) (sym (take-put_mid_below a k xs ys a (le_refl _) within))
    ∙ sym (take-add a ((a + n) - a) new)
    ∙ ap (λ m. take m new) same
