-- Q-2: "14 Short, exactly when the listing is longer than the buffer": one law for each `return`. Assumes nothing.
use Prim.Native.Nat.{ℕ, ◌+◌, ◌^◌, ◌≤◌, ◌<◌}
use Rattle.std.specs.Prelude.{Ok, Err}
use mathlib.Core.Path.{◌≡◌, ap, ◌∙◌}
use mathlib.Core.List.{◌++◌}
use native.Mathlib.Omega.{arith}
use lib.ListN.{length, drop}
use borrow.Author.Tests.{le-leb, lt-leb}
use Rattle.text.specs.Text.{Text, Place, placed, after, Wrote}
use Rattle.text.proofs.Writing.{placed_fits}
use Rattle.symbols.specs.declared.Refusal.TheVariants.{Short}
use Rattle.listing.specs.Answer.{fitted, result_of}

module _ (text o : Text) (n : ℕ) (is : n ≡ length text) where
  pub fit_written : (p : Text) (k : Place) → n ≤ length o → length o < 2 ^ 64 → Wrote text 0 o p k → result_of (Ok k) p ≡ fitted text o
  unfolding fitted
  fit_written p k h fits w =
      let ek : k ≡ length text = omega (arith, w.place) in
      let ez : 0 + length text ≡ length text = omega arith in
      let ep : p ≡ text ++ drop (length text) o = w.buffer ∙ placed_fits text 0 o (omega arith) ∙ ap (λ (i : ℕ). text ++ drop i o) ez in
      rw (ek, ep, le-leb (length text) (length o) (omega arith))

  -- the same, with what `Wrote` says apart
  pub fit_placed : (p : Text) (k : Place) → n ≤ length o → length o < 2 ^ 64 → p ≡ placed text 0 o → k ≡ after 0 (length text) → result_of (Ok k) p ≡ fitted text o
  fit_placed p k h fits w e = fit_written p k h fits record { buffer = w; place = e }

  pub fit_short : length o < n → result_of (Err Short) o ≡ fitted text o
  unfolding fitted
  fit_short h = rw (lt-leb (length text) (length o) (omega arith))
