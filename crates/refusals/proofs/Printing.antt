-- How long a refusal's line can be, and one law for each `return`. Assumes nothing.
use Prim.Native.Nat.{ℕ, ◌^◌, ◌≤◌, ◌<◌}
use Rattle.std.specs.Prelude.{Option, Some, None}
use mathlib.Core.Path.{◌≡◌}
use mathlib.Core.List.{List, ◌++◌, append-nil}
use native.Mathlib.Omega.{arith}
use lib.ListN.{length, length-append}
use Rattle.text.specs.Text.{Text, Place, bytes, decimal, Wrote, WroteUpTo}
use Rattle.text.proofs.Writing.{wrote_nothing, wrote_append}
use Rattle.text.proofs.Decimals.{decimal_length}
use Rattle.symbols.specs.Refusals.{number_of, values_of, named_of}
use Rattle.symbols.specs.declared.SymbolId.{SymbolId}
use Rattle.symbols.specs.declared.Refusal.{Refusal}
use Rattle.refusals.specs.Line.{spaced, refusal_text}

refusal_length : (k : ℕ) (is : List ℕ) → k < 2 ^ 64 → length (spaced is) ≤ 21 → length (refusal_text k is) ≤ 50
unfolding refusal_text
refusal_length k is h h' = simp length-append (omega (arith, decimal_length 19 k (omega arith)))

-- put_named
pub named_id : (at n : Place) (o p : Text) (x : Option SymbolId) (i : SymbolId) → x ≡ Some i → i.0 < 2 ^ 32 → Wrote (bytes " " ++ decimal i.0) at o p n → WroteUpTo 21 (spaced (named_of x)) at o p n
unfolding spaced
named_id at n o p x i h b w = rw (h, append-nil (decimal i.0)) record { wrote = w; short = omega (arith, decimal_length 9 i.0 (omega arith)) }

pub named_nothing : (at : Place) (o : Text) → at < 2 ^ 64 → (x : Option SymbolId) → x ≡ None → WroteUpTo 21 (spaced (named_of x)) at o o at
unfolding spaced
named_nothing at o fits x h = rw h record { wrote = wrote_nothing at o fits; short = omega arith }

-- refusal
module _ (at a b c : Place) (o p q s : Text) (fits : length o < 2 ^ 64) where
  pub refusal_line : (r : Refusal) (k : ℕ) (x : Option SymbolId) → k < 2 ^ 64 → k ≡ number_of r → named_of x ≡ values_of r
      → Wrote (bytes "refused " ++ decimal k) at o p a
      → WroteUpTo 21 (spaced (named_of x)) a p q b
      → Wrote (bytes "\n") b q s c
      → WroteUpTo 50 (refusal_text (number_of r) (values_of r)) at o s c
  unfolding refusal_text
  refusal_line r k x hk ek ex u v w =
      rw (← ek, ← ex) record { wrote = wrote_append fits (wrote_append fits u v.wrote) w; short = refusal_length k (named_of x) hk v.short }
