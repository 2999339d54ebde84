-- One law for each `return`. Assumes nothing.
use Rattle.std.specs.Prelude.{Result, Ok, Err}
use Prim.Native.Nat.{ℕ, ◌+◌, ◌≤◌}
use mathlib.Core.Path.{◌≡◌, refl, sym, ap, ◌∙◌}
use mathlib.Core.List.{◌++◌}
use native.Mathlib.Omega.{arith}
use lib.ListN.{length, take, drop}
use lib.Seq.{length-take-le}
use borrow.Author.Tests.{le-leb}
use Rattle.text.specs.Text.{Text, Place, WroteUpTo}
use Rattle.text.proofs.Writing.{placed_fits, wrote_kept_short}
use Rattle.symbols.specs.Refusals.{number_of, values_of}
use Rattle.symbols.specs.declared.Refusal.{Refusal}
use Rattle.formula.specs.File.{File}
use Rattle.formula.specs.Graph.{graph_of}
use Rattle.checks.specs.Refusals as file
use Rattle.checks.specs.Refusals.{verdict}
use Rattle.listing.specs.Listing.{listing}
use Rattle.listing.specs.Answer.{written, refuse, fitted, on_verdict, answer, result_of, Bounded}
use Rattle.refusals.specs.Line.{refusal_text}
use Rattle.retrylist.specs.Printed.{printed_by, printed}

fitted_whole : (t o : Text) → length t ≤ length o → fitted t o ≡ written (length t) (t ++ drop (length t) o)
unfolding fitted
fitted_whole t o h = rw (le-leb (length t) (length o) h)

-- a text at the front of a buffer
front : (most : ℕ) (t o p : Text) (n : Place) → length t ≤ length o → length t ≤ most → most ≤ 164000 → n ≡ length t → p ≡ t ++ drop (length t) o → WroteUpTo most t 0 o p n
front most t o p n h b few en ep =
    let ez : 0 + length t ≡ length t = omega arith in
    record { wrote = record { buffer = ep ∙ ap (λ (i : ℕ). t ++ drop i o) (sym ez) ∙ sym (placed_fits t 0 o (omega arith)); place = omega arith }; short = b }

module _ (f : File) (o p : Text) (room : 164000 ≤ length o) (bound : Bounded f) where
  listed_by : (n : Place) (a : file.Answer) → verdict f ≡ a → written n p ≡ on_verdict f o a → WroteUpTo 164000 (printed_by f a) 0 o p n
  listed_by n (file.accepted m) v e =
      let t = listing (graph_of f m) in
      let b = bound m v in
      let w : written n p ≡ written (length t) (t ++ drop (length t) o) = e ∙ fitted_whole t o (omega arith) in
      let en : n ≡ length t = cc in
      let ep : p ≡ t ++ drop (length t) o = cc in
      front 164000 t o p n (omega arith) b (omega arith) en ep
  listed_by n (file.refused k is) v e = let z : ◌≡◌ {A = ℕ} 0 1 = cc in absurd (omega arith)

  refused_by : (r : Refusal) (q : Text) (n : Place) (a : file.Answer) → verdict f ≡ a → refuse r p ≡ on_verdict f o a → WroteUpTo 50 (refusal_text (number_of r) (values_of r)) 0 p q n
      → WroteUpTo 164000 (printed_by f a) 0 o q n
  refused_by r q n (file.accepted m) v e w =
      let t = listing (graph_of f m) in
      let b = bound m v in
      let u : refuse r p ≡ written (length t) (t ++ drop (length t) o) = e ∙ fitted_whole t o (omega arith) in
      let z : ◌≡◌ {A = ℕ} 0 1 = cc in
      absurd (omega arith)
  refused_by r q n (file.refused k is) v e w =
      let ek : number_of r ≡ k = cc in
      let ei : values_of r ≡ is = cc in
      let ep : p ≡ o = cc in
      let u = rw (ek, ei, ep) at w in
      record { wrote = u.wrote; short = omega (arith, u.short) }

  -- respond
  module _ (x : Result ℕ Refusal) (e : result_of x p ≡ answer f o) where
    pub respond_listed : (n : ℕ) → x ≡ Ok n → WroteUpTo 164000 (printed f) 0 o p n
    unfolding printed answer
    respond_listed n h = listed_by n (verdict f) refl (rw h at e)

    pub respond_refused : (r : Refusal) (q : Text) (n : Place) → x ≡ Err r → WroteUpTo 50 (refusal_text (number_of r) (values_of r)) 0 p q n → WroteUpTo 164000 (printed f) 0 o q n
    unfolding printed answer
    respond_refused r q n h w = refused_by r q n (verdict f) refl (rw h at e) w

-- main
pub page_part : {t : Text} {o p : Text} {r : Place} → 164000 ≡ length o → WroteUpTo 164000 t 0 o p r → r ≡ length (take r p)
page_part {t} {o} {p} {r} e w = sym (length-take-le r p (omega (arith, w.wrote.place, w.short, wrote_kept_short w)))
