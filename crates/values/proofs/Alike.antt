-- "prove that two permitted answers coincide": the maps from the code's answers to the paper's terms are injective, so that a contract
-- allows one answer for each argument. Assumes nothing.
use mathlib.Core.Path.{◌≡◌, refl, sym, ap, ap₂}
use Prim.Native.Nat.{ℕ}
use native.Mathlib.Omega.{arith}
use Rattle.bitvec.specs.declared.BitVector.{BitVector}
use Rattle.words.specs.declared.WordSource.{WordSource}
use Rattle.symbols.proofs.Numbers.{refusal_injective}
use Rattle.rules.specs.Rules.{draw_of, stuck}
use Rattle.std.specs.Prelude.{Some, None, Result, Ok, Err}
use Rattle.words.specs.Words.{Drawn}
use Rattle.words.proofs.Laws.{same_drawn, none_drawn}
use Rattle.symbols.specs.declared.Refusal.{Refusal}
use Rattle.values.specs.declared.Rule.{Rule}
use Rattle.values.specs.declared.Rule.TheVariants.{Inverse, Consistent}
use Rattle.values.specs.declared.Chosen.{Chosen}
use Rattle.values.specs.declared.RanDry.{RanDry}
use Rattle.values.specs.Answers.{answer_of, unary_of, got_of, took}

word : (v w : BitVector) → v.0 ≡ w.0 → v ≡ w
word v w e = ap (λ (x : ℕ). record { 0 = x }) e

place : (p q : WordSource) → p.at ≡ q.at → p ≡ q
place p q e = ap (λ (x : ℕ). record { at = x }) e

pub drawn_alike : (a b : Drawn BitVector) → draw_of a ≡ draw_of b → a ≡ b
drawn_alike (Some (v, p)) (Some (w, q)) e = let x = same_drawn v.0 w.0 p q e in ap₂ (λ (y : BitVector) (s : WordSource). Some (y, s)) (word v w x.0) x.1
drawn_alike (Some (v, p)) None e = none_drawn v.0 p (sym e)
drawn_alike None (Some (w, q)) e = none_drawn w.0 q e
drawn_alike None None e = refl

pub answers_alike : (a b : Result (BitVector × WordSource) Refusal) → answer_of a ≡ answer_of b → a ≡ b
answers_alike (Ok (v, p)) (Ok (w, q)) e = ap₂ (λ (y : BitVector) (s : WordSource). Ok (y, s)) (word v w (cc)) (place p q (cc))
answers_alike (Ok (v, p)) (Err s) e = let z : ◌≡◌ {A = ℕ} 0 1 = cc in absurd (omega arith)
answers_alike (Err r) (Ok (w, q)) e = let z : ◌≡◌ {A = ℕ} 0 1 = cc in absurd (omega arith)
answers_alike (Err r) (Err s) e = ap Err (refusal_injective r s (cc) (cc))

pub unary_alike : (a b : Result BitVector Refusal) → unary_of a ≡ unary_of b → a ≡ b
unary_alike (Ok v) (Ok w) e = ap Ok (word v w (cc))
unary_alike (Ok v) (Err s) e = let z : ◌≡◌ {A = ℕ} 0 1 = cc in absurd (omega arith)
unary_alike (Err r) (Ok w) e = let z : ◌≡◌ {A = ℕ} 0 1 = cc in absurd (omega arith)
unary_alike (Err r) (Err s) e = ap Err (refusal_injective r s (cc) (cc))

-- of one rule
same : (r : Rule) (v w : BitVector) (p q : WordSource) → v ≡ w → p ≡ q → ◌≡◌ {A = Chosen} (record { rule = r; value = v; source = p }) (record { rule = r; value = w; source = q })
same r v w p q x y = ap₂ (λ (z : BitVector) (s : WordSource). record { rule = r; value = z; source = s }) x y

pub chosen_alike : (a b : Result Chosen RanDry) → got_of a ≡ got_of b → a ≡ b
chosen_alike (Ok a) (Ok b) e = ap Ok (by a.rule b.rule e)
  where
    by : (r s : Rule) → took r a.value.0 a.source.at ≡ took s b.value.0 b.source.at → ◌≡◌ {A = Chosen} (record { rule = r; value = a.value; source = a.source }) (record { rule = s; value = b.value; source = b.source })
    by Inverse Inverse f = same Inverse a.value b.value a.source b.source (word a.value b.value (cc)) (place a.source b.source (cc))
    by Inverse Consistent f = let z : ◌≡◌ {A = ℕ} 0 1 = cc in absurd (omega arith)
    by Consistent Inverse f = let z : ◌≡◌ {A = ℕ} 0 1 = cc in absurd (omega arith)
    by Consistent Consistent f = same Consistent a.value b.value a.source b.source (word a.value b.value (cc)) (place a.source b.source (cc))
chosen_alike (Ok a) (Err q) e = by a.rule e
  where
    by : (r : Rule) → took r a.value.0 a.source.at ≡ stuck q.source.at → Ok a ≡ Err q
    by Inverse f = let z : ◌≡◌ {A = ℕ} 0 1 = cc in absurd (omega arith)
    by Consistent f = let z : ◌≡◌ {A = ℕ} 0 1 = cc in absurd (omega arith)
chosen_alike (Err p) (Ok b) e = by b.rule e
  where
    by : (r : Rule) → stuck p.source.at ≡ took r b.value.0 b.source.at → Err p ≡ Ok b
    by Inverse f = let z : ◌≡◌ {A = ℕ} 0 1 = cc in absurd (omega arith)
    by Consistent f = let z : ◌≡◌ {A = ℕ} 0 1 = cc in absurd (omega arith)
chosen_alike (Err p) (Err q) e = ap Err (ap (λ (s : WordSource). record { source = s }) (place p.source q.source (cc)))
