-- How a draw that was answered came about: by the row that a test picks, without a word, or from a word. Assumes nothing.
use mathlib.Core.Path.{◌≡◌, refl, sym, ap}
use mathlib.Core.Bool.{Bool, true, false}
use Prim.Native.Nat.{ℕ}
use Rattle.std.specs.Prelude.{Some, None}
use Rattle.laws.specs.Pick.{pick}
use Rattle.words.specs.Words.{Drawn, Draw, Place, from, map_draw}
use Rattle.words.proofs.Laws.{same_drawn, none_drawn}
use Rattle.words.proofs.Draws.{made}
use Rattle.words.specs.declared.WordSource.{WordSource}
use Rattle.rules.specs.One.{no_word}

pub split : {G : Type 0} {x y r : Draw} (c : Bool) → pick c x y ≡ r → (c ≡ true → x ≡ r → G) → (c ≡ false → y ≡ r → G) → G
split true e f g = f refl e
split false e f g = g refl e

pub never : {G : Type 0} (v : ℕ) (q : WordSource) → ◌≡◌ {A = Draw} None (Some (v, q)) → G
never v q e = none_drawn v q e

pub is_value : (x : ℕ) (n : Place) (v : ℕ) (q : WordSource) → no_word x n ≡ Some (v, q) → v ≡ x
is_value x n v q e = sym (same_drawn x v (from n) q e).0

pub is_place : (x : ℕ) (n : Place) (v : ℕ) (q : WordSource) → no_word x n ≡ Some (v, q) → q.at ≡ n
is_place x n v q e = ap (λ (s : WordSource). s.at) (sym (same_drawn x v (from n) q e).1)

pub made_two : (f : ℕ → ℕ → ℕ) (r : Drawn (ℕ × ℕ)) (v : ℕ) (q : WordSource) → map_draw (λ p. f p.0 p.1) r ≡ Some (v, q) → (a : ℕ) × (b : ℕ) × (r ≡ Some ((a, b), q)) × (v ≡ f a b)
made_two f r v q e = let m = made (λ (p : ℕ × ℕ). f p.0 p.1) r v q e in (m.0.0, m.0.1, m.1, m.2)
