-- Inverses modulo W: there is one at the most, and Newton's step doubles the digits that are right. Assumes nothing.
use mathlib.Core.Path.{◌≡◌, refl, sym, ap, ◌∙◌}
use Prim.Native.Nat.{ℕ, zero, suc, ◌+◌, ◌-◌, ◌*◌, ◌/◌, ◌%◌, ◌^◌, ◌≤◌, ◌<◌}
use native.Mathlib.Nat.{two-pow-succ, sub-add_cancel, mul-one, mul_assoc, mul_left_comm, mod-eq_of_lt, mod-lt, div-add-mod'}
use native.Mathlib.Omega.{arith}
use lib.Pow.{pow_pos, pow_mono, pow-add, pow-lt}
use Rattle.laws.specs.Newton.{step, lifts}
use Rattle.laws.proofs.Modular.{drop_multiple, mod_mod_mul, mul_mod_mod}

-- x and y are x * (y * s), which is y * (x * s)
pub unique : (W s x y : ℕ) → x < W → y < W → (x * s) % W ≡ 1 → (y * s) % W ≡ 1 → x ≡ y
unique W s x y hx hy ex ey =
    let one : (a b : ℕ) → a < W → (b * s) % W ≡ 1 → a ≡ (a * (b * s)) % W =
    λ a b h e. sym (sym (mul_mod_mod a (b * s) W) ∙ ap (λ (n : ℕ). (a * n) % W) e ∙ ap (λ (n : ℕ). n % W) (mul-one a) ∙ mod-eq_of_lt h) in
    one x y hx ey ∙ ap (λ (n : ℕ). n % W) (mul_left_comm x y s) ∙ sym (one y x hy ex)

-- u * (2 - u) is 1 modulo P * P, where u is 1 modulo P
core : (R P u : ℕ) → zero < R * (P * P) → u % P ≡ 1 → (u * (2 + (R * (P * P) - u % (R * (P * P))))) % (P * P) ≡ 1 % (P * P)
core R P u pos one =
    let W = R * (P * P) in
    let y = 2 + (W - u % W) in
    let q = u / P in
    let m = u / W + 1 in
    let e₁ : y + u ≡ 2 + m * W = omega (arith, div-add-mod' u W, mod-lt u pos) in
    let e₂ : u ≡ q * P + 1 = omega (arith, div-add-mod' u P) in
    let e : q * q * (P * P) + u * y ≡ u * m * R * (P * P) + 1 =
    omega (arith, ap (λ (z : ℕ). u * z) e₁, ap (λ (z : ℕ). u * z) e₂, ap (λ (z : ℕ). q * P * z) e₂) in
    sym (drop_multiple (q * q) (P * P) (u * y) refl) ∙ drop_multiple (u * m * R) (P * P) 1 e

under : (R N a b : ℕ) → (b * (a % (R * N))) % N ≡ (b * a) % N
under R N a b = sym (mul_mod_mod b (a % (R * N)) N) ∙ ap (λ (n : ℕ). (b * n) % N) (mod_mod_mul R N a) ∙ mul_mod_mod b a N

-- P digits of an inverse make N = P * P
pub newton : (R P s x W N : ℕ) → W ≡ R * N → N ≡ P * P → zero < W → 1 < N → (s * x) % P ≡ 1 → (s * step W s x) % N ≡ 1
newton R P s x W N eW eN pos big one =
    let y = 2 + (W - (s * x) % W) in
    let at_W : (b a : ℕ) → (b * (a % W)) % N ≡ (b * a) % N = λ b a. rw eW (under R N a b) in
    let last : (s * x * y) % N ≡ 1 % N = rw (eW, eN) (core R P (s * x) (rw (← eN, ← eW) pos) one) in
    at_W s (x * (y % W)) ∙ ap (λ (n : ℕ). n % N) (sym (mul_assoc s x (y % W))) ∙ at_W (s * x) y ∙ last ∙ mod-eq_of_lt big

pub lifts_lt : (W s n : ℕ) → 1 < W → lifts W s n < W
unfolding lifts
lifts_lt W s zero h = h
lifts_lt W s (suc n) h = mod-lt _ (omega arith)

-- at a word of 2 ^ w digits
pub lifted : (w s n : ℕ) → s % 2 ≡ 1 → n ≤ w → (s * lifts (2 ^ 2 ^ w) s n) % 2 ^ 2 ^ n ≡ 1
unfolding lifts
lifted w s zero o h = rw (mul-one s) o
lifted w s (suc n) o h =
    let word : 2 ^ 2 ^ w ≡ 2 ^ (2 ^ w - 2 ^ suc n) * 2 ^ 2 ^ suc n = ap (λ (x : ℕ). 2 ^ x) (sym (sub-add_cancel (pow_mono h))) ∙ pow-add 2 _ (2 ^ suc n) in
    let square : 2 ^ 2 ^ suc n ≡ 2 ^ 2 ^ n * 2 ^ 2 ^ n = rw (two-pow-succ n) (pow-add 2 (2 ^ n) (2 ^ n)) in
    newton _ (2 ^ 2 ^ n) s (lifts (2 ^ 2 ^ w) s n) _ _ word square (pow_pos (2 ^ w)) (pow-lt (pow_pos (suc n))) (lifted w s n o (omega arith))
