-- Laws of what a list has. Assumes nothing.
use Prim.Native.Nat.{ℕ, zero, suc, ◌<◌}
use lib.ListN.{length, get_or, take}
use mathlib.Core.Path.{◌≡◌, refl, sym, ap, ◌∙◌}
use mathlib.Core.List.{[], ◌∷◌, ◌++◌}
use mathlib.Core.Bool.{Bool, true, false, ◌||◌, true≢false}
use mathlib.Core.Logic.{◌⊎◌, inl, inr, ⊎_elim}
use lib.Dec.{eqb}
use borrow.Author.Tests.{eq-eqb, eqb-true}
use native.Mathlib.Omega.{arith}
use Rattle.symbols.specs.Graph.{Id}
use Rattle.visits.specs.Walk.{Ids, has}

-- a test comes out one way or the other
pub tested : (b : Bool) → (b ≡ true) ⊎ (b ≡ false)
tested true = inl refl
tested false = inr refl

pub not_both : {b : Bool} {X : Type 0} → b ≡ true → b ≡ false → X
not_both u v = absurd (true≢false (sym u ∙ v))

pub refuted : (b : Bool) → (b ≡ true → ⊥) → b ≡ false
refuted true h = absurd (h refl)
refuted false h = refl

or_left : (a b : Bool) → a ≡ true → (a || b) ≡ true
or_left a b h = rw h

or_right : (a b : Bool) → b ≡ true → (a || b) ≡ true
or_right true b h = refl
or_right false b h = h

or_cases : (a b : Bool) → (a || b) ≡ true → (a ≡ true) ⊎ (b ≡ true)
or_cases true b h = inl refl
or_cases false b h = inr h

or_assoc : (a b c : Bool) → (a || (b || c)) ≡ ((a || b) || c)
or_assoc true b c = refl
or_assoc false b c = refl

or_nothing : (a : Bool) → (a || false) ≡ a
or_nothing true = refl
or_nothing false = refl

pub has_append : (s t : Ids) (i : Id) → has (s ++ t) i ≡ (has s i || has t i)
unfolding has
has_append [] t i = refl
has_append (j ∷ s) t i = ap (λ (b : Bool). eqb j i || b) (has_append s t i) ∙ or_assoc (eqb j i) (has s i) (has t i)

has_one : (i j : Id) → has (i ∷ []) j ≡ eqb i j
unfolding has
has_one i j = or_nothing (eqb i j)

-- what is listed stays listed when more is
pub has_more : (s t : Ids) (j : Id) → has s j ≡ true → has (s ++ t) j ≡ true
has_more s t j h = has_append s t j ∙ or_left (has s j) (has t j) h

pub has_last : (s : Ids) (i : Id) → has (s ++ (i ∷ [])) i ≡ true
has_last s i = has_append s (i ∷ []) i ∙ or_right (has s i) (has (i ∷ []) i) (has_one i i ∙ eq-eqb i i refl)

pub last_cases : (s : Ids) (i j : Id) → has (s ++ (i ∷ [])) j ≡ true → (has s j ≡ true) ⊎ (j ≡ i)
last_cases s i j h =
    ⊎_elim inl (λ e. inr (sym (eqb-true i j (sym (has_one i j) ∙ e))))
    (or_cases (has s j) (has (i ∷ []) j) (sym (has_append s (i ∷ []) j) ∙ h))

-- an element that a list has stands somewhere in it
pub record Split (l : Ids) (i : Id) : Type 0 where
  pub front : Ids
  pub rest : Ids
  pub is : l ≡ front ++ i ∷ rest

pub split_of : (l : Ids) (i : Id) → has l i ≡ true → Split l i
unfolding has
split_of [] i h = not_both h refl
split_of (j ∷ l) i h =
    ⊎_elim
    (λ e. record { front = []; rest = l; is = ap (λ (x : ℕ). x ∷ l) (eqb-true j i e) })
    (λ e. let r = split_of l i e in record { front = j ∷ r.front; rest = r.rest; is = ap (λ (x : Ids). j ∷ x) r.is })
    (or_cases (eqb j i) (has l i) h)

-- a place below n that holds i
pub record At (l : Ids) (n : ℕ) (i : Id) : Type 0 where
  pub at : ℕ
  pub below : at < n
  pub is : get_or l at 0 ≡ i

pub has_at : (l : Ids) (n k : ℕ) → k < n → k < length l → has (take n l) (get_or l k 0) ≡ true
unfolding has
has_at [] n k h u = absurd (omega arith)
has_at (x ∷ l) zero k h u = absurd (omega arith)
has_at (x ∷ l) (suc n) zero h u = or_left (eqb x x) (has (take n l) x) (eq-eqb x x refl)
has_at (x ∷ l) (suc n) (suc k) h u = or_right (eqb x (get_or l k 0)) (has (take n l) (get_or l k 0)) (has_at l n k (omega arith) (omega arith))

pub at_of : (l : Ids) (n : ℕ) (i : Id) → has (take n l) i ≡ true → At l n i
unfolding has
at_of [] zero i h = not_both h refl
at_of [] (suc n) i h = not_both h refl
at_of (x ∷ l) zero i h = not_both h refl
at_of (x ∷ l) (suc n) i h =
    ⊎_elim
    (λ e. record { at = 0; below = omega arith; is = eqb-true x i e })
    (λ e. let r = at_of l n i e in record { at = suc r.at; below = omega (arith, r.below); is = r.is })
    (or_cases (eqb x i) (has (take n l) i) h)

-- a place in a list that ends in x is the last, or one before it
pub data Seam (s : Ids) (x : Id) (p q : Ids) (i : Id) : Type 0 where
  at_end : s ≡ p → x ≡ i → Seam s x p q i
  before : (r : Ids) → s ≡ p ++ i ∷ r → Seam s x p q i

pub no_place : (p q : Ids) (i : Id) → [] ≡ p ++ i ∷ q → ⊥
no_place [] q i e = let w : ◌≡◌ {A = ℕ} 0 1 = cc in omega arith
no_place (y ∷ p) q i e = let w : ◌≡◌ {A = ℕ} 0 1 = cc in omega arith

pub seam : (s : Ids) (x : Id) (p q : Ids) (i : Id) → s ++ (x ∷ []) ≡ p ++ i ∷ q → Seam s x p q i
seam [] x [] q i e = at_end refl (cc)
seam [] x (y ∷ p) q i e = let t : [] ≡ p ++ i ∷ q = cc in absurd (no_place p q i t)
seam (y ∷ s) x [] q i e = let h : y ≡ i = cc in before s (ap (λ (z : ℕ). z ∷ s) h)
seam (y ∷ s) x (z ∷ p) q i e =
    let h : y ≡ z = cc in
    let t : s ++ (x ∷ []) ≡ p ++ i ∷ q = cc in
    onward h (seam s x p q i t)
  where
    onward : y ≡ z → Seam s x p q i → Seam (y ∷ s) x (z ∷ p) q i
    onward h (at_end u v) = at_end (cc) v
    onward h (before r u) = before r (cc)
