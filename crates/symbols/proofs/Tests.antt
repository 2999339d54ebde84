-- Of two tests, whether either or both hold; of one, that it does not. Assumes nothing.
use mathlib.Core.Path.{◌≡◌, refl, sym}
use mathlib.Core.Bool.{Bool, true, false, ◌&&◌, ◌||◌, true≢false}
use mathlib.Core.Logic.{◌↔◌, ◌⊎◌, inl, inr, ⊎_elim}

pub or_yes : (a b : Bool) → ((a || b) ≡ true) ↔ ((a ≡ true) ⊎ (b ≡ true))
or_yes true b = (λ e. inl refl, λ h. refl)
or_yes false b = (inr, ⊎_elim (λ e. absurd (true≢false (sym e))) (λ e. e))

pub or_no : (a b : Bool) → (a || b) ≡ false → (a ≡ false) × (b ≡ false)
or_no true b e = absurd (true≢false e)
or_no false b e = (refl, e)

pub and_yes : (a b : Bool) → ((a && b) ≡ true) ↔ ((a ≡ true) × (b ≡ true))
and_yes true b = (λ e. (refl, e), λ h. h.1)
and_yes false b = (λ e. absurd (true≢false (sym e)), λ h. h.0)

-- tests of facts are tests of either fact, and of both
pub either : {A B : Type 0} (a b : Bool) → (a ≡ true) ↔ A → (b ≡ true) ↔ B → ((a || b) ≡ true) ↔ (A ⊎ B)
either a b p q = (
  λ e. ⊎_elim (λ h. inl (p.0 h)) (λ h. inr (q.0 h)) ((or_yes a b).0 e),
  λ s. (or_yes a b).1 (⊎_elim (λ h. inl (p.1 h)) (λ h. inr (q.1 h)) s),
)

pub both : {A B : Type 0} (a b : Bool) → (a ≡ true) ↔ A → (b ≡ true) ↔ B → ((a && b) ≡ true) ↔ (A × B)
both a b p q = (
  λ e. let h = (and_yes a b).0 e in (p.0 h.0, q.0 h.1),
  λ h. (and_yes a b).1 (p.1 h.0, q.1 h.1),
)

pub not_yes : (b : Bool) → (b ≡ true → ⊥) → b ≡ false
not_yes true h = absurd (h refl)
not_yes false h = refl
