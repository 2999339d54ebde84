-- A table whose rows are tried in order: a row is a condition and what it gives. Assumes nothing.
use Rattle.std.specs.Prelude.{ℕ, zero, suc, ◌<◌, ◌≡◌, List, [], ◌∷◌, Bool, true, false}
use Rattle.laws.specs.Pick.{pick}

pub data Row (X : Type 0) : Type 0 where
  row : Bool → X → Row X

-- what the first row whose condition holds gives; where none holds, d
unfoldable pub first : {X : Type 0} → List (Row X) → X → X
first [] d = d
first (row c x ∷ rest) d = pick c x (first rest d)

-- the condition of row i, counted from 0, and what the row gives; past the end no condition holds
abbrev pub holds_at : {X : Type 0} → List (Row X) → ℕ → Bool
holds_at [] i = false
holds_at (row c x ∷ rest) zero = c
holds_at (row c x ∷ rest) (suc i) = holds_at rest i

abbrev pub gives_at : {X : Type 0} → List (Row X) → X → ℕ → X
gives_at [] d i = d
gives_at (row c x ∷ rest) d zero = x
gives_at (row c x ∷ rest) d (suc i) = gives_at rest d i

-- row i decides: its condition holds, and no earlier one does
pub record Decides {X : Type 0} (rows : List (Row X)) (i : ℕ) : Type 0 where
  pub holds : holds_at rows i ≡ true
  pub before : (j : ℕ) → j < i → holds_at rows j ≡ false

-- some row decides, and gives x
pub record Given {X : Type 0} (rows : List (Row X)) (d x : X) : Type 0 where
  pub at : ℕ
  pub decides : Decides rows at
  pub gives : gives_at rows d at ≡ x

-- no condition holds
abbrev pub None : {X : Type 0} → List (Row X) → Type 0
None rows = (i : ℕ) → holds_at rows i ≡ false

-- no row gives d
abbrev pub Never : {X : Type 0} → List (Row X) → X → Type 0
Never [] d = Unit {0}
Never (row c x ∷ rest) d = (x ≡ d → ⊥) × Never rest d
