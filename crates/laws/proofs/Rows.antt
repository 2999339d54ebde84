-- Laws of every table of rows: what is given exactly when, and one table after another. Assumes nothing.
use Prim.Native.Nat.{ℕ, zero, suc, ◌+◌, ◌<◌}
use mathlib.Core.Path.{◌≡◌, refl, sym, ◌∙◌}
use mathlib.Core.List.{List, [], ◌∷◌, ◌++◌}
use mathlib.Core.Bool.{Bool, true, false, true≢false}
use mathlib.Core.Logic.{◌↔◌, ◌⊎◌, inl, inr, ⊎_elim}
use native.Mathlib.Omega.{arith}
use lib.ListN.{length}
use Rattle.laws.specs.Rows.{Row, row, first, holds_at, gives_at, Decides, Given, None, Never}

module _ {X : Type 0} where
  -- row by row
  pub first_here : (c : Bool) (x : X) (rest : List (Row X)) (d : X) → c ≡ true → x ≡ first (row c x ∷ rest) d
  unfolding first
  first_here c x rest d h = rw h

  pub first_next : (c : Bool) (x : X) (rest : List (Row X)) (d y : X) → c ≡ false → y ≡ first rest d → y ≡ first (row c x ∷ rest) d
  unfolding first
  first_next c x rest d y h e = rw h e

  pub first_none : (d : X) → d ≡ first [] d
  unfolding first
  first_none d = refl

  -- a row above, whose condition fails, moves the deciding row down by one
  pub down : (c : Bool) (x : X) (rows : List (Row X)) (i : ℕ) → c ≡ false → Decides rows i → Decides (row c x ∷ rows) (suc i)
  down c x rows i h w = record { holds = w.holds; before = λ j. elim j as (λ k. k < suc i → holds_at (row c x ∷ rows) k ≡ false) [ zero ↦ λ p. h | suc k ↦ λ p. w.before k (omega arith) ] }

  pub up : (c : Bool) (x : X) (rows : List (Row X)) (i : ℕ) → Decides (row c x ∷ rows) (suc i) → (c ≡ false) × Decides rows i
  up c x rows i w = (w.before zero (omega arith), record { holds = w.holds; before = λ j p. w.before (suc j) (omega arith) })

  -- the deciding row's answer is given
  pub decided : (rows : List (Row X)) (d : X) (i : ℕ) → Decides rows i → first rows d ≡ gives_at rows d i
  unfolding first
  decided [] d i w = absurd (true≢false (sym w.holds))
  decided (row c x ∷ rows) d zero w = rw w.holds
  decided (row c x ∷ rows) d (suc i) w = let u = up c x rows i w in rw u.0 (decided rows d i u.1)

  -- where no condition holds, the default is
  pub undecided : (rows : List (Row X)) (d : X) → None rows → first rows d ≡ d
  unfolding first
  undecided [] d n = refl
  undecided (row c x ∷ rows) d n = rw (n zero) (undecided rows d (λ i. n (suc i)))

  settled : (rows : List (Row X)) (d x : X) → first rows d ≡ x → Given rows d x ⊎ (None rows × (d ≡ x))
  unfolding first
  settled [] d x e = inr (λ i. refl, e)
  settled (row true y ∷ rows) d x e = inl record { at = 0; decides = record { holds = refl; before = λ j p. absurd (omega arith) }; gives = e }
  settled (row false y ∷ rows) d x e =
      ⊎_elim
      (λ g. inl record { at = suc g.at; decides = down false y rows g.at refl g.decides; gives = g.gives })
      (λ n. inr (λ i. elim i as (λ k. holds_at (row false y ∷ rows) k ≡ false) [ zero ↦ refl | suc k ↦ n.0 k ], n.1))
      (settled rows d x e)

  -- x is given ↔ some row decides and gives x, or none holds and the default is x
  pub exactly : (rows : List (Row X)) (d x : X) → (first rows d ≡ x) ↔ (Given rows d x ⊎ (None rows × (d ≡ x)))
  exactly rows d x = (settled rows d x, ⊎_elim (λ g. decided rows d g.at g.decides ∙ g.gives) (λ n. undecided rows d n.0 ∙ n.1))

  -- of an x that is not the default: x is given ↔ some row decides and gives x
  pub given_exactly : (rows : List (Row X)) (d x : X) → (d ≡ x → ⊥) → (first rows d ≡ x) ↔ Given rows d x
  given_exactly rows d x h = (λ e. ⊎_elim (λ g. g) (λ n. absurd (h n.1)) ((exactly rows d x).0 e), λ g. (exactly rows d x).1 (inl g))

  none_from : (rows : List (Row X)) (d : X) → Never rows d → first rows d ≡ d → None rows
  unfolding first
  none_from [] d v e i = refl
  none_from (row true x ∷ rows) d v e i = absurd (v.0 e)
  none_from (row false x ∷ rows) d v e zero = refl
  none_from (row false x ∷ rows) d v e (suc i) = none_from rows d v.1 e i

  -- of rows that never give the default: the default is given ↔ no condition holds
  pub none_exactly : (rows : List (Row X)) (d : X) → Never rows d → (first rows d ≡ d) ↔ None rows
  none_exactly rows d v = (none_from rows d v, undecided rows d)

  -- one table after another
  pub append_first : (a b : List (Row X)) (d : X) → first (a ++ b) d ≡ first a (first b d)
  unfolding first
  append_first [] b d = refl
  append_first (row true x ∷ a) b d = refl
  append_first (row false x ∷ a) b d = append_first a b d

  -- the first table has an answer of its own
  pub append_given : (a b : List (Row X)) (d x : X) → (x ≡ d → ⊥) → first a d ≡ x → first (a ++ b) d ≡ x
  unfolding first
  append_given [] b d x h e = absurd (h (sym e))
  append_given (row true y ∷ a) b d x h e = e
  append_given (row false y ∷ a) b d x h e = append_given a b d x h e

  -- the first table has none
  pub append_clear : (a b : List (Row X)) (d : X) → Never a d → first a d ≡ d → first (a ++ b) d ≡ first b d
  unfolding first
  append_clear [] b d v e = refl
  append_clear (row true y ∷ a) b d v e = absurd (v.0 e)
  append_clear (row false y ∷ a) b d v e = append_clear a b d v.1 e

  -- both parts of a table that gives its default give theirs
  pub clear_both : (a b : List (Row X)) (d : X) → Never a d → first (a ++ b) d ≡ d → (first a d ≡ d) × (first b d ≡ d)
  unfolding first
  clear_both [] b d v e = (refl, e)
  clear_both (row true y ∷ a) b d v e = absurd (v.0 e)
  clear_both (row false y ∷ a) b d v e = clear_both a b d v.1 e

  pub clear_head : (c : Bool) (x : X) (rest : List (Row X)) (d : X) → (x ≡ d → ⊥) → first (row c x ∷ rest) d ≡ d → (c ≡ false) × (first rest d ≡ d)
  unfolding first
  clear_head true x rest d v e = absurd (v e)
  clear_head false x rest d v e = (refl, e)

  pub never_append : (a b : List (Row X)) (d : X) → Never a d → Never b d → Never (a ++ b) d
  never_append [] b d v w = w
  never_append (row c x ∷ a) b d v w = (v.0, never_append a b d v.1 w)

  -- a condition that holds is a row's
  pub holds_within : (rows : List (Row X)) (i : ℕ) → holds_at rows i ≡ true → i < length rows
  holds_within [] i h = absurd (true≢false (sym h))
  holds_within (row c x ∷ rows) zero h = omega arith
  holds_within (row c x ∷ rows) (suc i) h = let p = holds_within rows i h in omega arith

  -- the rows of a joined table are those of its parts
  pub holds_left : (a b : List (Row X)) (i : ℕ) → i < length a → holds_at (a ++ b) i ≡ holds_at a i
  holds_left [] b i p = absurd (omega arith)
  holds_left (row c x ∷ a) b zero p = refl
  holds_left (row c x ∷ a) b (suc i) p = holds_left a b i (omega arith)

  pub holds_right : (a b : List (Row X)) (j i : ℕ) → j ≡ length a + i → holds_at (a ++ b) j ≡ holds_at b i
  holds_right [] b j i e = let z : j ≡ i = omega arith in rw z
  holds_right (row c x ∷ a) b zero i e = absurd (omega arith)
  holds_right (row c x ∷ a) b (suc j) i e = holds_right a b j i (omega arith)

  pub gives_left : (a b : List (Row X)) (d : X) (i : ℕ) → i < length a → gives_at (a ++ b) d i ≡ gives_at a d i
  gives_left [] b d i p = absurd (omega arith)
  gives_left (row c x ∷ a) b d zero p = refl
  gives_left (row c x ∷ a) b d (suc i) p = gives_left a b d i (omega arith)

  pub gives_right : (a b : List (Row X)) (d : X) (j i : ℕ) → j ≡ length a + i → gives_at (a ++ b) d j ≡ gives_at b d i
  gives_right [] b d j i e = let z : j ≡ i = omega arith in rw z
  gives_right (row c x ∷ a) b d zero i e = absurd (omega arith)
  gives_right (row c x ∷ a) b d (suc j) i e = gives_right a b d j i (omega arith)
