-- How a choice came about, for every edition of the rules: which draws were finished, and that the place is the one after the last of
-- them. Assumes nothing.
use Rattle.std.specs.Prelude.{Some, None, ◌^◌, ◌<◌, ◌≡◌, ◌⊎◌, ◌++◌, true, false}
use Rattle.words.specs.Words.{Words, Place, choosing_at}
use Rattle.words.specs.declared.WordSource.{WordSource}
use Rattle.words.proofs.Draws.{Forward}
use Rattle.symbols.specs.Graph.{Value}
use Rattle.symbols.specs.declared.OperandSide.{OperandSide}
use Rattle.symbols.specs.declared.BVOperator.{BVOperator}
use Rattle.rules.specs.Rules.{Rules, Got, took_inverse, took_consistent, stuck, value_at}
use Rattle.promises.specs.Keeps.{Keeps}

module _ (ρ : Rules) (o : BVOperator) (d : OperandSide) (s t : Value) (ws : Words) (n : Place) where
  -- the consistent value c was drawn, and p is the source after it
  abbrev pub Consistent : Value → WordSource → Type 0
  Consistent c p = ρ.consistent o d t ws n ≡ Some (c, p)

  -- then the table said yes, and the inverse v was drawn, with q after it
  abbrev pub Inverted : Value → WordSource → Value → WordSource → Type 0
  Inverted c p v q = Consistent c p × (ρ.table o d s t ≡ true) × (ρ.inverse o d s t ws p.at ≡ Some (v, q))

  -- "Then the consistent value is drawn; if the table says yes, the inverse, then the choosing word."
  pub data Drew : Got → Type 0 where
    no_consistent : ρ.consistent o d t ws n ≡ None → Drew (stuck n)
    says_no : (c : Value) (p : WordSource) → Consistent c p → ρ.table o d s t ≡ false → Drew (took_consistent c p.at)
    no_inverse : (c : Value) (p : WordSource) → Consistent c p → ρ.table o d s t ≡ true → ρ.inverse o d s t ws p.at ≡ None → Drew (stuck p.at)
    no_choice : (c : Value) (p : WordSource) (v : Value) (q : WordSource) → Inverted c p v q → choosing_at ws q.at ≡ None → Drew (stuck q.at)
    chosen : (c : Value) (p : WordSource) (v : Value) (q r : WordSource) → Inverted c p v q → choosing_at ws q.at ≡ Some (true, r) → Drew (took_inverse v r.at)
    not_chosen : (c : Value) (p : WordSource) (v : Value) (q r : WordSource) → Inverted c p v q → choosing_at ws q.at ≡ Some (false, r) → Drew (took_consistent c r.at)

-- both values of an edition keep to specs/Keeps.antt, for words s and t
pub record Faithful (ρ : Rules) : Type 0 where
  pub inverses : (o : BVOperator) (d : OperandSide) (s t : Value) → s < 2 ^ 64 → t < 2 ^ 64 → Keeps (ρ.inverse o d s t)
  pub consistents : (o : BVOperator) (d : OperandSide) (t : Value) → t < 2 ^ 64 → Keeps (ρ.consistent o d t)

-- the place stays, or moves forward within the list
abbrev pub Onward : Words → Place → Place → Type 0
Onward ws n m = (m ≡ n) ⊎ Forward ws n m

-- of a choice: its value is a word, its place lies onward, and where it is answered a longer list answers it alike
abbrev pub Chose : Rules → BVOperator → OperandSide → Value → Value → Words → Place → Got → Type 0
Chose ρ o d s t ws n (took_inverse v m) = (v < 2 ^ 64) × Onward ws n m × ((us : Words) → value_at ρ o d s t (ws ++ us) n ≡ took_inverse v m)
Chose ρ o d s t ws n (took_consistent v m) = (v < 2 ^ 64) × Onward ws n m × ((us : Words) → value_at ρ o d s t (ws ++ us) n ≡ took_consistent v m)
Chose ρ o d s t ws n (stuck m) = Onward ws n m
