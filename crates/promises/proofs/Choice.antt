-- The choice, for every edition of the rules; and for edition one, that an inverse value that was taken gives t. Assumes nothing.
use Prim.Native.Nat.{ℕ, ◌^◌, ◌<◌}
use mathlib.Core.Path.{◌≡◌, refl, ◌∙◌}
use mathlib.Core.Logic.{inl, inr}
use mathlib.Core.List.{◌++◌}
use mathlib.Core.Bool.{Bool, true, false}
use native.Mathlib.Omega.{arith}
use Rattle.std.specs.Prelude.{Some, None}
use Rattle.laws.specs.Pick.{pick}
use Rattle.words.specs.Words.{Draw, Drawn, Words, Place, choosing_at}
use Rattle.words.specs.declared.WordSource.{WordSource}
use Rattle.words.proofs.Draws.{Small, choosing_forward, choosing_longer}
use Rattle.symbols.specs.Graph.{Value}
use Rattle.symbols.specs.Operators.{apply_at}
use Rattle.symbols.specs.declared.OperandSide.{OperandSide}
use Rattle.symbols.specs.declared.BVOperator.{BVOperator}
use Rattle.reach.specs.Table.{table_says}
use Rattle.existence.specs.Kinds.{FalseYes}
use Rattle.rules.specs.Rules.{Rules, Got, took_inverse, took_consistent, stuck, after, invert_at, value_at}
use Rattle.rules.specs.One.{one}
use Rattle.promises.specs.Choice.{Consistent, Inverted, Drew, no_consistent, says_no, no_inverse, no_choice, chosen, not_chosen, Faithful, Onward, Chose}
use Rattle.promises.proofs.Gives.{inverse_gives}
use Rattle.promises.proofs.Kept.{inverse_keeps, consistent_keeps}

module _ (ρ : Rules) (o : BVOperator) (d : OperandSide) (s t : Value) (ws : Words) (n : Place) where
  -- each draw is looked at in its turn
  at_toss : (c : Value) (p : WordSource) (v : Value) (q : WordSource) → Inverted ρ o d s t ws n c p v q → (f : Drawn Bool) → choosing_at ws q.at ≡ f
      → Drew ρ o d s t ws n (after f q.at (λ b m. pick b (took_inverse v m) (took_consistent c m)))
  at_toss c p v q i (Some (true, r)) e = chosen c p v q r i e
  at_toss c p v q i (Some (false, r)) e = not_chosen c p v q r i e
  at_toss c p v q i None e = no_choice c p v q i e

  at_inverse : (c : Value) (p : WordSource) → Consistent ρ o d s t ws n c p → ρ.table o d s t ≡ true → (x : Draw) → ρ.inverse o d s t ws p.at ≡ x
      → Drew ρ o d s t ws n (after x p.at (λ v a. after (choosing_at ws a) a (λ b m. pick b (took_inverse v m) (took_consistent c m))))
  at_inverse c p i y (Some (v, q)) e = at_toss c p v q (i, y, e) (choosing_at ws q.at) refl
  at_inverse c p i y None e = no_inverse c p i y e

  at_table : (c : Value) (p : WordSource) → Consistent ρ o d s t ws n c p → (b : Bool) → ρ.table o d s t ≡ b
      → Drew ρ o d s t ws n (pick b (invert_at ρ o d s t ws c p.at) (took_consistent c p.at))
  unfolding invert_at
  at_table c p i true y = at_inverse c p i y (ρ.inverse o d s t ws p.at) refl
  at_table c p i false y = says_no c p i y

  at_consistent : (x : Draw) → ρ.consistent o d t ws n ≡ x → Drew ρ o d s t ws n (after x n (λ c a. pick (ρ.table o d s t) (invert_at ρ o d s t ws c a) (took_consistent c a)))
  at_consistent (Some (c, p)) e = at_table c p e (ρ.table o d s t) refl
  at_consistent None e = no_consistent e

  pub value_drew : Drew ρ o d s t ws n (value_at ρ o d s t ws n)
  unfolding value_at
  value_drew = at_consistent (ρ.consistent o d t ws n) refl

  -- and the other way round: the draws determine the choice
  pub drew_value : (g : Got) → Drew ρ o d s t ws n g → value_at ρ o d s t ws n ≡ g
  unfolding value_at invert_at
  drew_value g (no_consistent e) = rw e
  drew_value g (says_no c p i y) = rw (i, y)
  drew_value g (no_inverse c p i y e) = rw (i, y, e)
  drew_value g (no_choice c p v q i e) = rw (i.0, i.1, i.2, e)
  drew_value g (chosen c p v q r i e) = rw (i.0, i.1, i.2, e)
  drew_value g (not_chosen c p v q r i e) = rw (i.0, i.1, i.2, e)

onward : (ws : Words) (n m k : Place) → Onward ws n m → Onward ws m k → Onward ws n k
onward ws n m k (inl e) (inl f) = inl (f ∙ e)
onward ws n m k (inl e) (inr f) = inr record { moved = omega (arith, f.moved); within = f.within }
onward ws n m k (inr e) (inl f) = inr record { moved = omega (arith, e.moved); within = omega (arith, e.within) }
onward ws n m k (inr e) (inr f) = inr record { moved = omega (arith, e.moved, f.moved); within = f.within }

module _ (ρ : Rules) (faithful : Faithful ρ) (o : BVOperator) (d : OperandSide) (s t : Value) (hs : s < 2 ^ 64) (ht : t < 2 ^ 64) (ws : Words) (small : Small ws) (n : Place) where
  pub value_chose : Chose ρ o d s t ws n (value_at ρ o d s t ws n)
  value_chose = go (value_at ρ o d s t ws n) (value_drew ρ o d s t ws n)
    where
      go : (g : Got) → Drew ρ o d s t ws n g → Chose ρ o d s t ws n g
      go g (no_consistent e) = inl refl
      go g (says_no c p i y) =
          let k = faithful.consistents o d t ht ws small n c p i in
          (k.small, k.moves, λ us. drew_value ρ o d s t (ws ++ us) n _ (says_no c p (k.longer us) y))
      go g (no_inverse c p i y e) = (faithful.consistents o d t ht ws small n c p i).moves
      go g (no_choice c p v q i e) =
          let k = faithful.consistents o d t ht ws small n c p i.0 in
          let j = faithful.inverses o d s t hs ht ws small p.at v q i.2 in
          onward ws n p.at q.at k.moves j.moves
      go g (chosen c p v q r i e) =
          let k = faithful.consistents o d t ht ws small n c p i.0 in
          let j = faithful.inverses o d s t hs ht ws small p.at v q i.2 in (
            j.small,
            onward ws n q.at r.at (onward ws n p.at q.at k.moves j.moves) (inr (choosing_forward ws q.at true r e)),
            λ us. drew_value ρ o d s t (ws ++ us) n _ (chosen c p v q r (k.longer us, i.1, j.longer us) (choosing_longer ws q.at true r us e)),
          )
      go g (not_chosen c p v q r i e) =
          let k = faithful.consistents o d t ht ws small n c p i.0 in
          let j = faithful.inverses o d s t hs ht ws small p.at v q i.2 in (
            k.small,
            onward ws n q.at r.at (onward ws n p.at q.at k.moves j.moves) (inr (choosing_forward ws q.at false r e)),
            λ us. drew_value ρ o d s t (ws ++ us) n _ (not_chosen c p v q r (k.longer us, i.1, j.longer us) (choosing_longer ws q.at false r us e)),
          )

pub one_faithful : Faithful one
one_faithful = record { inverses = λ o d s t hs ht. inverse_keeps s t hs ht o d; consistents = λ o d t ht. consistent_keeps t ht o d }

-- edition one: where the inverse was taken the table said yes, and but for kinds (a) and (b) the value gives t
pub taken_gives : (o : BVOperator) (d : OperandSide) (s t : Value) → s < 2 ^ 64 → t < 2 ^ 64 → (ws : Words) → Small ws → (n : Place) (v : Value) (m : Place)
    → value_at one o d s t ws n ≡ took_inverse v m → (table_says o d s t ≡ true) × ((FalseYes o d s t → ⊥) → apply_at o d v s ≡ t)
taken_gives o d s t hs ht ws small n v m e = go (value_at one o d s t ws n) (value_drew one o d s t ws n) e
  where
    not_stuck : {G : Type 0} (k : Place) → stuck k ≡ took_inverse v m → G
    not_stuck k e = let z : ◌≡◌ {A = ℕ} 0 1 = cc in absurd (omega arith)

    not_kept : {G : Type 0} (c : Value) (k : Place) → took_consistent c k ≡ took_inverse v m → G
    not_kept c k e = let z : ◌≡◌ {A = ℕ} 0 1 = cc in absurd (omega arith)

    go : (g : Got) → Drew one o d s t ws n g → g ≡ took_inverse v m → (table_says o d s t ≡ true) × ((FalseYes o d s t → ⊥) → apply_at o d v s ≡ t)
    go g (no_consistent e) f = not_stuck n f
    go g (says_no c p i y) f = not_kept c p.at f
    go g (no_inverse c p i y e) f = not_stuck p.at f
    go g (no_choice c p w q i e) f = not_stuck q.at f
    go g (chosen c p w q r i e) f =
        let is : w ≡ v = cc in
        (i.1, λ k. rw (← is) (inverse_gives s t hs ht ws small p.at w q o d i.1 k i.2))
    go g (not_chosen c p w q r i e) f = not_kept c r.at f
