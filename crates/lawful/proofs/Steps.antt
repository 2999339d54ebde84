-- What a step does with its words, under any steady rules; and where it leads, under those of edition one. Assumes nothing.
use Prim.Native.Nat.{◌^◌, ◌<◌}
use mathlib.Core.Path.{◌≡◌, refl, sym, ap, subst, ◌∙◌}
use mathlib.Core.Logic.{◌⊎◌, inl, inr, ⊎_elim}
use mathlib.Core.List.{◌++◌}
use mathlib.Core.Bool.{Bool, true, false}
use native.Mathlib.Omega.{arith}
use lib.Dec.{eqb}
use borrow.Author.Tests.{eqb-true, eqb-false}
use Rattle.std.specs.Prelude.{Some, None}
use Rattle.laws.specs.Pick.{pick}
use Rattle.laws.specs.Rows.{first}
use Rattle.bitvec.specs.Word.{is_zero}
use Rattle.words.specs.Words.{Words, Place, Drawn, coin_at}
use Rattle.words.proofs.Draws.{Small, coin_forward, coin_longer, choosing_forward, choosing_longer}
use Rattle.symbols.specs.Graph.{Id, Value, Node, constant, input, unary, binary, Graph}
use Rattle.symbols.specs.Operators.{by_side}
use Rattle.symbols.specs.declared.OperandSide.{OperandSide}
use Rattle.symbols.specs.declared.OperandSide.TheVariants.{Lhs, Rhs}
use Rattle.symbols.specs.declared.BVOperator.{BVOperator}
use Rattle.search.specs.Machine.{Values, value_of, Step, to, dry}
use Rattle.search.specs.Lawful.{Led, place_after, Dries}
use Rattle.rules.specs.Rules.{Rules, Got, took_inverse, took_consistent, stuck, value_at}
use Rattle.rules.specs.One.{one}
use Rattle.promises.specs.Choice.{Drew, no_consistent, says_no, no_inverse, no_choice, chosen, not_chosen, Onward, Chose}
use Rattle.promises.proofs.Choice.{value_drew, drew_value, value_chose, one_faithful, taken_gives}
use Rattle.monster.specs.Step.{Here, is_constant, essential, Way, way, no_way, coin_way, sides, way_at, toward, along_way, step_by, step_from, here_of}
use Rattle.lawful.specs.Owed.{false_kinds, SteadyRules}

onward : (ws : Words) (n m k : Place) → Onward ws n m → Onward ws m k → Onward ws n k
onward ws n m k (inl e) (inl f) = inl (f ∙ e)
onward ws n m k (inl e) (inr f) = inr record { moved = omega (arith, f.moved); within = f.within }
onward ws n m k (inr e) (inl f) = inr record { moved = omega (arith, e.moved); within = omega (arith, e.within) }
onward ws n m k (inr e) (inr f) = inr record { moved = omega (arith, e.moved, f.moved); within = f.within }

-- a table of two sides and a coin: what holds of both sides and of the coin's holds of the way
picked : {X : Type 0} (A : X → Type 0) (c : Bool) (x y : X) → A x → A y → A (pick c x y)
picked A true x y p q = p
picked A false x y p q = q

picked_two : {X : Type 0} (A : X → X → Type 0) (c : Bool) (x y z : X) → A x x → A y z → A (pick c x y) (pick c x z)
picked_two A true x y z p q = p
picked_two A false x y z p q = q

module _ (h : Here) (o : BVOperator) (a b : Id) (t : Value) (n : Place) where
  way_all : (A : Way → Type 0) (ws : Words) → A (way Lhs n) → A (way Rhs n) → A (coin_way (coin_at ws n)) → A (way_at h o a b t ws n)
  unfolding way_at sides first
  way_all A ws l r c =
      picked A (is_constant (h.graph.node a)) _ _ r
      (picked A (is_constant (h.graph.node b)) _ _ l
      (picked A (essential h o Lhs a b t) _ _ l
      (picked A (essential h o Rhs b a t) _ _ r c)))

  way_two : (A : Way → Way → Type 0) (ws us : Words) → A (way Lhs n) (way Lhs n) → A (way Rhs n) (way Rhs n) → A (coin_way (coin_at ws n)) (coin_way (coin_at us n))
      → A (way_at h o a b t ws n) (way_at h o a b t us n)
  unfolding way_at sides first
  way_two A ws us l r c =
      picked_two A (is_constant (h.graph.node a)) _ _ _ r
      (picked_two A (is_constant (h.graph.node b)) _ _ _ l
      (picked_two A (essential h o Lhs a b t) _ _ _ l
      (picked_two A (essential h o Rhs b a t) _ _ _ r c)))

-- words go forward
abbrev WayOnward : Words → Place → Way → Type 0
WayOnward ws n (way d m) = Onward ws n m
WayOnward ws n no_way = Unit {0}

coin_onward : (ws : Words) (n : Place) (c : Drawn Bool) → coin_at ws n ≡ c → WayOnward ws n (coin_way c)
coin_onward ws n (Some (b, s)) e = inr (coin_forward ws n b s e)
coin_onward ws n None e = tt

abbrev got_place : Got → Place
got_place (took_inverse v m) = m
got_place (took_consistent v m) = m
got_place (stuck m) = m

toward_place : (d : OperandSide) (x : Id) (g : Got) → place_after (toward d x g) ≡ got_place g
toward_place d x (took_inverse v m) = refl
toward_place d x (took_consistent v m) = refl
toward_place d x (stuck m) = refl

-- the choice is the same on a longer list, unless it is stuck
abbrev Stuck : Got → Type 0
Stuck (took_inverse v m) = ⊥
Stuck (took_consistent v m) = ⊥
Stuck (stuck m) = Unit {0}

toward_dries : (d : OperandSide) (x : Id) (g : Got) → Stuck g → Dries (toward d x g)
toward_dries d x (took_inverse v m) s = s
toward_dries d x (took_consistent v m) s = s
toward_dries d x (stuck m) s = tt

abbrev NoWay : Way → Type 0
NoWay (way d m) = ⊥
NoWay no_way = Unit {0}

coin_same : (ws us : Words) (n : Place) (c : Drawn Bool) → coin_at ws n ≡ c → NoWay (coin_way c) ⊎ (coin_way c ≡ coin_way (coin_at (ws ++ us) n))
coin_same ws us n (Some (b, s)) e = inr (ap coin_way (sym (coin_longer ws n b s us e)))
coin_same ws us n None e = inl tt

module _ (ρ : Rules) (steady : SteadyRules ρ) where
  got_onward : (o : BVOperator) (d : OperandSide) (s t : Value) (ws : Words) (n : Place) (g : Got) → Drew ρ o d s t ws n g → Onward ws n (got_place g)
  got_onward o d s t ws n g (no_consistent e) = inl refl
  got_onward o d s t ws n g (says_no c p i y) = (steady.consistents o d t).moves ws n c p i
  got_onward o d s t ws n g (no_inverse c p i y e) = (steady.consistents o d t).moves ws n c p i
  got_onward o d s t ws n g (no_choice c p v q i e) =
      onward ws n p.at q.at ((steady.consistents o d t).moves ws n c p i.0) ((steady.inverses o d s t).moves ws p.at v q i.2)
  got_onward o d s t ws n g (chosen c p v q r i e) =
      onward ws n q.at r.at
      (onward ws n p.at q.at ((steady.consistents o d t).moves ws n c p i.0) ((steady.inverses o d s t).moves ws p.at v q i.2))
      (inr (choosing_forward ws q.at true r e))
  got_onward o d s t ws n g (not_chosen c p v q r i e) =
      onward ws n q.at r.at
      (onward ws n p.at q.at ((steady.consistents o d t).moves ws n c p i.0) ((steady.inverses o d s t).moves ws p.at v q i.2))
      (inr (choosing_forward ws q.at false r e))

  got_same : (o : BVOperator) (d : OperandSide) (s t : Value) (ws us : Words) (n : Place) (g : Got) → Drew ρ o d s t ws n g
      → Stuck g ⊎ (value_at ρ o d s t (ws ++ us) n ≡ g)
  got_same o d s t ws us n g (no_consistent e) = inl tt
  got_same o d s t ws us n g (says_no c p i y) =
      inr (drew_value ρ o d s t (ws ++ us) n _ (says_no c p ((steady.consistents o d t).longer ws us n c p i) y))
  got_same o d s t ws us n g (no_inverse c p i y e) = inl tt
  got_same o d s t ws us n g (no_choice c p v q i e) = inl tt
  got_same o d s t ws us n g (chosen c p v q r i e) =
      inr
      (drew_value ρ o d s t (ws ++ us) n _
      (chosen c p v q r
      ((steady.consistents o d t).longer ws us n c p i.0, i.1, (steady.inverses o d s t).longer ws us p.at v q i.2)
      (choosing_longer ws q.at true r us e)))
  got_same o d s t ws us n g (not_chosen c p v q r i e) =
      inr
      (drew_value ρ o d s t (ws ++ us) n _
      (not_chosen c p v q r
      ((steady.consistents o d t).longer ws us n c p i.0, i.1, (steady.inverses o d s t).longer ws us p.at v q i.2)
      (choosing_longer ws q.at false r us e)))

  module _ (g : Graph) (vs : Values) (ws : Words) where
    along_onward : (o : BVOperator) (a b : Id) (t : Value) (n : Place) (w : Way) → WayOnward ws n w
        → Onward ws n (place_after (along_way (here_of ρ g vs) o a b t ws n w))
    unfolding along_way
    along_onward o a b t n (way d m) e =
        let s = value_of vs (by_side d b a) in
        onward ws n m _ e
        (subst (Onward ws m) (sym (toward_place d (by_side d a b) (value_at ρ o d s t ws m))) (got_onward o d s t ws m _ (value_drew ρ o d s t ws m)))
    along_onward o a b t n no_way e = inl refl

    by_onward : (q : Node) (t : Value) (n : Place) → Onward ws n (place_after (step_by (here_of ρ g vs) q t ws n))
    by_onward (constant c) t n = inl refl
    by_onward (input l) t n = inl refl
    by_onward (unary a) t n = inl refl
    by_onward (binary o a b) t n =
        along_onward o a b t n (way_at (here_of ρ g vs) o a b t ws n)
        (way_all (here_of ρ g vs) o a b t n (WayOnward ws n) ws (inl refl) (inl refl) (coin_onward ws n (coin_at ws n) refl))

    -- a step takes words forward, and none past the last
    pub step_onward : (i : Id) (t : Value) (n : Place) → Onward ws n (place_after (step_from (here_of ρ g vs) ws i t n))
    unfolding step_from
    step_onward i t n = by_onward (g.node i) t n

    module _ (us : Words) where
      toward_same : (o : BVOperator) (a b : Id) (d : OperandSide) (s t : Value) (m : Place) (x : Got) → Stuck x ⊎ (value_at ρ o d s t (ws ++ us) m ≡ x)
          → Dries (toward d (by_side d a b) x) ⊎ (toward d (by_side d a b) x ≡ toward d (by_side d a b) (value_at ρ o d s t (ws ++ us) m))
      toward_same o a b d s t m x (inl k) = inl (toward_dries d (by_side d a b) x k)
      toward_same o a b d s t m x (inr e) = inr (ap (toward d (by_side d a b)) (sym e))

      along_same : (o : BVOperator) (a b : Id) (t : Value) (n : Place) (w z : Way) → NoWay w ⊎ (w ≡ z)
          → Dries (along_way (here_of ρ g vs) o a b t ws n w) ⊎ (along_way (here_of ρ g vs) o a b t ws n w ≡ along_way (here_of ρ g vs) o a b t (ws ++ us) n z)
      unfolding along_way
      along_same o a b t n (way d m) z (inl k) = absurd k
      along_same o a b t n no_way z (inl k) = inl tt
      along_same o a b t n no_way z (inr e) = inl tt
      along_same o a b t n (way d m) z (inr e) =
          let s = value_of vs (by_side d b a) in
          ⊎_elim inl (λ k. inr (k ∙ ap (along_way (here_of ρ g vs) o a b t (ws ++ us) n) e))
          (toward_same o a b d s t m (value_at ρ o d s t ws m) (got_same o d s t ws us m _ (value_drew ρ o d s t ws m)))

      by_same : (q : Node) (t : Value) (n : Place)
          → Dries (step_by (here_of ρ g vs) q t ws n) ⊎ (step_by (here_of ρ g vs) q t ws n ≡ step_by (here_of ρ g vs) q t (ws ++ us) n)
      by_same (constant c) t n = inr refl
      by_same (input l) t n = inr refl
      by_same (unary a) t n = inr refl
      by_same (binary o a b) t n =
          along_same o a b t n (way_at (here_of ρ g vs) o a b t ws n) (way_at (here_of ρ g vs) o a b t (ws ++ us) n)
          (way_two (here_of ρ g vs) o a b t n (λ x y. NoWay x ⊎ (x ≡ y)) ws (ws ++ us) (inr refl) (inr refl) (coin_same ws us n (coin_at ws n) refl))

      -- on a longer list a step is the same, unless it ran dry
      pub step_same : (i : Id) (t : Value) (n : Place)
          → Dries (step_from (here_of ρ g vs) ws i t n) ⊎ (step_from (here_of ρ g vs) ws i t n ≡ step_from (here_of ρ g vs) (ws ++ us) i t n)
      unfolding step_from
      step_same i t n = by_same (g.node i) t n

-- where a step leads
abbrev pub LedTo : Node → (Id → Value) → Value → Step → Type 0
LedTo q v t (to x u n c) = Led false_kinds q v t x u c
LedTo q v t (dry n) = Unit {0}

module _ (ws : Words) (small : Small ws) (vs : Values) (below : (j : Id) → value_of vs j < 2 ^ 64) (t : Value) (ht : t < 2 ^ 64) where
  toward_led : (o : BVOperator) (a b : Id) (d : OperandSide) (m : Place) (x : Got) → value_at one o d (value_of vs (by_side d b a)) t ws m ≡ x
      → Chose one o d (value_of vs (by_side d b a)) t ws m x → LedTo (binary o a b) (value_of vs) t (toward d (by_side d a b) x)
  toward_led o a b d m (took_inverse v k) e c = record {
    below = c.0;
    leads = (refl, λ i f. (taken_gives o d (value_of vs (by_side d b a)) t (below (by_side d b a)) ht ws small m v k e).1 f);
  }
  toward_led o a b d m (took_consistent v k) e c = record { below = c.0; leads = (refl, λ i f. absurd i) }
  toward_led o a b d m (stuck k) e c = tt

  along_led : (g : Graph) (o : BVOperator) (a b : Id) (n : Place) (w : Way) → LedTo (binary o a b) (value_of vs) t (along_way (here_of one g vs) o a b t ws n w)
  unfolding along_way
  along_led g o a b n (way d m) =
      let s = value_of vs (by_side d b a) in
      toward_led o a b d m (value_at one o d s t ws m) refl (value_chose one one_faithful o d s t (below (by_side d b a)) ht ws small m)
  along_led g o a b n no_way = tt

  -- "Not needs no word: target 0 gives 1, any other 0": right for the targets 0 and 1
  zero_or_one : (b : Bool) → eqb t 0 ≡ b → (1 < t → ⊥) → is_zero (is_zero t) ≡ t
  zero_or_one true e f = let z : t ≡ 0 = eqb-true t 0 e in rw z
  zero_or_one false e f = let y = eqb-false t 0 e in let z : t ≡ 1 = omega arith in rw z

  zero_below : (b : Bool) → eqb t 0 ≡ b → is_zero t < 2 ^ 64
  zero_below true e = rw e (omega arith)
  zero_below false e = rw e (omega arith)

  by_led : (g : Graph) (q : Node) (n : Place) → LedTo q (value_of vs) t (step_by (here_of one g vs) q t ws n)
  by_led g (constant c) n = tt
  by_led g (input l) n = tt
  by_led g (unary a) n = record { below = zero_below (eqb t 0) refl; leads = (refl, zero_or_one (eqb t 0) refl) }
  by_led g (binary o a b) n = along_led g o a b n (way_at (here_of one g vs) o a b t ws n)

  -- a step leads to the operand on the side shown; where it shows the inverse, that gives t but for the false kinds
  pub step_led : (g : Graph) (i : Id) (n : Place) → LedTo (g.node i) (value_of vs) t (step_from (here_of one g vs) ws i t n)
  unfolding step_from
  step_led g i n = by_led g (g.node i) n
