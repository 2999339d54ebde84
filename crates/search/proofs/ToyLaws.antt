-- The small search is lawful: what is asked of a play can be met. Assumes nothing.
use Prim.Native.Nat.{ℕ, zero, suc, ◌+◌, ◌%◌, ◌^◌, ◌<◌, ◌≤◌}
use mathlib.Core.Path.{◌≡◌, refl, sym, ap, subst, ◌∙◌}
use mathlib.Core.Logic.{inl, inr}
use mathlib.Core.List.{List, [], ◌∷◌}
use mathlib.Core.Bool.{Bool, true, false, ◌&&◌, true≢false}
use native.Mathlib.Omega.{arith}
use native.Mathlib.Decide.{ℕ_discrete}
use lib.ListN.{length, get_or, set, length-set}
use lib.Seq.{get_or-set_same, get_or-set_other}
use lib.Dec.{eqb, ltb}
use borrow.Author.Tests.{ltb-true, eq-eqb, ne_eqb}
use Rattle.laws.specs.Pick.{pick}
use Rattle.bitvec.specs.Word.{is_zero}
use Rattle.words.specs.Words.{Words, Place}
use Rattle.symbols.specs.Graph.{Id, Value, Node, constant, input, unary, binary, Operand, Sorted}
use Rattle.symbols.specs.Operators.{by_side, apply, apply_at}
use Rattle.symbols.specs.declared.OperandSide.{OperandSide}
use Rattle.symbols.specs.declared.OperandSide.TheVariants.{Lhs, Rhs}
use Rattle.symbols.specs.declared.BVOperator.{BVOperator}
use Rattle.symbols.specs.declared.BVOperator.TheVariants.{Add, Sub, Mul, Divu, Sltu, Remu, Not, Equals, BitwiseAnd}
use Rattle.search.specs.Machine.{Values, value_of, Choice, inverse, consistent, Step, to, dry}
use Rattle.search.specs.Lawful.{Redone, Redoes, Led, Lawful, place_after, Forward}
use Rattle.search.proofs.Toy.{inverse_value, FalseAt, kinds, side_by, value_step, node_in, step_by, node_value, pass_from, toy, low, sorted}
use Rattle.search.proofs.Bounds.{bit_below, pick_below}
use Rattle.search.proofs.Unique.{sorted_acyclic}

-- the operators, upward
pub pass_length : (ns : List Node) (i : Id) (vs : Values) → length (pass_from ns i vs) ≡ length vs
unfolding pass_from
pass_length [] i vs = refl
pass_length (n ∷ ns) i vs = pass_length ns (i + 1) (set vs i (node_value n vs i)) ∙ length-set vs i (node_value n vs i)

pass_before : (ns : List Node) (i : Id) (vs : Values) (j : Id) → j < i → value_of (pass_from ns i vs) j ≡ value_of vs j
unfolding pass_from
pass_before [] i vs j h = refl
pass_before (n ∷ ns) i vs j h = pass_before ns (i + 1) (set vs i (node_value n vs i)) j (omega arith) ∙ get_or-set_other vs i j (node_value n vs i) 0 (λ e. omega arith)

pub and_true : (a b : Bool) → (a && b) ≡ true → (a ≡ true) × (b ≡ true)
and_true true b e = (refl, e)
and_true false b e = absurd (true≢false (sym e))

low_operand : (n : Node) (i j : Id) → low n i ≡ true → Operand n j → j < i
low_operand (constant c) i j h o = absurd o
low_operand (input l) i j h o = absurd o
low_operand (unary a) i j h o = omega (arith, ltb-true a i h)
low_operand (binary p a b) i j h (inl e) = omega (arith, ltb-true a i (and_true (ltb a i) (ltb b i) h).0)
low_operand (binary p a b) i j h (inr e) = omega (arith, ltb-true b i (and_true (ltb a i) (ltb b i) h).1)

-- a node whose operands have their values for good
settled : (n : Node) (v w : Id → Value) (vs : Values) (i : Id) → ((j : Id) → value_of vs j ≡ v j) → w i ≡ node_value n vs i → ((j : Id) → Operand n j → w j ≡ v j) → Redone n v w i
settled (constant c) v w vs i f e g = e ∙ f i
settled (input l) v w vs i f e g = e ∙ f i
settled (unary a) v w vs i f e g = e ∙ ap is_zero (f a ∙ sym (g a refl))
settled (binary o a b) v w vs i f e g = e ∙ ap (λ (z : Value). apply o z (value_of vs b)) (f a ∙ sym (g a (inl refl))) ∙ ap (λ (z : Value). apply o (w a) z) (f b ∙ sym (g b (inr refl)))

-- a leaf's value before may be read from another list that agrees there
redone_from : (n : Node) (v u w : Id → Value) (i : Id) → u i ≡ v i → Redone n u w i → Redone n v w i
redone_from (constant c) v u w i e r = r ∙ e
redone_from (input l) v u w i e r = r ∙ e
redone_from (unary a) v u w i e r = r
redone_from (binary o a b) v u w i e r = r

pass_redone : (ns : List Node) (i : Id) (vs : Values) → sorted ns i ≡ true → i + length ns ≤ length vs → (k : ℕ) (j : Id) → j ≡ i + k → k < length ns
    → Redone (node_in ns k) (value_of vs) (value_of (pass_from ns i vs)) j
unfolding pass_from
pass_redone [] i vs h l k j e b = absurd (omega arith)
pass_redone (n ∷ ns) i vs h l zero j e b =
    let z : j ≡ i = omega arith in
    let us = set vs i (node_value n vs i) in
    let here : value_of (pass_from ns (i + 1) us) i ≡ node_value n vs i = pass_before ns (i + 1) us i (omega arith) ∙ get_or-set_same vs i (node_value n vs i) 0 (omega arith) in
    subst (λ (y : Id). Redone n (value_of vs) (value_of (pass_from ns (i + 1) us)) y) (sym z)
    (settled n (value_of vs) (value_of (pass_from ns (i + 1) us)) vs i (λ y. refl) here
    (λ y o.
    let q : y < i = low_operand n i y (and_true (low n i) (sorted ns (i + 1)) h).0 o in
    pass_before ns (i + 1) us y (omega arith) ∙ get_or-set_other vs i y (node_value n vs i) 0 (λ w. omega arith)))
pass_redone (n ∷ ns) i vs h l (suc k) j e b =
    redone_from (node_in ns k) (value_of vs) (value_of (set vs i (node_value n vs i))) (value_of (pass_from ns (i + 1) (set vs i (node_value n vs i)))) j
    (get_or-set_other vs i j (node_value n vs i) 0 (λ w. omega arith))
    (pass_redone ns (i + 1) (set vs i (node_value n vs i)) (and_true (low n i) (sorted ns (i + 1)) h).1 (omega (arith, length-set vs i (node_value n vs i))) k j (omega arith) (omega arith))

-- operands are before their nodes
sorted_operand : (ns : List Node) (i : Id) → sorted ns i ≡ true → (k : ℕ) (j : Id) → k < length ns → Operand (node_in ns k) j → j < i + k
sorted_operand [] i h k j b o = absurd (omega arith)
sorted_operand (n ∷ ns) i h zero j b o = omega (arith, low_operand n i j (and_true (low n i) (sorted ns (i + 1)) h).0 o)
sorted_operand (n ∷ ns) i h (suc k) j b o = omega (arith, sorted_operand ns (i + 1) (and_true (low n i) (sorted ns (i + 1)) h).1 k j (omega arith) o)

-- the inverse value gives the target
same_bit : (x s : Value) → x ≡ s → apply Equals x s ≡ 1
same_bit x s e = rw (eq-eqb x s e)

other_bit : (x s : Value) → (x ≡ s → ⊥) → apply Equals x s ≡ 0
other_bit x s e = rw (ne_eqb x s e)

differs : (s : Value) → is_zero s ≡ s → ⊥
differs zero e = omega arith
differs (suc s) e = let z : is_zero (suc s) ≡ 0 = rw (ne_eqb (suc s) 0 (λ q. omega arith)) in omega arith

equals_value : (s t : Value) → (t ≡ 0 → inverse_value Equals s t ≡ s → ⊥) × ((t ≡ 0 → ⊥) → inverse_value Equals s t ≡ s)
equals_value s t = (λ e. rw (eq-eqb t 0 e) (differs s), λ e. rw (ne_eqb t 0 e))

gives : (o : BVOperator) (d : OperandSide) (s t : Value) → s < 2 ^ 64 → t < 2 ^ 64 → (FalseAt o d s t → ⊥) → apply_at o d (inverse_value o s t) s ≡ t
gives Add Lhs s t p q f = omega arith
gives Add Rhs s t p q f = omega arith
gives Sub d s t p q f = absurd (f tt)
gives Mul d s t p q f = absurd (f tt)
gives Divu d s t p q f = absurd (f tt)
gives Sltu d s t p q f = absurd (f tt)
gives Remu d s t p q f = absurd (f tt)
gives Not d s t p q f = absurd (f tt)
gives Equals Lhs s t p q f =
    elim (ℕ_discrete t 0) [
      | yes z ↦ other_bit (inverse_value Equals s t) s ((equals_value s t).0 z) ∙ sym z
      | no z ↦ same_bit (inverse_value Equals s t) s ((equals_value s t).1 z) ∙ omega arith
    ]
gives Equals Rhs s t p q f =
    elim (ℕ_discrete t 0) [
      | yes z ↦ other_bit s (inverse_value Equals s t) (λ e. (equals_value s t).0 z (sym e)) ∙ sym z
      | no z ↦ same_bit s (inverse_value Equals s t) (sym ((equals_value s t).1 z)) ∙ omega arith
    ]
gives BitwiseAnd d s t p q f = absurd (f tt)

inverse_below : (o : BVOperator) (s t : Value) → s < 2 ^ 64 → inverse_value o s t < 2 ^ 64
inverse_below Add s t p = omega arith
inverse_below Sub s t p = omega arith
inverse_below Mul s t p = omega arith
inverse_below Divu s t p = omega arith
inverse_below Sltu s t p = omega arith
inverse_below Remu s t p = omega arith
inverse_below Not s t p = omega arith
inverse_below Equals s t p = pick_below (eqb t 0) (is_zero s) s (bit_below (eqb s 0)) p
inverse_below BitwiseAnd s t p = omega arith

not_gives : (t : Value) → (1 < t → ⊥) → is_zero (is_zero t) ≡ t
not_gives zero f = refl
not_gives (suc zero) f = refl
not_gives (suc (suc t)) f = absurd (f (omega arith))

never_to : {m n : Place} {x : Id} {u : Value} {c : Choice} → dry m ≡ to x u n c → ⊥
never_to e = let z : ◌≡◌ {A = ℕ} 0 1 = cc in omega arith

module _ (v : Id → Value) (t : Value) (small : t < 2 ^ 64) (x : Id) (u : Value) (n : Place) (c : Choice) where
  value_led : (o : BVOperator) (d : OperandSide) (a b : Id) (w : Value) (m : Place) (z : Bool) → v (by_side d b a) < 2 ^ 64
      → pick z (to (by_side d a b) (inverse_value o (v (by_side d b a)) t) (m + 1) (inverse d)) (to (by_side d a b) (w % 2 ^ 64) (m + 1) (consistent d)) ≡ to x u n c
      → Led kinds (binary o a b) v t x u c
  value_led o d a b w m true p e =
      let e₁ : by_side d a b ≡ x = cc in
      let e₂ : inverse_value o (v (by_side d b a)) t ≡ u = cc in
      let e₃ : inverse d ≡ c = cc in
      subst (λ (k : Choice). Led kinds (binary o a b) v t x u k) e₃
      (subst (λ (y : Value). Led kinds (binary o a b) v t x y (inverse d)) e₂
      (subst (λ (y : Id). Led kinds (binary o a b) v t y (inverse_value o (v (by_side d b a)) t) (inverse d)) e₁
      record { below = inverse_below o (v (by_side d b a)) t p; leads = (refl, λ i f. gives o d (v (by_side d b a)) t p small f) }))
  value_led o d a b w m false p e =
      let e₁ : by_side d a b ≡ x = cc in
      let e₂ : w % 2 ^ 64 ≡ u = cc in
      let e₃ : consistent d ≡ c = cc in
      subst (λ (k : Choice). Led kinds (binary o a b) v t x u k) e₃
      (subst (λ (y : Value). Led kinds (binary o a b) v t x y (consistent d)) e₂
      (subst (λ (y : Id). Led kinds (binary o a b) v t y (w % 2 ^ 64) (consistent d)) e₁ record { below = omega arith; leads = (refl, λ i f. absurd i) }))

  lent_led : (k : Node) (z : Bool) (p : Step) (m : Place) → (p ≡ to x u n c → Led kinds k v t x u c) → pick z p (dry m) ≡ to x u n c → Led kinds k v t x u c
  lent_led k true p m f e = f e
  lent_led k false p m f e = absurd (never_to e)

side_below : (v : Id → Value) (d : OperandSide) (a b : Id) → v a < 2 ^ 64 → v b < 2 ^ 64 → v (by_side d b a) < 2 ^ 64
side_below v Lhs a b p q = q
side_below v Rhs a b p q = p

node_led : (ns : List Node) (ws : Words) (k : Node) (vs : Values) (t : Value) (m : Place) (x : Id) (u : Value) (n : Place) (c : Choice) → t < 2 ^ 64
    → ((j : Id) → Operand k j → value_of vs j < 2 ^ 64) → step_by ns ws k vs t m ≡ to x u n c → Led kinds k (value_of vs) t x u c
node_led ns ws (constant y) vs t m x u n c l f e = absurd (never_to e)
node_led ns ws (input y) vs t m x u n c l f e = absurd (never_to e)
node_led ns ws (unary a) vs t m x u n c l f e =
    let e₁ : a ≡ x = cc in
    let e₂ : is_zero t ≡ u = cc in
    record {
      below = subst (λ (z : Value). z < 2 ^ 64) e₂ (bit_below (eqb t 0));
      leads = (sym e₁, λ h. ap is_zero (sym e₂) ∙ not_gives t h);
    }
node_led ns ws (binary o a b) vs t m x u n c l f e =
    let d = side_by (node_in ns a) in
    lent_led (value_of vs) t l x u n c (binary o a b) (ltb m (length ws)) (value_step o d (by_side d a b) (value_of vs (by_side d b a)) t (get_or ws m 0) m) m
    (λ q. value_led (value_of vs) t l x u n c o d a b (get_or ws m 0) m (eqb (get_or ws m 0) 0) (side_below (value_of vs) d a b (f a (inl refl)) (f b (inr refl))) q) e

module _ (ns : List Node) (root : Id) (ws : Words) (up : sorted ns 0 ≡ true) (rooted : root < length ns) (fixed : (c : Value) → node_in ns root ≡ constant c → c ≡ 1) where
  ordered : Sorted (toy ns root ws).graph
  ordered = record { below = λ i j b o. omega (arith, sorted_operand ns 0 up i j b o); rooted = rooted }

  redoes : Redoes (toy ns root ws)
  redoes = record {
    long = λ vs l. pass_length ns 0 vs ∙ l;
    redone = λ vs l i b. pass_redone ns 0 vs up (omega (arith, l)) i i (omega arith) b;
  }

  -- any sorted list of nodes
  pub toy_lawful : Lawful kinds (toy ns root ws)
  toy_lawful = record {
    acyclic = sorted_acyclic (toy ns root ws).graph ordered;
    rooted = rooted;
    fixed = fixed;
    redoes = redoes;
    led = λ vs i t m x u n c sane b l e. node_led ns ws (node_in ns i) vs t m x u n c l (λ j o. sane.below j (omega (arith, ordered.below i j b o))) e;
  }

-- a step takes its words forward
place_pick : (A : Place → Type 0) (z : Bool) (p q : Step) → (z ≡ true → A (place_after p)) → (z ≡ false → A (place_after q)) → A (place_after (pick z p q))
place_pick A true p q f g = f refl
place_pick A false p q f g = g refl

node_forward : (ns : List Node) (ws : Words) (k : Node) (vs : Values) (t : Value) (m : Place)
    → (m ≤ place_after (step_by ns ws k vs t m)) × (m ≤ length ws → place_after (step_by ns ws k vs t m) ≤ length ws)
node_forward ns ws (constant c) vs t m = (omega arith, λ b. b)
node_forward ns ws (input l) vs t m = (omega arith, λ b. b)
node_forward ns ws (unary a) vs t m = (omega arith, λ b. b)
node_forward ns ws (binary o a b) vs t m =
    place_pick (λ n. (m ≤ n) × (m ≤ length ws → n ≤ length ws)) (ltb m (length ws)) _ _
    (λ z. place_pick (λ n. (m ≤ n) × (m ≤ length ws → n ≤ length ws)) (eqb (get_or ws m 0) 0) _ _ (λ y. (omega arith, λ q. omega (arith, ltb-true m (length ws) z)))
    (λ y. (omega arith, λ q. omega (arith, ltb-true m (length ws) z))))
    (λ z. (omega arith, λ q. q))

pub toy_forward : (ns : List Node) (root : Id) (ws : Words) → Forward (toy ns root ws) (length ws)
toy_forward ns root ws = record {
  on = λ vs i t m. (node_forward ns ws (node_in ns i) vs t m).0;
  within = λ vs i t m. (node_forward ns ws (node_in ns i) vs t m).1;
}
