-- Laws of one visit, in a graph whose operands have ranks that fall. Assumes nothing.
use Prim.Native.Nat.{ℕ, zero, suc, ◌<◌}
use mathlib.Core.Path.{◌≡◌, refl, sym, ap, ◌∙◌}
use mathlib.Core.List.{[], ◌∷◌, ◌++◌, append-nil, append_assoc}
use mathlib.Core.Bool.{true, false}
use mathlib.Core.Logic.{◌⊎◌, inl, inr, ⊎_elim}
use native.Mathlib.Omega.{arith}
use Rattle.symbols.specs.Graph.{Id, Node, constant, input, unary, binary, Graph, Operand, Depends, direct, through}
use Rattle.symbols.specs.Order.{Acyclic}
use Rattle.symbols.proofs.Free.{acyclic_free}
use Rattle.visits.specs.Walk.{Ids, has, operands_by, walk}
use Rattle.visits.proofs.Has.{tested, not_both, refuted, has_more, has_last, last_cases}

-- what holds before, and stays at each operand's visit, holds after all of them
pub operands_keep : (P : Ids → Type 0) (go : Id → Ids → Ids) (n : Node) (seen : Ids)
    → ((j : Id) → Operand n j → (s : Ids) → P s → P (go j s))
    → P seen
    → P (operands_by go n seen)
operands_keep P go (constant v) seen h p = p
operands_keep P go (input l) seen h p = p
operands_keep P go (unary a) seen h p = h a refl seen p
operands_keep P go (binary o a b) seen h p = h b (inr refl) (go a seen) (h a (inl refl) seen p)

-- two ways to visit that agree on the operands
pub operands_same : (go to : Id → Ids → Ids) (n : Node) (seen : Ids) → ((j : Id) → Operand n j → (s : Ids) → go j s ≡ to j s) → operands_by go n seen ≡ operands_by to n seen
operands_same go to (constant v) seen h = refl
operands_same go to (input l) seen h = refl
operands_same go to (unary a) seen h = h a refl seen
operands_same go to (binary o a b) seen h = h b (inr refl) (go a seen) ∙ ap (to b) (h a (inl refl) seen)

-- where each visit lists its node and drops none, the operands are all listed after it
pub operands_listed : (go : Id → Ids → Ids) (n : Node) (seen : Ids)
    → ((j : Id) → Operand n j → (s : Ids) → has (go j s) j ≡ true)
    → ((j i : Id) (s : Ids) → has s i ≡ true → has (go j s) i ≡ true)
    → (j : Id)
    → Operand n j
    → has (operands_by go n seen) j ≡ true
operands_listed go (constant v) seen own keep j o = absurd o
operands_listed go (input l) seen own keep j o = absurd o
operands_listed go (unary a) seen own keep j o = rw o (own a refl seen)
operands_listed go (binary p a b) seen own keep j o =
    ⊎_elim
    (λ (e : j ≡ a). rw e (keep b a (go a seen) (own a (inl refl) seen)))
    (λ (e : j ≡ b). rw e (own b (inr refl) (go a seen)))
    o

-- s is how l begins
pub record Begins (s l : Ids) : Type 0 where
  pub rest : Ids
  pub is : l ≡ s ++ rest

begins_self : (s : Ids) → Begins s s
begins_self s = record { rest = []; is = sym (append-nil s) }

begins_last : {s l : Ids} (i : Id) → Begins s l → Begins s (l ++ (i ∷ []))
begins_last {s} i b = record { rest = b.rest ++ (i ∷ []); is = ap (λ (x : Ids). x ++ (i ∷ [])) b.is ∙ append_assoc s b.rest (i ∷ []) }

begins_on : {s l m : Ids} → Begins s l → Begins l m → Begins s m
begins_on {s} b c = record { rest = b.rest ++ c.rest; is = c.is ∙ ap (λ (x : Ids). x ++ c.rest) b.is ∙ append_assoc s b.rest c.rest }

module _ (g : Graph) where
  -- a node that is listed already changes nothing
  pub walk_again : (k : ℕ) (i : Id) (seen : Ids) → has seen i ≡ true → walk g k i seen ≡ seen
  unfolding walk
  walk_again zero i seen h = refl
  walk_again (suc k) i seen h = rw h

  pub walk_new : (k : ℕ) (i : Id) (seen : Ids) → has seen i ≡ false → walk g (suc k) i seen ≡ operands_by (walk g k) (g.node i) seen ++ (i ∷ [])
  unfolding walk
  walk_new k i seen h = rw h

  -- a node that is visited is listed
  pub walk_lists : (k : ℕ) (i : Id) (seen : Ids) → 0 < k → has (walk g k i seen) i ≡ true
  walk_lists zero i seen z = absurd (omega arith)
  walk_lists (suc k) i seen z =
      ⊎_elim
      (λ (h : has seen i ≡ true). rw (walk_again (suc k) i seen h) h)
      (λ (h : has seen i ≡ false). rw (walk_new k i seen h) (has_last (operands_by (walk g k) (g.node i) seen) i))
      (tested (has seen i))

  -- what was listed stays, in its order
  pub walk_begins : (k : ℕ) (i : Id) (seen : Ids) → Begins seen (walk g k i seen)
  unfolding walk
  walk_begins zero i seen = begins_self seen
  walk_begins (suc k) i seen =
      ⊎_elim
      (λ (h : has seen i ≡ true). rw h (begins_self seen))
      (λ (h : has seen i ≡ false). rw h (begins_last i (operands_keep (Begins seen) (walk g k) (g.node i) seen (λ j o s b. begins_on b (walk_begins k j s)) (begins_self seen))))
      (tested (has seen i))

  pub walk_keeps : (k : ℕ) (i j : Id) (seen : Ids) → has seen j ≡ true → has (walk g k i seen) j ≡ true
  walk_keeps k i j seen h = let b = walk_begins k i seen in rw b.is (has_more seen b.rest j h)

  -- what a visit adds is the node or what it depends on
  operands_add : (go : Id → Ids → Ids) (i j : Id) (seen : Ids)
      → ((a : Id) (s : Ids) → has (go a s) j ≡ true → (has s j ≡ true) ⊎ ((j ≡ a) ⊎ Depends g a j))
      → has (operands_by go (g.node i) seen) j ≡ true
      → (has seen j ≡ true) ⊎ Depends g i j
  operands_add go i j seen adds =
      operands_keep (λ s. has s j ≡ true → (has seen j ≡ true) ⊎ Depends g i j) go (g.node i) seen
      (λ a o s p h.
      ⊎_elim p
      (λ x. inr (⊎_elim (λ (e : j ≡ a). direct i j (rw e o)) (λ d. through i a j o d) x))
      (adds a s h))
      inl

  pub walk_adds : (k : ℕ) (i j : Id) (seen : Ids) → has (walk g k i seen) j ≡ true → (has seen j ≡ true) ⊎ ((j ≡ i) ⊎ Depends g i j)
  unfolding walk
  walk_adds zero i j seen h = inl h
  walk_adds (suc k) i j seen h =
      ⊎_elim
      (λ (e : has seen i ≡ true). inl (rw (walk_again (suc k) i seen e) at h))
      (λ (e : has seen i ≡ false).
      ⊎_elim
      (λ x. ⊎_elim inl (λ d. inr (inr d)) (operands_add (walk g k) i j seen (λ a s. walk_adds k a j s) x))
      (λ (x : j ≡ i). inr (inl x))
      (last_cases (operands_by (walk g k) (g.node i) seen) i j (rw (walk_new k i seen e) at h)))
      (tested (has seen i))

  module _ (a : Acyclic g) where
    -- any depth above the rank gives the same
    pub walk_depth : (k n : ℕ) (i : Id) (seen : Ids) → i < g.count → a.rank i < k → a.rank i < n → walk g k i seen ≡ walk g n i seen
    walk_depth zero n i seen h u v = absurd (omega arith)
    walk_depth (suc k) zero i seen h u v = absurd (omega arith)
    walk_depth (suc k) (suc n) i seen h u v =
        ⊎_elim
        (λ (e : has seen i ≡ true). walk_again (suc k) i seen e ∙ sym (walk_again (suc n) i seen e))
        (λ (e : has seen i ≡ false).
        walk_new k i seen e
        ∙ ap (λ (s : Ids). s ++ (i ∷ []))
        (operands_same (walk g k) (walk g n) (g.node i) seen
        (λ j o s. walk_depth k n j s (a.inside i j h o) (omega (arith, a.falls i j h o)) (omega (arith, a.falls i j h o))))
        ∙ sym (walk_new n i seen e))
        (tested (has seen i))

    -- the operands of a node that is not listed do not list it
    pub operands_spare : (k : ℕ) (i : Id) (seen : Ids) → i < g.count → has seen i ≡ false → has (operands_by (walk g k) (g.node i) seen) i ≡ false
    operands_spare k i seen h e =
        refuted (has (operands_by (walk g k) (g.node i) seen) i)
        (λ x. ⊎_elim (λ y. not_both y e) (λ d. absurd (acyclic_free g a i h d)) (operands_add (walk g k) i i seen (λ b s. walk_adds k b i s) x))
