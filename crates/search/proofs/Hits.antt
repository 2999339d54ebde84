-- Demand 3 without the machine: when the input has taken its target, the value at each node of a fair trail is its target.
-- Assumes nothing.
use Prim.Native.Nat.{ℕ, ◌<◌}
use mathlib.Core.Path.{◌≡◌, refl, sym, ap, ◌∙◌}
use mathlib.Core.Logic.{inl, inr}
use mathlib.Core.List.{List, [], ◌∷◌}
use mathlib.Core.Bool.{Bool, true, false}
use native.Mathlib.Omega.{arith}
use Rattle.laws.specs.Pick.{pick}
use Rattle.bitvec.specs.Word.{is_zero}
use Rattle.symbols.specs.Graph.{Id, Value, Node, constant, input, unary, binary, Graph, Operand}
use Rattle.symbols.specs.Width.{fits}
use Rattle.symbols.specs.Order.{Acyclic}
use Rattle.symbols.specs.Operators.{by_side, apply, apply_at}
use Rattle.symbols.specs.declared.OperandSide.{OperandSide}
use Rattle.symbols.specs.declared.OperandSide.TheVariants.{Lhs, Rhs}
use Rattle.symbols.specs.declared.BVOperator.{BVOperator}
use Rattle.search.specs.Machine.{Choice, loses, stores, walks, landing}
use Rattle.search.specs.Round.{Taken}
use Rattle.search.specs.Solution.{Right, Solution}
use Rattle.search.specs.Demand.{All, more, FalseKinds, side_of, passed_by, TookInverse, NotFalse, Free, PassedFree}
use Rattle.search.specs.Lawful.{Leads}

-- steps, the last one first, that lead from the root with target 1 to x with target u
pub data Trail (F : FalseKinds) (g : Graph) (v : Id → Value) : List Taken → Id → Value → Type 0 where
  starts : Trail F g v [] g.root 1
  leads_on : {s : Taken} {ss : List Taken} {x : Id} → s.node < g.count → landing (g.node s.node) s.target ≡ walks
      → Leads F (g.node s.node) v s.target x s.value s.choice → Trail F g v ss s.node s.target → Trail F g v (s ∷ ss) x s.value

pub not_loses : loses ≡ walks → ⊥
not_loses e = let z : ◌≡◌ {A = ℕ} 0 1 = cc in omega arith

pub not_stores : stores ≡ walks → ⊥
not_stores e = let z : ◌≡◌ {A = ℕ} 0 1 = cc in omega arith

-- the round is over at an input, whether the target fits or not
pub not_over : (b : Bool) → pick b stores loses ≡ walks → ⊥
not_over true e = not_stores e
not_over false e = not_loses e

side_operand : (o : BVOperator) (d : OperandSide) (a b : Id) → Operand (binary o a b) (by_side d a b)
side_operand o Lhs a b = inl refl
side_operand o Rhs a b = inr refl

-- a step leads to an operand
pub leads_operand : (F : FalseKinds) (n : Node) (v : Id → Value) (t : Value) (x : Id) (u : Value) (c : Choice) → landing n t ≡ walks → Leads F n v t x u c → Operand n x
leads_operand F (constant k) v t x u c h e = absurd (not_loses h)
leads_operand F (input p) v t x u c h e = absurd (not_over (fits p t) h)
leads_operand F (unary a) v t x u c h e = e.0
leads_operand F (binary o a b) v t x u c h e = rw e.0 (side_operand o (side_of c) a b)

-- the operand that a step passes by
abbrev PassedBy : (Id → Type 0) → Node → Taken → Type 0
PassedBy A (constant c) s = Unit {0}
PassedBy A (input l) s = Unit {0}
PassedBy A (unary a) s = Unit {0}
PassedBy A (binary o a b) s = A (passed_by s.choice a b)

passed_kept : (g : Graph) (n : Node) (s : Taken) (x : Id) (A : Id → Type 0) → ((j : Id) → Operand n j → Free g x j → A j) → PassedFree g n x s → PassedBy A n s
passed_kept g (constant c) s x A f h = tt
passed_kept g (input l) s x A f h = tt
passed_kept g (unary a) s x A f h = tt
passed_kept g (binary o a b) s x A f h = f (passed_by s.choice a b) (by (side_of s.choice)) h
  where
    by : (d : OperandSide) → Operand (binary o a b) (by_side d b a)
    by Lhs = inr refl
    by Rhs = inl refl

module _ (F : FalseKinds) (v w : Id → Value) where
  side_hits : (o : BVOperator) (d : OperandSide) (a b x : Id) (u t y : Value) → x ≡ by_side d a b → w x ≡ u → w (by_side d b a) ≡ v (by_side d b a)
      → apply_at o d u (v (by_side d b a)) ≡ t → y ≡ apply o (w a) (w b) → y ≡ t
  side_hits o Lhs a b x u t y e h f g r = r ∙ ap (λ (z : Value). apply o z (w b)) (ap w (sym e) ∙ h) ∙ ap (λ (z : Value). apply o u z) f ∙ g
  side_hits o Rhs a b x u t y e h f g r = r ∙ ap (λ (z : Value). apply o (w a) z) (ap w (sym e) ∙ h) ∙ ap (λ (z : Value). apply o z u) f ∙ g

  -- one step: its operand has its target, and the operand passed by is unchanged
  step_hits : (n : Node) (s : Taken) (x : Id) → landing n s.target ≡ walks → Leads F n v s.target x s.value s.choice → w x ≡ s.value → TookInverse n s → NotFalse F n v s
      → PassedBy (λ j. w j ≡ v j) n s → Right n w s.node → w s.node ≡ s.target
  step_hits (constant c) s x q e h i f p r = absurd (not_loses q)
  step_hits (input l) s x q e h i f p r = absurd (not_over (fits l s.target) q)
  step_hits (unary a) s x q e h i f p r = r ∙ ap is_zero (ap w (sym e.0) ∙ h) ∙ e.1 f
  step_hits (binary o a b) s x q e h i f p r = side_hits o (side_of s.choice) a b x s.value s.target (w s.node) e.0 h p (e.1 i f) r

  -- a fair trail that ends at y: its beginning, the root, has the target 1
  pub hits : (g : Graph) → Acyclic g → Solution g w → (y : Id) → ((j : Id) → j < g.count → Free g y j → w j ≡ v j)
      → {ss : List Taken} {x : Id} {u : Value} → Trail F g v ss x u → w x ≡ u → All (λ s. TookInverse (g.node s.node) s) ss
      → All (λ s. NotFalse F (g.node s.node) v s) ss → All (λ s. PassedFree g (g.node s.node) y s) ss → w g.root ≡ 1
  hits g acyclic sol y kept starts h is fs ps = h
  hits g acyclic sol y kept (leads_on {s} {ss} {x} b q e t) h (more s₁ r₁ i is) (more s₂ r₂ f fs) (more s₃ r₃ p ps) =
      hits g acyclic sol y kept t
      (step_hits (g.node s.node) s x q e h i f (passed_kept g (g.node s.node) s y (λ j. w j ≡ v j) (λ j o z. kept j (acyclic.inside s.node j b o) z) p)
      (sol.right s.node b))
      is fs ps
