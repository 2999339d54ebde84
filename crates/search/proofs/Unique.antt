-- The values are the one solution of all operator equations for their inputs, and a store at an input leaves alone every node
-- that neither is that input nor depends on it. Assumes nothing.
use Prim.Native.Nat.{ℕ, zero, suc, ◌^◌, ◌<◌}
use mathlib.Core.Path.{◌≡◌, refl, sym, ap, subst, ◌∙◌}
use mathlib.Core.Logic.{inl, inr}
use native.Mathlib.Omega.{arith}
use native.Mathlib.Decide.{ℕ_discrete}
use lib.ListN.{set, length-set}
use lib.Dec.{eqb}
use lib.Seq.{get_or-set_same, get_or-set_other, ext_get_or}
use Rattle.bitvec.specs.Word.{is_zero}
use Rattle.symbols.specs.Graph.{Id, Value, Node, constant, input, unary, binary, Graph, Operand, direct, through, Sorted}
use Rattle.symbols.specs.Order.{Acyclic}
use Rattle.symbols.specs.Operators.{apply}
use Rattle.symbols.specs.Width.{fits}
use Rattle.search.specs.Machine.{Values, value_of, Play}
use Rattle.search.specs.Solution.{Input, Fits, Right, Solution, Sane, Primed}
use Rattle.search.specs.Demand.{Free}
use Rattle.search.specs.Lawful.{Redone, Redoes}
use Rattle.search.proofs.Bounds.{bit_below, apply_below}

-- where an operand's id is below its node's, the id is a rank
pub sorted_acyclic : (g : Graph) → Sorted g → Acyclic g
sorted_acyclic g h = record { rank = λ i. i; bounded = λ i b. b; inside = λ i j b o. omega (arith, h.below i j b o); falls = h.below }

module _ (v w : Id → Value) where
  same : (n : Node) (i : Id) → ((j : Id) → Operand n j → w j ≡ v j) → (Input n → w i ≡ v i) → Right n v i → Right n w i → w i ≡ v i
  same (constant c) i f g p q = q ∙ sym p
  same (input l) i f g p q = g tt
  same (unary a) i f g p q = q ∙ ap is_zero (f a refl) ∙ sym p
  same (binary o a b) i f g p q = q ∙ ap (λ (z : Value). apply o z (w b)) (f a (inl refl)) ∙ ap (λ (z : Value). apply o (v a) z) (f b (inr refl)) ∙ sym p

-- two solutions that agree on the inputs among S, a set of nodes with all their operands, agree on S
module _ (g : Graph) (acyclic : Acyclic g) (v w : Id → Value) (before : Solution g v) (after : Solution g w)
    (S : Id → Type 0) (closed : (i j : Id) → S i → Operand (g.node i) j → S j) (inputs : (i : Id) → i < g.count → S i → Input (g.node i) → w i ≡ v i) where
  agree_below : (k : ℕ) (i : Id) → acyclic.rank i < k → i < g.count → S i → w i ≡ v i
  agree_below zero i p b h = absurd (omega arith)
  agree_below (suc k) i p b h =
      same v w (g.node i) i (λ j q. agree_below k j (omega (arith, acyclic.falls i j b q)) (acyclic.inside i j b q) (closed i j h q)) (inputs i b h)
      (before.right i b) (after.right i b)

  agree : (i : Id) → i < g.count → S i → w i ≡ v i
  agree i b h = agree_below (suc (acyclic.rank i)) i (omega arith) b h

-- one solution at most for given inputs
pub unique : (g : Graph) → Acyclic g → (v w : Id → Value) → Solution g v → Solution g w → ((i : Id) → i < g.count → Input (g.node i) → w i ≡ v i)
    → (i : Id) → i < g.count → w i ≡ v i
unique g acyclic v w before after inputs i b = agree g acyclic v w before after (λ j. Unit {0}) (λ j k h q. tt) (λ j l h q. inputs j l q) i b tt

-- the same, of lists of values
pub unique_values : (g : Graph) → Acyclic g → (vs ws : Values) → Sane g vs → Sane g ws → ((i : Id) → i < g.count → Input (g.node i) → value_of ws i ≡ value_of vs i) → ws ≡ vs
unique_values g acyclic vs ws p q inputs =
    ext_get_or 0 ws vs (q.long ∙ sym p.long) (λ i b. unique g acyclic (value_of vs) (value_of ws) p.solution q.solution inputs i (omega (arith, q.long)))

free_operand : (g : Graph) (x i j : Id) → Free g x i → Operand (g.node i) j → Free g x j
free_operand g x i j h p = record {
  other = λ e. h.apart (direct i x (subst (λ (z : Id). Operand (g.node i) z) e p));
  apart = λ d. h.apart (through i j x p d);
}

kept_input : (n : Node) (v w : Id → Value) (i : Id) → Input n → Redone n v w i → w i ≡ v i
kept_input (constant c) v w i h r = absurd h
kept_input (input l) v w i h r = r
kept_input (unary a) v w i h r = absurd h
kept_input (binary o a b) v w i h r = absurd h

right_after : (n : Node) (v w : Id → Value) (i : Id) → ((c : Value) → n ≡ constant c → v i ≡ c) → Fits n (v i) → Redone n v w i → Right n w i
right_after (constant c) v w i f h r = r ∙ f c refl
right_after (input p) v w i f h r = ap (fits p) r ∙ h
right_after (unary a) v w i f h r = r
right_after (binary o a b) v w i f h r = r

redone_below : (n : Node) (v w : Id → Value) (i : Id) → v i < 2 ^ 64 → ((j : Id) → Operand n j → w j < 2 ^ 64) → Redone n v w i → w i < 2 ^ 64
redone_below (constant c) v w i p f r = rw r p
redone_below (input l) v w i p f r = rw r p
redone_below (unary a) v w i p f r = rw r (bit_below (eqb (w a) 0))
redone_below (binary o a b) v w i p f r = rw r (apply_below o (w a) (w b) (f a (inl refl)) (f b (inr refl)))

-- there is a solution for any inputs that fit: every operator worked out again from a list with its constants in place
module _ (P : Play) (acyclic : Acyclic P.graph) (law : Redoes P) (vs : Values) (primed : Primed P.graph vs) where
  below_rank : (k : ℕ) (i : Id) → acyclic.rank i < k → i < P.graph.count → value_of (P.redo vs) i < 2 ^ 64
  below_rank zero i p b = absurd (omega arith)
  below_rank (suc k) i p b =
      redone_below (P.graph.node i) (value_of vs) (value_of (P.redo vs)) i (primed.below i b)
      (λ j q. below_rank k j (omega (arith, acyclic.falls i j b q)) (acyclic.inside i j b q)) (law.redone vs primed.long i b)

  pub redo_sane : Sane P.graph (P.redo vs)
  redo_sane = record {
    long = law.long vs primed.long;
    below = λ i b. below_rank (suc (acyclic.rank i)) i (omega arith) b;
    solution = record {
      right = λ i b. right_after (P.graph.node i) (value_of vs) (value_of (P.redo vs)) i (λ c e. primed.constants i c b e) (primed.inputs i b) (law.redone vs primed.long i b);
    };
  }

  -- and the inputs are those
  pub redo_inputs : (i : Id) → i < P.graph.count → Input (P.graph.node i) → value_of (P.redo vs) i ≡ value_of vs i
  redo_inputs i b h = kept_input (P.graph.node i) (value_of vs) (value_of (P.redo vs)) i h (law.redone vs primed.long i b)

constant_input : {n : Node} {c : Value} → n ≡ constant c → Input n → ⊥
constant_input e h = subst Input e h

right_constant : {n : Node} (v : Id → Value) (i : Id) (c : Value) → n ≡ constant c → Right n v i → v i ≡ c
right_constant v i c e r = subst (λ (m : Node). Right m v i) e r

pub right_fits : (n : Node) (v : Id → Value) (i : Id) → Right n v i → Fits n (v i)
right_fits (constant c) v i r = tt
right_fits (input p) v i r = r
right_fits (unary a) v i r = tt
right_fits (binary o a b) v i r = tt

-- "Reaching an input stores the target there and every operator is recomputed."
module _ (P : Play) (acyclic : Acyclic P.graph) (law : Redoes P) (vs : Values) (sane : Sane P.graph vs) (x : Id) (u : Value)
    (inside : x < P.graph.count) (inp : Input (P.graph.node x)) (fit : Fits (P.graph.node x) u) (small : u < 2 ^ 64) where
  abbrev new : Values
  new = P.redo (set vs x u)

  set_below : (i : Id) → i < P.graph.count → value_of (set vs x u) i < 2 ^ 64
  set_below i b =
      elim (ℕ_discrete i x) [
        | yes z ↦
            let e : value_of (set vs x u) i ≡ u = ap (value_of (set vs x u)) z ∙ get_or-set_same vs x u 0 (omega (arith, sane.long)) in
            omega arith
        | no z ↦
            let e : value_of (set vs x u) i ≡ value_of vs i = get_or-set_other vs x i u 0 z in
            omega (arith, sane.below i b)
      ]

  set_fits : (i : Id) → i < P.graph.count → Fits (P.graph.node i) (value_of (set vs x u) i)
  set_fits i b =
      elim (ℕ_discrete i x) [
        | yes z ↦
            let e : value_of (set vs x u) i ≡ u = ap (value_of (set vs x u)) z ∙ get_or-set_same vs x u 0 (omega (arith, sane.long)) in
            subst (Fits (P.graph.node i)) (sym e) (subst (λ (y : Id). Fits (P.graph.node y) u) (sym z) fit)
        | no z ↦
            let e : value_of (set vs x u) i ≡ value_of vs i = get_or-set_other vs x i u 0 z in
            subst (Fits (P.graph.node i)) (sym e) (right_fits (P.graph.node i) (value_of vs) i (sane.solution.right i b))
      ]

  set_primed : Primed P.graph (set vs x u)
  set_primed = record {
    long = length-set vs x u ∙ sane.long;
    below = set_below;
    constants = λ i c b e.
        get_or-set_other vs x i u 0 (λ z. constant_input e (subst (λ (y : Id). Input (P.graph.node y)) (sym z) inp))
        ∙ right_constant (value_of vs) i c e (sane.solution.right i b);
    inputs = set_fits;
  }

  pub store_sane : Sane P.graph new
  store_sane = redo_sane P acyclic law (set vs x u) set_primed

  pub store_holds : value_of new x ≡ u
  store_holds = redo_inputs P acyclic law (set vs x u) set_primed x inside inp ∙ get_or-set_same vs x u 0 (omega (arith, sane.long))

  pub store_others : (i : Id) → i < P.graph.count → Input (P.graph.node i) → (i ≡ x → ⊥) → value_of new i ≡ value_of vs i
  store_others i b h ne = redo_inputs P acyclic law (set vs x u) set_primed i b h ∙ get_or-set_other vs x i u 0 ne

  pub store_keeps : (i : Id) → i < P.graph.count → Free P.graph x i → value_of new i ≡ value_of vs i
  store_keeps i b h =
      agree P.graph acyclic (value_of vs) (value_of new) sane.solution store_sane.solution (Free P.graph x) (free_operand P.graph x)
      (λ j l f q. store_others j l q f.other) i b h
