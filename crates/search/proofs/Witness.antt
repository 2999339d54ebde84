-- Demand 3's premises can be met together, in a second round, and each of them is needed: four small graphs, by computation.
-- Assumes nothing.
use Prim.Native.Nat.{ℕ, zero, suc, ◌^◌, ◌<◌}
use mathlib.Core.Path.{◌≡◌, refl, sym, ap, subst}
use mathlib.Core.Logic.{inl, inr}
use mathlib.Core.List.{List, [], ◌∷◌}
use mathlib.Core.Bool.{true, true≢false, ◌&&◌}
use native.Mathlib.Omega.{arith}
use lib.ListN.{length}
use lib.Dec.{ltb}
use borrow.Author.Tests.{ltb-true, eqb-true}
use Rattle.words.specs.Words.{Words}
use Rattle.symbols.specs.Graph.{Id, Value, Node, constant, input, unary, binary, Graph, Operand, Depends, direct, through}
use Rattle.symbols.specs.declared.BVOperator.{BVOperator}
use Rattle.search.specs.Machine.{Values, value_of, solved, spent, ran_dry, round, reached, stepped, turn_of, run_from, from_root, search_of}
use Rattle.search.specs.Round.{Taken, NotOne, rounds_from, root_rounds, rounds_of}
use Rattle.search.specs.Solution.{Fits, Sane, Primed}
use Rattle.search.specs.Demand.{All, none, more, TookInverse, NotFalse, Free, PassedFree, Fair, Concluded}
use Rattle.search.specs.Lawful.{Lawful}
use Rattle.search.proofs.Toy.{kinds, node_in, pass_from, toy, fits, primes, whole, pair_nodes, pair, pair_values, pair_first, pair_second, fixed_nodes, twice_nodes, twice, twice_round, unreal_nodes, unreal, unreal_round, narrow_nodes, narrow, narrow_round}
use Rattle.search.proofs.Unique.{redo_sane}
use Rattle.search.proofs.Results.{demand_3}
use Rattle.search.proofs.ToyLaws.{and_true, toy_lawful}

primes_head : (n : Node) (ns : List Node) (v : Value) (vs : Values) → primes (n ∷ ns) (v ∷ vs) ≡ true → (v < 2 ^ 64) × (fits n v ≡ true) × (primes ns vs ≡ true)
primes_head n ns v vs h =
    let p = and_true (ltb v (2 ^ 64)) (fits n v && primes ns vs) h in
    let q = and_true (fits n v) (primes ns vs) p.1 in
    (ltb-true v (2 ^ 64) p.0, q.0, q.1)

primes_long : (ns : List Node) (vs : Values) → primes ns vs ≡ true → length vs ≡ length ns
primes_long [] [] h = refl
primes_long [] (v ∷ vs) h = absurd (true≢false (sym h))
primes_long (n ∷ ns) [] h = absurd (true≢false (sym h))
primes_long (n ∷ ns) (v ∷ vs) h = ap suc (primes_long ns vs (primes_head n ns v vs h).2)

primes_below : (ns : List Node) (vs : Values) → primes ns vs ≡ true → (i : Id) → i < length ns → value_of vs i < 2 ^ 64
primes_below [] vs h i b = absurd (omega arith)
primes_below (n ∷ ns) [] h i b = absurd (true≢false (sym h))
primes_below (n ∷ ns) (v ∷ vs) h zero b = (primes_head n ns v vs h).0
primes_below (n ∷ ns) (v ∷ vs) h (suc i) b = primes_below ns vs (primes_head n ns v vs h).2 i (omega arith)

fits_constant : (n : Node) (v c : Value) → fits n v ≡ true → n ≡ constant c → v ≡ c
fits_constant n v c h e = eqb-true v c (subst (λ (m : Node). fits m v ≡ true) e h)

primes_constants : (ns : List Node) (vs : Values) → primes ns vs ≡ true → (i : Id) (c : Value) → i < length ns → node_in ns i ≡ constant c → value_of vs i ≡ c
primes_constants [] vs h i c b e = absurd (omega arith)
primes_constants (n ∷ ns) [] h i c b e = absurd (true≢false (sym h))
primes_constants (n ∷ ns) (v ∷ vs) h zero c b e = fits_constant n v c (primes_head n ns v vs h).1 e
primes_constants (n ∷ ns) (v ∷ vs) h (suc i) c b e = primes_constants ns vs (primes_head n ns v vs h).2 i c (omega arith) e

fits_input : (n : Node) (v : Value) → fits n v ≡ true → Fits n v
fits_input (constant c) v h = tt
fits_input (input p) v h = h
fits_input (unary a) v h = tt
fits_input (binary o a b) v h = tt

primes_inputs : (ns : List Node) (vs : Values) → primes ns vs ≡ true → (i : Id) → i < length ns → Fits (node_in ns i) (value_of vs i)
primes_inputs [] vs h i b = absurd (omega arith)
primes_inputs (n ∷ ns) [] h i b = absurd (true≢false (sym h))
primes_inputs (n ∷ ns) (v ∷ vs) h zero b = fits_input n v (primes_head n ns v vs h).1
primes_inputs (n ∷ ns) (v ∷ vs) h (suc i) b = primes_inputs ns vs (primes_head n ns v vs h).2 i (omega arith)

primed : (ns : List Node) (root : Id) (ws : Words) (vs : Values) → primes ns vs ≡ true → Primed (toy ns root ws).graph vs
primed ns root ws vs h = record {
  long = primes_long ns vs h;
  below = primes_below ns vs h;
  constants = λ i c b e. primes_constants ns vs h i c b e;
  inputs = λ i b. primes_inputs ns vs h i b;
}

-- values that stay the same when every operator is worked out again
pub start_sane : (ns : List Node) (root : Id) (ws : Words) → Lawful kinds (toy ns root ws) → (vs : Values) → primes ns vs ≡ true → pass_from ns 0 vs ≡ vs → Sane (toy ns root ws).graph vs
start_sane ns root ws law vs h e =
    subst (Sane (toy ns root ws).graph) e (redo_sane (toy ns root ws) law.acyclic law.redoes vs (primed ns root ws vs h))

not_constant : {a : Id} {c : Value} → unary a ≡ constant c → ⊥
not_constant e = let z : ◌≡◌ {A = ℕ} 0 1 = cc in omega arith

pub pair_lawful : Lawful kinds pair
pair_lawful = toy_lawful pair_nodes 7 (9 ∷ 0 ∷ 0 ∷ 0 ∷ []) refl (omega arith) (λ c e. absurd (not_constant e))

pub pair_sane : Sane pair.graph (pair_values 0 5)
unfolding pass_from
pair_sane = start_sane pair_nodes 7 (9 ∷ 0 ∷ 0 ∷ 0 ∷ []) pair_lawful (pair_values 0 5) refl refl

pub pair_rounds : rounds_of pair 8 (pair_values 0 5) 0 ≡ pair_first ∷ pair_second ∷ []
unfolding rounds_of root_rounds rounds_from reached round pass_from
pair_rounds = refl

pub pair_solved : search_of pair 8 (pair_values 0 5) 0 ≡ record { end = solved; rounds = 2; lost = 0; steps = 8; words = 4; vals = pair_values 5 5 }
unfolding search_of from_root run_from turn_of stepped reached round pass_from
pair_solved = refl

-- what depends on x does so by an operand
not_depends : (g : Graph) (i x : Id) → (Operand (g.node i) x → ⊥) → ((k : Id) → Operand (g.node i) k → Depends g k x → ⊥) → Depends g i x → ⊥
not_depends g i x f h (direct i' j o) = f o
not_depends g i x f h (through i' k j o d) = h k o d

-- a leaf depends on nothing
leaf_free : (g : Graph) (i x : Id) → ((k : Id) → Operand (g.node i) k → ⊥) → (i ≡ x → ⊥) → Free g x i
leaf_free g i x f ne = record { other = ne; apart = not_depends g i x (f x) (λ k o d. f k o) }

-- y + 3 does not depend on x
pair_passed : Free pair.graph 0 4
pair_passed = record { other = λ e. omega arith; apart = not_depends pair.graph 4 0 direct_not (λ k o d. through_not k o d) }
  where
    direct_not : Operand (pair.graph.node 4) 0 → ⊥
    direct_not (inl e) = omega arith
    direct_not (inr e) = omega arith

    through_not : (k : Id) → Operand (pair.graph.node 4) k → Depends pair.graph k 0 → ⊥
    through_not k (inl e) d = (leaf_free pair.graph 3 0 (λ j o. o) (λ z. omega arith)).apart (subst (λ (j : Id). Depends pair.graph j 0) e d)
    through_not k (inr e) d = (leaf_free pair.graph 1 0 (λ j o. o) (λ z. omega arith)).apart (subst (λ (j : Id). Depends pair.graph j 0) e d)

constant_passed : Free pair.graph 0 1
constant_passed = leaf_free pair.graph 1 0 (λ j o. o) (λ z. omega arith)

four : {A : Taken → Type 0} {a b c d : Taken} → A a → A b → A c → A d → All A (a ∷ b ∷ c ∷ d ∷ [])
four p q r s = more _ _ p (more _ _ q (more _ _ r (more _ _ s none)))

two : {A : Taken → Type 0} {a b : Taken} → A a → A b → All A (a ∷ b ∷ [])
two p q = more _ _ p (more _ _ q none)

one : {A : Taken → Type 0} {a : Taken} → A a → All A (a ∷ [])
one p = more _ _ p none

-- the second round meets the premises
pub pair_fair : Fair kinds pair.graph pair_second
pair_fair = record {
  inverses = four tt tt tt tt;
  honest = four (λ h. h) (λ h. omega arith) (λ h. omega arith) (λ h. omega arith);
  passed = four constant_passed pair_passed tt tt;
  fits = refl;
}

-- and demand 3 says of it what is computed above
pub pair_concluded : Concluded pair.graph pair_second [] (search_of pair 8 (pair_values 0 5) 0)
pair_concluded = demand_3 pair_lawful 8 (pair_values 0 5) 0 pair_sane (pair_first ∷ []) pair_second [] pair_rounds tt pair_fair

-- without the first premise: the first round took one consistent value, is of no false kind, and passes by nothing that depends
-- on its input
pub pair_missed : All (λ s. NotFalse kinds (pair.graph.node s.node) (value_of pair_first.before) s) pair_first.steps
    × All (λ s. PassedFree pair.graph (pair.graph.node s.node) 0 s) pair_first.steps × NotOne pair.graph pair_first
pair_missed = (four (λ h. h) (λ h. omega arith) (λ h. omega arith) (λ h. omega arith), four constant_passed pair_passed tt tt, λ e. omega arith)

-- without the second: both steps took the inverse value, and what is passed by is a constant; one step is of kind (b)
not_binary : {c : Value} {o : BVOperator} {a b : Id} → binary o a b ≡ constant c → ⊥
not_binary e = let z : ◌≡◌ {A = ℕ} 0 1 = cc in omega arith

pub unreal_lawful : Lawful kinds unreal
unreal_lawful = toy_lawful unreal_nodes 4 (0 ∷ 0 ∷ []) refl (omega arith) (λ c e. absurd (not_binary e))

pub unreal_sane : Sane unreal.graph unreal_round.before
unfolding pass_from
unreal_sane = start_sane unreal_nodes 4 (0 ∷ 0 ∷ []) unreal_lawful unreal_round.before refl refl

pub unreal_rounds : rounds_of unreal 2 unreal_round.before 0 ≡ unreal_round ∷ []
unfolding rounds_of root_rounds rounds_from reached round pass_from
unreal_rounds = refl

pub unreal_missed : All (λ s. TookInverse (unreal.graph.node s.node) s) unreal_round.steps
    × All (λ s. PassedFree unreal.graph (unreal.graph.node s.node) 0 s) unreal_round.steps × NotOne unreal.graph unreal_round
unreal_missed = (two tt tt, two (leaf_free unreal.graph 1 0 (λ j o. o) (λ z. omega arith)) (leaf_free unreal.graph 3 0 (λ j o. o) (λ z. omega arith)), λ e. omega arith)

-- without the third: both steps took the inverse value, none is of a false kind; one passes by the input
pub twice_lawful : Lawful kinds twice
twice_lawful = toy_lawful twice_nodes 3 (0 ∷ 0 ∷ []) refl (omega arith) (λ c e. absurd (not_binary e))

pub twice_sane : Sane twice.graph twice_round.before
unfolding pass_from
twice_sane = start_sane twice_nodes 3 (0 ∷ 0 ∷ []) twice_lawful twice_round.before refl refl

pub twice_rounds : rounds_of twice 2 twice_round.before 0 ≡ twice_round ∷ []
unfolding rounds_of root_rounds rounds_from reached round pass_from
twice_rounds = refl

pub twice_missed : All (λ s. TookInverse (twice.graph.node s.node) s) twice_round.steps
    × All (λ s. NotFalse kinds (twice.graph.node s.node) (value_of twice_round.before) s) twice_round.steps × NotOne twice.graph twice_round
twice_missed = (two tt tt, two (λ h. h) (λ h. omega arith), λ e. omega arith)

-- without the target that fits: the one step took the inverse value, is of no false kind, and passes by a constant
pub narrow_lawful : Lawful kinds narrow
narrow_lawful = toy_lawful narrow_nodes 2 (0 ∷ []) refl (omega arith) (λ c e. absurd (not_binary e))

pub narrow_sane : Sane narrow.graph narrow_round.before
unfolding pass_from
narrow_sane = start_sane narrow_nodes 2 (0 ∷ []) narrow_lawful narrow_round.before refl refl

pub narrow_rounds : rounds_of narrow 1 narrow_round.before 0 ≡ narrow_round ∷ []
unfolding rounds_of root_rounds rounds_from reached round pass_from
narrow_rounds = refl

pub narrow_missed : All (λ s. TookInverse (narrow.graph.node s.node) s) narrow_round.steps
    × All (λ s. NotFalse kinds (narrow.graph.node s.node) (value_of narrow_round.before) s) narrow_round.steps
    × All (λ s. PassedFree narrow.graph (narrow.graph.node s.node) 0 s) narrow_round.steps × NotOne narrow.graph narrow_round
narrow_missed =
    (one tt, one (λ h. omega arith), one (leaf_free narrow.graph 1 0 (λ j o. o) (λ z. omega arith)), λ e. omega arith)

-- the round counts among the lost ones
pub narrow_lost : search_of narrow 1 narrow_round.before 0 ≡ record { end = spent; rounds = 1; lost = 1; steps = 1; words = 1; vals = 7 ∷ 10 ∷ 0 ∷ [] }
unfolding search_of from_root run_from turn_of stepped reached round pass_from
narrow_lost = refl

-- a search that only loses rounds is spent at its budget, or runs dry where its words end
pub lost_spent : search_of (toy fixed_nodes 2 (0 ∷ 0 ∷ 0 ∷ 0 ∷ [])) 3 (3 ∷ 4 ∷ 0 ∷ []) 0 ≡ record { end = spent; rounds = 3; lost = 3; steps = 3; words = 3; vals = 3 ∷ 4 ∷ 0 ∷ [] }
unfolding search_of from_root run_from turn_of stepped reached round pass_from
lost_spent = refl

pub lost_dry : search_of (toy fixed_nodes 2 (0 ∷ 0 ∷ [])) 3 (3 ∷ 4 ∷ 0 ∷ []) 0 ≡ record { end = ran_dry; rounds = 2; lost = 2; steps = 2; words = 2; vals = 3 ∷ 4 ∷ 0 ∷ [] }
unfolding search_of from_root run_from turn_of stepped reached round pass_from
lost_dry = refl

-- "A root input not yet 1 needs one round and no step."
pub root_alone : search_of (toy (input (whole 40) ∷ []) 0 []) 0 (7 ∷ []) 0 ≡ record { end = solved; rounds = 1; lost = 0; steps = 0; words = 0; vals = 1 ∷ [] }
unfolding search_of from_root pass_from
root_alone = refl
