-- Demand 3's premises can be met together, in a second round, and each of them is needed. Assumes nothing.
use Prim.Native.Nat.{ℕ, zero, suc, ◌^◌, ◌<◌}
use mathlib.Core.Path.{◌≡◌, refl, sym, subst}
use mathlib.Core.Logic.{◌↔◌, inl, inr, ⊎_elim}
use mathlib.Core.List.{List, [], ◌∷◌}
use mathlib.Core.Bool.{Bool, true, false, true≢false, ◌&&◌}
use native.Mathlib.Omega.{arith}
use lib.ListN.{get_or}
use lib.Dec.{ltb}
use borrow.Author.Tests.{ltb-true}
use Rattle.words.specs.Words.{Words}
use Rattle.symbols.specs.Graph.{Id, Value, Node, binary, Graph, Operand, Depends, direct, through}
use Rattle.symbols.specs.declared.OperandSide.{OperandSide}
use Rattle.symbols.specs.declared.BVOperator.{BVOperator}
use Rattle.symbols.specs.declared.BVOperator.TheVariants.{Add, Sub, Mul, Divu, Sltu, Remu, Not, Equals, BitwiseAnd}
use Rattle.formula.specs.File.{File, le32, le64, trailer_of, formula_of, record_at}
use Rattle.formula.specs.Graph.{kind_no, graph_of}
use Rattle.search.specs.Machine.{Values, Out}
use Rattle.search.specs.Round.{Taken}
use Rattle.search.specs.Demand.{All, none, more, Free, Fair, Concluded}
use Rattle.existence.specs.Kinds.{FalseYes, at_divu, at_sltu, at_equals, at_not}
use Rattle.rules.specs.One.{one}
use Rattle.solve.specs.Solve.{ended, answer}
use Rattle.lawful.specs.Owed.{false_kinds}
use Rattle.demands.specs.Call.{Lent, Accepted, graph_in}
use Rattle.demands.specs.Cases as cases
use Rattle.demands.specs.Cases.{ones, pair_file, pair_words, pair_first, pair_second, pair_out, quotient_file, quotient_round, truth_file, truth_round, not_file, not_round, twice_file, twice_round, sum_file, sum_round, narrow_file, narrow_words, narrow_round, Missed, Inverses, Honest, PassedBy, TargetFits}
use Rattle.demands.proofs.Numbers.{given_none}
use Rattle.demands.proofs.Whole.{demand_3}
use Rattle.demands.proofs.Cases.{pair_answer, pair_rounds, quotient_answer, quotient_rounds, truth_answer, truth_rounds, not_answer, not_rounds, twice_answer, twice_rounds, sum_answer, sum_rounds, narrow_answer, narrow_rounds}

-- a list of numbers below m
abbrev within : ℕ → List ℕ → Bool
within m [] = true
within m (x ∷ xs) = ltb x m && within m xs

both : (a b : Bool) → (a && b) ≡ true → (a ≡ true) × (b ≡ true)
both true b e = (refl, e)
both false b e = absurd (true≢false (sym e))

below : (m : ℕ) (xs : List ℕ) → 0 < m → within m xs ≡ true → (j : ℕ) → get_or xs j 0 < m
below m [] p h j = p
below m (x ∷ xs) p h zero = ltb-true x m (both (ltb x m) (within m xs) h).0
below m (x ∷ xs) p h (suc j) = below m xs p (both (ltb x m) (within m xs) h).1 j

pub lent : (f : File) (ws : Words) → within 256 f ≡ true → within (2 ^ 64) ws ≡ true → Lent f ws
lent f ws a b = record { bytes = below 256 f (omega arith) a; words = below (2 ^ 64) ws (omega arith) b }

-- what neither is x nor has an operand that is x or depends on it
module _ (g : Graph) (x i : Id) (ne : i ≡ x → ⊥) where
  free_by : ((k : Id) → Operand (g.node i) k → Free g x k) → Free g x i
  free_by f = record { other = ne; apart = go }
    where
      go : Depends g i x → ⊥
      go (direct i' j o) = (f x o).other refl
      go (through i' k j o d) = (f k o).apart d

  free_leaf : ((k : Id) → Operand (g.node i) k → ⊥) → Free g x i
  free_leaf f = free_by (λ k o. absurd (f k o))

  free_binary : (p : BVOperator) (a b : Id) → g.node i ≡ binary p a b → Free g x a → Free g x b → Free g x i
  free_binary p a b e l r = free_by (λ k o. ⊎_elim (λ z. subst (Free g x) (sym z) l) (λ z. subst (Free g x) (sym z) r) (subst (λ (n : Node). Operand n k) e o))

-- where a step can be of a false kind
abbrev Could : BVOperator → Value → Type 0
Could Add t = ⊥
Could Sub t = ⊥
Could Mul t = ⊥
Could Divu t = Unit {0}
Could Sltu t = 1 < t
Could Remu t = ⊥
Could Not t = 1 < t
Could Equals t = 1 < t
Could BitwiseAnd t = ⊥

could : {o : BVOperator} {d : OperandSide} {s t : Value} → FalseYes o d s t → Could o t
could (inl (at_divu a b c e)) = tt
could (inr (at_sltu h y)) = h
could (inr (at_equals h y)) = h
could (inr (at_not h)) = h

-- at Not, the target above 1 is kind (b) and no other is of a false kind, as `false_kinds` has it
pub kind_not : (d : OperandSide) (s t : Value) → FalseYes Not d s t ↔ (1 < t)
kind_not d s t = (could, λ h. inr (at_not h))

add_honest : {d : OperandSide} {s t : Value} → FalseYes Add d s t → ⊥
add_honest h = could h

equals_honest : {d : OperandSide} {s : Value} → FalseYes Equals d s 1 → ⊥
equals_honest h = omega (arith, could h)

four : {A : Taken → Type 0} {a b c d : Taken} → A a → A b → A c → A d → All A (a ∷ b ∷ c ∷ d ∷ [])
four p q r s = more _ _ p (more _ _ q (more _ _ r (more _ _ s none)))

two : {A : Taken → Type 0} {a b : Taken} → A a → A b → All A (a ∷ b ∷ [])
two p q = more _ _ p (more _ _ q none)

one_step : {A : Taken → Type 0} {a : Taken} → A a → All A (a ∷ [])
one_step p = more _ _ p none

-- the second round meets all premises: two Nots, Equals, which passes y + 3 by, and Add
pub pair_lent : Lent pair_file pair_words
pair_lent = lent pair_file pair_words refl refl

constant_free : Free (graph_in pair_file) 0 1
unfolding graph_of record_at formula_of trailer_of kind_no le32 le64
constant_free = free_leaf (graph_in pair_file) 0 1 (λ e. omega arith) (λ k o. o)

input_free : Free (graph_in pair_file) 0 3
unfolding graph_of record_at formula_of trailer_of kind_no le32 le64
input_free = free_leaf (graph_in pair_file) 0 3 (λ e. omega arith) (λ k o. o)

-- y + 3 neither is x nor depends on it
sum_free : Free (graph_in pair_file) 0 4
unfolding graph_of record_at formula_of trailer_of kind_no le32 le64
sum_free = free_binary (graph_in pair_file) 0 4 (λ e. omega arith) Add 3 1 refl input_free constant_free

pub pair_fair : Fair false_kinds (graph_in pair_file) pair_second
unfolding graph_of record_at formula_of trailer_of kind_no le32 le64
pair_fair = record {
  inverses = four tt tt tt tt;
  honest = four add_honest equals_honest (λ h. omega arith) (λ h. omega arith);
  passed = four constant_free sum_free tt tt;
  fits = refl;
}

-- so demand 3 says of it what is computed: solved there, with its values
pub pair_concluded : Concluded (graph_in pair_file) pair_second [] pair_out
unfolding graph_of record_at formula_of trailer_of kind_no le32 le64
pair_concluded = demand_3 pair_file pair_words 8 (ones 8) pair_out pair_lent pair_answer (pair_first ∷ []) pair_second [] pair_rounds tt pair_fair

-- of a call whose answer is known
call : (f : File) (ws : Words) (budget : ℕ) (vs : Values) (o : Out) → answer one f ws budget vs ≡ ended o → Accepted f ws vs
call f ws budget vs o e = ((given_none f ws budget vs o).0 e).0

-- without the first premise: the first round took a consistent value at Equals
pub pair_missed : Missed pair_file pair_words 8 (ones 8) pair_first
unfolding graph_of record_at formula_of trailer_of kind_no le32 le64
pair_missed = record {
  lent = pair_lent;
  call = call pair_file pair_words 8 (ones 8) pair_out pair_answer;
  later = pair_second ∷ [];
  among = pair_rounds;
  input = tt;
  missed = λ e. omega arith;
}

pub inverse_needed : Missed pair_file pair_words 8 (ones 8) pair_first × Honest pair_file pair_first × PassedBy pair_file pair_first × TargetFits pair_file pair_first
unfolding graph_of record_at formula_of trailer_of kind_no le32 le64
inverse_needed = (pair_missed, four add_honest equals_honest (λ h. omega arith) (λ h. omega arith), four constant_free sum_free tt tt, refl)

-- without the second: every binary step took the inverse value, and what is passed by is a constant; one step is of kind (a)
pub quotient_missed : Missed quotient_file cases.zeros 2 (ones 5) quotient_round
unfolding graph_of record_at formula_of trailer_of kind_no le32 le64
quotient_missed = record {
  lent = lent quotient_file cases.zeros refl refl;
  call = call quotient_file cases.zeros 2 (ones 5) _ quotient_answer;
  later = [];
  among = quotient_rounds;
  input = tt;
  missed = λ e. omega arith;
}

pub kind_a_needed : Missed quotient_file cases.zeros 2 (ones 5) quotient_round × Inverses quotient_file quotient_round × PassedBy quotient_file quotient_round × TargetFits quotient_file quotient_round
unfolding graph_of record_at formula_of trailer_of kind_no le32 le64
kind_a_needed = (quotient_missed, two tt tt, two (free_leaf (graph_in quotient_file) 0 1 (λ e. omega arith) (λ k o. o)) (free_leaf (graph_in quotient_file) 0 3 (λ e. omega arith) (λ k o. o)), refl)

-- and of kind (b), at Equals
pub truth_missed : Missed truth_file cases.zeros 2 (ones 5) truth_round
unfolding graph_of record_at formula_of trailer_of kind_no le32 le64
truth_missed = record {
  lent = lent truth_file cases.zeros refl refl;
  call = call truth_file cases.zeros 2 (ones 5) _ truth_answer;
  later = [];
  among = truth_rounds;
  input = tt;
  missed = λ e. omega arith;
}

pub kind_b_needed : Missed truth_file cases.zeros 2 (ones 5) truth_round × Inverses truth_file truth_round × PassedBy truth_file truth_round × TargetFits truth_file truth_round
unfolding graph_of record_at formula_of trailer_of kind_no le32 le64
kind_b_needed = (truth_missed, two tt tt, two (free_leaf (graph_in truth_file) 0 1 (λ e. omega arith) (λ k o. o)) (free_leaf (graph_in truth_file) 0 3 (λ e. omega arith) (λ k o. o)), refl)

-- and of kind (b), at Not
pub not_missed : Missed not_file cases.zeros 2 (ones 4) not_round
unfolding graph_of record_at formula_of trailer_of kind_no le32 le64
not_missed = record {
  lent = lent not_file cases.zeros refl refl;
  call = call not_file cases.zeros 2 (ones 4) _ not_answer;
  later = [];
  among = not_rounds;
  input = tt;
  missed = λ e. omega arith;
}

pub kind_b_needed_at_not : Missed not_file cases.zeros 2 (ones 4) not_round × Inverses not_file not_round × PassedBy not_file not_round × TargetFits not_file not_round
unfolding graph_of record_at formula_of trailer_of kind_no le32 le64
kind_b_needed_at_not = (not_missed, two tt tt, two tt (free_leaf (graph_in not_file) 0 2 (λ e. omega arith) (λ k o. o)), refl)

-- without the third: every binary step took the inverse value, and none is of a false kind; an operand passed by is the input
pub twice_missed : Missed twice_file cases.zeros 2 (ones 4) twice_round
unfolding graph_of record_at formula_of trailer_of kind_no le32 le64
twice_missed = record {
  lent = lent twice_file cases.zeros refl refl;
  call = call twice_file cases.zeros 2 (ones 4) _ twice_answer;
  later = [];
  among = twice_rounds;
  input = tt;
  missed = λ e. omega arith;
}

pub other_needed : Missed twice_file cases.zeros 2 (ones 4) twice_round × Inverses twice_file twice_round × Honest twice_file twice_round × TargetFits twice_file twice_round
unfolding graph_of record_at formula_of trailer_of kind_no le32 le64
other_needed = (twice_missed, two tt tt, two add_honest equals_honest, refl)

-- and an operand passed by depends on it
pub sum_missed : Missed sum_file cases.zeros 2 (ones 6) sum_round
unfolding graph_of record_at formula_of trailer_of kind_no le32 le64
sum_missed = record {
  lent = lent sum_file cases.zeros refl refl;
  call = call sum_file cases.zeros 2 (ones 6) _ sum_answer;
  later = [];
  among = sum_rounds;
  input = tt;
  missed = λ e. omega arith;
}

pub apart_needed : Missed sum_file cases.zeros 2 (ones 6) sum_round × Inverses sum_file sum_round × Honest sum_file sum_round × TargetFits sum_file sum_round
unfolding graph_of record_at formula_of trailer_of kind_no le32 le64
apart_needed = (sum_missed, two tt tt, two add_honest equals_honest, refl)

-- there the operand passed by is not the input itself
pub apart_other : (2 ≡ sum_round.node → ⊥) × Depends (graph_in sum_file) 2 sum_round.node
unfolding graph_of record_at formula_of trailer_of kind_no le32 le64
apart_other = (λ e. omega arith, direct 2 0 (inl refl))

-- without Q-3's: the one step took the inverse value, is of no false kind and passes by a constant; the target does not fit
pub narrow_missed : Missed narrow_file narrow_words 1 (ones 3) narrow_round
unfolding graph_of record_at formula_of trailer_of kind_no le32 le64
narrow_missed = record {
  lent = lent narrow_file narrow_words refl refl;
  call = call narrow_file narrow_words 1 (ones 3) _ narrow_answer;
  later = [];
  among = narrow_rounds;
  input = tt;
  missed = λ e. omega arith;
}

pub fits_needed : Missed narrow_file narrow_words 1 (ones 3) narrow_round × Inverses narrow_file narrow_round × Honest narrow_file narrow_round × PassedBy narrow_file narrow_round
unfolding graph_of record_at formula_of trailer_of kind_no le32 le64
fits_needed = (narrow_missed, one_step tt, one_step equals_honest, one_step (free_leaf (graph_in narrow_file) 0 1 (λ e. omega arith) (λ k o. o)))
