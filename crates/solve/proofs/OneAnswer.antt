-- "For every input a public function has one result and one state of the lent values, refusals counted": the map from the code's
-- answer and the values to the definition's result is injective. Assumes nothing.
use Rattle.std.specs.Prelude.{Result, Ok, Err}
use Prim.Native.Nat.{ℕ}
use mathlib.Core.Path.{◌≡◌, refl, sym, ap, ◌∙◌}
use Rattle.words.specs.Words.{Words}
use Rattle.symbols.specs.declared.Refusal.{Refusal}
use Rattle.symbols.proofs.Numbers.{refusal_of, told}
use Rattle.formula.specs.File.{File}
use Rattle.search.specs.Machine.{Values}
use Rattle.rules.specs.Rules.{Rules}
use Rattle.turns.specs.declared.Outcome.{Outcome}
use Rattle.turns.proofs.OneOutcome.{outcome_from, outcome_told}
use Rattle.solve.specs.Solve as call
use Rattle.solve.specs.Solve.{ended, refused, answer, result_of}

-- read back
abbrev pub answer_from : call.Result → Result Outcome Refusal
answer_from (ended o) = Ok (outcome_from o)
answer_from (refused k is vs) = Err (refusal_of k is)

abbrev pub values_from : call.Result → Values
values_from (ended o) = o.vals
values_from (refused k is vs) = vs

answer_told : (a : Result Outcome Refusal) (vs : Values) → answer_from (result_of a vs) ≡ a
answer_told (Ok o) vs = ap Ok (outcome_told o vs)
answer_told (Err r) vs = ap Err (told r)

values_told : (a : Result Outcome Refusal) (vs : Values) → values_from (result_of a vs) ≡ vs
values_told (Ok o) vs = refl
values_told (Err r) vs = refl

pub result_injective : (a b : Result Outcome Refusal) (vs us : Values) → result_of a vs ≡ result_of b us → (a ≡ b) × (vs ≡ us)
result_injective a b vs us e =
    (sym (answer_told a vs) ∙ ap answer_from e ∙ answer_told b us, sym (values_told a vs) ∙ ap values_from e ∙ values_told b us)

-- two permitted answers coincide, and so do the values that they leave
pub one_answer : (ρ : Rules) (f : File) (ws : Words) (budget : ℕ) (entry : Values) (a b : Result Outcome Refusal) (vs us : Values)
    → result_of a vs ≡ answer ρ f ws budget entry → result_of b us ≡ answer ρ f ws budget entry → (a ≡ b) × (vs ≡ us)
one_answer ρ f ws budget entry a b vs us p q = result_injective a b vs us (p ∙ sym q)
