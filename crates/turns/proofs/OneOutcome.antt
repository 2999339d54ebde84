-- One answer for every input: the map from the code's result and the values to the machine's is injective. Assumes nothing.
use mathlib.Core.Path.{◌≡◌, refl, sym, ap, ◌∙◌}
use Rattle.search.specs.Machine as machine
use Rattle.search.specs.Machine.{Values, solved, spent, ran_dry, Out}
use Rattle.turns.specs.declared.End.{End}
use Rattle.turns.specs.declared.End.TheVariants as end
use Rattle.turns.specs.declared.Outcome.{Outcome}
use Rattle.turns.specs.Turn.{end_of, out_of}

-- read back
unfoldable pub end_from : machine.End → End
end_from solved = end.Solved
end_from spent = end.Spent
end_from ran_dry = end.Dry

end_told : (e : End) → end_from (end_of e) ≡ e
unfolding end_from
end_told end.Solved = refl
end_told end.Spent = refl
end_told end.Dry = refl

abbrev pub outcome_from : Out → Outcome
outcome_from o = record { end = end_from o.end; rounds = o.rounds; lost = o.lost; steps = o.steps; words = o.words }

pub outcome_told : (o : Outcome) (vs : Values) → outcome_from (out_of o vs) ≡ o
outcome_told o vs = ap (λ (e : End). record { end = e; rounds = o.rounds; lost = o.lost; steps = o.steps; words = o.words }) (end_told o.end)

pub outcome_injective : (o p : Outcome) (vs us : Values) → out_of o vs ≡ out_of p us → (o ≡ p) × (vs ≡ us)
outcome_injective o p vs us e = (sym (outcome_told o vs) ∙ ap outcome_from e ∙ outcome_told p us, ap (λ (x : Out). x.vals) e)
