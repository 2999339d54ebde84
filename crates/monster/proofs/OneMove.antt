-- One answer for every input: the maps from the code's answers to the definitions' are injective. Assumes nothing.
use mathlib.Core.Path.{◌≡◌, refl, sym, ap, ◌∙◌}
use Rattle.std.specs.Prelude.{Option, Some, None, Result, Ok, Err}
use Rattle.words.specs.Words.{from}
use Rattle.words.specs.declared.WordSource.{WordSource}
use Rattle.symbols.specs.declared.OperandSide.{OperandSide}
use Rattle.search.specs.Machine as machine
use Rattle.search.specs.Machine.{by_not, inverse, consistent, Step, to, dry}
use Rattle.values.specs.declared.RanDry.{RanDry}
use Rattle.monster.specs.declared.Walk.{Walk}
use Rattle.monster.specs.declared.Choice.{Choice}
use Rattle.monster.specs.declared.Choice.TheVariants as choice
use Rattle.monster.specs.Step.{Way, way, no_way, way_of, choice_of, step_of}

-- read back
unfoldable pub selected_from : Way → Option (OperandSide × WordSource)
selected_from (way d n) = Some (d, from n)
selected_from no_way = None

unfoldable pub choice_from : machine.Choice → Choice
choice_from by_not = choice.Not
choice_from (inverse d) = choice.Inverse d
choice_from (consistent d) = choice.Consistent d

unfoldable pub move_from : Step → Result (Walk × Choice) RanDry
unfolding choice_from
move_from (to x u n c) = Ok (record { node = record { 0 = x }; target = record { 0 = u }; source = from n }, choice_from c)
move_from (dry n) = Err record { source = from n }

way_told : (p : Option (OperandSide × WordSource)) → selected_from (way_of p) ≡ p
unfolding selected_from
way_told (Some (d, s)) = refl
way_told None = refl

choice_told : (c : Choice) → choice_from (choice_of c) ≡ c
unfolding choice_from
choice_told choice.Not = refl
choice_told (choice.Inverse d) = refl
choice_told (choice.Consistent d) = refl

move_told : (p : Result (Walk × Choice) RanDry) → move_from (step_of p) ≡ p
unfolding move_from
move_told (Ok (w, c)) = ap (λ (x : Choice). Ok (w, x)) (choice_told c)
move_told (Err e) = refl

pub way_injective : (p q : Option (OperandSide × WordSource)) → way_of p ≡ way_of q → p ≡ q
way_injective p q e = sym (way_told p) ∙ ap selected_from e ∙ way_told q

pub step_injective : (p q : Result (Walk × Choice) RanDry) → step_of p ≡ step_of q → p ≡ q
step_injective p q e = sym (move_told p) ∙ ap move_from e ∙ move_told q
