-- The false kinds of edition one, as the search asks for them; and draws that go forward, whatever the values. Assumes nothing.
use Rattle.std.specs.Prelude.{◌<◌, ◌≡◌, ◌++◌, Some}
use Rattle.words.specs.Words.{Words, Place}
use Rattle.words.specs.declared.WordSource.{WordSource}
use Rattle.symbols.specs.Graph.{Value}
use Rattle.symbols.specs.declared.OperandSide.{OperandSide}
use Rattle.symbols.specs.declared.BVOperator.{BVOperator}
use Rattle.search.specs.Demand.{FalseKinds}
use Rattle.existence.specs.Kinds.{FalseYes}
use Rattle.rules.specs.Rules.{Rules}
use Rattle.promises.specs.Keeps.{Rule}
use Rattle.promises.specs.Choice.{Onward}

-- "Kinds (a) and (b) are the two false kinds": (b) "t > 1 at Sltu or Equals where the table says yes, and at Not"
abbrev pub false_kinds : FalseKinds
false_kinds = record { at_binary = FalseYes; at_not = λ t. 1 < t }

-- a rule's answer takes words forward and is the same on every longer list
pub record Steady (f : Rule) : Type 0 where
  pub moves : (ws : Words) (n : Place) (v : Value) (q : WordSource) → f ws n ≡ Some (v, q) → Onward ws n q.at
  pub longer : (ws us : Words) (n : Place) (v : Value) (q : WordSource) → f ws n ≡ Some (v, q) → f (ws ++ us) n ≡ Some (v, q)

pub record SteadyRules (ρ : Rules) : Type 0 where
  pub inverses : (o : BVOperator) (d : OperandSide) (s t : Value) → Steady (ρ.inverse o d s t)
  pub consistents : (o : BVOperator) (d : OperandSide) (t : Value) → Steady (ρ.consistent o d t)
