-- Q-3: "Byte 4 of an input record now says its width in bits, 1 to 64, with 0 read as 64". Assumes nothing.
use Rattle.std.specs.Prelude.{ℕ, ◌^◌, Bool, ltb, eqb}
use Rattle.laws.specs.Pick.{pick}
use Rattle.symbols.specs.Graph.{Value}
use Rattle.symbols.specs.declared.Port.{Port}

abbrev pub bits : Port → ℕ
bits p = pick (eqb p.width 0) 64 p.width

-- "2^width"
abbrev pub room : Port → ℕ
room p = 2 ^ bits p

-- a value of "2^width or more" does not fit
abbrev pub fits : Port → Value → Bool
fits p v = ltb v (room p)
