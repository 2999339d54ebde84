-- Document 01, "Numbers of refusal", 13 of Q-1 and 14 of Q-2: the number and the values of each case. Assumes nothing.
use Rattle.std.specs.Prelude.{ℕ, List, [], ◌∷◌, Option, Some, None}
use Rattle.symbols.specs.declared.SymbolId.{SymbolId}
use Rattle.symbols.specs.declared.Refusal.{Refusal}
use Rattle.symbols.specs.declared.Refusal.TheVariants.{Size, Trailer, Span, Record, Order, Root, FixedRoot, Room, Words, Arity, NoInverse, Dry, Cycle, Short}

abbrev pub number_of : Refusal → ℕ
number_of Size = 1
number_of Trailer = 2
number_of Span = 3
number_of (Record i) = 4
number_of (Order i) = 5
number_of Root = 6
number_of FixedRoot = 7
number_of Room = 8
number_of Words = 9
number_of Arity = 10
number_of NoInverse = 11
number_of Dry = 12
number_of (Cycle i) = 13
number_of Short = 14

-- "A refusal returns its number (4 and 5 the id)"; Q-1: "13 Cycle(id) … printed like 5"
abbrev pub values_of : Refusal → List ℕ
values_of Size = []
values_of Trailer = []
values_of Span = []
values_of (Record i) = i.0 ∷ []
values_of (Order i) = i.0 ∷ []
values_of Root = []
values_of FixedRoot = []
values_of Room = []
values_of Words = []
values_of Arity = []
values_of NoInverse = []
values_of Dry = []
values_of (Cycle i) = i.0 ∷ []
values_of Short = []

-- the values that the code's answer names
abbrev pub named_of : Option SymbolId → List ℕ
named_of None = []
named_of (Some i) = i.0 ∷ []
