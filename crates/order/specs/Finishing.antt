-- What a walk lists, when all that is open now is done. Assumes nothing.
use Rattle.std.specs.Prelude.{ℕ, zero, suc, ◌≡◌, Option, Some, None, List, [], ◌∷◌, get_or, take}
use Rattle.symbols.specs.Graph.{Graph}
use Rattle.symbols.specs.Order.{Acyclic}
use Rattle.visits.specs.Walk.{Ids, finish}
use Rattle.order.specs.declared.walk.Walk.{Walk}

-- the open nodes, from the top of the stack
unfoldable pub open_of : List ℕ → ℕ → Ids
open_of stack zero = []
open_of stack (suc d) = get_or stack d 0 ∷ open_of stack d

unfoldable pub ahead : Graph → List ℕ → List ℕ → Walk → Ids
ahead g order stack w = finish g (open_of stack w.depth) (take w.done order)

-- a turn after which the same is ahead
abbrev pub Steady : Graph → Ids → List ℕ → List ℕ → Option Walk → Type 0
Steady g l order stack (Some w) = Acyclic g → ahead g order stack w ≡ l
Steady g l order stack None = Unit {0}
