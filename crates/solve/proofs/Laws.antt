-- The search that the code makes along the order that was found is the one of the definitions. Assumes nothing.
use mathlib.Core.Path.{◌≡◌, ap, ◌∙◌}
use Prim.Native.Nat.{ℕ}
use mathlib.Core.List.{List}
use lib.ListN.{length}
use Rattle.words.specs.Words.{Words}
use Rattle.symbols.specs.Graph.{Id, Graph, Inside}
use Rattle.symbols.specs.Order.{Arranged}
use Rattle.search.specs.Machine.{Values, search_of}
use Rattle.search.proofs.Alike.{search_alike}
use Rattle.rules.specs.Rules.{Rules}
use Rattle.assign.specs.Settle.{along}
use Rattle.assign.specs.Start.{start_along, start_of}
use Rattle.assign.proofs.Laws.{settle_length, start_any, start_length}
use Rattle.assign.proofs.Along.{along_is, start_along_lem}
use Rattle.monster.specs.Step.{play_of, play_along}

-- in an order in which operands come first, the search is the one over all operator equations
pub searched : (ρ : Rules) (g : Graph) (order : List Id) → Inside g → Arranged g order → (ws : Words) (budget w : ℕ) (vs : Values) → length vs ≡ g.count
    → search_of (play_along ρ g order ws) budget (start_along g order ws vs) w ≡ search_of (play_of ρ g ws) budget (start_of g ws) w
searched ρ g order inside arranged ws budget w vs long =
    ap (λ (us : Values). search_of (play_along ρ g order ws) budget us w) (start_along_lem g order inside arranged ws vs long ∙ start_any g ws vs long)
    ∙ search_alike (play_of ρ g ws) (along g order) (λ us l. settle_length g us) (along_is g order inside arranged) budget (start_of g ws) w (start_length g ws)
