-- Document 01, "The program": its graph, read by the definitions. Assumes nothing.
use Prim.Native.Nat.{ℕ}
use mathlib.Core.Path.{◌≡◌, refl}
use mathlib.Core.List.{List, [], ◌∷◌, ◌++◌}
use Rattle.laws.specs.Rows.{first}
use Rattle.symbols.specs.Graph.{constant, input, binary}
use Rattle.symbols.specs.Reaching.{reaches_below, reaches}
use Rattle.symbols.specs.declared.BVOperator.TheVariants.{Add, Equals}
use Rattle.formula.specs.File.{File, le32, le64, zeros, trailer_of, formula_of, record_at}
use Rattle.formula.specs.Graph.{kind_no, graph_of}
use Rattle.checks.specs.Refusals.{head_rows, rows_of, record_rows, cycle_rows, root_rows, body_rows, checks, accepted, refused, verdict}
use Rattle.formula.specs.declared.Formula.{Formula}

-- sixteen bytes: four small numbers, little endian
abbrev sixteen : ℕ → ℕ → ℕ → ℕ → List ℕ → List ℕ
sixteen a b c d rest = a ∷ 0 ∷ 0 ∷ 0 ∷ b ∷ 0 ∷ 0 ∷ 0 ∷ c ∷ 0 ∷ 0 ∷ 0 ∷ d ∷ 0 ∷ 0 ∷ 0 ∷ rest

-- "0 Input label 40; 1 Constant 3; 2 Add(0,1); 3 Constant 10; 4 Equals(2,3); root 4"; the width byte of node 0 and the second
-- operand of node 2 as given
abbrev filed : ℕ → ℕ → File
filed w b = sixteen 1 w 40 0 (sixteen 0 0 3 0 (sixteen 2 0 b 0 (sixteen 0 0 10 0 (sixteen 9 2 3 0 (sixteen 80 4 1 0 [])))))

abbrev written : ℕ → List ℕ → File
written b note = note ++ filed 0 b

abbrev there : ℕ → Formula
there n = record { first = n; count = 5; root = record { 0 = 4 } }

pub example_accepted : verdict (written 1 []) ≡ accepted (there 0)
unfolding verdict checks head_rows body_rows record_rows rows_of cycle_rows root_rows reaches reaches_below formula_of trailer_of record_at graph_of kind_no le32 le64 zeros first
example_accepted = refl

-- the same after a note of three bytes
pub example_noted : verdict (written 1 (7 ∷ 8 ∷ 9 ∷ [])) ≡ accepted (there 3)
unfolding verdict checks head_rows body_rows record_rows rows_of cycle_rows root_rows reaches reaches_below formula_of trailer_of record_at graph_of kind_no le32 le64 zeros first
example_noted = refl

-- Q-1: an operand with a higher id
pub example_any_order : verdict (written 3 []) ≡ accepted (there 0)
unfolding verdict checks head_rows body_rows record_rows rows_of cycle_rows root_rows reaches reaches_below formula_of trailer_of record_at graph_of kind_no le32 le64 zeros first
example_any_order = refl

-- "5 now means an operand id not below n"
pub example_outside : verdict (written 5 []) ≡ refused 5 (2 ∷ [])
unfolding verdict checks head_rows body_rows record_rows rows_of cycle_rows root_rows reaches reaches_below formula_of trailer_of record_at graph_of kind_no le32 le64 zeros first
example_outside = refl

-- node 2 as its own operand
pub example_own : verdict (written 2 []) ≡ refused 13 (2 ∷ [])
unfolding verdict checks head_rows body_rows record_rows rows_of cycle_rows root_rows reaches reaches_below formula_of trailer_of record_at graph_of kind_no le32 le64 zeros first
example_own = refl

-- nodes 2 and 4 as each other's: "the lowest id that reaches itself"
pub example_lowest : verdict (written 4 []) ≡ refused 13 (2 ∷ [])
unfolding verdict checks head_rows body_rows record_rows rows_of cycle_rows root_rows reaches reaches_below formula_of trailer_of record_at graph_of kind_no le32 le64 zeros first
example_lowest = refl

-- Q-3: byte 4 of an input is its width, up to 64
pub example_widest : verdict (filed 64 1) ≡ accepted (there 0)
unfolding verdict checks head_rows body_rows record_rows rows_of cycle_rows root_rows reaches reaches_below formula_of trailer_of record_at graph_of kind_no le32 le64 zeros first
example_widest = refl

-- "4 also for a width above 64"
pub example_too_wide : verdict (filed 65 1) ≡ refused 4 (0 ∷ [])
unfolding verdict checks head_rows body_rows record_rows rows_of cycle_rows root_rows reaches reaches_below formula_of trailer_of record_at graph_of kind_no le32 le64 zeros first
example_too_wide = refl

pub example_nodes : ((graph_of (written 1 []) (there 0)).node 0 ≡ input record { label = 40; width = 0 }) × ((graph_of (written 1 []) (there 0)).node 1 ≡ constant 3)
    × ((graph_of (written 1 []) (there 0)).node 2 ≡ binary Add 0 1) × ((graph_of (written 1 []) (there 0)).node 4 ≡ binary Equals 2 3)
unfolding graph_of record_at kind_no le32 le64
example_nodes = (refl, refl, refl, refl)

pub example_widths : ((graph_of (filed 3 1) (there 0)).node 0 ≡ input record { label = 40; width = 3 }) × ((graph_of (filed 64 1) (there 0)).node 0 ≡ input record { label = 40; width = 64 })
unfolding graph_of record_at kind_no le32 le64
example_widths = (refl, refl)
