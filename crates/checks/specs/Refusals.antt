-- Document 01, "Numbers of refusal", 1 to 7, with 13 of Q-1 and the width of Q-3: the checks of a graph file, in the papers' order. Assumes nothing.
use Rattle.std.specs.Prelude.{ℕ, zero, suc, ◌+◌, ◌-◌, ◌%◌, List, [], ◌∷◌, ◌++◌, Bool, true, false, not, ◌&&◌, ◌||◌, length, ltb, leb, eqb, Option, Some, None, Result, Ok, Err}
use Rattle.laws.specs.Rows.{Row, row, first}
use Rattle.symbols.specs.Graph.{Id, Node, constant, input, unary, binary, Graph}
use Rattle.symbols.specs.Reaching.{reaches}
use Rattle.symbols.specs.Refusals.{number_of, values_of}
use Rattle.symbols.specs.declared.Refusal.{Refusal}
use Rattle.symbols.specs.declared.Refusal.TheVariants.{Size, Trailer, Span, Record, Order, Root, FixedRoot, Cycle}
use Rattle.formula.specs.File as file
use Rattle.formula.specs.File.{File, record_at, distance_of, version_of, last_of, formula_of, zeros}
use Rattle.formula.specs.Graph.{kind_of, node_of, graph_of}
use Rattle.formula.specs.declared.Formula.{Formula}
use Rattle.formula.specs.declared.Kind.{Kind}
use Rattle.formula.specs.declared.Kind.TheVariants.{Constant, Input, Unary, Binary}

-- "file under 16 or over 65,536 bytes"
abbrev pub bad_size : File → Bool
bad_size f = ltb (length f) 16 || ltb 65536 (length f)

-- "version not 1, or last field not zero"
abbrev pub bad_trailer : File → Bool
bad_trailer f = not (eqb (version_of f) 1) || not (eqb (last_of f) 0)

-- "distance 0, not a multiple of 16, over 64,000, or over length − 16"
abbrev pub bad_span : File → Bool
bad_span f = eqb (distance_of f) 0 || not (eqb (distance_of f % 16) 0) || ltb 64000 (distance_of f) || ltb (length f - 16) (distance_of f)

-- "unknown kind"
abbrev pub unknown : Option Kind → Bool
unknown (Some k) = false
unknown None = true

-- "All other bytes are zero": those that a record of each kind leaves unused; Q-3: byte 4 of an input is its width
abbrev pub clean : Option Kind → file.Record → Bool
clean (Some Constant) r = zeros r 1 7
clean (Some Input) r = zeros r 1 3 && zeros r 5 3
clean (Some Unary) r = zeros r 1 3 && zeros r 8 8
clean (Some (Binary o)) r = zeros r 1 3 && zeros r 12 4
clean None r = true

-- "a width above 64"
abbrev pub wide : Node → Bool
wide (constant v) = false
wide (input p) = ltb 64 p.width
wide (unary a) = false
wide (binary o a b) = false

-- "unknown kind or a non-zero byte that must be zero"; Q-3: "4 also for a width above 64"
abbrev pub bad_record : file.Record → Bool
bad_record r = unknown (kind_of r) || not (clean (kind_of r) r) || wide (node_of r)

-- Q-1: "5 now means an operand id not below n"
abbrev pub outside : ℕ → Node → Bool
outside n (constant v) = false
outside n (input p) = false
outside n (unary a) = leb n a
outside n (binary o a b) = leb n a || leb n b

-- "root is a constant other than 1"
abbrev pub fixed : Node → Bool
fixed (constant v) = not (eqb v 1)
fixed (input p) = false
fixed (unary a) = false
fixed (binary o a b) = false

-- what a part of the checks finds: nothing wrong, or a refusal
abbrev pub Finding : Type 0
Finding = Result (Unit {0}) Refusal

-- a row of the paper's table: when its condition holds, its refusal is given
abbrev pub Rows : Type 0
Rows = List (Row Finding)

-- 1 Size, 2 Trailer, 3 Span
unfoldable pub head_rows : File → Rows
head_rows f =
    row (bad_size f) (Err Size)
    ∷ row (bad_trailer f) (Err Trailer)
    ∷ row (bad_span f) (Err Span)
    ∷ []

-- 4 Record(id), 5 Order(id): "4 before 5 within one"
unfoldable pub rows_of : file.Record → ℕ → Id → Rows
rows_of r n i =
    row (bad_record r) (Err (Record record { 0 = i }))
    ∷ row (outside n (node_of r)) (Err (Order record { 0 = i }))
    ∷ []

-- "Records are scanned upward; the first bad id is named": the rows of k records from i on
unfoldable pub record_rows : File → Formula → ℕ → Id → Rows
record_rows f m zero i = []
record_rows f m (suc k) i = rows_of (record_at f m i) m.count i ++ record_rows f m k (i + 1)

-- Q-1: "13 Cycle(id), the lowest id that reaches itself": the rows of k nodes from i on
unfoldable pub cycle_rows : Graph → ℕ → Id → Rows
cycle_rows g zero i = []
cycle_rows g (suc k) i = row (reaches g i i) (Err (Cycle record { 0 = i })) ∷ cycle_rows g k (i + 1)

-- 6 Root: "root ≥ n"; 7 FixedRoot
unfoldable pub root_rows : File → Formula → Rows
root_rows f m =
    row (leb m.count m.root.0) (Err Root)
    ∷ row (fixed ((graph_of f m).node m.root.0)) (Err FixedRoot)
    ∷ []

-- 13 is "after all records, before 6"
unfoldable pub body_rows : File → Formula → Rows
body_rows f m = record_rows f m m.count 0 ++ (cycle_rows (graph_of f m) m.count 0 ++ root_rows f m)

-- the whole table
unfoldable pub checks : File → Rows
checks f = head_rows f ++ body_rows f (formula_of f)

-- what becomes of a graph file: its formula, or the paper's number and values
pub data Answer : Type 0 where
  accepted : Formula → Answer
  refused : ℕ → List ℕ → Answer

abbrev pub refuse : Refusal → Answer
refuse r = refused (number_of r) (values_of r)

abbrev pub answer : Finding → Formula → Answer
answer (Ok u) m = accepted m
answer (Err r) m = refuse r

-- "Checks run in this order."
unfoldable pub verdict : File → Answer
verdict f = answer (first (checks f) (Ok tt)) (formula_of f)

-- the paper's answer that the code's answer is
abbrev pub answer_of : Result Formula Refusal → Answer
answer_of (Ok m) = accepted m
answer_of (Err r) = refuse r
