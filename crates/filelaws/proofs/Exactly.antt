-- A refusal is given exactly when its row is the first whose condition holds; a file is accepted exactly when no condition holds.
-- Assumes nothing.
use mathlib.Core.Path.{◌≡◌, refl, sym, ap, ◌∙◌}
use Prim.Native.Nat.{ℕ}
use mathlib.Core.List.{List, [], ◌++◌}
use mathlib.Core.Logic.{◌↔◌}
use Rattle.laws.specs.Rows.{first, Given, None, Never}
use Rattle.laws.proofs.Rows.{given_exactly, none_exactly, never_append}
use Rattle.symbols.specs.Refusals.{number_of, values_of}
use Rattle.symbols.proofs.Numbers.{refusal_injective}
use Rattle.symbols.specs.declared.Refusal.{Refusal}
use Rattle.formula.specs.File.{File, formula_of}
use Rattle.formula.specs.Graph.{graph_of}
use Rattle.checks.specs.Refusals.{Finding, Rows, head_rows, record_rows, cycle_rows, root_rows, body_rows, checks, Answer, accepted, refused, refuse, answer, verdict, answer_of}
use Rattle.checks.proofs.Scanning.{refuses, head_never, records_never}
use Rattle.checks.proofs.Cycles.{cycles_never}
use Rattle.formula.specs.declared.Formula.{Formula}
use Rattle.std.specs.Prelude.{Result, Ok, Err}

root_never : (f : File) (m : Formula) → Never (root_rows f m) (Ok tt)
unfolding root_rows
root_never f m = (refuses _, (refuses _, tt))

-- what stands after the records
abbrev pub graph_rows : File → Formula → Rows
graph_rows f m = cycle_rows (graph_of f m) m.count 0 ++ root_rows f m

graph_never : (f : File) (m : Formula) → Never (graph_rows f m) (Ok tt)
graph_never f m =
    never_append (cycle_rows (graph_of f m) m.count 0) (root_rows f m) (Ok tt) (cycles_never (graph_of f m) m.count 0) (root_never f m)

body_never : (f : File) (m : Formula) → Never (body_rows f m) (Ok tt)
unfolding body_rows
body_never f m = never_append (record_rows f m m.count 0) (graph_rows f m) (Ok tt) (records_never f m m.count 0) (graph_never f m)

-- every row refuses
pub checks_never : (f : File) → Never (checks f) (Ok tt)
unfolding checks
checks_never f = never_append (head_rows f) (body_rows f (formula_of f)) (Ok tt) (head_never f) (body_never f (formula_of f))

unfoldable pub finding_number : Finding → ℕ
finding_number (Ok u) = 0
finding_number (Err r) = number_of r

unfoldable number_in : Answer → ℕ
number_in (accepted m) = 0
number_in (refused n l) = n

unfoldable values_in : Answer → List ℕ
values_in (accepted m) = []
values_in (refused n l) = l

-- the paper's number and values tell the answer's refusal
pub refuse_injective : (r s : Refusal) → refuse r ≡ refuse s → r ≡ s
unfolding number_in values_in
refuse_injective r s e = refusal_injective r s (ap number_in e) (ap values_in e)

refuse_from : (x : Finding) (m : Formula) (r : Refusal) → answer x m ≡ refuse r → x ≡ Err r
refuse_from (Ok u) m r e = cc
refuse_from (Err s) m r e = ap Err (refuse_injective s r e)

pub accept_from : (x : Finding) (m w : Formula) → answer x m ≡ accepted w → (x ≡ Ok tt) × (m ≡ w)
accept_from (Ok u) m w e = (refl, cc)
accept_from (Err s) m w e = cc

-- two permitted answers coincide
pub answer_injective : (x y : Result Formula Refusal) → answer_of x ≡ answer_of y → x ≡ y
answer_injective (Ok m) (Ok w) e = cc
answer_injective (Ok m) (Err r) e = cc
answer_injective (Err r) (Ok m) e = cc
answer_injective (Err r) (Err s) e = ap Err (refuse_injective r s e)

pub one_answer : (f : File) (x y : Result Formula Refusal) → answer_of x ≡ verdict f → answer_of y ≡ verdict f → x ≡ y
one_answer f x y p q = answer_injective x y (p ∙ sym q)

-- refused with r's number and values ↔ some row of the paper's table decides and gives r
pub refused_exactly : (f : File) (r : Refusal) → (verdict f ≡ refused (number_of r) (values_of r)) ↔ Given (checks f) (Ok tt) (Err r)
unfolding verdict
refused_exactly f r =
    let x = given_exactly (checks f) (Ok tt) (Err r) (λ e. refuses r (sym e)) in (
      λ e. x.0 (refuse_from (first (checks f) (Ok tt)) (formula_of f) r e),
      λ g. ap (λ (z : Finding). answer z (formula_of f)) (x.1 g),
    )

-- accepted ↔ no row's condition holds
pub accepted_exactly : (f : File) → (verdict f ≡ accepted (formula_of f)) ↔ None (checks f)
unfolding verdict
accepted_exactly f =
    let x = none_exactly (checks f) (Ok tt) (checks_never f) in (
      λ e. x.0 (accept_from (first (checks f) (Ok tt)) (formula_of f) (formula_of f) e).0,
      λ n. ap (λ (z : Finding). answer z (formula_of f)) (x.1 n),
    )

-- an accepted file's formula is where its trailer says
pub accepted_formula : (f : File) (m : Formula) → verdict f ≡ accepted m → m ≡ formula_of f
unfolding verdict
accepted_formula f m e = sym (accept_from (first (checks f) (Ok tt)) (formula_of f) m e).1
