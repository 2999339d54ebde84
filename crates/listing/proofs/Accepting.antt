-- Of an accepted file: what `gather` asks, and one law for each `return`. Assumes nothing.
use Prim.Native.Nat.{ℕ, ◌≤◌}
use mathlib.Core.Path.{◌≡◌, sym, ap}
use mathlib.Core.List.{[]}
use native.Mathlib.Omega.{arith}
use lib.ListN.{length, take}
use lib.Seq.{length-take-le}
use Rattle.text.specs.Text.{Text}
use Rattle.formula.specs.File.{File}
use Rattle.formula.specs.Graph.{graph_of}
use Rattle.formula.specs.declared.Formula.{Formula}
use Rattle.visits.specs.Walk.{Ids, visit, listed}
use Rattle.checks.specs.Refusals as file
use Rattle.checks.specs.Refusals.{verdict, answer_of}
use Rattle.filelaws.proofs.Accepted.{accepted_known}
use Rattle.listing.specs.Listing.{lines, listing}
use Rattle.listing.specs.Answer.{Result, fitted}

-- the part of the order that is listed
pub part_length : (f : File) (m : Formula) → verdict f ≡ file.accepted m → (order : Ids) (n : ℕ) → n ≤ m.count → 4000 ≡ length order → n ≡ length (take n order)
part_length f m e order n h room = sym (length-take-le n order (omega (arith, (accepted_known f m e).few)))

-- list_accepted
module _ (f : File) (m : Formula) (order : Ids) (n i : ℕ) (root : i ≡ m.root.0) (h : take n order ≡ visit (graph_of f m) i []) where
  same_lines : lines (graph_of f m) (take n order) ≡ listing (graph_of f m)
  unfolding listing listed graph_of
  same_lines = ap (lines (graph_of f m)) (rw root at h)

  pub listed_result : (o : Text) (r : Result) → r ≡ fitted (lines (graph_of f m) (take n order)) o → r ≡ fitted (listing (graph_of f m)) o
  listed_result o r e = rw same_lines at e

  pub listed_bound : length (lines (graph_of f m) (take n order)) ≤ 164000 → length (listing (graph_of f m)) ≤ 164000
  listed_bound b = rw same_lines at b
