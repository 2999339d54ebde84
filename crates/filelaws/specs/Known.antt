-- What an accepted file is known to be. Assumes nothing.
use Rattle.std.specs.Prelude.{◌+◌, ◌*◌, ◌≤◌, ◌<◌, ◌≡◌, true, false, length}
use Rattle.symbols.specs.Graph.{Id}
use Rattle.formula.specs.File.{File, record_at}
use Rattle.formula.specs.Graph.{kind_of, node_of}
use Rattle.checks.specs.Refusals.{unknown, clean, wide}
use Rattle.formula.specs.declared.Formula.{Formula}

-- "n records of 16 bytes (1 ≤ n ≤ 4,000), a 16-byte trailer", after the note; each record of a known kind, zero where it must
-- be, and of at most 64 bits; the root one of the nodes
pub record Known (f : File) (m : Formula) : Type 0 where
  pub some : 1 ≤ m.count
  pub few : m.count ≤ 4000
  pub filled : m.first + 16 * m.count + 16 ≡ length f
  pub small : length f ≤ 65536
  pub rooted : m.root.0 < m.count
  pub kinds : (i : Id) → i < m.count → unknown (kind_of (record_at f m i)) ≡ false
  pub zero : (i : Id) → i < m.count → clean (kind_of (record_at f m i)) (record_at f m i) ≡ true
  pub narrow : (i : Id) → i < m.count → wide (node_of (record_at f m i)) ≡ false
