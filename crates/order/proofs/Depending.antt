-- Chains of operands in any graph. Assumes nothing.
use Rattle.symbols.specs.Graph.{Id, Graph, Operand, Depends, direct, through}

-- an operand of what i reaches, i reaches too
pub depends_on : (g : Graph) {i k : Id} (j : Id) → Depends g i k → Operand (g.node k) j → Depends g i j
depends_on g j (direct i k h) o = through i k j h (direct k j o)
depends_on g j (through i n k h d) o = through i n j h (depends_on g j d o)
