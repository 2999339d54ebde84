-- Document 01, "The graph file": what a record says, and the graph that a file is. Assumes nothing.
use Rattle.std.specs.Prelude.{ℕ, List, [], ◌∷◌, Option, Some, None, slice_get}
use Rattle.symbols.specs.Graph.{Graph, Node, constant, input, unary, binary}
use Rattle.symbols.specs.declared.Port.{Port}
use Rattle.symbols.specs.declared.BVOperator.TheVariants.{Add, Sub, Mul, Divu, Sltu, Remu, Equals, BitwiseAnd}
use Rattle.formula.specs.File.{File, Record, byte, le32, le64, record_at}
use Rattle.formula.specs.declared.Formula.{Formula}
use Rattle.formula.specs.declared.Kind.{Kind}
use Rattle.formula.specs.declared.Kind.TheVariants.{Constant, Input, Unary, Binary}
use Rattle.formula.specs.declared.Node.TheVariants as node

-- "Byte 0 is the kind: 0 Constant, 1 Input, 2 Add, 3 Sub, 4 Mul, 5 Divu, 6 Sltu, 7 Remu, 8 Not, 9 Equals, 10 BitwiseAnd."
abbrev pub kinds : List Kind
kinds =
    Constant
    ∷ Input
    ∷ Binary Add
    ∷ Binary Sub
    ∷ Binary Mul
    ∷ Binary Divu
    ∷ Binary Sltu
    ∷ Binary Remu
    ∷ Unary
    ∷ Binary Equals
    ∷ Binary BitwiseAnd
    ∷ []

unfoldable pub kind_no : ℕ → Option Kind
kind_no b = slice_get kinds b

abbrev pub kind_of : Record → Option Kind
kind_of r = kind_no (byte r 0)

-- "inputs a label (u64, may repeat), in 8 to 15"; Q-3: "Byte 4 of an input record now says its width in bits"
abbrev pub port_of : Record → Port
port_of r = record { label = le64 r 8; width = byte r 4 }

-- "Operators: left (or only) operand as u32 in bytes 4 to 7; binary ones the right in 8 to 11. Constants hold their value
-- … in 8 to 15." A record of no known kind, which the check refuses, reads as the constant 0,
-- and so does an empty one.
abbrev pub node_by : Option Kind → Record → Node
node_by (Some Constant) r = constant (le64 r 8)
node_by (Some Input) r = input (port_of r)
node_by (Some Unary) r = unary (le32 r 4)
node_by (Some (Binary o)) r = binary o (le32 r 4) (le32 r 8)
node_by None r = constant 0

abbrev pub node_of : Record → Node
node_of r = node_by (kind_of r) r

-- a file decoded, by where its formula stands
unfoldable pub graph_of : File → Formula → Graph
graph_of f m = record { count = m.count; root = m.root.0; node = λ i. node_of (record_at f m i) }

-- the node that the code's node is
abbrev pub node_is : Rattle.formula.specs.declared.Node.Node → Node
node_is (node.Constant v) = constant v.0
node_is (node.Input p) = input p
node_is (node.Unary a) = unary a.0
node_is (node.Binary o a b) = binary o a.0 b.0
