-- The Formula view of symbolic_state.rs: the graph that is seen, and of a node of the abstract graph what is asked. Assumes nothing.
use Rattle.std.specs.Prelude.{Bool, true, false}
use Rattle.symbols.specs.Graph.{Id, Node, constant, input, unary, binary, Graph}
use Rattle.symbols.specs.declared.BVOperator.TheVariants.{Not}
use Rattle.symbols.specs.declared.Symbol.{Symbol}
use Rattle.symbols.specs.declared.Symbol.TheVariants as symbol
use Rattle.formula.specs.Graph.{graph_of}
use Rattle.formula.specs.declared.view.FormulaView.{FormulaView}
use Rattle.formula.specs.declared.view.OperandIds.{OperandIds}
use Rattle.formula.specs.declared.view.OperandIds.TheVariants as ids

abbrev pub graph : FormulaView → Graph
graph v = graph_of v.file.now v.layout

abbrev pub symbol_of : Node → Symbol
symbol_of (constant v) = symbol.Constant record { 0 = v }
symbol_of (input p) = symbol.Input p.label
symbol_of (unary a) = symbol.Operator Not
symbol_of (binary o a b) = symbol.Operator o

-- the left or only operand of node i; a leaf has none, and i stands for it
abbrev pub operand_of : Id → Node → Id
operand_of i (constant v) = i
operand_of i (input p) = i
operand_of i (unary a) = a
operand_of i (binary o a b) = a

abbrev pub operands_of : Node → OperandIds
operands_of (constant v) = ids.None
operands_of (input p) = ids.None
operands_of (unary a) = ids.One record { 0 = a }
operands_of (binary o a b) = ids.Two record { 0 = a } record { 0 = b }

-- a constant or an input
abbrev pub is_leaf : Node → Bool
is_leaf (constant v) = true
is_leaf (input p) = true
is_leaf (unary a) = false
is_leaf (binary o a b) = false
