-- What a node of a file can be. Assumes nothing.
use Prim.Native.Nat.{ℕ, zero, suc, ◌+◌, ◌*◌, ◌^◌, ◌≤◌, ◌<◌}
use mathlib.Core.Path.{◌≡◌, refl, sym, ap, ◌∙◌}
use mathlib.Core.List.{List, [], ◌∷◌}
use mathlib.Core.Bool.{Bool, true, false}
use native.Mathlib.Omega.{arith}
use lib.ListN.{take, drop}
use lib.Seq.{get_or-drop}
use lib.Dec.{ltb}
use borrow.Author.Tests.{le-ltb}
use Rattle.laws.specs.Pick.{pick}
use Rattle.symbols.specs.Graph.{Id, Value, Node, constant, input, unary, binary}
use Rattle.symbols.specs.Operators.{is_unary, kind_number}
use Rattle.symbols.specs.declared.BVOperator.{BVOperator}
use Rattle.symbols.specs.declared.BVOperator.TheVariants.{Add, Sub, Mul, Divu, Sltu, Remu, Not, Equals, BitwiseAnd}
use Rattle.formula.specs.File.{File, Record, byte, le32, le64, record_at}
use Rattle.formula.specs.Graph.{kind_no, kind_of, node_by, graph_of, node_is}
use Rattle.formula.specs.declared.Formula.{Formula}
use Rattle.formula.specs.declared.Node as node
use Rattle.formula.specs.declared.Node.TheVariants as variants
use Rattle.formula.specs.declared.Kind.{Kind}
use Rattle.formula.specs.declared.Kind.TheVariants.{Constant, Input, Unary, Binary}
use Rattle.std.specs.Prelude.{Option, Some, None}

-- the kind of an operator's number is that operator's
pub operator_kind : (o : BVOperator) → kind_no (kind_number o) ≡ Some (pick (is_unary o) Unary (Binary o))
unfolding kind_no
operator_kind Add = refl
operator_kind Sub = refl
operator_kind Mul = refl
operator_kind Divu = refl
operator_kind Sltu = refl
operator_kind Remu = refl
operator_kind Not = refl
operator_kind Equals = refl
operator_kind BitwiseAnd = refl

-- no kind is a Not of two operands
abbrev Two : Option Kind → Type 0
Two (Some Constant) = Unit {0}
Two (Some Input) = Unit {0}
Two (Some Unary) = Unit {0}
Two (Some (Binary o)) = is_unary o ≡ false
Two None = Unit {0}

two : (b : ℕ) → Two (kind_no b)
unfolding kind_no
two zero = tt
two (suc zero) = tt
two (suc (suc zero)) = refl
two (suc (suc (suc zero))) = refl
two (suc (suc (suc (suc zero)))) = refl
two (suc (suc (suc (suc (suc zero))))) = refl
two (suc (suc (suc (suc (suc (suc zero)))))) = refl
two (suc (suc (suc (suc (suc (suc (suc zero))))))) = refl
two (suc (suc (suc (suc (suc (suc (suc (suc zero)))))))) = tt
two (suc (suc (suc (suc (suc (suc (suc (suc (suc zero))))))))) = refl
two (suc (suc (suc (suc (suc (suc (suc (suc (suc (suc zero)))))))))) = refl
two (suc (suc (suc (suc (suc (suc (suc (suc (suc (suc (suc b))))))))))) = tt

from_kind : (k : Option Kind) (r : Record) (o : BVOperator) (a b : Id) → Two k → node_by k r ≡ binary o a b → is_unary o ≡ false
from_kind (Some Constant) r o a b t e = cc
from_kind (Some Input) r o a b t e = cc
from_kind (Some Unary) r o a b t e = cc
from_kind (Some (Binary q)) r o a b t e = let z : q ≡ o = cc in ap is_unary (sym z) ∙ t
from_kind None r o a b t e = cc

-- a file's node of two operands is no Not
pub binary_of_two : (f : File) (m : Formula) (i : Id) (o : BVOperator) (a b : Id) → (graph_of f m).node i ≡ binary o a b → is_unary o ≡ false
unfolding graph_of
binary_of_two f m i o a b e = from_kind (kind_of (record_at f m i)) (record_at f m i) o a b (two (byte (record_at f m i) 0)) e

-- of bytes
abbrev pub Bytes : List ℕ → Type 0
Bytes s = (j : ℕ) → byte s j < 256

bytes_drop : (k : ℕ) (s : List ℕ) → Bytes s → Bytes (drop k s)
bytes_drop k s h j = rw (get_or-drop k s j 0) (h (k + j))

bytes_take : (k : ℕ) (s : List ℕ) → Bytes s → Bytes (take k s)
bytes_take zero s h j = omega arith
bytes_take (suc k) [] h j = omega arith
bytes_take (suc k) (x ∷ s) h zero = h zero
bytes_take (suc k) (x ∷ s) h (suc j) = bytes_take k s (λ i. h (suc i)) j

bytes_pick : (b : Bool) (s : List ℕ) → Bytes s → Bytes (pick b s [])
bytes_pick true s h j = h j
bytes_pick false s h j = omega arith

record_bytes : (f : File) (m : Formula) (i : Id) → Bytes f → Bytes (record_at f m i)
unfolding record_at
record_bytes f m i h =
    let s = drop (m.first + 16 * i) f in
    bytes_pick (ltb i m.count) (take 16 s) (bytes_take 16 s (bytes_drop (m.first + 16 * i) f h))

pub le32_small : (s : List ℕ) (a : ℕ) → Bytes s → le32 s a < 2 ^ 32
unfolding le32
le32_small s a h = omega (arith, h a, h (a + 1), h (a + 2), h (a + 3))

pub le64_small : (s : List ℕ) (a : ℕ) → Bytes s → le64 s a < 2 ^ 64
unfolding le64
le64_small s a h = omega (arith, le32_small s a h, le32_small s (a + 4) h)

small_kind : (k : Option Kind) (r : Record) (v : Value) → Bytes r → node_by k r ≡ constant v → v < 2 ^ 64
small_kind (Some Constant) r v h e = let z : le64 r 8 ≡ v = cc in omega (arith, le64_small r 8 h)
small_kind (Some Input) r v h e = cc
small_kind (Some Unary) r v h e = cc
small_kind (Some (Binary o)) r v h e = cc
small_kind None r v h e = let z : ◌≡◌ {A = ℕ} 0 v = cc in omega arith

-- a constant of a file of bytes is a word of 64 bits
pub constant_small : (f : File) (m : Formula) (i : Id) (v : Value) → Bytes f → (graph_of f m).node i ≡ constant v → v < 2 ^ 64
unfolding graph_of
constant_small f m i v h e = small_kind (kind_of (record_at f m i)) (record_at f m i) v (record_bytes f m i h) e

-- a graph file speaks of no node past its count: those read as the constant 0
pub past_count : (f : File) (m : Formula) (i : Id) → m.count ≤ i → (graph_of f m).node i ≡ constant 0
unfolding graph_of record_at kind_no le64 le32
past_count f m i h = rw (le-ltb i m.count h)

unfoldable node_from : Node → node.Node
node_from (constant v) = variants.Constant record { 0 = v }
node_from (input p) = variants.Input p
node_from (unary a) = variants.Unary record { 0 = a }
node_from (binary o a b) = variants.Binary o record { 0 = a } record { 0 = b }

node_from_lem : (x : node.Node) → node_from (node_is x) ≡ x
unfolding node_from
node_from_lem (variants.Constant v) = refl
node_from_lem (variants.Input p) = refl
node_from_lem (variants.Unary a) = refl
node_from_lem (variants.Binary o a b) = refl

-- two nodes of the code that are one node of the graph are one
pub node_injective : (x y : node.Node) → node_is x ≡ node_is y → x ≡ y
node_injective x y e = sym (node_from_lem x) ∙ ap node_from e ∙ node_from_lem y
