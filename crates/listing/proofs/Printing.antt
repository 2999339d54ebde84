-- One law for each `return` of the writers of a line. Assumes nothing.
use Prim.Native.Nat.{ℕ, ◌^◌, ◌<◌}
use mathlib.Core.Path.{◌≡◌}
use mathlib.Core.List.{[], ◌∷◌, ◌++◌, append_assoc}
use native.Mathlib.Omega.{arith}
use lib.ListN.{length}
use Rattle.text.specs.Text.{Text, Place, bytes, decimal, Wrote, WroteUpTo}
use Rattle.text.proofs.Writing.{wrote_append}
use Rattle.symbols.specs.Graph.{Id, Value, binary}
use Rattle.symbols.specs.declared.Port.{Port}
use Rattle.symbols.specs.declared.SymbolId.{SymbolId}
use Rattle.symbols.specs.declared.BVOperator.{BVOperator}
use Rattle.bitvec.specs.declared.BitVector.{BitVector}
use Rattle.formula.specs.Graph.{node_is}
use Rattle.formula.specs.declared.Node.{Node}
use Rattle.formula.specs.declared.Node.TheVariants as node
use Rattle.listing.specs.Listing.{sign, name, quoted, meaning, line_of}
use Rattle.listing.proofs.Lengths.{constant_length, quoted_length, unary_length, binary_length, line_length}

-- put_meaning
module _ (at n : Place) (o p : Text) (x : Node) where
  pub meaning_constant : (v : BitVector) → x ≡ node.Constant v → v.0 < 2 ^ 64 → Wrote (decimal v.0) at o p n → WroteUpTo 25 (meaning (node_is x)) at o p n
  unfolding meaning
  meaning_constant v h b w = rw h record { wrote = w; short = omega (arith, constant_length v.0 b) }

  pub meaning_input : (q : Port) → x ≡ node.Input q → q.label < 2 ^ 64 → Wrote (quoted q.label) at o p n → WroteUpTo 25 (meaning (node_is x)) at o p n
  unfolding meaning
  meaning_input q h b w = rw h record { wrote = w; short = omega (arith, quoted_length q.label b) }

  pub meaning_unary : (a : SymbolId) → x ≡ node.Unary a → a.0 < 2 ^ 32 → Wrote (bytes "!x" ++ decimal a.0) at o p n → WroteUpTo 25 (meaning (node_is x)) at o p n
  unfolding meaning
  meaning_unary a h b w = rw h record { wrote = w; short = omega (arith, unary_length 9 a.0 (omega arith)) }

  pub meaning_binary : (op : BVOperator) (a b : SymbolId) → x ≡ node.Binary op a b → a.0 < 2 ^ 32 → b.0 < 2 ^ 32 → Wrote (meaning (binary op a.0 b.0)) at o p n
      → WroteUpTo 25 (meaning (node_is x)) at o p n
  meaning_binary op a b h ha hb w = rw h record { wrote = w; short = omega (arith, binary_length 9 op a.0 b.0 (omega arith) (omega arith)) }

-- put_input
pub in_quotes : (l : Value) (at a b : Place) (o p q : Text) → length o < 2 ^ 64 → Wrote (bytes "\"" ++ decimal l) at o p a → Wrote (bytes "\"") a p q b → Wrote (quoted l) at o q b
unfolding quoted
in_quotes l at a b o p q fits u v = wrote_append fits u v

module _ (at a b c d : Place) (o p q s t : Text) (fits : length o < 2 ^ 64) where
  -- put_binary
  pub joined : (op : BVOperator) (x y z : ℕ) → (z ∷ []) ≡ sign op → Wrote (name x) at o p a → Wrote (bytes " ") a p q b → Wrote (z ∷ []) b q s c → Wrote (bytes " x" ++ decimal y) c s t d
      → Wrote (meaning (binary op x y)) at o t d
  unfolding meaning
  joined op x y z e u v w r =
      rw (← e, append_assoc (name x ++ bytes " " ++ (z ∷ [])) (bytes " ") (name y)) (wrote_append fits (wrote_append fits (wrote_append fits u v) w) r)

  -- put_line
  pub whole_line : (i : Id) (x : Node) → i < 2 ^ 32 → Wrote (name i) at o p a → Wrote (bytes " := ") a p q b → WroteUpTo 25 (meaning (node_is x)) b q s c → Wrote (bytes "\n") c s t d
      → WroteUpTo 41 (line_of i (node_is x)) at o t d
  unfolding line_of
  whole_line i x h u v w r = record {
    wrote = wrote_append fits (wrote_append fits (wrote_append fits u v) w.wrote) r;
    short = line_length 9 25 i (node_is x) (omega arith) w.short;
  }
