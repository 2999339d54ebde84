-- Laws of the bytes of a file: what each reader returns is what the definitions say. Assumes nothing.
use mathlib.Core.Path.{◌≡◌, refl, sym, ap, ◌∙◌}
use Prim.Native.Nat.{ℕ, zero, suc, ◌+◌, ◌-◌, ◌*◌, ◌≤◌, ◌<◌, min}
use Rattle.std.specs.Prelude.{Option}
use Rattle.std.specs.List.{list_all, range_with_len}
use Rattle.std.proofs.lemmas.List.Folds.{list_all-append}
use mathlib.Core.List.{List, [], ◌∷◌, ◌++◌}
use mathlib.Core.Bool.{Bool, true, false, ◌&&◌}
use native.Mathlib.Omega.{arith}
use native.Mathlib.Decide.{dec_le}
use native.Mathlib.Numerals.{add-one}
use Rattle.std.proofs.Common.{add-zero, zero-add}
use lib.ListN.{length, get_or, take, drop, length-drop, drop_of_length-le}
use lib.Seq.{take_all}
use lib.Dec.{eqb}
use borrow.Author.Tests.{lt-ltb, le-ltb}
use Rattle.formula.specs.File.{File, zeros, trailer_of, record_at}
use Rattle.formula.specs.Graph.{kind_of, node_by, node_of, graph_of, node_is}
use Rattle.formula.specs.declared.Formula.{Formula}
use Rattle.formula.specs.declared.Node.{Node}
use Rattle.formula.specs.declared.Kind.{Kind}

-- numbers from b on, the last of them taken off
range_last : (b k : ℕ) → range_with_len b (suc k) ≡ range_with_len b k ++ (b + k) ∷ []
range_last b zero = rw add-zero refl
range_last b (suc k) = ap (λ (l : List ℕ). b ∷ l) (range_last (b + 1) k ∙ ap (λ (x : ℕ). range_with_len (b + 1) k ++ x ∷ []) (let e : b + 1 + k ≡ b + suc k = omega arith in e))

and_true : (b : Bool) → (b && true) ≡ b
and_true true = refl
and_true false = refl

-- a test of each of the k bytes from a
pub zeros_is : (s : File) (a k : ℕ) → list_all (λ i. eqb (get_or s (a + i) 0) 0) (range_with_len 0 k) ≡ zeros s a k
unfolding zeros
zeros_is s a zero = refl
zeros_is s a (suc k) =
    ap (list_all (λ i. eqb (get_or s (a + i) 0) 0)) (range_last 0 k) ∙ list_all-append _ (range_with_len 0 k) ((0 + k) ∷ [])
    ∙ rw (zeros_is s a k, and_true, zero-add)

-- the first i of the k bytes
pub zeros_none : (s : List ℕ) (a : ℕ) → true ≡ zeros s a 0
unfolding zeros
zeros_none s a = refl

pub zeros_more : (s : List ℕ) (a i : ℕ) (b : Bool) (v : ℕ) → b ≡ zeros s a i → v ≡ get_or s (a + i) 0 → (b && eqb v 0) ≡ zeros s a (i + 1)
unfolding zeros
zeros_more s a i b v h e = rw (add-one, h, e)

pub zeros_all : (s : List ℕ) (a i k : ℕ) (b : Bool) → b ≡ zeros s a i → i ≤ k → k ≤ i → b ≡ zeros s a k
zeros_all s a i k b h p q = let e : i ≡ k = omega arith in h ∙ ap (zeros s a) e

-- an id that is not below the count has no record
pub record_none : (f : File) (m : Formula) (i : ℕ) → m.count ≤ i → [] ≡ record_at f m i
unfolding record_at
record_none f m i h = rw (le-ltb i m.count h)

-- the record of an id, cut off at the end of the file; w is the largest word
module _ (f : File) (m : Formula) (i s a k w : ℕ) (hs : s ≡ min (m.first + 16 * i) w) (ha : a ≡ min s (length f)) (hw : length f ≤ w) (hk : k ≡ min (length (take (length f - a) (drop a f))) 16) where
  cut_drop : drop a f ≡ drop (m.first + 16 * i) f
  cut_drop =
      elim (dec_le (m.first + 16 * i) (length f)) [
        | yes h ↦ let q : a ≡ m.first + 16 * i = omega arith in rw q
        | no h ↦ drop_of_length-le f {i = a} (omega arith) ∙ sym (drop_of_length-le f {i = m.first + 16 * i} (omega arith))
      ]

  rest : take (length f - a) (drop a f) ≡ drop a f
  rest = take_all (length f - a) (drop a f) (omega (arith, length-drop a f))

  cut_take : take k (drop a f) ≡ take 16 (drop a f)
  cut_take =
      elim (dec_le 16 (length f - a)) [
        | yes h ↦ let q : k ≡ 16 = omega (arith, ap length rest, length-drop a f) in rw q
        | no h ↦ take_all k (drop a f) (omega (arith, ap length rest, length-drop a f)) ∙ sym (take_all 16 (drop a f) (omega (arith, length-drop a f)))
      ]

  pub record_cut : i < m.count → take k (take (length f - a) (drop a f)) ≡ record_at f m i
  unfolding record_at
  record_cut h = rw (lt-ltb i m.count h) (ap (take k) rest ∙ cut_take ∙ ap (take 16) cut_drop)

pub trailer_is : (f : File) (a : ℕ) → a ≡ length f - 16 → take (length f - a) (drop a f) ≡ trailer_of f
unfolding trailer_of
trailer_is f a h = take_all (length f - a) (drop a f) (rw length-drop (omega arith)) ∙ ap (λ (x : ℕ). drop x f) h

-- what the code decodes is the graph's node
pub node_is_lem : (f r : List ℕ) (m : Formula) (i : ℕ) (k : Option Kind) (n : Node) → r ≡ record_at f m i → k ≡ kind_of r → node_is n ≡ node_by k r → node_is n ≡ (graph_of f m).node i
unfolding graph_of
node_is_lem f r m i k n hr hk hn = hn ∙ ap (λ (x : Option Kind). node_by x r) hk ∙ ap node_of hr
