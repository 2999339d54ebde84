-- The start and the pass as the code's loops meet them: one law for each turn. Assumes nothing.
use Prim.Native.Nat.{ℕ, ◌+◌}
use mathlib.Core.Path.{◌≡◌, sym}
use mathlib.Core.List.{List}
use native.Mathlib.Numerals.{add-one}
use lib.ListN.{get_or, set}
use Rattle.words.specs.Words.{Words}
use Rattle.symbols.specs.Graph.{Id, Node, Graph}
use Rattle.search.specs.Machine.{Values, value_of}
use Rattle.assign.specs.Settle.{worked, settle_one, along_up_to}
use Rattle.assign.specs.Start.{takes, wanted_up_to, first_by, first_of, given_up_to}

module _ (g : Graph) where
  pub along_turn : (order : List Id) (k : ℕ) (vs us ws : Values) (i : Id) (n : Node) (v : ℕ) → us ≡ along_up_to g order k vs → i ≡ get_or order k 0 → n ≡ g.node i
      → v ≡ worked n (get_or us i 0) (value_of us) → ws ≡ set us i v → ws ≡ along_up_to g order (k + 1) vs
  unfolding along_up_to settle_one
  along_turn order k vs us ws i n v hu hi hn hv hw = rw (add-one, sym hu, sym hi, sym hn, sym hv) hw

  pub wanted_turn : (i c t : ℕ) (n : Node) → c ≡ wanted_up_to g i → n ≡ g.node i → t ≡ takes n → c + t ≡ wanted_up_to g (i + 1)
  unfolding wanted_up_to
  wanted_turn i c t n hc hn ht = rw (add-one, sym hc, sym hn, sym ht)

  pub given_turn : (ws : Words) (i k : ℕ) (vs us xs : Values) (n : Node) (v : ℕ) → us ≡ given_up_to g ws i vs → k ≡ wanted_up_to g i → n ≡ g.node i
      → v ≡ first_by n ws k → xs ≡ set us i v → xs ≡ given_up_to g ws (i + 1) vs
  unfolding given_up_to first_of
  given_turn ws i k vs us xs n v hu hk hn hv hx = rw (add-one, sym hu, sym hn, sym hk, sym hv) hx
