-- The parts of the papers' table that precede a row, each found clear. Assumes nothing.
use Rattle.std.specs.Prelude.{◌<◌, ◌≡◌, [], ◌∷◌, false}
use Rattle.symbols.specs.Graph.{Id, Depends}
use Rattle.formula.specs.File.{File, record_at}
use Rattle.formula.specs.Graph.{node_of, graph_of}
use Rattle.checks.specs.Refusals.{bad_size, bad_trailer, bad_span, bad_record, outside, verdict, refused}
use Rattle.formula.specs.declared.Formula.{Formula}

-- not 1, 2 or 3
pub record Headed (f : File) : Type 0 where
  pub size : bad_size f ≡ false
  pub trailer : bad_trailer f ≡ false
  pub span : bad_span f ≡ false

-- record i is neither 4 nor 5
pub record Fine (f : File) (m : Formula) (i : Id) : Type 0 where
  pub known : bad_record (record_at f m i) ≡ false
  pub inside : outside m.count (node_of (record_at f m i)) ≡ false

-- not 1, 2 or 3, and no record below k is 4 or 5
pub record Until (f : File) (m : Formula) (k : Id) : Type 0 where
  pub headed : Headed f
  pub fine : (i : Id) → i < k → Fine f m i

-- no id below k reaches itself
abbrev pub Free : File → Formula → Id → Type 0
Free f m k = (i : Id) → i < k → Depends (graph_of f m) i i → ⊥

-- not 1 to 5, and not 13
pub record BeforeRoot (f : File) (m : Formula) : Type 0 where
  pub records : Until f m m.count
  pub free : Free f m m.count

-- some id is given as 13
pub record Cycled (f : File) : Type 0 where
  pub at : Id
  pub given : verdict f ≡ refused 13 (at ∷ [])
