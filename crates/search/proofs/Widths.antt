-- Q-3 over the machine: which targets an input takes, what its values are, and that "old files mean the same". Assumes nothing.
use Prim.Native.Nat.{ℕ, ◌≤◌, ◌<◌, ◌^◌}
use mathlib.Core.Path.{◌≡◌, refl, ap, subst}
use mathlib.Core.Bool.{Bool, true, false}
use mathlib.Core.Logic.{◌↔◌, ◌⊎◌}
use native.Mathlib.Omega.{arith}
use borrow.Author.Tests.{ltb-true, ltb-false, le-ltb}
use Rattle.laws.specs.Pick.{pick}
use Rattle.symbols.specs.Graph.{Id, Value, Node, input, Graph}
use Rattle.symbols.specs.Width.{room, fits}
use Rattle.symbols.specs.declared.Port.{Port}
use Rattle.symbols.proofs.Fitting.{bits_old, fits_64}
use Rattle.search.specs.Machine.{Values, value_of, stores, loses, landing}
use Rattle.search.specs.Solution.{Right, Sane}

lost_false : (b : Bool) → pick b stores loses ≡ loses → b ≡ false
lost_false true e = let z : ◌≡◌ {A = ℕ} 0 1 = cc in absurd (omega arith)
lost_false false e = refl

-- "A round that brings a target of 2^width or more is a lost round.", and no other round that comes to an input
pub lost_exactly : (p : Port) (t : Value) → (landing (input p) t ≡ loses) ↔ (room p ≤ t)
lost_exactly p t = (λ e. ltb-false t (room p) (lost_false (fits p t) e), λ h. ap (λ (b : Bool). pick b stores loses) (le-ltb t (room p) h))

-- width bytes 0 and 64: every target is stored, as in document 01
pub old_stores : (p : Port) (t : Value) → (p.width ≡ 0) ⊎ (p.width ≡ 64) → t < 2 ^ 64 → landing (input p) t ≡ stores
old_stores p t w h = ap (λ (b : Bool). pick b stores loses) (fits_64 p t h (bits_old p w))

-- an input's value is one of its width
pub sane_fits : (g : Graph) (vs : Values) → Sane g vs → (i : Id) (p : Port) → i < g.count → g.node i ≡ input p → value_of vs i < room p
sane_fits g vs sane i p b e = ltb-true (value_of vs i) (room p) (subst (λ (n : Node). Right n (value_of vs) i) e (sane.solution.right i b))
