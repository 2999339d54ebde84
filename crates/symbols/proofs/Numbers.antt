-- The number and the values tell the refusal: two refusals that print alike are one; and a kind's number tells the operator.
-- Assumes nothing.
use Prim.Native.Nat.{ℕ}
use mathlib.Core.Path.{◌≡◌, refl, sym, ap, ◌∙◌}
use mathlib.Core.List.{List, [], ◌∷◌}
use lib.ListN.{get_or}
use Rattle.std.specs.Prelude.{Some}
use Rattle.laws.specs.Rows.{first}
use Rattle.symbols.specs.Operators.{kind_number, operator_of}
use Rattle.symbols.specs.Refusals.{number_of, values_of}
use Rattle.symbols.specs.declared.BVOperator.{BVOperator}
use Rattle.symbols.specs.declared.BVOperator.TheVariants.{Add, Sub, Mul, Divu, Sltu, Remu, Not, Equals, BitwiseAnd}
use Rattle.symbols.specs.declared.Refusal.{Refusal}
use Rattle.symbols.specs.declared.Refusal.TheVariants.{Size, Trailer, Span, Record, Order, Root, FixedRoot, Room, Words, Arity, NoInverse, Dry, Cycle, Short}

unfoldable pub refusal_of : ℕ → List ℕ → Refusal
refusal_of n l =
    get_or
    (Size ∷ Size ∷ Trailer ∷ Span ∷ Record record { 0 = get_or l 0 0 } ∷ Order record { 0 = get_or l 0 0 } ∷ Root ∷ FixedRoot ∷ Room ∷ Words ∷ Arity
    ∷ NoInverse ∷ Dry ∷ Cycle record { 0 = get_or l 0 0 } ∷ Short ∷ [])
    n Size

pub told : (r : Refusal) → refusal_of (number_of r) (values_of r) ≡ r
unfolding refusal_of
told Size = refl
told Trailer = refl
told Span = refl
told (Record i) = refl
told (Order i) = refl
told Root = refl
told FixedRoot = refl
told Room = refl
told Words = refl
told Arity = refl
told NoInverse = refl
told Dry = refl
told (Cycle i) = refl
told Short = refl

pub refusal_injective : (r s : Refusal) → number_of r ≡ number_of s → values_of r ≡ values_of s → r ≡ s
refusal_injective r s e f = sym (told r) ∙ ap (λ (n : ℕ). refusal_of n (values_of r)) e ∙ ap (refusal_of (number_of s)) f ∙ told s

-- an operator's kind number is its own
pub operator_of_number : (o : BVOperator) → operator_of (kind_number o) ≡ Some o
unfolding operator_of first
operator_of_number Add = refl
operator_of_number Sub = refl
operator_of_number Mul = refl
operator_of_number Divu = refl
operator_of_number Sltu = refl
operator_of_number Remu = refl
operator_of_number Not = refl
operator_of_number Equals = refl
operator_of_number BitwiseAnd = refl
