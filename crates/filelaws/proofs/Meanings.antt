-- What the conditions of the table say: each test holds exactly when the paper's words do. Assumes nothing.
use Prim.Native.Nat.{ℕ, zero, suc, ◌+◌, ◌-◌, ◌%◌, ◌≤◌, ◌<◌}
use mathlib.Core.Path.{◌≡◌, refl, sym, ap, subst, ◌∙◌}
use mathlib.Core.Bool.{true, false, not, true≢false}
use mathlib.Core.Logic.{◌↔◌, ◌⊎◌, inl, inr, ⊎_elim}
use native.Mathlib.Omega.{arith}
use native.Mathlib.Decide.{ℕ_discrete}
use lib.ListN.{length}
use lib.Dec.{ltb, leb, eqb}
use borrow.Author.Tests.{ltb-true, lt-ltb, leb-true, le-leb, eqb-true, eqb-false, eq-eqb, ne_eqb, not-true}
use Rattle.symbols.specs.Graph.{Id, Value, Node, constant, input, unary, binary}
use Rattle.symbols.proofs.Tests.{and_yes, either}
use Rattle.symbols.specs.declared.Port.{Port}
use Rattle.formula.specs.File.{File, Record, Place, byte, distance_of, version_of, last_of, zeros}
use Rattle.checks.specs.Refusals.{bad_size, bad_trailer, bad_span, unknown, clean, wide, bad_record, outside, fixed}
use Rattle.formula.specs.Graph.{kind_of, node_of}
use Rattle.formula.specs.declared.Kind.{Kind}
use Rattle.std.specs.Prelude.{Option, Some, None}
use Rattle.filelaws.specs.Faults.{TooWide, OutOfOrder, FixedElsewhere}

differs : (a b : ℕ) → (not (eqb a b) ≡ true) ↔ (a ≡ b → ⊥)
differs a b = (λ e. eqb-false a b (not-true (eqb a b) e), λ h. ap not (ne_eqb a b h))

less_than : (a b : ℕ) → (ltb a b ≡ true) ↔ (a < b)
less_than a b = (ltb-true a b, lt-ltb a b)

-- "file under 16 or over 65,536 bytes"
pub size_means : (f : File) → (bad_size f ≡ true) ↔ ((length f < 16) ⊎ (65536 < length f))
size_means f = either _ _ (less_than (length f) 16) (less_than 65536 (length f))

-- "version not 1, or last field not zero"
pub trailer_means : (f : File) → (bad_trailer f ≡ true) ↔ ((version_of f ≡ 1 → ⊥) ⊎ (last_of f ≡ 0 → ⊥))
trailer_means f = either _ _ (differs (version_of f) 1) (differs (last_of f) 0)

-- "distance 0, not a multiple of 16, over 64,000, or over length − 16"
pub span_means : (f : File)
    → (bad_span f ≡ true) ↔ ((((distance_of f ≡ 0) ⊎ (distance_of f % 16 ≡ 0 → ⊥)) ⊎ (64000 < distance_of f)) ⊎ (length f - 16 < distance_of f))
span_means f =
    let d = distance_of f in
    either _ _ (either _ _ (either _ _ (eqb-true d 0, eq-eqb d 0) (differs (d % 16) 0)) (less_than 64000 d)) (less_than (length f - 16) d)

zeros_from : (s : Record) (a : Place) (k : ℕ) → zeros s a k ≡ true → (j : ℕ) → j < k → byte s (a + j) ≡ 0
unfolding zeros
zeros_from s a zero e j p = absurd (omega arith)
zeros_from s a (suc k) e j p =
    let h = (and_yes (zeros s a k) (eqb (byte s (a + k)) 0)).0 e in
    elim (ℕ_discrete j k) [
      | yes w ↦ ap (λ (x : ℕ). byte s (a + x)) w ∙ eqb-true (byte s (a + k)) 0 h.1
      | no w ↦ zeros_from s a k h.0 j (omega arith)
    ]

zeros_to : (s : Record) (a : Place) (k : ℕ) → ((j : ℕ) → j < k → byte s (a + j) ≡ 0) → zeros s a k ≡ true
unfolding zeros
zeros_to s a zero h = refl
zeros_to s a (suc k) h = rw (zeros_to s a k (λ j p. h j (omega arith)), eq-eqb (byte s (a + k)) 0 (h k (omega arith)))

-- the k bytes from a are zero
pub zeros_means : (s : Record) (a : Place) (k : ℕ) → (zeros s a k ≡ true) ↔ ((j : ℕ) → j < k → byte s (a + j) ≡ 0)
zeros_means s a k = (zeros_from s a k, zeros_to s a k)

constant_value : (v w : Value) → constant v ≡ constant w → v ≡ w
constant_value v w e = cc

high : (n : ℕ) (a : Id) → (leb n a ≡ true) ↔ (n ≤ a)
high n a = (leb-true n a, le-leb n a)

-- Q-1: "5 now means an operand id not below n"
pub order_means : (n : ℕ) (x : Node) → (outside n x ≡ true) ↔ OutOfOrder n x
order_means n (constant v) = (λ e. absurd (true≢false (sym e)), λ h. absurd h.named)
order_means n (input p) = (λ e. absurd (true≢false (sym e)), λ h. absurd h.named)
order_means n (unary a) = (
  λ e. record { operand = a; named = refl; high = leb-true n a e },
  λ h. le-leb n a (let x = h.named in let y = h.high in omega arith),
)
order_means n (binary o a b) =
    let w = either (leb n a) (leb n b) (high n a) (high n b) in (
      λ e.
          ⊎_elim
          (λ p. record { operand = a; named = inl refl; high = p })
          (λ p. record { operand = b; named = inr refl; high = p })
          (w.0 e),
      λ h. w.1 (⊎_elim (λ q. let y = h.high in inl (omega arith)) (λ q. let y = h.high in inr (omega arith)) h.named),
    )

-- "root is a constant other than 1"
pub fixed_means : (n : Node) → (fixed n ≡ true) ↔ FixedElsewhere n
fixed_means (constant v) = (
  λ e. record { value = v; is = refl; other = (differs v 1).0 e },
  λ h. (differs v 1).1 (λ e. h.other (let x : v ≡ h.value = constant_value v h.value h.is in sym x ∙ e)),
)
fixed_means (input p) = (λ e. absurd (true≢false (sym e)), λ h. cc h.is)
fixed_means (unary a) = (λ e. absurd (true≢false (sym e)), λ h. cc h.is)
fixed_means (binary o a b) = (λ e. absurd (true≢false (sym e)), λ h. cc h.is)

unknown_means : (k : Option Kind) → (unknown k ≡ true) ↔ (k ≡ None)
unknown_means (Some k) = (λ e. absurd (true≢false (sym e)), λ e. ap unknown e)
unknown_means None = (λ e. refl, λ e. refl)

input_port : (p q : Port) → input p ≡ input q → p ≡ q
input_port p q e = cc

-- "a width above 64"
pub wide_means : (n : Node) → (wide n ≡ true) ↔ TooWide n
wide_means (constant v) = (λ e. absurd (true≢false (sym e)), λ h. cc h.is)
wide_means (input p) = (
  λ e. record { port = p; is = refl; above = ltb-true 64 p.width e },
  λ h. lt-ltb 64 p.width (subst (λ (q : Port). 64 < q.width) (sym (input_port p h.port h.is)) h.above),
)
wide_means (unary a) = (λ e. absurd (true≢false (sym e)), λ h. cc h.is)
wide_means (binary o a b) = (λ e. absurd (true≢false (sym e)), λ h. cc h.is)

-- "unknown kind or a non-zero byte that must be zero"; Q-3: "4 also for a width above 64"
pub record_means : (r : Record) → (bad_record r ≡ true) ↔ (((kind_of r ≡ None) ⊎ (clean (kind_of r) r ≡ false)) ⊎ TooWide (node_of r))
record_means r = either _ _ (either _ _ (unknown_means (kind_of r)) (not-true (clean (kind_of r) r), ap not)) (wide_means (node_of r))
