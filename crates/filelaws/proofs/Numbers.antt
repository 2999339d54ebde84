-- Each number is given exactly when the paper's table says. Assumes nothing.
use Prim.Native.Nat.{ℕ, zero, suc, ◌+◌, ◌-◌, ◌*◌, ◌/◌, ◌%◌, ◌≤◌, ◌<◌}
use mathlib.Core.Path.{◌≡◌, refl, sym, ap, ◌∙◌}
use mathlib.Core.List.{[], ◌∷◌}
use mathlib.Core.Bool.{Bool, true, false, true≢false}
use mathlib.Core.Logic.{◌↔◌}
use native.Mathlib.Omega.{arith}
use native.Mathlib.Decide.{ℕ_discrete, dec_le}
use lib.ListN.{length}
use lib.Dec.{leb}
use borrow.Author.Tests.{le-leb, lt-leb, leb-true, leb-false}
use Rattle.laws.specs.Rows.{holds_at, gives_at}
use Rattle.laws.proofs.Rows.{gives_left, gives_right, holds_left, holds_right, holds_within}
use Rattle.symbols.specs.Graph.{Graph, Depends, Inside}
use Rattle.symbols.specs.Reaching.{reaches}
use Rattle.symbols.specs.Order.{Looped}
use Rattle.symbols.proofs.Tests.{not_yes}
use Rattle.symbols.proofs.Reaching.{reaches_is}
use Rattle.symbols.specs.declared.Refusal.TheVariants.{Size, Trailer, Span, Record, Order, Root, FixedRoot, Cycle}
use Rattle.formula.specs.File.{File, formula_of, record_at}
use Rattle.formula.specs.Graph.{node_of, graph_of}
use Rattle.checks.specs.Refusals.{bad_size, bad_trailer, bad_span, bad_record, outside, fixed, Rows, head_rows, rows_of, record_rows, cycle_rows, root_rows, body_rows, checks, accepted, refused, verdict}
use Rattle.checks.proofs.Cycles.{inside_means}
use Rattle.formula.specs.declared.Formula.{Formula}
use Rattle.std.specs.Prelude.{Ok, Err}
use Rattle.filelaws.specs.Fine.{Headed, Until, Free, BeforeRoot, Cycled}
use Rattle.filelaws.proofs.Exactly.{graph_rows, finding_number, refused_exactly, accepted_exactly}
use Rattle.filelaws.proofs.Places.{place_of, given_place, records_length, cycles_length, checks_length, row_exactly}

pub holds_past : (rows : Rows) (i : ℕ) → length rows ≤ i → holds_at rows i ≡ false
holds_past rows i p = not_yes (holds_at rows i) (λ h. let w = holds_within rows i h in absurd (omega arith))

-- the three rows of the head
module _ (f : File) where
  head_size : Headed f → holds_at (checks f) 0 ≡ false
  unfolding checks head_rows
  head_size h = h.size

  head_trailer : Headed f → holds_at (checks f) 1 ≡ false
  unfolding checks head_rows
  head_trailer h = h.trailer

  head_span : Headed f → holds_at (checks f) 2 ≡ false
  unfolding checks head_rows
  head_span h = h.span

  headed_from : holds_at (checks f) 0 ≡ false → holds_at (checks f) 1 ≡ false → holds_at (checks f) 2 ≡ false → Headed f
  unfolding checks head_rows
  headed_from a b c = record { size = a; trailer = b; span = c }

-- the lowest number of which a test holds
record Least (p : ℕ → Bool) (k : ℕ) : Type 0 where
  at : ℕ
  low : at ≤ k
  holds : p at ≡ true
  below : (i : ℕ) → i < at → p i ≡ false

lowest : (p : ℕ → Bool) (k : ℕ) → p k ≡ true → Least p k
lowest p zero h = record { at = zero; low = omega arith; holds = h; below = λ i b. absurd (omega arith) }
lowest p (suc k) h = from (p zero) refl (lowest (λ i. p (suc i)) k h)
  where
    from : (b : Bool) → p zero ≡ b → Least (λ i. p (suc i)) k → Least p (suc k)
    from true e w = record { at = zero; low = omega arith; holds = e; below = λ i b. absurd (omega arith) }
    from false e w =
        let l = w.low in
        record { at = suc w.at; low = omega arith; holds = w.holds; below = λ i. elim i as (λ k. k < suc w.at → p k ≡ false) [ zero ↦ λ b. e | suc j ↦ λ b. w.below j (omega arith) ] }

-- two rows of each record, upward: row q of record x stands at 2x + q
module _ (f : File) (m : Formula) where
  abbrev two : ℕ → Rows
  two x = rows_of (record_at f m x) m.count x

  holds_record : (k i x q p : ℕ) → p + 2 * i ≡ 2 * x + q → q < 2 → x < i + k → holds_at (record_rows f m k i) p ≡ holds_at (two x) q
  unfolding record_rows rows_of
  holds_record zero i x q p e h b = absurd (omega arith)
  holds_record (suc k) i x q zero e h b =
      let y : i ≡ x = omega arith in
      let z : 0 ≡ q = omega arith in
      ap (λ (w : ℕ). holds_at (two w) 0) y ∙ ap (holds_at (two x)) z
  holds_record (suc k) i x q (suc zero) e h b =
      let y : i ≡ x = omega arith in
      let z : 1 ≡ q = omega arith in
      ap (λ (w : ℕ). holds_at (two w) 1) y ∙ ap (holds_at (two x)) z
  holds_record (suc k) i x q (suc (suc p)) e h b = holds_record k (i + 1) x q p (omega arith) h (omega arith)

  gives_record : (k i x q p : ℕ) → p + 2 * i ≡ 2 * x + q → q < 2 → x < i + k → gives_at (record_rows f m k i) (Ok tt) p ≡ gives_at (two x) (Ok tt) q
  unfolding record_rows rows_of
  gives_record zero i x q p e h b = absurd (omega arith)
  gives_record (suc k) i x q zero e h b =
      let y : i ≡ x = omega arith in
      let z : 0 ≡ q = omega arith in
      ap (λ (w : ℕ). gives_at (two w) (Ok tt) 0) y ∙ ap (gives_at (two x) (Ok tt)) z
  gives_record (suc k) i x q (suc zero) e h b =
      let y : i ≡ x = omega arith in
      let z : 1 ≡ q = omega arith in
      ap (λ (w : ℕ). gives_at (two w) (Ok tt) 1) y ∙ ap (gives_at (two x) (Ok tt)) z
  gives_record (suc k) i x q (suc (suc p)) e h b = gives_record k (i + 1) x q p (omega arith) h (omega arith)

-- a row of each node, upward: that of node x stands at x
module _ (g : Graph) where
  pub holds_cycle : (k i x p : ℕ) → p + i ≡ x → x < i + k → holds_at (cycle_rows g k i) p ≡ reaches g x x
  unfolding cycle_rows
  holds_cycle zero i x p e b = absurd (omega arith)
  holds_cycle (suc k) i x zero e b = let y : i ≡ x = omega arith in ap (λ (w : ℕ). reaches g w w) y
  holds_cycle (suc k) i x (suc p) e b = holds_cycle k (i + 1) x p (omega arith) (omega arith)

  gives_cycle : (k i x p : ℕ) → p + i ≡ x → x < i + k → gives_at (cycle_rows g k i) (Ok tt) p ≡ Err (Cycle record { 0 = x })
  unfolding cycle_rows
  gives_cycle zero i x p e b = absurd (omega arith)
  gives_cycle (suc k) i x zero e b = let y : i ≡ x = omega arith in ap (λ (w : ℕ). Err (Cycle record { 0 = w })) y
  gives_cycle (suc k) i x (suc p) e b = gives_cycle k (i + 1) x p (omega arith) (omega arith)

-- the whole table: three rows of the head, the records', the nodes', the root's two
abbrev after : ℕ → ℕ
after p = suc (suc (suc p))

module _ (f : File) where
  abbrev m : Formula
  m = formula_of f

  abbrev n : ℕ
  n = (formula_of f).count

  abbrev g : Graph
  g = graph_of f (formula_of f)

  module _ (x q : ℕ) (h : q < 2) (b : x < n) where
    holds_body : holds_at (checks f) (after (2 * x + q)) ≡ holds_at (rows_of (record_at f m x) n x) q
    unfolding checks head_rows body_rows
    holds_body = let l = records_length f m n 0 in holds_left (record_rows f m n 0) (graph_rows f m) (2 * x + q) (omega arith) ∙ holds_record f m n 0 x q (2 * x + q) (omega arith) h (omega arith)

    gives_body : gives_at (checks f) (Ok tt) (after (2 * x + q)) ≡ gives_at (rows_of (record_at f m x) n x) (Ok tt) q
    unfolding checks head_rows body_rows
    gives_body = let l = records_length f m n 0 in gives_left (record_rows f m n 0) (graph_rows f m) (Ok tt) (2 * x + q) (omega arith) ∙ gives_record f m n 0 x q (2 * x + q) (omega arith) h (omega arith)

  holds_graph : (q : ℕ) → holds_at (checks f) (after (2 * n + q)) ≡ holds_at (graph_rows f m) q
  unfolding checks head_rows body_rows
  holds_graph q = let l = records_length f m n 0 in holds_right (record_rows f m n 0) (graph_rows f m) (2 * n + q) q (omega arith)

  gives_graph : (q : ℕ) → gives_at (checks f) (Ok tt) (after (2 * n + q)) ≡ gives_at (graph_rows f m) (Ok tt) q
  unfolding checks head_rows body_rows
  gives_graph q = let l = records_length f m n 0 in gives_right (record_rows f m n 0) (graph_rows f m) (Ok tt) (2 * n + q) q (omega arith)

  holds_root : (q : ℕ) → holds_at (checks f) (after (3 * n + q)) ≡ holds_at (root_rows f m) q
  holds_root q =
      let l = cycles_length g n 0 in
      let z : after (3 * n + q) ≡ after (2 * n + (n + q)) = omega arith in
      ap (holds_at (checks f)) z ∙ holds_graph (n + q) ∙ holds_right (cycle_rows g n 0) (root_rows f m) (n + q) q (omega arith)

  gives_root : (q : ℕ) → gives_at (checks f) (Ok tt) (after (3 * n + q)) ≡ gives_at (root_rows f m) (Ok tt) q
  gives_root q =
      let l = cycles_length g n 0 in
      let z : after (3 * n + q) ≡ after (2 * n + (n + q)) = omega arith in
      ap (gives_at (checks f) (Ok tt)) z ∙ gives_graph (n + q) ∙ gives_right (cycle_rows g n 0) (root_rows f m) (Ok tt) (n + q) q (omega arith)

  four : (x : ℕ) → x < n → holds_at (checks f) (after (2 * x + 0)) ≡ bad_record (record_at f m x)
  unfolding rows_of
  four x b = holds_body x 0 (omega arith) b

  five : (x : ℕ) → x < n → holds_at (checks f) (after (2 * x + 1)) ≡ outside n (node_of (record_at f m x))
  unfolding rows_of
  five x b = holds_body x 1 (omega arith) b

  thirteen : (x : ℕ) → x < n → holds_at (checks f) (after (2 * n + x)) ≡ reaches g x x
  thirteen x b =
      let l = cycles_length g n 0 in
      holds_graph x ∙ holds_left (cycle_rows g n 0) (root_rows f m) x (omega arith) ∙ holds_cycle g n 0 x x (omega arith) (omega arith)

  gives_thirteen : (x : ℕ) → x < n → gives_at (checks f) (Ok tt) (after (2 * n + x)) ≡ Err (Cycle record { 0 = x })
  gives_thirteen x b =
      let l = cycles_length g n 0 in
      gives_graph x ∙ gives_left (cycle_rows g n 0) (root_rows f m) (Ok tt) x (omega arith) ∙ gives_cycle g n 0 x x (omega arith) (omega arith)

  six : holds_at (checks f) (after (3 * n + 0)) ≡ leb n m.root.0
  unfolding root_rows
  six = holds_root 0

  seven : holds_at (checks f) (after (3 * n + 1)) ≡ fixed ((graph_of f m).node m.root.0)
  unfolding root_rows
  seven = holds_root 1

  -- where no record is 4 or 5 every operand is a node, and the test of 13 is that a node reaches itself
  pub until_inside : Until f m n → Inside g
  unfolding graph_of
  until_inside u i j p o = inside_means n j (node_of (record_at f m i)) (u.fine i p).inside o

  loops : Until f m n → (x : ℕ) → x < n → (reaches g x x ≡ true) ↔ Depends g x x
  unfolding graph_of
  loops u x b = reaches_is g (until_inside u) x x b

  loops_not : Until f m n → (x : ℕ) → x < n → (reaches g x x ≡ false) ↔ (Depends g x x → ⊥)
  loops_not u x b =
      let w = loops u x b in (
        λ e d. absurd (true≢false (sym (w.1 d) ∙ e)),
        λ h. not_yes (reaches g x x) (λ e. h (w.0 e)),
      )

  -- no row above record k's holds exactly when all is clear until k
  above : (k : ℕ) → k ≤ n → Until f m k → (i : ℕ) → i < after (2 * k) → holds_at (checks f) i ≡ false
  above k b u zero p = head_size f u.headed
  above k b u (suc zero) p = head_trailer f u.headed
  above k b u (suc (suc zero)) p = head_span f u.headed
  above k b u (suc (suc (suc i))) p =
      let j = i / 2 in
      elim (ℕ_discrete (i % 2) 0) [
        | yes e ↦ let z : suc (suc (suc i)) ≡ after (2 * j + 0) = omega arith in ap (holds_at (checks f)) z ∙ four j (omega arith) ∙ (u.fine j (omega arith)).known
        | no e ↦ let z : suc (suc (suc i)) ≡ after (2 * j + 1) = omega arith in ap (holds_at (checks f)) z ∙ five j (omega arith) ∙ (u.fine j (omega arith)).inside
      ]

  until : (k : ℕ) → k ≤ n → ((i : ℕ) → i < after (2 * k) → holds_at (checks f) i ≡ false) → Until f m k
  until k b h = record {
    headed = headed_from f (h 0 (omega arith)) (h 1 (omega arith)) (h 2 (omega arith));
    fine = λ i p. record {
      known = sym (four i (omega arith)) ∙ h (after (2 * i + 0)) (omega arith);
      inside = sym (five i (omega arith)) ∙ h (after (2 * i + 1)) (omega arith);
    };
  }

  -- nor above node k's where moreover no id below k reaches itself
  above_node : (k : ℕ) → k ≤ n → Until f m n → Free f m k → (i : ℕ) → i < after (2 * n + k) → holds_at (checks f) i ≡ false
  above_node k b u h i p =
      elim (dec_le (after (2 * n)) i) [
        | yes q ↦
            let x = i - after (2 * n) in
            let z : i ≡ after (2 * n + x) = omega arith in
            ap (holds_at (checks f)) z ∙ thirteen x (omega arith) ∙ (loops_not u x (omega arith)).1 (h x (omega arith))
        | no q ↦ above n (omega arith) u i (omega arith)
      ]

  free_from : (k : ℕ) → k ≤ n → Until f m n → ((i : ℕ) → i < after (2 * n + k) → holds_at (checks f) i ≡ false) → Free f m k
  free_from k b u h x p = (loops_not u x (omega arith)).0 (sym (thirteen x (omega arith)) ∙ h (after (2 * n + x)) (omega arith))

  before_root : ((i : ℕ) → i < after (3 * n) → holds_at (checks f) i ≡ false) → BeforeRoot f m
  before_root h =
      let u = until n (omega arith) (λ i p. h i (omega arith)) in
      record { records = u; free = free_from n (omega arith) u (λ i p. h i (omega arith)) }

  above_root : BeforeRoot f m → (i : ℕ) → i < after (3 * n) → holds_at (checks f) i ≡ false
  above_root r i p = above_node n (omega arith) r.records r.free i (omega arith)

  -- a row's place is inside the table
  within : (p : ℕ) → p < 3 * n + 2 → after p < length (checks f)
  within p b = let l = checks_length f in omega arith

  -- what precedes the second of two rows is what precedes the first, and the first
  above_second : (k : ℕ) → ((i : ℕ) → i < k → holds_at (checks f) i ≡ false) → holds_at (checks f) k ≡ false → (i : ℕ) → i < suc k → holds_at (checks f) i ≡ false
  above_second k u h i p =
      elim (ℕ_discrete i k) [
        | yes e ↦ ap (holds_at (checks f)) e ∙ h
        | no e ↦ u i (omega arith)
      ]

  above_six : BeforeRoot f m → m.root.0 < n → (i : ℕ) → i < after (3 * n + 1) → holds_at (checks f) i ≡ false
  above_six r b i p = above_second (after (3 * n + 0)) (λ j q. above_root r j (omega arith)) (six ∙ lt-leb n m.root.0 b) i (omega arith)

  -- 1 Size
  pub size_exactly : (verdict f ≡ refused 1 []) ↔ (bad_size f ≡ true)
  unfolding checks head_rows
  size_exactly =
      let l = checks_length f in
      let x = row_exactly f 0 Size (omega arith) refl in (
        λ e. (x.0 e).holds,
        λ h. x.1 record { holds = h; before = λ j p. absurd (omega arith) },
      )

  -- 2 Trailer
  pub trailer_exactly : (verdict f ≡ refused 2 []) ↔ ((bad_size f ≡ false) × (bad_trailer f ≡ true))
  unfolding checks head_rows
  trailer_exactly =
      let l = checks_length f in
      let x = row_exactly f 1 Trailer (omega arith) refl in (
        λ e. ((x.0 e).before 0 (omega arith), (x.0 e).holds),
        λ h. x.1 record { holds = h.1; before = λ j. elim j as (λ k. k < 1 → holds_at (checks f) k ≡ false) [ zero ↦ λ p. h.0 | suc k ↦ λ p. absurd (omega arith) ] },
      )

  -- 3 Span
  pub span_exactly : (verdict f ≡ refused 3 []) ↔ ((bad_size f ≡ false) × (bad_trailer f ≡ false) × (bad_span f ≡ true))
  unfolding checks head_rows
  span_exactly =
      let l = checks_length f in
      let x = row_exactly f 2 Span (omega arith) refl in (
        λ e. ((x.0 e).before 0 (omega arith), (x.0 e).before 1 (omega arith), (x.0 e).holds),
        λ h. x.1 record {
          holds = h.2;
          before = λ j. elim j as (λ k. k < 2 → holds_at (checks f) k ≡ false) [
            | zero ↦ λ p. h.0
            | suc k ↦ elim k as (λ i. suc i < 2 → holds_at (checks f) (suc i) ≡ false) [ zero ↦ λ p. h.1 | suc i ↦ λ p. absurd (omega arith) ]
          ];
        },
      )

  -- what the rows after the records' give is 6, 7 or 13
  root_number : (q : ℕ) → q < 2 → finding_number (gives_at (checks f) (Ok tt) (after (3 * n + q))) ≡ 6 + q
  unfolding root_rows finding_number
  root_number zero b = ap finding_number (gives_root 0)
  root_number (suc zero) b = ap finding_number (gives_root 1)
  root_number (suc (suc q)) b = absurd (omega arith)

  late_number : (i : ℕ) → after (2 * n) ≤ i → i < length (checks f) → 6 ≤ finding_number (gives_at (checks f) (Ok tt) i)
  unfolding finding_number
  late_number i a b =
      let l = checks_length f in
      elim (dec_le (after (3 * n)) i) [
        | yes p ↦
            let q = i - after (3 * n) in
            let z : i ≡ after (3 * n + q) = omega arith in
            let e = ap (λ (w : ℕ). finding_number (gives_at (checks f) (Ok tt) w)) z ∙ root_number q (omega arith) in
            omega arith
        | no p ↦
            let x = i - after (2 * n) in
            let z : i ≡ after (2 * n + x) = omega arith in
            let e = ap finding_number (ap (gives_at (checks f) (Ok tt)) z ∙ gives_thirteen x (omega arith)) in
            omega arith
      ]

  -- an id that is named is a node's
  named_four : (x : ℕ) → verdict f ≡ refused 4 (x ∷ []) → x < n
  unfolding place_of finding_number
  named_four x v =
      let c = (refused_exactly f (Record record { 0 = x })).0 v in
      let a : c.at ≡ 3 + 2 * x = given_place f (Record record { 0 = x }) c in
      let b = holds_within (checks f) c.at c.decides.holds in
      let k : finding_number (gives_at (checks f) (Ok tt) c.at) ≡ 4 = ap finding_number c.gives in
      elim (dec_le n x) [
        | yes e ↦ let l = late_number c.at (omega arith) b in absurd (omega arith)
        | no e ↦ omega arith
      ]

  named_five : (x : ℕ) → verdict f ≡ refused 5 (x ∷ []) → x < n
  unfolding place_of finding_number
  named_five x v =
      let c = (refused_exactly f (Order record { 0 = x })).0 v in
      let a : c.at ≡ 4 + 2 * x = given_place f (Order record { 0 = x }) c in
      let b = holds_within (checks f) c.at c.decides.holds in
      let k : finding_number (gives_at (checks f) (Ok tt) c.at) ≡ 5 = ap finding_number c.gives in
      elim (dec_le n x) [
        | yes e ↦ let l = late_number c.at (omega arith) b in absurd (omega arith)
        | no e ↦ omega arith
      ]

  named_thirteen : (x : ℕ) → verdict f ≡ refused 13 (x ∷ []) → x < n
  unfolding place_of finding_number
  named_thirteen x v =
      let c = (refused_exactly f (Cycle record { 0 = x })).0 v in
      let a : c.at ≡ 3 + 2 * n + x = given_place f (Cycle record { 0 = x }) c in
      let b = holds_within (checks f) c.at c.decides.holds in
      let k : finding_number (gives_at (checks f) (Ok tt) c.at) ≡ 13 = ap finding_number c.gives in
      let l = checks_length f in
      elim (dec_le n x) [
        | yes e ↦
            let q = x - n in
            let z : c.at ≡ after (3 * n + q) = omega arith in
            let w = ap (λ (i : ℕ). finding_number (gives_at (checks f) (Ok tt) i)) z ∙ root_number q (omega arith) in
            absurd (omega arith)
        | no e ↦ omega arith
      ]

  -- 4 Record(id)
  pub record_exactly : (x : ℕ) → (verdict f ≡ refused 4 (x ∷ [])) ↔ ((x < n) × Until f m x × (bad_record (record_at f m x) ≡ true))
  unfolding rows_of
  record_exactly x = (
    λ e.
        let b = named_four x e in
        let d = (row_exactly f (after (2 * x + 0)) (Record record { 0 = x }) (within (2 * x + 0) (omega arith)) (gives_body x 0 (omega arith) b)).0 e in
        (b, until x (omega arith) (λ i p. d.before i (omega arith)), sym (four x b) ∙ d.holds),
    λ h.
        let b = h.0 in
        (row_exactly f (after (2 * x + 0)) (Record record { 0 = x }) (within (2 * x + 0) (omega arith)) (gives_body x 0 (omega arith) b)).1
        record { holds = four x b ∙ h.2; before = λ i p. above x (omega arith) h.1 i (omega arith) },
  )

  -- 5 Order(id)
  pub order_exactly : (x : ℕ)
      → (verdict f ≡ refused 5 (x ∷ []))
      ↔ ((x < n) × Until f m x × (bad_record (record_at f m x) ≡ false) × (outside n (node_of (record_at f m x)) ≡ true))
  unfolding rows_of
  order_exactly x = (
    λ e.
        let b = named_five x e in
        let d = (row_exactly f (after (2 * x + 1)) (Order record { 0 = x }) (within (2 * x + 1) (omega arith)) (gives_body x 1 (omega arith) b)).0 e in
        (b, until x (omega arith) (λ i p. d.before i (omega arith)), sym (four x b) ∙ d.before (after (2 * x + 0)) (omega arith), sym (five x b) ∙ d.holds),
    λ h.
        let b = h.0 in
        (row_exactly f (after (2 * x + 1)) (Order record { 0 = x }) (within (2 * x + 1) (omega arith)) (gives_body x 1 (omega arith) b)).1
        record {
          holds = five x b ∙ h.3;
          before = λ i p. above_second (after (2 * x + 0)) (λ j q. above x (omega arith) h.1 j (omega arith)) (four x b ∙ h.2) i (omega arith);
        },
  )

  -- Q-1, 13 Cycle(id): "the lowest id that reaches itself, after all records, before 6"
  pub cycle_exactly : (x : ℕ) → (verdict f ≡ refused 13 (x ∷ [])) ↔ ((x < n) × Until f m n × Free f m x × Depends g x x)
  cycle_exactly x = (
    λ e.
        let b = named_thirteen x e in
        let d = (row_exactly f (after (2 * n + x)) (Cycle record { 0 = x }) (within (2 * n + x) (omega arith)) (gives_thirteen x b)).0 e in
        let u = until n (omega arith) (λ i p. d.before i (omega arith)) in
        (b, u, free_from x (omega arith) u (λ i p. d.before i p), (loops u x b).0 (sym (thirteen x b) ∙ d.holds)),
    λ h.
        let b = h.0 in
        (row_exactly f (after (2 * n + x)) (Cycle record { 0 = x }) (within (2 * n + x) (omega arith)) (gives_thirteen x b)).1
        record { holds = thirteen x b ∙ (loops h.1 x b).1 h.3; before = λ i p. above_node x (omega arith) h.1 h.2 i p },
  )

  -- some 13 is given exactly when 1 to 5 are not and some node reaches itself
  pub cycle_given : Cycled f ↔ (Until f m n × Looped g)
  unfolding graph_of
  cycle_given = (
    λ c. let h = (cycle_exactly c.at).0 c.given in (h.1, record { at = c.at; inside = h.0; loop = h.3 }),
    λ h.
        let u = h.0 in
        let l = h.1 in
        let p : l.at < n = l.inside in
        let w = lowest (λ x. reaches g x x) l.at ((loops u l.at p).1 l.loop) in
        let low = w.low in
        record {
          at = w.at;
          given = (cycle_exactly w.at).1 (
            omega arith,
            u,
            λ i q. (loops_not u i (omega arith)).0 (w.below i q),
            (loops u w.at (omega arith)).0 w.holds,
          );
        },
  )

  -- 6 Root
  pub root_exactly : (verdict f ≡ refused 6 []) ↔ (BeforeRoot f m × (n ≤ m.root.0))
  unfolding root_rows
  root_exactly =
      let x = row_exactly f (after (3 * n + 0)) Root (within (3 * n + 0) (omega arith)) (gives_root 0) in (
        λ e. (before_root (λ i p. (x.0 e).before i (omega arith)), leb-true n m.root.0 (sym six ∙ (x.0 e).holds)),
        λ h. x.1 record { holds = six ∙ le-leb n m.root.0 h.1; before = λ i p. above_root h.0 i (omega arith) },
      )

  -- 7 FixedRoot
  pub fixed_root_exactly : (verdict f ≡ refused 7 []) ↔ (BeforeRoot f m × (m.root.0 < n) × (fixed ((graph_of f m).node m.root.0) ≡ true))
  unfolding root_rows
  fixed_root_exactly =
      let x = row_exactly f (after (3 * n + 1)) FixedRoot (within (3 * n + 1) (omega arith)) (gives_root 1) in (
        λ e. (
          before_root (λ i p. (x.0 e).before i (omega arith)),
          leb-false n m.root.0 (sym six ∙ (x.0 e).before (after (3 * n + 0)) (omega arith)),
          sym seven ∙ (x.0 e).holds,
        ),
        λ h. x.1 record { holds = seven ∙ h.2; before = λ i p. above_six h.0 h.1 i (omega arith) },
      )

  -- none of them
  pub accepted_when : (verdict f ≡ accepted m) ↔ (BeforeRoot f m × (m.root.0 < n) × (fixed ((graph_of f m).node m.root.0) ≡ false))
  accepted_when = (
    λ e.
        let h = (accepted_exactly f).0 e in
        (before_root (λ i p. h i), leb-false n m.root.0 (sym six ∙ h (after (3 * n + 0))), sym seven ∙ h (after (3 * n + 1))),
    λ h. (accepted_exactly f).1 (λ i.
        elim (ℕ_discrete i (after (3 * n + 1))) [
          | yes e ↦ ap (holds_at (checks f)) e ∙ seven ∙ h.2
          | no e ↦
              elim (dec_le i (after (3 * n + 1))) [
                | yes p ↦ above_six h.0 h.1 i (omega arith)
                | no p ↦ let l = checks_length f in holds_past (checks f) i (omega arith)
              ]
        ]),
  )
