-- How long a listing can be: no more lines than there are nodes, and 32 bytes a line. Assumes nothing.
use Prim.Native.Nat.{ℕ, ◌*◌, ◌≤◌, ◌<◌}
use mathlib.Core.Path.{◌≡◌, refl, ap}
use mathlib.Core.List.{[], ◌∷◌, ◌++◌}
use mathlib.Core.Bool.{true, false}
use mathlib.Core.Logic.{inl, inr, ⊎_elim}
use native.Mathlib.Omega.{arith}
use lib.ListN.{length, length-append}
use lib.Dec.{eqb}
use borrow.Author.Tests.{eq-eqb}
use Rattle.symbols.specs.Graph.{Id, Graph, Depends, direct, through}
use Rattle.symbols.specs.Order.{Acyclic}
use Rattle.symbols.proofs.Tests.{or_yes, or_no}
use Rattle.symbols.proofs.Ranks.{counted, no_more, fewer, counted_all}
use Rattle.visits.specs.Walk.{Ids, has, listed}
use Rattle.visits.proofs.Has.{not_both, refuted, split_of}
use Rattle.visits.proofs.Listed.{listed_tidy, listed_exactly}
use Rattle.listing.specs.Listing.{line_of, lines, listing}
use Rattle.listing.proofs.Lengths.{Small, line_short}

-- at each place, none before it is the same
abbrev Once : Ids → Type 0
Once l = (p q : Ids) (i : Id) → l ≡ p ++ i ∷ q → has p i ≡ false

module _ (x : Id) (l : Ids) (once : Once (x ∷ l)) where
  once_rest : Once l
  unfolding has
  once_rest p q i e = (or_no (eqb x i) (has p i) (once (x ∷ p) q i (ap (λ (t : Ids). x ∷ t) e))).1

  once_first : has l x ≡ false
  unfolding has
  once_first =
      refuted (has l x)
      (λ h.
      let s = split_of l x h in
      not_both (eq-eqb x x refl) (or_no (eqb x x) (has s.front x) (once (x ∷ s.front) s.rest x (ap (λ (t : Ids). x ∷ t) s.is))).0)

has_first : (x : Id) (l : Ids) → has (x ∷ l) x ≡ true
unfolding has
has_first x l = (or_yes (eqb x x) (has l x)).1 (inl (eq-eqb x x refl))

has_rest : (x i : Id) (l : Ids) → has l i ≡ true → has (x ∷ l) i ≡ true
unfolding has
has_rest x i l h = (or_yes (eqb x i) (has l i)).1 (inr h)

-- as many as there are numbers that it has
as_many : (n : ℕ) (l : Ids) → Once l → ((i : Id) → has l i ≡ true → i < n) → length l ≤ counted (has l) n
as_many n [] once below = omega arith
as_many n (x ∷ l) once below =
    omega (
      arith,
      as_many n l (once_rest x l once) (λ i h. below i (has_rest x i l h)),
      fewer (has l) (has (x ∷ l)) n (λ i b h. has_rest x i l h) x (below x (has_first x l)) (once_first x l once) (has_first x l),
    )

module _ (g : Graph) (a : Acyclic g) (rooted : g.root < g.count) where
  reached_inside : (i j : Id) → i < g.count → Depends g i j → j < g.count
  reached_inside i j h (direct _ _ o) = a.inside i j h o
  reached_inside i j h (through _ k _ o d) = reached_inside k j (a.inside i k h o) d

  listed_inside : (i : Id) → has (listed g) i ≡ true → i < g.count
  listed_inside i h =
      ⊎_elim (λ (e : i ≡ g.root). rw e rooted) (λ d. reached_inside g.root i rooted d) ((listed_exactly g a rooted i).0 h)

  pub listed_few : length (listed g) ≤ g.count
  listed_few =
      let t = as_many g.count (listed g) (listed_tidy g a rooted).once listed_inside in
      omega (arith, no_more (has (listed g)) (λ x. true) g.count (λ x b h. refl), counted_all g.count)

  module _ (few : g.count ≤ 10000) (small : (i : Id) → i < g.count → Small (g.node i)) where
    lines_short : (l : Ids) → ((i : Id) → has l i ≡ true → i < g.count) → length (lines g l) ≤ 32 * length l
    unfolding lines
    lines_short [] below = omega arith
    lines_short (i ∷ l) below =
        let b = below i (has_first i l) in
        rw (length-append (line_of i (g.node i)) (lines g l))
        (omega (arith, line_short i (g.node i) (omega arith) (small i b), lines_short l (λ j h. below j (has_rest i j l h))))

    -- a graph of 4,000 nodes has a listing of at most 128,000 bytes
    pub listing_short : length (listing g) ≤ 32 * g.count
    unfolding listing
    listing_short = omega (arith, lines_short (listed g) listed_inside, listed_few)
