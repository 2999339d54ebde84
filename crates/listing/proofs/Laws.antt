-- Q-2's sentences about the listing, of a graph in which no node reaches itself. Assumes nothing.
use Prim.Native.Nat.{ℕ, ◌+◌, ◌<◌}
use mathlib.Core.Path.{◌≡◌, refl, sym, ap, ◌∙◌}
use mathlib.Core.List.{[], ◌∷◌, ◌++◌, append_assoc, append-nil}
use mathlib.Core.Bool.{true, false}
use mathlib.Core.Logic.{◌⊎◌, ◌↔◌}
use native.Mathlib.Omega.{arith}
use native.Mathlib.Decide.{dec_le}
use lib.ListN.{length, drop, length-append, drop_of_length-le}
use lib.Seq.{append_snoc}
use borrow.Author.Tests.{le-leb, lt-leb}
use Rattle.text.specs.Text.{Text}
use Rattle.symbols.specs.Graph.{Id, Graph, Operand, Depends}
use Rattle.symbols.specs.Order.{Acyclic}
use Rattle.symbols.specs.declared.Refusal.TheVariants.{Short}
use Rattle.visits.specs.Walk.{Ids, has, listed}
use Rattle.visits.proofs.Has.{not_both, refuted, split_of, has_last, has_more}
use Rattle.visits.proofs.Listed.{listed_tidy, listed_exactly}
use Rattle.listing.specs.Listing.{line_of, lines, listing}
use Rattle.listing.specs.Answer.{written, refuse, fitted}
use Rattle.listing.proofs.Prefixes.{lines_append}

has_here : (p q : Ids) (i : Id) → has (p ++ i ∷ q) i ≡ true
has_here p q i = rw (← append_snoc p i q) (has_more (p ++ (i ∷ [])) q i (has_last p i))

-- the lengths of the lines, added up
unfoldable pub total : Graph → Ids → ℕ
total g [] = 0
total g (i ∷ l) = length (line_of i (g.node i)) + total g l

module _ (g : Graph) where
  lines_length : (l : Ids) → length (lines g l) ≡ total g l
  unfolding lines total
  lines_length [] = refl
  lines_length (i ∷ l) = length-append (line_of i (g.node i)) (lines g l) ∙ ap (λ (n : ℕ). length (line_of i (g.node i)) + n) (lines_length l)

  -- "The answer is the length": of all lines together
  pub listing_length : length (listing g) ≡ total g (listed g)
  unfolding listing
  listing_length = lines_length (listed g)

  -- the line of a node that stands between p and q in the list stands between their lines
  lines_at : (p q : Ids) (i : Id) → lines g (p ++ i ∷ q) ≡ lines g p ++ line_of i (g.node i) ++ lines g q
  unfolding lines
  lines_at p q i = lines_append g p (i ∷ q) ∙ sym (append_assoc (lines g p) (line_of i (g.node i)) (lines g q))

  -- the only line of i, and what stands before and behind it
  pub record Line (i : Id) : Type 0 where
    pub before : Ids
    pub behind : Ids
    pub order : listed g ≡ before ++ i ∷ behind
    pub stands : listing g ≡ lines g before ++ line_of i (g.node i) ++ lines g behind
    pub first : has before i ≡ false
    pub last : has behind i ≡ false
    pub operands : (j : Id) → Operand (g.node i) j → has before j ≡ true

  module _ (a : Acyclic g) (rooted : g.root < g.count) where
    -- what stands behind a place is not i either
    never_again : (p q : Ids) (i : Id) → listed g ≡ p ++ i ∷ q → has q i ≡ false
    never_again p q i e =
        refuted (has q i)
        (λ h.
        let s = split_of q i h in
        let w : listed g ≡ (p ++ i ∷ s.front) ++ i ∷ s.rest
        = e ∙ ap (λ (l : Ids). p ++ i ∷ l) s.is ∙ sym (append_assoc p (i ∷ s.front) (i ∷ s.rest)) in
        not_both (has_here p s.front i) ((listed_tidy g a rooted).once (p ++ i ∷ s.front) s.rest i w))

    -- "Nodes reachable from the root come once each, … operands before their operator": and no others come
    pub line_of_lem : (i : Id) → (i ≡ g.root) ⊎ Depends g g.root i → Line i
    unfolding listing
    line_of_lem i r =
        let s = split_of (listed g) i ((listed_exactly g a rooted i).1 r) in
        let t = listed_tidy g a rooted in
        record {
          before = s.front;
          behind = s.rest;
          order = s.is;
          stands = ap (lines g) s.is ∙ lines_at s.front s.rest i;
          first = t.once s.front s.rest i s.is;
          last = never_again s.front s.rest i s.is;
          operands = λ j o. t.behind s.front s.rest i j s.is o;
        }

    pub line_only : (i : Id) → Line i → (i ≡ g.root) ⊎ Depends g g.root i
    line_only i l = (listed_exactly g a rooted i).0 (rw l.order (has_here l.before l.behind i))

-- "14 Short, exactly when the listing is longer than the buffer"
module _ (text out : Text) where
  pub short_exactly : (fitted text out ≡ refuse Short out) ↔ (length out < length text)
  unfolding fitted
  short_exactly = (shorter, λ h. rw (lt-leb (length text) (length out) h))
    where
      shorter : fitted text out ≡ refuse Short out → length out < length text
      shorter e =
          elim (dec_le (length text) (length out)) [
            | yes h ↦
                let w : written (length text) (text ++ drop (length text) out) ≡ refuse Short out = rw (le-leb (length text) (length out) h) at e in
                let z : ◌≡◌ {A = ℕ} 0 1 = cc in
                absurd (omega arith)
            | no h ↦ omega arith
          ]

  -- a buffer of exactly that length suffices, and one byte less does not
  pub just_fits : length out ≡ length text → fitted text out ≡ written (length text) text
  unfolding fitted
  just_fits e = rw (le-leb (length text) (length out) (omega arith), drop_of_length-le out {i = length text} (omega arith), append-nil text)

  pub one_less : length out + 1 ≡ length text → fitted text out ≡ refuse Short out
  one_less e = short_exactly.1 (omega arith)
