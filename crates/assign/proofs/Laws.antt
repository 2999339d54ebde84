-- Laws of `settle` and of the start: all that the crates above use of them. Assumes nothing.
use Prim.Native.Nat.{ℕ, zero, suc, ◌≤◌, ◌<◌, ◌^◌}
use mathlib.Core.Path.{◌≡◌, refl, sym, ap, subst, ◌∙◌}
use mathlib.Core.Logic.{◌⊎◌, inl, inr}
use native.Mathlib.Omega.{arith}
use native.Mathlib.Decide.{ℕ_discrete, dec_le}
use lib.Dec.{eqb}
use lib.ListN.{length, get_or, set, replicate, length-set, length-replicate, get_or-eq_default}
use lib.Seq.{get_or-set_same, get_or-set_other, ext_get_or}
use Rattle.bitvec.specs.Word.{is_zero}
use Rattle.words.specs.Words.{Words}
use Rattle.words.proofs.Draws.{Small}
use Rattle.symbols.specs.Graph.{Id, Value, Node, constant, input, unary, binary, Graph, Operand}
use Rattle.symbols.specs.Width.{fits}
use Rattle.symbols.proofs.Fitting.{bits_old, cut_fits, cut_below, word_64}
use Rattle.symbols.specs.declared.Port.{Port}
use Rattle.symbols.specs.Order.{Acyclic}
use Rattle.symbols.specs.Operators.{apply}
use Rattle.search.specs.Machine.{Values, value_of}
use Rattle.search.specs.Lawful.{Redone}
use Rattle.search.specs.Solution as solution
use Rattle.search.proofs.Bounds.{bit_below, apply_below}
use Rattle.search.specs.Solution.{Sane}
use Rattle.assign.specs.Settle.{worked, worth, each_below, settle}
use Rattle.assign.specs.Start.{wanted_up_to, first_by, first_of, given_up_to, start_from, start_of}

-- a node that is no operator
abbrev pub Leaf : Node → Type 0
Leaf (constant c) = Unit {0}
Leaf (input l) = Unit {0}
Leaf (unary a) = ⊥
Leaf (binary o a b) = ⊥

-- node i's equation: a leaf's says nothing
abbrev pub RightAt : Graph → Values → Id → Type 0
RightAt g vs i = value_of vs i ≡ worked (g.node i) (value_of vs i) (value_of vs)

abbrev pub Right : Graph → Values → Type 0
Right g vs = (i : Id) → i < g.count → RightAt g vs i

-- the same on every constant and input
abbrev pub SameLeaves : Graph → Values → Values → Type 0
SameLeaves g vs us = (i : Id) → i < g.count → Leaf (g.node i) → value_of us i ≡ value_of vs i

pub each_length : (n : ℕ) (f : ℕ → ℕ) → length (each_below n f) ≡ n
unfolding each_below
each_length zero f = refl
each_length (suc n) f = ap suc (each_length n (λ i. f (suc i)))

pub each_at : (n : ℕ) (f : ℕ → ℕ) (i : ℕ) → i < n → get_or (each_below n f) i 0 ≡ f i
unfolding each_below
each_at zero f i h = absurd (omega arith)
each_at (suc n) f zero h = refl
each_at (suc n) f (suc i) h = each_at n (λ j. f (suc j)) i (omega arith)

-- a leaf keeps what it has
pub leaf_worked : (n : Node) (own : Value) (v : Id → Value) → Leaf n → worked n own v ≡ own
leaf_worked (constant c) own v l = refl
leaf_worked (input x) own v l = refl
leaf_worked (unary a) own v l = absurd l
leaf_worked (binary o a b) own v l = absurd l

-- what is worked out looks only at operands, and at a leaf's own value
pub worked_same : (n : Node) (x y : Value) (v w : Id → Value) → ((j : Id) → Operand n j → v j ≡ w j) → (Leaf n → x ≡ y) → worked n x v ≡ worked n y w
worked_same (constant c) x y v w e l = l tt
worked_same (input u) x y v w e l = l tt
worked_same (unary a) x y v w e l = ap is_zero (e a refl)
worked_same (binary o a b) x y v w e l = ap (λ (z : ℕ). apply o z (v b)) (e a (inl refl)) ∙ ap (apply o (w a)) (e b (inr refl))

module _ (g : Graph) where
  worth_leaf : (vs : Values) (k : ℕ) (i : Id) → Leaf (g.node i) → worth g vs k i ≡ value_of vs i
  unfolding worth
  worth_leaf vs zero i l = refl
  worth_leaf vs (suc k) i l = leaf_worked (g.node i) (value_of vs i) (λ j. worth g vs k j) l

  settle_at : (vs : Values) (i : Id) → i < g.count → value_of (settle g vs) i ≡ worth g vs g.count i
  unfolding settle
  settle_at vs i p = each_at g.count (worth g vs g.count) i p

  -- a value for each node
  pub settle_length : (vs : Values) → length (settle g vs) ≡ g.count
  unfolding settle
  settle_length vs = each_length g.count (worth g vs g.count)

  -- constants and inputs are kept
  pub settle_leaf : (vs : Values) → SameLeaves g vs (settle g vs)
  settle_leaf vs i p l = settle_at vs i p ∙ worth_leaf vs g.count i l

  module _ (acyclic : Acyclic g) where
    -- to ask deeper than a node's rank changes nothing
    worth_steady : (vs : Values) (k l : ℕ) (i : Id) → i < g.count → acyclic.rank i < k → acyclic.rank i < l → worth g vs k i ≡ worth g vs l i
    unfolding worth
    worth_steady vs zero l i b p q = absurd (omega arith)
    worth_steady vs (suc k) zero i b p q = absurd (omega arith)
    worth_steady vs (suc k) (suc l) i b p q =
        worked_same (g.node i) (value_of vs i) (value_of vs i) (λ j. worth g vs k j) (λ j. worth g vs l j)
        (λ j o.
        let f = acyclic.falls i j b o in
        worth_steady vs k l j (acyclic.inside i j b o) (omega arith) (omega arith))
        (λ f. refl)

    worth_right : (vs : Values) (i : Id) → i < g.count → worth g vs g.count i ≡ worked (g.node i) (value_of vs i) (worth g vs g.count)
    unfolding worth
    worth_right vs i p = let r = acyclic.bounded i p in worth_steady vs g.count (suc g.count) i p r (omega arith)

    -- every operator is right
    pub settle_right : (vs : Values) → Right g (settle g vs)
    settle_right vs i p =
        settle_at vs i p
        ∙ worth_right vs i p
        ∙ worked_same (g.node i) (value_of vs i) (value_of (settle g vs) i) (worth g vs g.count) (value_of (settle g vs))
        (λ j o. sym (settle_at vs j (acyclic.inside i j p o)))
        (λ l. sym (settle_leaf vs i p l))

    -- two right lists that agree on the leaves agree
    agree : (vs us : Values) → Right g vs → Right g us → SameLeaves g us vs → (k : ℕ) (i : Id) → acyclic.rank i < k → i < g.count → value_of vs i ≡ value_of us i
    agree vs us a b e zero i p q = absurd (omega arith)
    agree vs us a b e (suc k) i p q =
        a i q
        ∙ worked_same (g.node i) (value_of vs i) (value_of us i) (value_of vs) (value_of us)
        (λ j o. agree vs us a b e k j (let f = acyclic.falls i j q o in omega arith) (acyclic.inside i j q o))
        (e i q)
        ∙ sym (b i q)

    -- any list of that length, right, with the same leaves, is this one: "the end state is the one solution of all operator
    -- equations", in whatever order they were worked out
    pub settle_only : (vs us : Values) → length us ≡ g.count → Right g us → SameLeaves g vs us → us ≡ settle g vs
    settle_only vs us m h e =
        ext_get_or 0 us (settle g vs) (m ∙ sym (settle_length vs))
        (λ i b.
        let p : i < g.count = omega arith in
        agree us (settle g vs) h (settle_right vs) (λ x c f. e x c f ∙ sym (settle_leaf vs x c f)) g.count i (acyclic.bounded i p) p)

    -- the two as the machine asks for them
    redone_by : (n : Node) (i : Id) (vs us : Values) → (Leaf n → value_of us i ≡ value_of vs i) → value_of us i ≡ worked n (value_of us i) (value_of us)
        → Redone n (value_of vs) (value_of us) i
    redone_by (constant c) i vs us l r = l tt
    redone_by (input v) i vs us l r = l tt
    redone_by (unary a) i vs us l r = r
    redone_by (binary o a b) i vs us l r = r

    pub settle_redone : (vs : Values) (i : Id) → i < g.count → Redone (g.node i) (value_of vs) (value_of (settle g vs)) i
    settle_redone vs i p = redone_by (g.node i) i vs (settle g vs) (settle_leaf vs i p) (settle_right vs i p)

-- "values are 0..M": every operator keeps within
module _ (g : Graph) where
  abbrev pub Below : Values → Type 0
  Below vs = (j : Id) → value_of vs j < 2 ^ 64

  worked_below : (n : Node) (own : Value) (v : Id → Value) → own < 2 ^ 64 → ((j : Id) → v j < 2 ^ 64) → worked n own v < 2 ^ 64
  worked_below (constant c) own v h b = h
  worked_below (input l) own v h b = h
  worked_below (unary a) own v h b = bit_below (eqb (v a) 0)
  worked_below (binary o x y) own v h b = apply_below o _ _ (b x) (b y)

  worth_below : (vs : Values) → Below vs → (k : ℕ) → (i : Id) → worth g vs k i < 2 ^ 64
  unfolding worth
  worth_below vs b zero i = b i
  worth_below vs b (suc k) i = worked_below (g.node i) (value_of vs i) (λ j. worth g vs k j) (b i) (worth_below vs b k)

  -- within the list is everywhere: past its end 0 is read
  pub all_below : (vs : Values) → length vs ≡ g.count → ((i : Id) → i < g.count → value_of vs i < 2 ^ 64) → Below vs
  all_below vs l h j =
      elim (dec_le (length vs) j) [
        | yes q ↦ subst (λ (x : ℕ). x < 2 ^ 64) (sym (get_or-eq_default vs 0 q)) (omega arith)
        | no q ↦ h j (omega arith)
      ]

  -- values below 2^64 are kept so
  pub settle_below : (vs : Values) → length vs ≡ g.count → ((i : Id) → i < g.count → value_of vs i < 2 ^ 64) → (i : Id) → i < g.count → value_of (settle g vs) i < 2 ^ 64
  settle_below vs l h i p = subst (λ (x : ℕ). x < 2 ^ 64) (sym (settle_at g vs i p)) (worth_below vs (all_below vs l h) g.count i)

  module _ (ws : Words) where
    pub given_length : (k : ℕ) (vs : Values) → length (given_up_to g ws k vs) ≡ length vs
    unfolding given_up_to
    given_length zero vs = refl
    given_length (suc k) vs = length-set (given_up_to g ws k vs) k _ ∙ given_length k vs

    -- each of the first k nodes has its first value, whatever stood there
    given_is : (k : ℕ) (vs : Values) → k ≤ length vs → (j : Id) → j < k → value_of (given_up_to g ws k vs) j ≡ first_of g ws j
    unfolding given_up_to
    given_is zero vs l j p = absurd (omega arith)
    given_is (suc k) vs l j p =
        elim (ℕ_discrete j k) [
          | yes w ↦
              ap (value_of (set (given_up_to g ws k vs) k (first_of g ws k))) w
              ∙ get_or-set_same (given_up_to g ws k vs) k _ 0 (let e = given_length k vs in omega arith)
              ∙ ap (first_of g ws) (sym w)
          | no w ↦ get_or-set_other (given_up_to g ws k vs) k j _ 0 w ∙ given_is k vs (omega arith) j (omega arith)
        ]

    abbrev blank : Values
    blank = replicate g.count 0

    blank_long : length blank ≡ g.count
    blank_long = length-replicate g.count 0

    -- in every list as long as the graph the start leaves the same
    pub start_any : (vs : Values) → length vs ≡ g.count → start_from g ws vs ≡ start_of g ws
    unfolding start_of start_from
    start_any vs l =
        let n = g.count in
        ap (settle g)
        (ext_get_or 0 (given_up_to g ws n vs) (given_up_to g ws n blank) (given_length n vs ∙ l ∙ sym (given_length n blank ∙ blank_long))
        (λ j b.
        let e = given_length n vs in
        given_is n vs (omega arith) j (omega arith) ∙ sym (given_is n blank (omega (arith, blank_long)) j (omega arith))))

    pub start_length : length (start_of g ws) ≡ g.count
    unfolding start_of start_from
    start_length = settle_length g _

    -- a leaf has its first value: a constant its own, an input its word cut to its width
    pub start_leaf : (i : Id) → i < g.count → Leaf (g.node i) → value_of (start_of g ws) i ≡ first_of g ws i
    unfolding start_of start_from
    start_leaf i p l = settle_leaf g _ i p l ∙ given_is g.count blank (omega (arith, blank_long)) i p

    -- every operator is right
    pub start_right : Acyclic g → Right g (start_of g ws)
    unfolding start_of start_from
    start_right acyclic = settle_right g acyclic _

    -- constants have their value, inputs their word cut to their width, and every operator is right
    right_by : (n : Node) (i : Id) (vs : Values) → (Leaf n → value_of vs i ≡ first_by n ws (wanted_up_to g i)) → value_of vs i ≡ worked n (value_of vs i) (value_of vs) → solution.Right n (value_of vs) i
    right_by (constant c) i vs l r = l tt
    right_by (input p) i vs l r = ap (fits p) (l tt) ∙ cut_fits p (get_or ws (wanted_up_to g i) 0)
    right_by (unary a) i vs l r = r
    right_by (binary o a b) i vs l r = r

    -- Q-3, "so old files mean the same": at width bytes 0 and 64 an input's first value is its word
    pub first_old : (p : Port) (k : ℕ) → Small ws → (p.width ≡ 0) ⊎ (p.width ≡ 64) → first_by (input p) ws k ≡ get_or ws k 0
    first_old p k w h = word_64 p (get_or ws k 0) (w k) (bits_old p h)

    first_below : (n : Node) (i : Id) → Small ws → ((c : Value) → n ≡ constant c → c < 2 ^ 64) → first_by n ws (wanted_up_to g i) < 2 ^ 64
    first_below (constant c) i w b = b c refl
    first_below (input p) i w b = cut_below p (get_or ws (wanted_up_to g i) 0) (w (wanted_up_to g i))
    first_below (unary a) i w b = w (wanted_up_to g i)
    first_below (binary o x y) i w b = w (wanted_up_to g i)

    -- the start's values are sane, where words and constants are values
    pub start_sane : Acyclic g → Small ws → ((i : Id) (c : Value) → i < g.count → g.node i ≡ constant c → c < 2 ^ 64) → Sane g (start_of g ws)
    unfolding start_of start_from first_of
    start_sane acyclic w b =
        let n = g.count in
        record {
          long = start_length;
          below =
              settle_below (given_up_to g ws n blank) (given_length n blank ∙ blank_long)
              (λ i p.
              subst (λ (x : ℕ). x < 2 ^ 64) (sym (given_is n blank (omega (arith, blank_long)) i p)) (first_below (g.node i) i w (λ c. b i c p)));
          solution = record { right = λ i p. right_by (g.node i) i (start_of g ws) (start_leaf i p) (start_right acyclic i p) };
        }
