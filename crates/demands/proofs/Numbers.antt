-- Demand 1, number by number: each is given exactly when the paper's table says, and then the values are as lent. What each test says
-- in the paper's words is in crate filelaws, Meanings. Assumes nothing.
use Prim.Native.Nat.{ℕ, ◌≤◌, ◌<◌}
use mathlib.Core.Path.{◌≡◌, refl, sym, ap, ◌∙◌}
use mathlib.Core.List.{List, [], ◌∷◌}
use mathlib.Core.Bool.{true, false}
use mathlib.Core.Logic.{◌↔◌}
use native.Mathlib.Omega.{arith}
use lib.ListN.{length}
use Rattle.std.specs.Prelude.{Ok, Err}
use Rattle.laws.specs.Rows.{gives_at}
use Rattle.words.specs.Words.{Words}
use Rattle.symbols.specs.Graph.{Id, Graph, Depends}
use Rattle.symbols.specs.Refusals.{number_of, values_of}
use Rattle.symbols.proofs.Numbers.{refusal_injective}
use Rattle.symbols.specs.declared.Refusal.{Refusal}
use Rattle.symbols.specs.declared.Refusal.TheVariants as refusal
use Rattle.formula.specs.File.{File, formula_of, record_at}
use Rattle.formula.specs.Graph.{node_of}
use Rattle.checks.specs.Refusals as file
use Rattle.checks.specs.Refusals.{Finding, bad_size, bad_trailer, bad_span, bad_record, outside, fixed, head_rows, checks, verdict}
use Rattle.filelaws.specs.Fine.{Until, Free, BeforeRoot}
use Rattle.filelaws.proofs.Exactly.{refused_exactly}
use Rattle.filelaws.proofs.Places.{place_of, given_place}
use Rattle.filelaws.proofs.Numbers.{size_exactly, trailer_exactly, span_exactly, record_exactly, order_exactly, cycle_exactly, root_exactly, fixed_root_exactly}
use Rattle.search.specs.Machine.{Values, Out}
use Rattle.rules.specs.One.{one}
use Rattle.assign.specs.Start.{wanted}
use Rattle.solve.specs.Solve.{Result, ended, refused, refuse, answer}
use Rattle.demands.specs.Call.{graph_in, Accepted, search_in}
use Rattle.demands.proofs.Table.{Came, by_file, by_room, by_words, by_search, came, came_only}

-- the file's check gives neither 8 nor 9: its first row would have to
module _ (f : File) where
  not_of_file : (r : Refusal) → place_of (formula_of f).count r ≡ 0 → (refusal.Size ≡ r → ⊥) → verdict f ≡ file.refuse r → ⊥
  unfolding checks head_rows
  not_of_file r z ne e =
      let h = (refused_exactly f r).0 e in
      let w : ◌≡◌ {A = Finding} (Err refusal.Size) (Err r) = ap (gives_at (checks f) (Ok tt)) (sym (given_place f r h ∙ z)) ∙ h.gives in
      ne cc

  room_not : verdict f ≡ file.refuse refusal.Room → ⊥
  unfolding place_of
  room_not = not_of_file refusal.Room refl (λ e. let z : ◌≡◌ {A = ℕ} 0 1 = cc in omega arith)

  words_not : verdict f ≡ file.refuse refusal.Words → ⊥
  unfolding place_of
  words_not = not_of_file refusal.Words refl (λ e. let z : ◌≡◌ {A = ℕ} 0 1 = cc in omega arith)

ended_refused : {o : Out} {k : ℕ} {is : List ℕ} {us : Values} {G : Type 0} → ended o ≡ refused k is us → G
ended_refused e = let z : ◌≡◌ {A = ℕ} 0 1 = cc in absurd (omega arith)

pub refuse_injective : (r q : Refusal) (us vs : Values) → refuse r us ≡ refuse q vs → (r ≡ q) × (us ≡ vs)
refuse_injective r q us vs e =
    let a : number_of r ≡ number_of q = cc in
    let b : values_of r ≡ values_of q = cc in
    (refusal_injective r q a b, cc)

module _ (f : File) (ws : Words) (budget : ℕ) (vs : Values) where
  abbrev g : Graph
  g = graph_in f

  abbrev answered : Result
  answered = answer one f ws budget vs

  -- "and writes nothing"
  pub refused_keeps : (k : ℕ) (is : List ℕ) (us : Values) → answered ≡ refused k is us → us ≡ vs
  refused_keeps k is us e = go answered (came f ws budget vs) e
    where
      go : (x : Result) → Came f ws budget vs x → x ≡ refused k is us → us ≡ vs
      go x (by_file r h) q = cc
      go x (by_room h l) q = cc
      go x (by_words h l w) q = cc
      go x (by_search a) q = ended_refused q

  -- 1 to 7 and 13 are the file's
  of_file : (r : Refusal) → (refusal.Room ≡ r → ⊥) → (refusal.Words ≡ r → ⊥) → (answered ≡ refuse r vs) ↔ (verdict f ≡ file.refuse r)
  of_file r nr nw = (λ e. go answered (came f ws budget vs) e, λ h. came_only f ws budget vs _ (by_file r h))
    where
      go : (x : Result) → Came f ws budget vs x → x ≡ refuse r vs → verdict f ≡ file.refuse r
      go x (by_file q h) e = h ∙ ap file.refuse (refuse_injective q r vs vs e).0
      go x (by_room h l) e = absurd (nr (refuse_injective refusal.Room r vs vs e).0)
      go x (by_words h l w) e = absurd (nw (refuse_injective refusal.Words r vs vs e).0)
      go x (by_search a) e = ended_refused e

  both : {A B C : Type 0} → A ↔ B → B ↔ C → A ↔ C
  both p q = (λ a. q.0 (p.0 a), λ c. p.1 (q.1 c))

  -- 1 Size: "file under 16 or over 65,536 bytes"
  pub given_1 : (answered ≡ refused 1 [] vs) ↔ (bad_size f ≡ true)
  given_1 = both (of_file refusal.Size (λ e. let z : ◌≡◌ {A = ℕ} 0 1 = cc in omega arith) (λ e. let z : ◌≡◌ {A = ℕ} 0 1 = cc in omega arith)) (size_exactly f)

  -- 2 Trailer: "version not 1, or last field not zero"
  pub given_2 : (answered ≡ refused 2 [] vs) ↔ ((bad_size f ≡ false) × (bad_trailer f ≡ true))
  given_2 = both (of_file refusal.Trailer (λ e. let z : ◌≡◌ {A = ℕ} 0 1 = cc in omega arith) (λ e. let z : ◌≡◌ {A = ℕ} 0 1 = cc in omega arith)) (trailer_exactly f)

  -- 3 Span: "distance 0, not a multiple of 16, over 64,000, or over length − 16"
  pub given_3 : (answered ≡ refused 3 [] vs) ↔ ((bad_size f ≡ false) × (bad_trailer f ≡ false) × (bad_span f ≡ true))
  given_3 = both (of_file refusal.Span (λ e. let z : ◌≡◌ {A = ℕ} 0 1 = cc in omega arith) (λ e. let z : ◌≡◌ {A = ℕ} 0 1 = cc in omega arith)) (span_exactly f)

  -- 4 Record(id): "unknown kind or a non-zero byte that must be zero", and no earlier record is 4 or 5
  pub given_4 : (x : Id) → (answered ≡ refused 4 (x ∷ []) vs) ↔ ((x < (formula_of f).count) × Until f (formula_of f) x × (bad_record (record_at f (formula_of f) x) ≡ true))
  given_4 x = both (of_file (refusal.Record record { 0 = x }) (λ e. let z : ◌≡◌ {A = ℕ} 0 1 = cc in omega arith) (λ e. let z : ◌≡◌ {A = ℕ} 0 1 = cc in omega arith)) (record_exactly f x)

  -- 5 Order(id): "an operand id not below n"
  pub given_5 : (x : Id)
      → (answered ≡ refused 5 (x ∷ []) vs)
      ↔ ((x < (formula_of f).count) × Until f (formula_of f) x × (bad_record (record_at f (formula_of f) x) ≡ false) × (outside (formula_of f).count (node_of (record_at f (formula_of f) x)) ≡ true))
  given_5 x = both (of_file (refusal.Order record { 0 = x }) (λ e. let z : ◌≡◌ {A = ℕ} 0 1 = cc in omega arith) (λ e. let z : ◌≡◌ {A = ℕ} 0 1 = cc in omega arith)) (order_exactly f x)

  -- 13 Cycle(id): "the lowest id that reaches itself, after all records, before 6"
  pub given_13 : (x : Id)
      → (answered ≡ refused 13 (x ∷ []) vs) ↔ ((x < (formula_of f).count) × Until f (formula_of f) (formula_of f).count × Free f (formula_of f) x × Depends g x x)
  given_13 x = both (of_file (refusal.Cycle record { 0 = x }) (λ e. let z : ◌≡◌ {A = ℕ} 0 1 = cc in omega arith) (λ e. let z : ◌≡◌ {A = ℕ} 0 1 = cc in omega arith)) (cycle_exactly f x)

  -- 6 Root: "root ≥ n"
  pub given_6 : (answered ≡ refused 6 [] vs) ↔ (BeforeRoot f (formula_of f) × ((formula_of f).count ≤ (formula_of f).root.0))
  given_6 = both (of_file refusal.Root (λ e. let z : ◌≡◌ {A = ℕ} 0 1 = cc in omega arith) (λ e. let z : ◌≡◌ {A = ℕ} 0 1 = cc in omega arith)) (root_exactly f)

  -- 7 FixedRoot: "root is a constant other than 1"
  pub given_7 : (answered ≡ refused 7 [] vs)
      ↔ (BeforeRoot f (formula_of f) × ((formula_of f).root.0 < (formula_of f).count) × (fixed (g.node (formula_of f).root.0) ≡ true))
  given_7 = both (of_file refusal.FixedRoot (λ e. let z : ◌≡◌ {A = ℕ} 0 1 = cc in omega arith) (λ e. let z : ◌≡◌ {A = ℕ} 0 1 = cc in omega arith)) (fixed_root_exactly f)

  -- 8 Room: "value buffer not exactly n long"
  pub given_8 : (answered ≡ refused 8 [] vs) ↔ ((verdict f ≡ file.accepted (formula_of f)) × (length vs ≡ g.count → ⊥))
  given_8 = (λ e. go answered (came f ws budget vs) e, λ h. came_only f ws budget vs _ (by_room h.0 h.1))
    where
      go : (x : Result) → Came f ws budget vs x → x ≡ refuse refusal.Room vs → (verdict f ≡ file.accepted (formula_of f)) × (length vs ≡ g.count → ⊥)
      go x (by_file r h) e = absurd (room_not f (h ∙ ap file.refuse (refuse_injective r refusal.Room vs vs e).0))
      go x (by_room h l) e = (h, l)
      go x (by_words h l w) e = let z : ◌≡◌ {A = ℕ} 8 9 = cc in absurd (omega arith)
      go x (by_search a) e = ended_refused e

  -- 9 Words: "fewer words than non-constant nodes"
  pub given_9 : (answered ≡ refused 9 [] vs) ↔ ((verdict f ≡ file.accepted (formula_of f)) × (length vs ≡ g.count) × (length ws < wanted g))
  given_9 = (λ e. go answered (came f ws budget vs) e, λ h. came_only f ws budget vs _ (by_words h.0 h.1 h.2))
    where
      go : (x : Result) → Came f ws budget vs x → x ≡ refuse refusal.Words vs → (verdict f ≡ file.accepted (formula_of f)) × (length vs ≡ g.count) × (length ws < wanted g)
      go x (by_file r h) e = absurd (words_not f (h ∙ ap file.refuse (refuse_injective r refusal.Words vs vs e).0))
      go x (by_room h l) e = let z : ◌≡◌ {A = ℕ} 8 9 = cc in absurd (omega arith)
      go x (by_words h l w) e = (h, l, w)
      go x (by_search a) e = ended_refused e

  -- and the search's result exactly when none is given
  pub given_none : (o : Out) → (answered ≡ ended o) ↔ (Accepted f ws vs × (o ≡ search_in f ws budget))
  given_none o = (λ e. go answered (came f ws budget vs) e, λ h. came_only f ws budget vs _ (by_search h.0) ∙ ap ended (sym h.1))
    where
      go : (x : Result) → Came f ws budget vs x → x ≡ ended o → Accepted f ws vs × (o ≡ search_in f ws budget)
      go x (by_file r h) e = ended_refused (sym e)
      go x (by_room h l) e = ended_refused (sym e)
      go x (by_words h l w) e = ended_refused (sym e)
      go x (by_search a) e = (a, cc)
