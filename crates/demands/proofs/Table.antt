-- Demand 1: every call gets an answer, each number exactly when the table says, and a refusal leaves the values as lent. Assumes
-- nothing.
use Prim.Native.Nat.{ℕ, ◌<◌}
use mathlib.Core.Path.{◌≡◌, refl, sym, ap, ◌∙◌}
use mathlib.Core.List.{◌++◌}
use mathlib.Core.Bool.{Bool, true, false, not}
use mathlib.Core.Logic.{◌↔◌}
use native.Mathlib.Omega.{arith}
use lib.ListN.{length}
use lib.Dec.{ltb, eqb}
use borrow.Author.Tests.{ltb-true, ltb-false, lt-ltb, le-ltb, eqb-true, eqb-false, eq-eqb, ne_eqb}
use Rattle.std.specs.Prelude.{Ok, Err}
use Rattle.laws.specs.Pick.{pick}
use Rattle.laws.specs.Rows.{first, Given, None, Never}
use Rattle.laws.proofs.Rows.{given_exactly, none_exactly, never_append, append_given, append_clear}
use Rattle.words.specs.Words.{Words}
use Rattle.symbols.specs.Graph.{Graph}
use Rattle.symbols.specs.Refusals.{number_of, values_of}
use Rattle.symbols.proofs.Numbers.{refusal_injective}
use Rattle.symbols.specs.declared.Refusal.{Refusal}
use Rattle.symbols.specs.declared.Refusal.TheVariants as refusal
use Rattle.formula.specs.File.{File, formula_of}
use Rattle.checks.specs.Refusals as file
use Rattle.checks.specs.Refusals.{Finding, checks, verdict}
use Rattle.checks.proofs.Scanning.{refuses}
use Rattle.filelaws.proofs.Exactly.{checks_never}
use Rattle.search.specs.Machine.{Values, Out}
use Rattle.rules.specs.One.{one}
use Rattle.assign.specs.Start.{wanted}
use Rattle.solve.specs.Solve.{Result, ended, refuse, lent_rows, run, on_graph, on_verdict, answer}
use Rattle.demands.specs.Call.{graph_in, Accepted, table_of, search_in}

module _ (f : File) (ws : Words) (budget : ℕ) (vs : Values) where
  abbrev g : Graph
  g = graph_in f

  abbrev answered : Result
  answered = answer one f ws budget vs

  -- "Checks run in this order": the first row of the whole table that holds; where none does, the search
  pub answer_by_table : answered ≡ run one g ws budget vs (first (table_of f ws vs) (Ok tt))
  unfolding answer verdict on_graph table_of
  answer_by_table = go (first (checks f) (Ok tt)) refl
    where
      go : (x : Finding) → first (checks f) (Ok tt) ≡ x → on_verdict one f ws budget vs (file.answer x (formula_of f)) ≡ run one g ws budget vs (first (checks f ++ lent_rows g ws vs) (Ok tt))
      go (Ok u) e = ap (run one g ws budget vs) (sym (append_clear (checks f) (lent_rows g ws vs) (Ok tt) (checks_never f) e))
      go (Err r) e = ap (run one g ws budget vs) (sym (append_given (checks f) (lent_rows g ws vs) (Ok tt) (Err r) (refuses r) e))

  lent_never : Never (lent_rows g ws vs) (Ok tt)
  unfolding lent_rows
  lent_never = (refuses refusal.Room, (refuses refusal.Words, tt))

  table_never : Never (table_of f ws vs) (Ok tt)
  unfolding table_of
  table_never = never_append (checks f) (lent_rows g ws vs) (Ok tt) (checks_never f) lent_never

  from_run : (x : Finding) (r : Refusal) (us : Values) → run one g ws budget vs x ≡ refuse r us → (us ≡ vs) × (x ≡ Err r)
  from_run (Ok u) r us e = let z : ◌≡◌ {A = ℕ} 0 1 = cc in absurd (omega arith)
  from_run (Err q) r us e =
      let a : number_of q ≡ number_of r = cc in
      let b : values_of q ≡ values_of r = cc in
      (cc, ap Err (refusal_injective q r a b))

  from_ended : (x : Finding) (o : Out) → run one g ws budget vs x ≡ ended o → (x ≡ (Ok tt)) × (o ≡ search_in f ws budget)
  from_ended (Ok u) o e = (refl, cc)
  from_ended (Err q) o e = let z : ◌≡◌ {A = ℕ} 0 1 = cc in absurd (omega arith)

  -- "Bad input is refused by number, exactly when document 01 says, and then no lent value changes."
  pub refused_exactly_by_table : (r : Refusal) (us : Values) → (answered ≡ refuse r us) ↔ ((us ≡ vs) × Given (table_of f ws vs) (Ok tt) (Err r))
  refused_exactly_by_table r us =
      let x = given_exactly (table_of f ws vs) (Ok tt) (Err r) (λ e. refuses r (sym e)) in (
        λ e. let h = from_run (first (table_of f ws vs) (Ok tt)) r us (sym answer_by_table ∙ e) in (h.0, x.0 h.1),
        λ h. answer_by_table ∙ ap (run one g ws budget vs) (x.1 h.1) ∙ ap (refuse r) (sym h.0),
      )

  -- the search is answered exactly where no row of the table holds
  pub ended_exactly_by_table : (o : Out) → (answered ≡ ended o) ↔ ((o ≡ search_in f ws budget) × None (table_of f ws vs))
  ended_exactly_by_table o =
      let x = none_exactly (table_of f ws vs) (Ok tt) table_never in (
        λ e. let h = from_ended (first (table_of f ws vs) (Ok tt)) o (sym answer_by_table ∙ e) in (h.1, x.0 h.0),
        λ h. answer_by_table ∙ ap (run one g ws budget vs) (x.1 h.1) ∙ ap ended (sym h.0),
      )

  -- how an answer came about, by the paper's words
  pub data Came : Result → Type 0 where
    by_file : (r : Refusal) → verdict f ≡ file.refuse r → Came (refuse r vs)
    by_room : verdict f ≡ file.accepted (formula_of f) → (length vs ≡ g.count → ⊥) → Came (refuse refusal.Room vs)
    by_words : verdict f ≡ file.accepted (formula_of f) → length vs ≡ g.count → length ws < wanted g → Came (refuse refusal.Words vs)
    by_search : Accepted f ws vs → Came (ended (search_in f ws budget))

  -- "Every graph file, word list and budget gets an answer": one of these
  pub came : Came answered
  unfolding answer verdict on_graph lent_rows first
  came = at_file (first (checks f) (Ok tt)) refl
    where
      at_words : (b : Bool) → ltb (length ws) (wanted g) ≡ b → verdict f ≡ file.accepted (formula_of f) → length vs ≡ g.count
          → Came (run one g ws budget vs (pick b (Err refusal.Words) (Ok tt)))
      at_words true e h l = by_words h l (ltb-true (length ws) (wanted g) e)
      at_words false e h l = by_search record { file = h; room = l; words = ltb-false (length ws) (wanted g) e }

      at_room : (b : Bool) → eqb (length vs) g.count ≡ b → verdict f ≡ file.accepted (formula_of f)
          → Came (run one g ws budget vs (pick (not b) (Err refusal.Room) (pick (ltb (length ws) (wanted g)) (Err refusal.Words) (Ok tt))))
      at_room true e h = at_words (ltb (length ws) (wanted g)) refl h (eqb-true (length vs) g.count e)
      at_room false e h = by_room h (eqb-false (length vs) g.count e)

      at_file : (x : Finding) → first (checks f) (Ok tt) ≡ x → Came (on_verdict one f ws budget vs (file.answer x (formula_of f)))
      at_file (Ok u) e = at_room (eqb (length vs) g.count) refl (ap (λ (x : Finding). file.answer x (formula_of f)) e)
      at_file (Err r) e = by_file r (ap (λ (x : Finding). file.answer x (formula_of f)) e)

  -- and each of these has that answer
  pub came_only : (x : Result) → Came x → answered ≡ x
  unfolding answer on_graph lent_rows first
  came_only x (by_file r e) = rw e
  came_only x (by_room e h) = rw (e, ne_eqb (length vs) g.count h)
  came_only x (by_words e l h) = rw (e, eq-eqb (length vs) g.count l, lt-ltb (length ws) (wanted g) h)
  came_only x (by_search h) = rw (h.file, eq-eqb (length vs) g.count h.room, le-ltb (length ws) (wanted g) h.words)
