-- What every rule keeps to, whatever the edition: document 01, "values are 0..M" and "Words taken count … every value … drawn to its
-- end … ; a value left unfinished counts none of its words." Assumes nothing.
use Rattle.std.specs.Prelude.{Some, None, ℕ, ◌^◌, ◌≤◌, ◌<◌, ◌≡◌, ◌⊎◌, ◌++◌, Bool, true, false, not, ◌&&◌, ltb, eqb, take}
use Rattle.bitvec.specs.Word.{M, bvsub, bvudiv}
use Rattle.words.specs.Words.{Draw, Words, Place}
use Rattle.words.specs.declared.WordSource.{WordSource}
use Rattle.rules.specs.One.{no_word}
use Rattle.words.proofs.Draws.{Small, Forward}
use Rattle.symbols.specs.Graph.{Value}
use Rattle.symbols.specs.declared.OperandSide.{OperandSide}
use Rattle.symbols.specs.declared.OperandSide.TheVariants.{Lhs, Rhs}
use Rattle.symbols.specs.declared.BVOperator.{BVOperator}
use Rattle.symbols.specs.declared.BVOperator.TheVariants.{Add, Sub, Mul, Divu, Sltu, Remu, Not, Equals, BitwiseAnd}

-- a rule with all but the words and the place given
abbrev pub Rule : Type 0
Rule = Words → Place → Draw

-- of a value v that the rule f answered, with the source q after its words
pub record Kept (f : Rule) (ws : Words) (n : Place) (v : Value) (q : WordSource) : Type 0 where
  -- "values are 0..M"
  pub small : v < 2 ^ 64
  -- the source stays, or moves forward within the list
  pub moves : (q.at ≡ n) ⊎ Forward ws n q.at
  -- on every longer list the answer is the same
  pub longer : (us : Words) → f (ws ++ us) n ≡ Some (v, q)
  -- the words up to q are enough: no further one was taken
  pub enough : (m : ℕ) → q.at ≤ m → f (take m ws) n ≡ Some (v, q)
  -- with fewer words it runs dry: all those up to q were taken
  pub fewer : (m : ℕ) → n < q.at → m < q.at → f (take m ws) n ≡ None

abbrev pub Keeps : Rule → Type 0
Keeps f = (ws : Words) → Small ws → (n : Place) (v : Value) (q : WordSource) → f ws n ≡ Some (v, q) → Kept f ws n v q

-- the rule has one value, on every list
abbrev pub Constant : Rule → Type 0
Constant f = (v : Value) × ((ws : Words) (n : Place) → f ws n ≡ no_word v n)

-- the rule takes words
abbrev pub Takes : Rule → Type 0
Takes f = (ws : Words) (n : Place) (v : Value) (q : WordSource) → f ws n ≡ Some (v, q) → n < q.at

-- b says whether it takes none
pub record Told (b : Bool) (f : Rule) : Type 0 where
  pub none : b ≡ true → Constant f
  pub some : b ≡ false → Takes f

-- the rows of the inverse that take no word: "no word", or a value that s and t alone give; "a word is drawn for c = 0 too"
abbrev pub inverse_free : BVOperator → OperandSide → Value → Value → Bool
inverse_free Add d s t = true
inverse_free Sub d s t = true
inverse_free Mul d s t = false
inverse_free Divu Lhs s t = eqb t M && eqb s 1
inverse_free Divu Rhs s t = not (eqb t M && eqb s M)
inverse_free Sltu d s t = false
inverse_free Remu Lhs s t = ltb (bvudiv (bvsub M t) s) 1
inverse_free Remu Rhs s t = false
inverse_free Not d s t = false
inverse_free Equals d s t = not (eqb t 0)
inverse_free BitwiseAnd d s t = false

-- those of the consistent values: Mul at t = 0, Remu at t = M
abbrev pub consistent_free : BVOperator → OperandSide → Value → Bool
consistent_free Add d t = false
consistent_free Sub d t = false
consistent_free Mul d t = eqb t 0
consistent_free Divu d t = false
consistent_free Sltu d t = false
consistent_free Remu d t = eqb t M
consistent_free Not d t = false
consistent_free Equals d t = false
consistent_free BitwiseAnd d t = false
