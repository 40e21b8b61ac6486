-- Which words are an arithmetic or a boolean expression, and which tree they derive. Assumes nothing.
use Rattle.std.specs.Prelude.{◌≡◌, ℕ, List, [], ◌∷◌, ◌≢◌}
use Rattle.text.specs.declared.word.Register.{Register}
use Rattle.text.specs.declared.word.Token.{Token}
use Rattle.text.specs.declared.word.Token.TheVariants.{Number, Current, Initial, True, And, Or, Nand, OpenParen, CloseParen, OpenBracket, CloseBracket, Less, AtMost, Equal, Plus, Minus}
use Rattle.text.specs.declared.word.Word.{Word}
use Rattle.text.specs.Words.{register_index}
use Rattle.text.specs.Expressions.{Arith, number, current, initial, plus, minus, Test, always, less, at_most, equal, both, either, not_both}

-- the token is none of these
abbrev pub NoneOf : List Token → Token → Type 0
NoneOf [] t = Unit {0}
NoneOf (u ∷ us) t = (t ≢ u) × NoneOf us t

-- the next word is none of these, or there is none
abbrev pub Free : List Token → List Word → Type 0
Free us [] = Unit {0}
Free us (w ∷ ws) = NoneOf us w.token

-- one operand; or what is joined to a left operand that has been read
pub data SumPart : Type 0 where
  one : SumPart
  onto : Arith → SumPart

-- the words ws begin with this part of an arithmetic expression, its tree is a, and rest is what is left
pub data Sums : SumPart → List Word → Arith → List Word → Type 0 where
  a_number : {w : Word} {ws : List Word} {n : ℕ} → w.token ≡ Number n → Sums one (w ∷ ws) (number n) ws
  -- a small letter is the register's value now
  a_current : {w : Word} {ws : List Word} {r : Register} → w.token ≡ Current r → Sums one (w ∷ ws) (current (register_index r)) ws
  -- a capital letter is the register's value at the start
  an_initial : {w : Word} {ws : List Word} {r : Register} → w.token ≡ Initial r → Sums one (w ∷ ws) (initial (register_index r)) ws
  -- ( A )
  in_parens : {o c : Word} {ws mid rest : List Word} {a b : Arith} → o.token ≡ OpenParen → Sums one ws a mid → Sums (onto a) mid b (c ∷ rest) → c.token ≡ CloseParen → Sums one (o ∷ ws) b rest
  -- no `+` or `-` follows
  no_more : {ws : List Word} {a : Arith} → Free (Plus ∷ Minus ∷ []) ws → Sums (onto a) ws a ws
  -- what has been read is the left operand: sums join from the left
  adds : {w : Word} {ws mid rest : List Word} {a b c : Arith} → w.token ≡ Plus → Sums one ws b mid → Sums (onto (plus a b)) mid c rest → Sums (onto a) (w ∷ ws) c rest
  subtracts : {w : Word} {ws mid rest : List Word} {a b c : Arith} → w.token ≡ Minus → Sums one ws b mid → Sums (onto (minus a b)) mid c rest → Sums (onto a) (w ∷ ws) c rest

-- A: an operand and what is joined to it
pub data Sum : List Word → Arith → List Word → Type 0 where
  sum : {ws mid rest : List Word} {a b : Arith} → Sums one ws a mid → Sums (onto a) mid b rest → Sum ws b rest

-- one test; or what is joined to a left test that has been read
pub data TestPart : Type 0 where
  one_of : TestPart
  onto_test : Test → TestPart

-- the words ws begin with this part of a boolean expression, its tree is t, and rest is what is left
pub data Tests : TestPart → List Word → Test → List Word → Type 0 where
  is_true : {w : Word} {ws : List Word} → w.token ≡ True → Tests one_of (w ∷ ws) always ws
  is_less : {w : Word} {ws mid rest : List Word} {a b : Arith} → Sum ws a (w ∷ mid) → w.token ≡ Less → Sum mid b rest → Tests one_of ws (less a b) rest
  is_at_most : {w : Word} {ws mid rest : List Word} {a b : Arith} → Sum ws a (w ∷ mid) → w.token ≡ AtMost → Sum mid b rest → Tests one_of ws (at_most a b) rest
  is_equal : {w : Word} {ws mid rest : List Word} {a b : Arith} → Sum ws a (w ∷ mid) → w.token ≡ Equal → Sum mid b rest → Tests one_of ws (equal a b) rest
  -- [ B ]
  in_brackets : {o c : Word} {ws mid rest : List Word} {s t : Test} → o.token ≡ OpenBracket → Tests one_of ws s mid → Tests (onto_test s) mid t (c ∷ rest) → c.token ≡ CloseBracket → Tests one_of (o ∷ ws) t rest
  -- no `and`, `or` or `nand` follows
  no_more_tests : {ws : List Word} {t : Test} → Free (And ∷ Or ∷ Nand ∷ []) ws → Tests (onto_test t) ws t ws
  -- what has been read is the left test: tests join from the left, with equal rank
  ands : {w : Word} {ws mid rest : List Word} {s t u : Test} → w.token ≡ And → Tests one_of ws t mid → Tests (onto_test (both s t)) mid u rest → Tests (onto_test s) (w ∷ ws) u rest
  ors : {w : Word} {ws mid rest : List Word} {s t u : Test} → w.token ≡ Or → Tests one_of ws t mid → Tests (onto_test (either s t)) mid u rest → Tests (onto_test s) (w ∷ ws) u rest
  nands : {w : Word} {ws mid rest : List Word} {s t u : Test} → w.token ≡ Nand → Tests one_of ws t mid → Tests (onto_test (not_both s t)) mid u rest → Tests (onto_test s) (w ∷ ws) u rest

-- B: a test and what is joined to it
pub data Condition : List Word → Test → List Word → Type 0 where
  condition : {ws mid rest : List Word} {s t : Test} → Tests one_of ws s mid → Tests (onto_test s) mid t rest → Condition ws t rest
