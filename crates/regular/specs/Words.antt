-- What a sheet permits: an expression over assertions, its words in Kleene's way, and the moments that they allow. Assumes nothing.
use Rattle.std.specs.Prelude.{◌≡◌, ℕ, zero, suc, ◌+◌, Bool, true, false, ◌&&◌, ◌⊎◌, List, [], ◌∷◌, ◌++◌}
use Rattle.model.specs.declared.moment.Moment.{Moment}
use Rattle.text.specs.Expressions.{Test, always, holds}
use Rattle.regular.specs.Sets.{has}

-- the labels that an assertion is about: all of them, or those of a set
pub data Labels : Type 0 where
  all : Labels
  among : ℕ → Labels

-- an assertion: labels, and a test
pub record Assertion : Type 0 where
  pub labels : Labels
  pub test : Test

-- an expression over assertions
pub data Regex : Type 0 where
  -- the empty sequence
  empty : Regex
  one : Assertion → Regex
  -- first the one, then the other
  sequence : Regex → Regex → Regex
  -- the one or the other
  alternative : Regex → Regex → Regex
  -- any number of times
  star : Regex → Regex
  -- any number of times but none
  plus : Regex → Regex

-- `rest` after an expression: then any number of moments, whatever they are
abbrev pub with_rest : Regex → Regex
with_rest e = sequence e (star (one (record { labels = all; test = always })))

-- how many assertions an expression has
abbrev pub size : Regex → ℕ
size empty = 0
size (one a) = 1
size (sequence e f) = size e + size f
size (alternative e f) = size e + size f
size (star e) = size e
size (plus e) = size e

-- the assertions of an expression in text order: the place of an assertion is its index here
abbrev pub assertions : Regex → List Assertion
assertions empty = []
assertions (one a) = a ∷ []
assertions (sequence e f) = assertions e ++ assertions f
assertions (alternative e f) = assertions e ++ assertions f
assertions (star e) = assertions e
assertions (plus e) = assertions e

-- any number of words of a set, one after the other
pub data Repeated (W : List ℕ → Type 0) : List ℕ → Type 0 where
  none : (w : List ℕ) → w ≡ [] → Repeated W w
  more : (w u v : List ℕ) → w ≡ u ++ v → W u → Repeated W v → Repeated W w

-- w is a word of the expression, in Kleene's way; a word is a list of places of assertions, and those of this expression are n, n + 1, ..
abbrev pub Word : Regex → ℕ → List ℕ → Type 0
Word empty n w = w ≡ []
Word (one a) n w = w ≡ n ∷ []
Word (sequence e f) n w = (u : List ℕ) × (v : List ℕ) × (w ≡ u ++ v) × Word e n u × Word f (n + size e) v
Word (alternative e f) n w = Word e n w ⊎ Word f (n + size e) w
Word (star e) n w = Repeated (Word e n) w
Word (plus e) n w = (u : List ℕ) × (v : List ℕ) × (w ≡ u ++ v) × Word e n u × Repeated (Word e n) v

-- whether the labels of an assertion have this one
abbrev pub covers : Labels → ℕ → Bool
covers all x = true
covers (among s) x = has s x

-- whether an assertion holds at a moment: the label is one of its labels, and the test holds
abbrev pub asserts : Assertion → Moment → Bool
asserts a m = covers a.labels m.label && holds m a.test

-- whether the assertion at a place of a list holds at a moment: past the end there is none
abbrev pub holds_at : List Assertion → ℕ → Moment → Bool
holds_at [] p m = false
holds_at (a ∷ rest) zero m = asserts a m
holds_at (a ∷ rest) (suc p) m = holds_at rest p m

-- as many assertions as moments, and they hold in turn
abbrev pub InTurn : (ℕ → Moment → Bool) → List ℕ → List Moment → Type 0
InTurn h [] [] = Unit {0}
InTurn h [] (m ∷ ms) = ⊥
InTurn h (p ∷ ps) [] = ⊥
InTurn h (p ∷ ps) (m ∷ ms) = (h p m ≡ true) × InTurn h ps ms

-- which assertion holds when, by their places in the expression
abbrev pub holding : Regex → ℕ → Moment → Bool
holding e = holds_at (assertions e)

-- the list of moments is permitted: some word begins with as many assertions, and they hold in turn
abbrev pub Permits : Regex → List Moment → Type 0
Permits e ms = (w : List ℕ) × (v : List ℕ) × Word e 0 (w ++ v) × InTurn (holding e) w ms

-- the list of moments may follow where assertion q was the last: some word goes on so after q
abbrev pub Continues : Regex → ℕ → List Moment → Type 0
Continues e q ms = (u : List ℕ) × (w : List ℕ) × (v : List ℕ) × Word e 0 (u ++ q ∷ (w ++ v)) × InTurn (holding e) w ms

-- assertion q can be the last of these moments: some word begins with as many assertions, q the last of them, and they hold in turn
abbrev pub LastOf : Regex → List Moment → ℕ → Type 0
LastOf e ms q = (u : List ℕ) × (v : List ℕ) × Word e 0 (u ++ q ∷ v) × InTurn (holding e) (u ++ q ∷ []) ms
