-- The position automaton of an expression, with sets of places as numbers. Assumes nothing.
use Rattle.std.specs.Prelude.{◌≡◌, ℕ, ◌+◌, ◌^◌, Bool, true, false, cond, ◌&&◌, ◌||◌, ◌⊎◌, List, [], ◌∷◌, length, replicate, Some, None, Option, ◌==◌, ◌≢◌, bit_or}
use Rattle.model.specs.declared.moment.Moment.{Moment}
use Rattle.regular.specs.declared.positions.Positions.{Positions}
use Rattle.regular.specs.declared.positions.Positions.TheVariants.{Start, After}
use Rattle.regular.specs.Words.{Regex, empty, one, sequence, alternative, star, plus, size, holding, Permits, Continues, LastOf}
use Rattle.regular.specs.Sets.{Has, gather, keep, gain}

-- whether the empty list is a word
abbrev pub nullable : Regex → Bool
nullable empty = true
nullable (one a) = false
nullable (sequence e f) = nullable e && nullable f
nullable (alternative e f) = nullable e || nullable f
nullable (star e) = true
nullable (plus e) = nullable e

-- the places that a word can begin with
abbrev pub firsts : Regex → ℕ → ℕ
firsts empty n = 0
firsts (one a) n = 2 ^ n
firsts (sequence e f) n = cond (nullable e) (bit_or (firsts e n) (firsts f (n + size e))) (firsts e n)
firsts (alternative e f) n = bit_or (firsts e n) (firsts f (n + size e))
firsts (star e) n = firsts e n
firsts (plus e) n = firsts e n

-- the places that a word can end with
abbrev pub lasts : Regex → ℕ → ℕ
lasts empty n = 0
lasts (one a) n = 2 ^ n
lasts (sequence e f) n = cond (nullable f) (bit_or (lasts e n) (lasts f (n + size e))) (lasts f (n + size e))
lasts (alternative e f) n = bit_or (lasts e n) (lasts f (n + size e))
lasts (star e) n = lasts e n
lasts (plus e) n = lasts e n

-- for each place the set of those that can follow it in a word: fs, with what this expression adds
abbrev pub follows : Regex → ℕ → List ℕ → List ℕ
follows empty n fs = fs
follows (one a) n fs = fs
follows (sequence e f) n fs = gain (follows f (n + size e) (follows e n fs)) (lasts e n) (firsts f (n + size e)) (length fs)
follows (alternative e f) n fs = follows f (n + size e) (follows e n fs)
follows (star e) n fs = gain (follows e n fs) (lasts e n) (firsts e n) (length fs)
follows (plus e) n fs = gain (follows e n fs) (lasts e n) (firsts e n) (length fs)

-- the whole of it: at place p the places that can follow p
abbrev pub follow_sets : Regex → List ℕ
follow_sets e = follows e 0 (replicate (size e) 0)

-- the assertions that can come next
abbrev pub nexts : Regex → Positions → ℕ
nexts e Start = firsts e 0
nexts e (After s) = gather (follow_sets e) s (size e)

-- a set as a state: the empty one is none
abbrev pub state_of : ℕ → Option Positions
state_of s = cond (s == 0) None (Some (After s))

-- the state after one more moment: the assertions that can come next and hold
abbrev pub step : Regex → Positions → Moment → Option Positions
step e s m = state_of (keep (λ p. holding e p m) (nexts e s) (size e))

-- the lists of moments that may follow in a state: before the first moment those that the expression permits, and after it those that
-- may follow some assertion of the set; nothing more may come always
abbrev pub allows : Regex → Positions → List Moment → Type 0
allows e Start ms = Permits e ms
allows e (After s) ms = (ms ≡ []) ⊎ ((q : ℕ) × Has s q × Continues e q ms)

-- the moments bring the automaton from state s to state t
abbrev pub Steps : Regex → Positions → List Moment → Positions → Type 0
Steps e s [] t = s ≡ t
Steps e s (m ∷ ms) t = (u : Positions) × (step e s m ≡ Some u) × Steps e u ms t

-- what a state tells of the moments before it: after the first of them, exactly the assertions that can be the last of them
abbrev pub Tells : Regex → List Moment → Positions → Type 0
Tells e ms Start = ms ≡ []
Tells e ms (After s) = (ms ≢ []) × ((q : ℕ) → (Has s q → LastOf e ms q) × (LastOf e ms q → Has s q))

-- what the automaton is for
pub record FollowsWords (e : Regex) : Type 0 where
  -- a list of moments is permitted exactly when it brings the automaton from its first state to some state
  pub permitted : (ms : List Moment) → (Permits e ms → (t : Positions) × Steps e Start ms t) × ((t : Positions) → Steps e Start ms t → Permits e ms)
  -- and that state is exactly the set of assertions that can be the last
  pub told : (ms : List Moment) (t : Positions) → Steps e Start ms t → Tells e ms t
