-- A check as a function of one number, the units of work granted since it was opened. Assumes nothing.
use Rattle.std.specs.Prelude.{ℕ, zero, suc, ◌+◌, Bool, true, false, cond, ◌||◌, List, [], ◌∷◌, ◌++◌, length, Some, None, Option, ◌==◌, nat_lt}
use Rattle.std.specs.Option.{option_map}
use Rattle.model.specs.Cells.{CellMeaning, at}
use Rattle.model.specs.Entries.{Entry}
use Rattle.model.specs.Runs.{moment}
use Rattle.model.specs.Watches.{WatchMeaning}
use Rattle.model.specs.declared.configuration.Configuration.{Configuration}

-- what a check is doing, or how it was settled
pub data Phase : Type 0 where
  -- looking through a level (its number, its first place, the place that comes next)
  looking : ℕ → ℕ → ℕ → Phase
  -- extending a level (its number, the place after its last, the place that comes next)
  extending : ℕ → ℕ → ℕ → Phase
  -- settled: every run is permitted
  passing : Phase
  -- settled by a code (how many states come before it in the shown run, the place of the last of them, the code)
  failing : ℕ → ℕ → ℕ → Phase
  -- settled: a configuration found no place
  filled : Phase

-- the stored configurations with the places they were reached from, and the phase
pub record Standing (S : Type 0) : Type 0 where
  pub stored : List (Entry (Configuration S))
  pub phase : Phase

-- the entries after storing, and whether one found no place
pub record Kept (S : Type 0) : Type 0 where
  pub stored : List (Entry (Configuration S))
  pub full : Bool

-- y where the watch has no state after it, else the other answer
abbrev pub blame : {S : Type 0} → ℕ → Option S → Option ℕ → Option ℕ
blame y None r = Some y
blame y (Some t) r = r

-- the place that the entry at place i was reached from
abbrev pub from_at : {S : Type 0} → List (Entry (Configuration S)) → ℕ → ℕ
from_at [] i = 0
from_at (e ∷ es) zero = e.from
from_at (e ∷ es) (suc i) = from_at es i

-- the last code of the configuration at place i
abbrev pub last_at : {S : Type 0} → List (Entry (Configuration S)) → ℕ → ℕ
last_at [] i = 0
last_at (e ∷ es) zero = e.key.last
last_at (e ∷ es) (suc i) = last_at es i

-- the last codes of the configuration at place i and of those it was reached from, m in all, the earliest first
abbrev pub trail : {S : Type 0} → List (Entry (Configuration S)) → ℕ → ℕ → List ℕ
trail es zero i = []
trail es (suc m) i = trail es m (from_at es i) ++ (last_at es i ∷ [])

-- what a check says: working after looking at all runs of so many states, or settled, a fail with the run it shows
pub data Outcome : Type 0 where
  working : ℕ → Outcome
  passed : Outcome
  failed : List ℕ → Outcome
  full : Outcome

abbrev pub said : {S : Type 0} → List (Entry (Configuration S)) → Phase → Outcome
said es (looking j low i) = working j
said es (extending j end i) = working (j + 1)
said es passing = passed
said es (failing m i y) = failed (trail es m i ++ (y ∷ []))
said es filled = full

abbrev pub says : {S : Type 0} → Standing S → Outcome
says s = said s.stored s.phase

module _ {S : Type 0} (c : CellMeaning) (w : WatchMeaning S) (same : Configuration S → Configuration S → Bool) (n : ℕ) where
  -- the configuration of a run that began with code x and brought the watch to state s, after one more code; none
  -- where that makes it unpermitted
  abbrev pub onward : ℕ → S → ℕ → Option (Configuration S)
  onward x s y = option_map (λ t. record { first = x; last = y; state = t }) (w.step s (moment c x y))

  -- the first of the codes that makes such a run unpermitted
  abbrev pub blamed : ℕ → S → List ℕ → Option ℕ
  blamed x s [] = None
  blamed x s (y ∷ ys) = blame y (w.step s (moment c x y)) (blamed x s ys)

  -- the first of the starts whose run of one state is unpermitted
  abbrev pub blamed_start : List ℕ → Option ℕ
  blamed_start [] = None
  blamed_start (x ∷ xs) = blame x (w.step w.first (moment c x x)) (blamed_start xs)

  -- whether the configuration is stored
  abbrev pub known : Configuration S → List (Entry (Configuration S)) → Bool
  known k [] = false
  known k (e ∷ es) = same e.key k || known k es

  -- the entries with a configuration more, if it is new and a place is left
  abbrev pub put : List (Entry (Configuration S)) → Configuration S → ℕ → Kept S
  put es k from =
      cond (known k es) (record { stored = es; full = false })
      (cond (nat_lt (length es) n) (record { stored = es ++ (record { key = k; from = from } ∷ []); full = false })
      (record { stored = es; full = true }))

  -- storing goes on until one finds no place
  abbrev pub and_then : Kept S → (List (Entry (Configuration S)) → Kept S) → Kept S
  and_then k f = cond k.full k (f k.stored)

  abbrev pub put_new : List (Entry (Configuration S)) → Option (Configuration S) → ℕ → Kept S
  put_new es None from = record { stored = es; full = false }
  put_new es (Some k) from = put es k from

  -- the configurations after each of the codes, stored in their order, reached from place i
  abbrev pub put_nexts : ℕ → ℕ → S → List ℕ → List (Entry (Configuration S)) → Kept S
  put_nexts i x s [] es = record { stored = es; full = false }
  put_nexts i x s (y ∷ ys) es = and_then (put_new es (onward x s y) i) (put_nexts i x s ys)

  -- the configurations of the starts, stored in their order, each reached from its own place
  abbrev pub put_starts : List ℕ → List (Entry (Configuration S)) → Kept S
  put_starts [] es = record { stored = es; full = false }
  put_starts (x ∷ xs) es = and_then (put_new es (onward x w.first x) (length es)) (put_starts xs)

  -- all starts are looked at first: one that is unpermitted settles the check, else they are stored as level 1
  abbrev pub begun : Option ℕ → Kept S → Standing S
  begun (Some x) k = record { stored = []; phase = failing 0 0 x }
  begun None k =
      record {
        stored = k.stored;
        phase = cond k.full filled (cond (length k.stored == 0) passing (looking 1 0 0));
      }

  abbrev pub opened : Standing S
  opened = begun (blamed_start c.starts) (put_starts c.starts [])

  -- after one place of level j was looked at: settled by a code, or on to the next place, or to extending the level
  abbrev pub looked : List (Entry (Configuration S)) → ℕ → ℕ → ℕ → Option ℕ → Standing S
  looked es j low i (Some y) = record { stored = es; phase = failing j i y }
  looked es j low i None =
      record { stored = es; phase = cond (nat_lt (i + 1) (length es)) (looking j low (i + 1)) (extending j (length es) low) }

  -- after one place of level j was extended: full, or on to the next place, or to the next level if it has any
  abbrev pub extended : ℕ → ℕ → ℕ → Kept S → Standing S
  extended j end i k =
      record {
        stored = k.stored;
        phase =
            cond k.full filled
            (cond (nat_lt (i + 1) end) (extending j end (i + 1))
            (cond (length k.stored == end) passing (looking (j + 1) end end)));
      }

  abbrev pub look : List (Entry (Configuration S)) → ℕ → ℕ → ℕ → Option (Entry (Configuration S)) → Standing S
  look es j low i None = record { stored = es; phase = looking j low i }
  look es j low i (Some e) = looked es j low i (blamed e.key.first e.key.state (c.nexts e.key.last))

  abbrev pub extend : List (Entry (Configuration S)) → ℕ → ℕ → ℕ → Option (Entry (Configuration S)) → Standing S
  extend es j end i None = record { stored = es; phase = extending j end i }
  extend es j end i (Some e) = extended j end i (put_nexts i e.key.first e.key.state (c.nexts e.key.last) es)

  -- one unit of work, by the phase that the check is in
  abbrev pub turn : List (Entry (Configuration S)) → Phase → Standing S
  turn es (looking j low i) = look es j low i (at es i)
  turn es (extending j end i) = extend es j end i (at es i)
  turn es passing = record { stored = es; phase = passing }
  turn es (failing m i y) = record { stored = es; phase = failing m i y }
  turn es filled = record { stored = es; phase = filled }

  abbrev pub unit : Standing S → Standing S
  unit s = turn s.stored s.phase

  -- so many units of work
  abbrev pub units : ℕ → Standing S → Standing S
  units zero s = s
  units (suc u) s = units u (unit s)

  -- the check after u units
  abbrev pub after : ℕ → Standing S
  after u = units u opened
