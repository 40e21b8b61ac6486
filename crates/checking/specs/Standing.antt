-- What a check and its table stand for: the definition of a check after so many units of work. Assumes nothing.
use Rattle.std.specs.Prelude.{◌≡◌, ℕ, ◌+◌, ◌<◌, ◌≤◌, true, cond, List, length, drop, Some, None, Option, Ok, Err, Result, ◌==◌, nat_lt}
use Rattle.model.specs.Cells.{CellMeaning}
use Rattle.model.specs.Entries.{Entry}
use Rattle.model.specs.Keys.{KeyMeaning, configuration_key}
use Rattle.model.specs.Watches.{WatchMeaning}
use Rattle.model.specs.declared.answer.Answer.{Answer}
use Rattle.model.specs.declared.answer.Verdict.TheVariants.{Working, Pass, Fail, Full}
use Rattle.model.specs.declared.configuration.Configuration.{Configuration}
use Rattle.levels.specs.Units as units
use Rattle.levels.specs.Units.{Standing, looking, extending, passing, failing, filled, blamed, put_nexts, looked, extended}
use Rattle.store.specs.Entries.{entries}
use Rattle.store.specs.Keeping.{KeptSo, now_stored}
use Rattle.store.specs.declared.adding.NoPlace.{NoPlace}
use Rattle.store.specs.declared.record.Record.{Record}
use Rattle.checking.specs.declared.phase.Phase.{Phase}
use Rattle.checking.specs.declared.phase.Phase.TheVariants.{Looking, Extending, Passing, Failing, Filled}
use Rattle.checking.specs.declared.state.Check.{Check}
use Rattle.checking.specs.Keeping.{Sound}

-- the phase of a check, as the definition has it
abbrev pub phase_of : Phase → units.Phase
phase_of (Looking level low next) = looking level low next
phase_of (Extending level end next) = extending level end next
phase_of Passing = passing
phase_of (Failing before place code) = failing before place code
phase_of Filled = filled

-- the place whose configuration comes next, none once the check is settled
abbrev pub place_of : units.Phase → Option ℕ
place_of (looking j low i) = Some i
place_of (extending j end i) = Some i
place_of passing = None
place_of (failing b i y) = None
place_of filled = None

-- the verdict, the count and the number stored
abbrev pub told : units.Phase → ℕ → Answer
told (looking j low i) m = record { verdict = Working; count = j; stored = m }
told (extending j end i) m = record { verdict = Working; count = j + 1; stored = m }
told passing m = record { verdict = Pass; count = 0; stored = m }
told (failing b i y) m = record { verdict = Fail; count = b + 1; stored = m }
told filled m = record { verdict = Full; count = 0; stored = m }

-- what a check says when it stands so
abbrev pub answer : {S : Type 0} → Standing S → Answer
answer s = told s.phase (length s.stored)

-- what a check and the records of its table stand for
abbrev pub view : {S : Type 0} → Check → List (Record (Configuration S)) → Standing S
view k xs = record { stored = entries xs k.stored; phase = phase_of k.phase }

-- a check of a cell and a watch in n places after u units
abbrev pub after : {S : Type 0} → CellMeaning → WatchMeaning S → KeyMeaning S → ℕ → ℕ → Standing S
after c w kind n u = units.after c w (configuration_key kind).alike n u

-- check and table stand as after u units: the stored records and the phase are those of the definition, the index
-- fields of the stored records are in order, and the check knows the table's length
pub record Stands {S : Type 0} (c : CellMeaning) (w : WatchMeaning S) (kind : KeyMeaning S) (u : ℕ) (k : Check) (xs : List (Record (Configuration S))) : Type 0 where
  pub places : k.places ≡ length xs
  pub sound : Sound (configuration_key kind) xs k.stored
  pub is : view k xs ≡ after c w kind (length xs) u

-- the rest of a unit, with these next codes of a configuration still to come, whose run began with code x and brought
-- the watch to state s
module _ {S : Type 0} (c : CellMeaning) (w : WatchMeaning S) (kind : KeyMeaning S) (n : ℕ) (x : ℕ) (s : S) where
  abbrev pub rest : List ℕ → List (Entry (Configuration S)) → units.Phase → Standing S
  rest ys es (looking j low i) = looked c w (configuration_key kind).alike n es j low i (blamed c w (configuration_key kind).alike n x s ys)
  rest ys es (extending j end i) = extended c w (configuration_key kind).alike n j end i (put_nexts c w (configuration_key kind).alike n i x s ys es)
  rest ys es passing = record { stored = es; phase = passing }
  rest ys es (failing b i y) = record { stored = es; phase = failing b i y }
  rest ys es filled = record { stored = es; phase = filled }

  abbrev pub resting : List ℕ → Standing S → Standing S
  resting ys t = rest ys t.stored t.phase

-- what changes with a unit of work, whatever the table holds: the places stay, storing only adds, and the places beyond
-- the stored ones are never written
pub record Adds {S : Type 0} (k k' : Check) (xs ys : List (Record (Configuration S))) : Type 0 where
  pub places : k'.places ≡ k.places
  pub more : k.stored ≤ k'.stored
  pub beyond : drop k'.stored ys ≡ drop k'.stored xs

-- the phase after a configuration was kept, or found no place
abbrev pub kept_phase : Result ℕ NoPlace → units.Phase → units.Phase
kept_phase (Ok m) ph = ph
kept_phase (Err e) ph = filled

-- nothing changes
abbrev pub Same : {S : Type 0} → units.Phase → units.Phase → ℕ → ℕ → List (Record (Configuration S)) → List (Record (Configuration S)) → Type 0
Same ph ph' m m' xs ys = (ph' ≡ ph) × (m' ≡ m) × (ys ≡ xs)

-- what the code y does with m records stored, by the phase and by what it turned up, a configuration or none
abbrev pub Met : {S : Type 0} → KeyMeaning S → ℕ → Option (Configuration S) → units.Phase → units.Phase → ℕ → ℕ → List (Record (Configuration S)) → List (Record (Configuration S)) → Type 0
Met kind y None (looking j low i) ph' m m' xs ys = Same (failing j i y) ph' m m' xs ys
Met kind y (Some key) (extending j end i) ph' m m' xs ys =
    (r : Result ℕ NoPlace) × KeptSo (configuration_key kind) xs ys m key i r × (m' ≡ now_stored m r) × (ph' ≡ kept_phase r (extending j end i))
Met kind y turned ph ph' m m' xs ys = Same ph ph' m m' xs ys

-- going through next codes: with `before` of them to come at first and `behind` at last, the rest of the unit comes to
-- the same, if the records are stored in order and the configuration's first code is a state
pub record Goes {S : Type 0} (c : CellMeaning) (w : WatchMeaning S) (kind : KeyMeaning S) (key : Configuration S) (before behind : List ℕ) (k k' : Check) (xs ys : List (Record (Configuration S))) : Type 0 where
  pub on : Sound (configuration_key kind) xs k.stored → c.state key.first ≡ true
      → Sound (configuration_key kind) ys k'.stored × (resting c w kind (length xs) key.first key.state before (view k xs) ≡ resting c w kind (length xs) key.first key.state behind (view k' ys))

-- the phase's numbers can be counted one further in 32 bits
abbrev pub Countable : Phase → Type 0
Countable (Looking level low next) = (level < 4294967295) × (next < 4294967295)
Countable (Extending level end next) = (level < 4294967295) × (next < 4294967295)
Countable Passing = Unit {0}
Countable (Failing before place code) = Unit {0}
Countable Filled = Unit {0}

-- the phase after the last next code of a place, with m records stored
abbrev pub advanced : units.Phase → ℕ → units.Phase
advanced (looking j low i) m = cond (nat_lt (i + 1) m) (looking j low (i + 1)) (extending j m low)
advanced (extending j end i) m = cond (nat_lt (i + 1) end) (extending j end (i + 1)) (cond (m == end) passing (looking (j + 1) end end))
advanced passing m = passing
advanced (failing b i y) m = failing b i y
advanced filled m = filled
