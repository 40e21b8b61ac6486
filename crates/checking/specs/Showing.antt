-- The run that a fail shows. Assumes nothing.
use Rattle.std.specs.Prelude.{◌≡◌, ℕ, zero, suc, ◌<◌, ◌≤◌, cond, List, [], ◌∷◌, ◌++◌, length, Some, None, Ok, Err, Option, Result, ◌≢◌, nat_lt, slice_index}
use Rattle.model.specs.Cells.{at}
use Rattle.model.specs.Entries.{Entry}
use Rattle.model.specs.Refusals.{reply}
use Rattle.model.specs.declared.configuration.Configuration.{Configuration}
use Rattle.model.specs.declared.refusal.Refusal.{Refusal}
use Rattle.levels.specs.Units as units
use Rattle.levels.specs.Units.{looking, extending, passing, failing, filled, from_at, trail}
use Rattle.store.specs.Entries.{entries}
use Rattle.store.specs.declared.record.Record.{Record}
use Rattle.checking.specs.declared.state.Check.{Check}
use Rattle.checking.specs.Standing.{phase_of}

-- the entries of the whole table
abbrev pub whole : {S : Type 0} → List (Record (Configuration S)) → List (Entry (Configuration S))
whole xs = entries xs (length xs)

-- the place that comes so many steps before place i
abbrev pub back_at : {S : Type 0} → List (Entry (Configuration S)) → ℕ → ℕ → ℕ
back_at es zero i = i
back_at es (suc m) i = back_at es m (from_at es i)

-- the run that a fail shows, none without a fail: the code that settled the check, and before it the last codes of
-- the record taken and of those that it was reached from
abbrev pub shown : {S : Type 0} → units.Phase → List (Record (Configuration S)) → Option (List ℕ)
shown (looking j low i) xs = None
shown (extending j end i) xs = None
shown passing xs = None
shown (failing b i y) xs = Some (trail (whole xs) b i ++ (y ∷ []))
shown filled xs = None

-- y is the code at place p of the shown run
abbrev pub CodeAt : Option (List ℕ) → ℕ → ℕ → Type 0
CodeAt None p y = ⊥
CodeAt (Some run) p y = at run p ≡ Some y

-- why there is none: NO RUN without a fail, BEYOND at or past its length
abbrev pub NoCode : Option (List ℕ) → ℕ → Refusal → Type 0
NoCode None p e = reply e ≡ (6, 14, 0)
NoCode (Some run) p e = (length run ≤ p) × (reply e ≡ (6, 15, p))

-- a shown state: a table of another length is refused first, with MISFIT
abbrev pub ShownAt : {S : Type 0} → Check → List (Record (Configuration S)) → ℕ → Result ℕ Refusal → Type 0
ShownAt k xs p (Ok y) = (k.places ≡ length xs) × CodeAt (shown (phase_of k.phase) xs) p y
ShownAt k xs p (Err e) = (k.places ≡ length xs → NoCode (shown (phase_of k.phase) xs) p e) × ((k.places ≢ length xs) → reply e ≡ (6, 16, length xs))

-- the whole run from the front of a buffer on, as much of it as there is room for, and its length; the rest of the
-- buffer as it was
abbrev pub Handed : Option (List ℕ) → List ℕ → List ℕ → ℕ → Type 0
Handed None old new n = ⊥
Handed (Some run) old new n = (n ≡ length run) × ((j : ℕ) → j < length new → slice_index new j ≡ cond (nat_lt j n) (slice_index run j) (slice_index old j))

abbrev pub NoRun : Option (List ℕ) → Refusal → Type 0
NoRun None e = reply e ≡ (6, 14, 0)
NoRun (Some run) e = ⊥

abbrev pub ShownAll : {S : Type 0} → Check → List (Record (Configuration S)) → List ℕ → List ℕ → Result ℕ Refusal → Type 0
ShownAll k xs old new (Ok n) = (k.places ≡ length xs) × Handed (shown (phase_of k.phase) xs) old new n
ShownAll k xs old new (Err e) = (new ≡ old) × (k.places ≡ length xs → NoRun (shown (phase_of k.phase) xs) e) × ((k.places ≢ length xs) → reply e ≡ (6, 16, length xs))
