-- What opening a check comes to: all starts are looked at, then stored. Assumes nothing.
use Rattle.std.specs.Prelude.{◌≡◌, ℕ, ◌<◌, ◌≤◌, true, List, [], length, drop, Ok, Err, Result, is_err, ◌≢◌}
use Rattle.model.specs.Cells.{CellMeaning}
use Rattle.model.specs.Keys.{KeyMeaning, configuration_key}
use Rattle.model.specs.Refusals.{reply}
use Rattle.model.specs.Watches.{WatchMeaning}
use Rattle.model.specs.declared.answer.Answer.{Answer}
use Rattle.model.specs.declared.configuration.Configuration.{Configuration}
use Rattle.model.specs.declared.refusal.Refusal.{Refusal}
use Rattle.levels.specs.Units.{onward, put_new, put_starts}
use Rattle.store.specs.Entries.{entries}
use Rattle.store.specs.declared.adding.NoPlace.{NoPlace}
use Rattle.store.specs.declared.record.Record.{Record}
use Rattle.checking.specs.declared.state.Check.{Check}
use Rattle.checking.specs.Keeping.{Sound}
use Rattle.checking.specs.Standing.{Stands, after, answer}

module _ {S : Type 0} (c : CellMeaning) (w : WatchMeaning S) (kind : KeyMeaning S) where
  -- storing the configuration of the start x behind m others: m' are stored then, still m where no place was left
  pub record StartSo (x : ℕ) (xs ys : List (Record (Configuration S))) (m m' : ℕ) (r : Result (Unit {0}) NoPlace) : Type 0 where
    pub more : m ≤ m'
    pub none : is_err r ≡ true → m' ≡ m
    pub beyond : drop m' ys ≡ drop m' xs
    pub sound : Sound (configuration_key kind) xs m → Sound (configuration_key kind) ys m'
    pub puts : Sound (configuration_key kind) xs m → c.state x ≡ true
        → put_new c w (configuration_key kind).alike (length xs) (entries xs m) (onward c w (configuration_key kind).alike (length xs) x w.first x) m ≡ record { stored = entries ys m'; full = is_err r }

  -- storing the configurations of the starts, with these still to come and m records stored so far
  pub record Storing (still : List ℕ) (xs ys : List (Record (Configuration S))) (m : ℕ) : Type 0 where
    pub beyond : drop m ys ≡ drop m xs
    pub sound : length xs ≤ 1000000 → Sound (configuration_key kind) ys m
    pub puts : length xs ≤ 1000000 → put_starts c w (configuration_key kind).alike (length xs) c.starts [] ≡ put_starts c w (configuration_key kind).alike (length xs) still (entries ys m)

  -- storing the configurations of all starts: m records are stored then, unless one found no place
  pub record StartsSo (xs ys : List (Record (Configuration S))) (m : ℕ) (r : Result (Unit {0}) NoPlace) : Type 0 where
    pub beyond : drop m ys ≡ drop m xs
    pub sound : length xs ≤ 1000000 → Sound (configuration_key kind) ys m
    pub puts : length xs ≤ 1000000 → put_starts c w (configuration_key kind).alike (length xs) c.starts [] ≡ record { stored = entries ys m; full = is_err r }

  -- a check in the table xs, which is ys now, stands at its beginning
  pub record Begun (k : Check) (xs ys : List (Record (Configuration S))) : Type 0 where
    pub stands : Stands c w kind 0 k ys
    pub beyond : drop k.stored ys ≡ drop k.stored xs

  -- opening: over 1,000,000 places are refused with LARGE and stay as they were; else the check stands at its
  -- beginning, and the answer is what it then says
  abbrev pub Opens : List (Record (Configuration S)) → List (Record (Configuration S)) → Result (Check × Answer) Refusal → Type 0
  Opens xs ys (Ok r) = (length xs ≤ 1000000) × Begun r.0 xs ys × (r.1 ≡ answer (after c w kind (length xs) 0))
  Opens xs ys (Err e) = (1000000 < length xs) × (ys ≡ xs) × (reply e ≡ (6, 17, length xs))

  -- restarting: a table of another length is refused with MISFIT, and check and table stay as they were; else the
  -- check, which was opened with at most 1,000,000 places, stands at its beginning, and the answer is what it then says
  abbrev pub Restarts : Check → Check → List (Record (Configuration S)) → List (Record (Configuration S)) → Result Answer Refusal → Type 0
  Restarts k k' xs ys (Ok a) =
      (k.places ≡ length xs) × (drop k'.stored ys ≡ drop k'.stored xs)
      × (length xs ≤ 1000000 → Stands c w kind 0 k' ys × (a ≡ answer (after c w kind (length xs) 0)))
  Restarts k k' xs ys (Err e) = (k.places ≢ length xs) × (k' ≡ k) × (ys ≡ xs) × (reply e ≡ (6, 16, length xs))
