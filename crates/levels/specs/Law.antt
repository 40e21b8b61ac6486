-- The law of a check: what each of its answers says of the runs of a cell and a watch. Assumes nothing.
use Rattle.std.specs.Prelude.{◌≡◌, ℕ, ◌+◌, ◌*◌, ◌<◌, ◌≤◌, List, [], ◌∷◌, length}
use Rattle.model.specs.Cells.{CellMeaning, In}
use Rattle.model.specs.Entries.{Entry}
use Rattle.model.specs.Runs.{Run, Permitted, Has}
use Rattle.model.specs.Watches.{WatchMeaning}
use Rattle.model.specs.declared.configuration.Configuration.{Configuration}
use Rattle.levels.specs.Units.{Outcome, working, passed, failed, full}

-- no element stands twice
abbrev pub Distinct : {A : Type 0} → List A → Type 0
Distinct [] = Unit {0}
Distinct (x ∷ xs) = (In x xs → ⊥) × Distinct xs

-- the configurations of stored entries, in their order
abbrev pub keys : {S : Type 0} → List (Entry (Configuration S)) → List (Configuration S)
keys [] = []
keys (e ∷ es) = e.key ∷ keys es

module _ {S : Type 0} (c : CellMeaning) (w : WatchMeaning S) where
  -- a run that the watch does not permit
  abbrev pub Bad : List ℕ → Type 0
  Bad xs = Run c xs × (Permitted c w xs → ⊥)

  -- a run shorter than every unpermitted run
  abbrev pub Early : List ℕ → Type 0
  Early xs = Run c xs × ((ys : List ℕ) → Bad ys → length xs < length ys)

  -- those runs have more than n distinct configurations
  abbrev pub More : ℕ → Type 0
  More n =
      (ks : List (Configuration S)) × (length ks ≡ n + 1) × Distinct ks × ((k : Configuration S) → In k ks → (xs : List ℕ) × Early xs × Has c w xs k)

  -- an unpermitted run, and no unpermitted run has fewer states
  abbrev pub Shortest : List ℕ → Type 0
  Shortest xs = Bad xs × ((ys : List ℕ) → Bad ys → length xs ≤ length ys)

  -- every run of at most k states is permitted
  abbrev pub Clear : ℕ → Type 0
  Clear k = (xs : List ℕ) → Run c xs → length xs ≤ k → Permitted c w xs

  -- what a check in n places may say after u units
  abbrev pub Law : ℕ → ℕ → Outcome → Type 0
  -- not settled: fewer units than twice the places, and no unpermitted run among those looked at
  Law n u (working k) = (u < 2 * n) × Clear k
  -- pass: there was room, and every run is permitted
  Law n u passed = (More n → ⊥) × ((xs : List ℕ) → Run c xs → Permitted c w xs)
  -- fail: there was room, and the run shown is a shortest that is not permitted
  Law n u (failed xs) = (More n → ⊥) × Shortest xs
  -- full: there was no room
  Law n u full = More n

  -- these are the configurations of the runs shorter than every unpermitted run: all of them, no others, and each once
  pub record Counts (ks : List (Configuration S)) : Type 0 where
    pub apart : Distinct ks
    pub only : (k : Configuration S) → In k ks → (xs : List ℕ) × Early xs × Has c w xs k
    pub all : (xs : List ℕ) (k : Configuration S) → Early xs → Has c w xs k → In k ks

  -- what a check in n places has stored when it says so
  abbrev pub Tally : ℕ → List (Configuration S) → Outcome → Type 0
  -- not settled: different configurations of runs that have been looked at
  Tally n ks (working m) = Distinct ks × ((k : Configuration S) → In k ks → (xs : List ℕ) × Run c xs × Has c w xs k × (length xs ≤ m))
  Tally n ks passed = Counts ks
  Tally n ks (failed xs) = Counts ks
  -- full: every place is taken
  Tally n ks full = length ks ≡ n
