-- What looking a key up and adding one answer, and what adding does to the table. Assumes nothing.
use Rattle.std.specs.Prelude.{◌≡◌, ℕ, ◌+◌, ◌<◌, ◌≤◌, min, List, [], ◌∷◌, ◌++◌, length, drop, Some, None, Option, Ok, Err, Result}
use Rattle.model.specs.Cells.{at}
use Rattle.model.specs.Keys.{KeyMeaning}
use Rattle.store.specs.declared.record.Record.{Record}
use Rattle.store.specs.declared.adding.Added.{Added}
use Rattle.store.specs.declared.adding.Added.TheVariants.{Known, New}
use Rattle.store.specs.declared.adding.NoPlace.{NoPlace}
use Rattle.store.specs.Entries.{entries, keys, Found}
use Rattle.store.specs.Chains.{Indexed}

-- place i is one of the first n records of a table, and its key is k
pub record Holds {K : Type 0} (xs : List (Record K)) (n : ℕ) (k : K) (i : ℕ) : Type 0 where
  pub stored : i < n
  pub within : n ≤ length xs
  pub there : at (keys (entries xs n)) i ≡ Some k

-- the answer to looking key k up among the first n records: a place always has the key; where the records are indexed,
-- the answer is the key's place, and none only where the key is not stored
abbrev pub FoundSo : {K : Type 0} → KeyMeaning K → List (Record K) → ℕ → K → Option ℕ → Type 0
FoundSo kind xs n k (Some i) = Holds xs n k i × (Indexed kind xs n → Found (entries xs n) k (Some i))
FoundSo kind xs n k None = Indexed kind xs n → Found (entries xs n) k None

-- how many records a table can store: all its places, of a table longer than a link can count the first 2 ^ 32 - 1
abbrev pub places : {K : Type 0} → List (Record K) → ℕ
places xs = min (length xs) 4294967295

-- one more record is stored: its entry comes behind the others, which stay, and the places beyond it are as they were
pub record Grown {K : Type 0} (xs ys : List (Record K)) (n : ℕ) (k : K) (f : ℕ) : Type 0 where
  pub room : n < places xs
  pub long : length ys ≡ length xs
  pub stored : entries ys (n + 1) ≡ entries xs n ++ record { key = k; from = f } ∷ []
  pub beyond : drop (n + 1) ys ≡ drop (n + 1) xs

-- the answer to adding key k, reached from place f, to the first n records of xs, which leaves ys: only a new key
-- changes the table, and records that were indexed are indexed with it
abbrev pub AddedSo : {K : Type 0} → KeyMeaning K → List (Record K) → List (Record K) → ℕ → K → ℕ → Result Added NoPlace → Type 0
AddedSo kind xs ys n k f (Ok (Known i)) = (ys ≡ xs) × FoundSo kind xs n k (Some i)
AddedSo kind xs ys n k f (Ok New) = FoundSo kind xs n k None × Grown xs ys n k f × (Indexed kind xs n → Indexed kind ys (n + 1))
AddedSo kind xs ys n k f (Err e) = (ys ≡ xs) × FoundSo kind xs n k None × (places xs ≤ n)
