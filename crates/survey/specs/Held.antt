-- What the steps inside the survey leave in the table. Assumes nothing.
use Rattle.std.specs.Prelude.{◌≡◌, ℕ, ◌<◌, ◌≤◌, Bool, true, false, List, length, take, drop, Ok, Err, Result, slice_index_or}
use Rattle.model.specs.Cells.{CellMeaning, In}
use Rattle.model.specs.Keys.{code_key}
use Rattle.store.specs.declared.adding.NoPlace.{NoPlace}
use Rattle.store.specs.declared.record.Record.{Record}
use Rattle.store.specs.Calls.{places}
use Rattle.store.specs.Chains.{Indexed}
use Rattle.store.specs.Entries.{entries}
use Rattle.survey.specs.Order.{Met, walked}

-- the first m places of the table hold the codes met, in order, and the places beyond are as they were in xs
pub record Held (xs ys : List (Record ℕ)) (m : ℕ) (es : Met) : Type 0 where
  pub stored : entries ys m ≡ es
  pub indexed : Indexed code_key ys m
  pub fits : m ≤ places ys
  pub long : length ys ≡ length xs
  pub beyond : drop m ys ≡ drop m xs

-- there are more codes than places, and the places hold the first of them
pub record Packed (xs ys : List (Record ℕ)) (es : Met) : Type 0 where
  pub over : length xs < length es
  pub stored : entries ys (length xs) ≡ take (length xs) es
  pub long : length ys ≡ length xs

-- the answer of a step after which these codes are met: how many they are, or that one found no place
abbrev pub KeptSo : List (Record ℕ) → List (Record ℕ) → Met → Result ℕ NoPlace → Type 0
KeptSo xs ys es (Ok m) = Held xs ys m es
KeptSo xs ys es (Err e) = length xs ≤ 1000000 → Packed xs ys es

-- the answer of the walk: m codes, all gone through, or that one found no place
abbrev pub WalkedSo : CellMeaning → List (Record ℕ) → List (Record ℕ) → Result ℕ NoPlace → Type 0
WalkedSo c xs ys (Ok m) = Held xs ys m (walked c m)
WalkedSo c xs ys (Err e) = length xs ≤ 1000000 → Packed xs ys (walked c (length xs))

-- a label is marked exactly where some state among the codes has it
pub record Marked (c : CellMeaning) (ks : List ℕ) (labels : List Bool) : Type 0 where
  pub long : length labels ≡ 64
  pub only : (l : ℕ) → l < 64 → slice_index_or labels l false ≡ true → (x : ℕ) × In x ks × ((c.reads x).label ≡ l)
  pub all : (x : ℕ) → In x ks → c.state x ≡ true → slice_index_or labels (c.reads x).label false ≡ true
