-- What a table of records holds: a list of keys, each with the place that it was reached from. Assumes nothing.
use Rattle.std.specs.Prelude.{◌≡◌, ℕ, ◌<◌, Bool, false, ◌||◌, List, [], ◌∷◌, map, take, Some, None, Option, ◌≢◌}
use Rattle.model.specs.Cells.{In, at}
use Rattle.model.specs.Entries.{Entry}
use Rattle.model.specs.Keys.{KeyMeaning}
use Rattle.store.specs.declared.record.Record.{Record}

-- the entry of a record, without the index fields
abbrev pub entry : {K : Type 0} → Record K → Entry K
entry r = record { key = r.key; from = r.from }

-- the entries of the first n records, in the order of storing
abbrev pub entries : {K : Type 0} → List (Record K) → ℕ → List (Entry K)
entries xs n = map entry (take n xs)

-- the keys of entries, in their order
abbrev pub keys : {K : Type 0} → List (Entry K) → List K
keys es = map (λ e. e.key) es

-- where a key is among entries: the last place that has it, none where no entry has it
abbrev pub Found : {K : Type 0} → List (Entry K) → K → Option ℕ → Type 0
Found es k (Some i) = (at (keys es) i ≡ Some k) × ((j : ℕ) → i < j → at (keys es) j ≢ Some k)
Found es k None = In k (keys es) → ⊥

-- whether some entry has the key, by the comparison of its kind
abbrev pub known : {K : Type 0} → KeyMeaning K → List (Entry K) → K → Bool
known kind [] k = false
known kind (e ∷ es) k = kind.alike e.key k || known kind es k
