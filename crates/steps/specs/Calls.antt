-- What filling a step table answers, and the table after it. Assumes nothing.
use Rattle.std.specs.Prelude.{◌≡◌, ℕ, ◌+◌, ◌<◌, ◌≤◌, false, ◌⊎◌, List, length, take, Some, Ok, Err, Result}
use Rattle.model.specs.Cells.{at}
use Rattle.model.specs.Refusals.{reply}
use Rattle.model.specs.declared.refusal.Refusal.{Refusal}
use Rattle.steps.specs.declared.row.Row.{Row}
use Rattle.steps.specs.declared.row.Arc.{Arc}
use Rattle.steps.specs.declared.table.StepTable.{StepTable}
use Rattle.steps.specs.Tables.{proper_row, proper_arc}

-- a row from number 256 on, or an arc from number 4,096 on, stands at index i; arcs are counted after the rows
abbrev pub TooMany : List Row → List Arc → ℕ → Type 0
TooMany rs bs i = ((256 ≤ i) × (i < length rs)) ⊎ ((length rs + 4096 ≤ i) × (i < length rs + length bs))

-- a row or an arc that is not proper stands at index i
abbrev pub Improper : List Row → List Arc → ℕ → Type 0
Improper rs bs i =
    ((r : Row) × (at rs i ≡ Some r) × (proper_row r ≡ false))
    ⊎ ((j : ℕ) × (i ≡ length rs + j) × (a : Arc) × (at bs j ≡ Some a) × (proper_arc (length rs) (take j bs) a ≡ false))

-- i is the first index of its kind
abbrev pub First : (ℕ → Type 0) → ℕ → Type 0
First P i = P i × ((j : ℕ) → j < i → P j → ⊥)

-- no index is of the kind
abbrev pub Never : (ℕ → Type 0) → Type 0
Never P = (i : ℕ) → P i → ⊥

-- the refusal: MANY at the first row or arc too many; where there is none, STEP at the first that is not proper
abbrev pub Refused : List Row → List Arc → Refusal → Type 0
Refused rs bs e =
    ((i : ℕ) × (reply e ≡ (5, 11, i)) × First (TooMany rs bs) i)
    ⊎ ((i : ℕ) × (reply e ≡ (5, 13, i)) × Never (TooMany rs bs) × First (Improper rs bs) i)

-- rows and arcs are taken exactly where none is too many and all are proper
abbrev pub Taken : List Row → List Arc → Type 0
Taken rs bs = Never (TooMany rs bs) × Never (Improper rs bs)

-- the table has these rows and arcs
abbrev pub Has : List Row → List Arc → StepTable → Type 0
Has rs bs t = (t.rows.now ≡ rs) × (t.arcs.now ≡ bs)

-- filling a table: afterwards it has these rows and arcs, or it is as it was
abbrev pub FilledSo : {X : Type 0} → List Row → List Arc → StepTable → StepTable → Result X Refusal → Type 0
FilledSo rs bs old new (Ok x) = Taken rs bs × Has rs bs new
FilledSo rs bs old new (Err e) = Refused rs bs e × (new ≡ old)
