-- What the codes met say of the runs of a cell. Assumes nothing.
use Rattle.std.specs.Prelude.{◌≡◌, ℕ, ◌+◌, ◌<◌, ◌≤◌, ◌⊎◌, List, [], ◌∷◌, length, Some}
use Rattle.model.specs.Cells.{CellMeaning, In, at}
use Rattle.model.specs.Entries.{Entry}
use Rattle.model.specs.Runs.{Run, last}
use Rattle.levels.specs.Law.{Distinct}
use Rattle.store.specs.Entries.{keys}
use Rattle.survey.specs.Order.{Met}

-- some run comes to code x
abbrev pub Reachable : CellMeaning → ℕ → Type 0
Reachable c x = (xs : List ℕ) × Run c xs × In x xs

-- a run that ends in code x
abbrev pub RunTo : CellMeaning → List ℕ → ℕ → Type 0
RunTo c [] x = ⊥
RunTo c (y ∷ ys) x = Run c (y ∷ ys) × (last y ys ≡ x)

-- some run comes to a state with label l
abbrev pub Shows : CellMeaning → ℕ → Type 0
Shows c l = (x : ℕ) × Reachable c x × ((c.reads x).label ≡ l)

-- more than n different codes are reachable
abbrev pub More : CellMeaning → ℕ → Type 0
More c n = (ks : List ℕ) × (length ks ≡ n + 1) × Distinct ks × ((k : ℕ) → In k ks → Reachable c k)

-- the entry e at place p is a start, reached from its own place, or one of the next codes of the code at the earlier
-- place that it was reached from
abbrev pub Origin : CellMeaning → Met → ℕ → Entry ℕ → Type 0
Origin c es p e =
    (In e.key c.starts × (e.from ≡ p))
    ⊎ ((e.from < p) × (x : ℕ) × (at (keys es) e.from ≡ Some x) × In e.key (c.nexts x))

-- entries of different codes that runs come to, each with its origin
pub record Sound (c : CellMeaning) (es : Met) : Type 0 where
  pub apart : Distinct (keys es)
  pub reached : (x : ℕ) → In x (keys es) → Reachable c x
  pub origin : (p : ℕ) (e : Entry ℕ) → at es p ≡ Some e → Origin c es p e

-- level by level: for each run to a code, every code that stands before it has a run of no more states
abbrev pub Levelled : CellMeaning → Met → Type 0
Levelled c es =
    (p q x y : ℕ) → p ≤ q → at (keys es) p ≡ Some x → at (keys es) q ≡ Some y
    → (ys : List ℕ) → RunTo c ys y → (xs : List ℕ) × RunTo c xs x × (length xs ≤ length ys)
