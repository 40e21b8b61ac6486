-- What the survey answers, and the table after it. Assumes nothing.
use Rattle.std.specs.Prelude.{◌≡◌, ℕ, ◌<◌, ◌≤◌, Bool, true, false, List, length, take, drop, Some, None, Option, Ok, Err, Result, slice_index_or}
use Rattle.model.specs.Cells.{CellMeaning, In}
use Rattle.model.specs.Refusals.{reply}
use Rattle.model.specs.declared.refusal.Refusal.{Refusal}
use Rattle.store.specs.declared.record.Record.{Record}
use Rattle.store.specs.Entries.{entries, keys}
use Rattle.survey.specs.declared.call.Reached.{Reached}
use Rattle.survey.specs.Order.{walked}
use Rattle.survey.specs.Reach.{Reachable, Shows, More, Sound, Levelled}

-- a survey that found all codes: xs is the table before, ys after it
pub record Surveyed (c : CellMeaning) (xs ys : List (Record ℕ)) (codes : ℕ) (labels : List Bool) : Type 0 where
  -- the first places hold the codes, in the order in which they are first met
  pub number : codes ≡ length (walked c (length xs))
  pub stored : entries ys codes ≡ walked c (length xs)
  -- no other place is written
  pub fits : codes ≤ length xs
  pub long : length ys ≡ length xs
  pub beyond : drop codes ys ≡ drop codes xs
  -- these are the codes that runs come to, each once
  pub sound : Sound c (entries ys codes)
  pub levels : Levelled c (entries ys codes)
  pub whole : (x : ℕ) → Reachable c x → In x (keys (entries ys codes))
  pub room : More c (length xs) → ⊥
  -- the labels that runs come to are marked
  pub labelled : length labels ≡ 64
  pub marked : (l : ℕ) → l < 64 → slice_index_or labels l false ≡ true → Shows c l
  pub shown : (l : ℕ) → l < 64 → Shows c l → slice_index_or labels l false ≡ true

-- a survey that found more codes than places
pub record Filled (c : CellMeaning) (xs ys : List (Record ℕ)) : Type 0 where
  -- every place holds a code, in the order in which they are first met
  pub number : length xs < length (walked c (length xs))
  pub stored : entries ys (length xs) ≡ take (length xs) (walked c (length xs))
  pub long : length ys ≡ length xs
  pub sound : Sound c (entries ys (length xs))
  pub levels : Levelled c (entries ys (length xs))
  -- one more code is reachable
  pub more : More c (length xs)

-- the answer, for a table xs that is left as ys
abbrev pub SurveyedSo : CellMeaning → List (Record ℕ) → List (Record ℕ) → Result (Option Reached) Refusal → Type 0
SurveyedSo c xs ys (Ok (Some s)) = (length xs ≤ 1000000) × Surveyed c xs ys s.codes s.labels
SurveyedSo c xs ys (Ok None) = (length xs ≤ 1000000) × Filled c xs ys
SurveyedSo c xs ys (Err e) = (1000000 < length xs) × (reply e ≡ (6, 17, length xs)) × (ys ≡ xs)
