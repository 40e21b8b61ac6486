-- The index of a step table: lists that answer each question by one place. Assumes nothing.
use Rattle.std.specs.Prelude.{◌≡◌, ℕ, ◌<◌, true, false, List, [], ◌∷◌, ◌++◌, Ok, Err, Result, slice_index_or}
use Rattle.steps.specs.declared.row.Row.{Row}
use Rattle.steps.specs.declared.row.Arc.{Arc}
use Rattle.steps.specs.Tables.{nexts_of, starts_from, proper_arc}

-- the listed numbers are those of the start rows
abbrev pub Begun : List Row → List ℕ → Type 0
Begun rs starts = starts ≡ starts_from 0 rs

-- for each row stands where its arcs lead
abbrev pub Filed : List Arc → List (List ℕ) → Type 0
Filed bs nexts = (r : ℕ) → r < 256 → slice_index_or nexts r [] ≡ nexts_of bs r

-- an arc behind those that are filed: it is proper, and now filed too, or it is not proper
abbrev pub Entered : {X E : Type 0} → ℕ → Arc → List (List ℕ) → List (List ℕ) → Result X E → Type 0
Entered n a old new (Err e) = (bs : List Arc) → Filed bs old → proper_arc n bs a ≡ false
Entered n a old new (Ok x) = (bs : List Arc) → Filed bs old → (proper_arc n bs a ≡ true) × Filed (bs ++ (a ∷ [])) new
