-- The order in which a cell's codes are first met, breadth first. Assumes nothing.
use Rattle.std.specs.Prelude.{ℕ, zero, suc, cond, List, [], ◌∷◌, ◌++◌, length, Some, None, Option}
use Rattle.model.specs.Cells.{CellMeaning, at}
use Rattle.model.specs.Entries.{Entry}
use Rattle.model.specs.Keys.{code_key}
use Rattle.store.specs.Entries.{known}

-- the codes met so far, each with the place that it was reached from
abbrev pub Met : Type 0
Met = List (Entry ℕ)

-- a code more, reached from a place, unless it was met before
abbrev pub meet : Met → ℕ → ℕ → Met
meet es x from = cond (known code_key es x) es (es ++ (record { key = x; from = from } ∷ []))

-- the codes of a list one after the other; g tells the place that one is reached from
abbrev pub gather : (Met → ℕ) → List ℕ → Met → Met
gather g [] es = es
gather g (y ∷ ys) es = gather g ys (meet es y (g es))

-- the next codes of the code at place i
abbrev pub visit : CellMeaning → ℕ → Met → Option (Entry ℕ) → Met
visit c i es None = es
visit c i es (Some e) = gather (λ _. i) (c.nexts e.key) es

-- the codes met once the starts, each reached from its own place, and then the next codes of the first i codes were
-- gone through in their order
abbrev pub walked : CellMeaning → ℕ → Met
walked c zero = gather length c.starts []
walked c (suc i) = visit c i (walked c i) (at (walked c i) i)
