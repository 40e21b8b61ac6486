-- Rows and arcs: which are proper, and the lists of codes that they stand for. Assumes nothing.
use Rattle.std.specs.Prelude.{ℕ, zero, suc, Bool, true, cond, ◌&&◌, List, [], ◌∷◌, ◌++◌, length, ℤ, pos, negsuc, ◌==◌, int_le, nat_le, nat_lt}
use Rattle.model.specs.declared.moment.Reading.{Reading}
use Rattle.steps.specs.declared.row.Row.{Row}
use Rattle.steps.specs.declared.row.Arc.{Arc}

-- the next codes of code x: where the arcs that leave it lead, in arc order
abbrev pub nexts_of : List Arc → ℕ → List ℕ
nexts_of [] x = []
nexts_of (a ∷ bs) x = cond (a.from == x) (a.to ∷ nexts_of bs x) (nexts_of bs x)

-- the numbers of the start rows, in row order, where the first row has number i
abbrev pub starts_from : ℕ → List Row → List ℕ
starts_from i [] = []
starts_from i (r ∷ rs) = cond r.start (i ∷ starts_from (suc i) rs) (starts_from (suc i) rs)

-- the label and values of row x
abbrev pub reading_of : List Row → ℕ → Reading
reading_of [] x = record { label = 0; values = [] }
reading_of (r ∷ rs) zero = record { label = r.label; values = r.values }
reading_of (r ∷ rs) (suc x) = reading_of rs x

-- each number is from -1,000 to 1,000
abbrev pub limited : List ℤ → Bool
limited [] = true
limited (v ∷ vs) = int_le (negsuc 999) v && (int_le v (pos 1000) && limited vs)

-- a row's label is at most 63, its values from -1,000 to 1,000
abbrev pub proper_row : Row → Bool
proper_row r = nat_lt r.label 64 && limited r.values

-- all rows are proper
abbrev pub proper_rows : List Row → Bool
proper_rows [] = true
proper_rows (r ∷ rs) = proper_row r && proper_rows rs

-- an arc goes from one of n rows to one of them, and fewer than 64 of the arcs before it leave the same row
abbrev pub proper_arc : ℕ → List Arc → Arc → Bool
proper_arc n before a = nat_lt a.from n && (nat_lt a.to n && nat_lt (length (nexts_of before a.from)) 64)

-- all arcs are proper, where others come before them
abbrev pub proper_arcs : ℕ → List Arc → List Arc → Bool
proper_arcs n before [] = true
proper_arcs n before (a ∷ bs) = proper_arc n before a && proper_arcs n (before ++ (a ∷ [])) bs

-- rows and arcs that a table can be filled with: at most 256 rows and 4,096 arcs, all proper
abbrev pub proper : List Row → List Arc → Bool
proper rs bs = nat_le (length rs) 256 && (nat_le (length bs) 4096 && (proper_rows rs && proper_arcs (length rs) [] bs))
