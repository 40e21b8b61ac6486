-- A program as a table of instructions, one for each label, and its steps. Assumes nothing.
use Rattle.std.specs.Prelude.{◌≡◌, ℕ, zero, suc, ◌+◌, cond, List, [], ◌∷◌, ◌++◌, ℤ, pos, ◌+ℤ◌, ◌-ℤ◌, Some, None, Option, slice_set, unsigned_abs}
use Rattle.model.specs.Cells.{In, at}
use Rattle.text.specs.Expressions.{Arith, Test, value, holds}
use Rattle.traces.specs.declared.range.Range.{Range}
use Rattle.traces.specs.Programs.{Part, assign, sense, skip, if_then, if_else, while, break, block, empty, list, size, begins, Tree, ranges}
use Rattle.traces.specs.Traces.{State, ◌▹◌, seen, range_at, stored, exit, Setting, Prefix}

-- what a statement does, with the labels that it goes on to
pub data Instruction : Type 0 where
  assigns : ℕ → Arith → ℕ → Instruction
  senses : ℕ → ℕ → Instruction
  goes : ℕ → Instruction
  -- to the first label where the test holds, else to the second
  branches : Test → ℕ → ℕ → Instruction

-- the instructions of a component with labels from ℓ on, a the label after it, b the label that its breaks go to
abbrev pub table : Part → ℕ → ℕ → ℕ → List Instruction
table (assign x e) ℓ a b = assigns x e a ∷ []
table (sense x) ℓ a b = senses x a ∷ []
table skip ℓ a b = goes a ∷ []
table (if_then t s) ℓ a b = branches t (begins s (ℓ + 1) a) a ∷ table s (ℓ + 1) a b
table (if_else t s u) ℓ a b = branches t (begins s (ℓ + 1) a) (begins u (ℓ + 1 + size s) a) ∷ (table s (ℓ + 1) a b ++ table u (ℓ + 1 + size s) a b)
table (while t s) ℓ a b = branches t (begins s (ℓ + 1) ℓ) a ∷ table s (ℓ + 1) ℓ a
table break ℓ a b = goes b ∷ []
table (block s) ℓ a b = table s ℓ a b
table empty ℓ a b = []
table (list s u) ℓ a b = table s ℓ (begins u (ℓ + size s) a) b ++ table u (ℓ + size s) a b

-- z, z + 1 and so on, n numbers
abbrev pub upward : ℤ → ℕ → List ℤ
upward z zero = []
upward z (suc n) = z ∷ upward (z +ℤ pos 1) n

-- how far a value is above the low end
abbrev pub above : ℤ → ℤ → ℕ
above low v = unsigned_abs (v -ℤ low)

-- the values of a range, ascending
abbrev pub span : Range → List ℤ
span r = upward r.low (suc (above r.low r.high))

abbrev pub each : ℕ → List ℤ → ℕ → List ℤ → List State
each n ρ x [] = []
each n ρ x (v ∷ vs) = (n ▹ slice_set ρ x v) ∷ each n ρ x vs

-- the next states of a state at an instruction, in order
abbrev pub outcomes : List Range → Instruction → List ℤ → List State
outcomes rs (assigns x e n) ρ = (n ▹ stored rs ρ x (value (seen ρ) e)) ∷ []
outcomes rs (senses x n) ρ = each n ρ x (span (range_at rs x))
outcomes rs (goes n) ρ = (n ▹ ρ) ∷ []
outcomes rs (branches t y n) ρ = (cond (holds (seen ρ) t) y n ▹ ρ) ∷ []

-- no instruction, no next state
abbrev pub following : List Range → Option Instruction → List ℤ → List State
following rs None ρ = []
following rs (Some i) ρ = outcomes rs i ρ

-- the next states of a state: none at the exit
abbrev pub next_states : List Range → List Instruction → State → List State
next_states rs tbl σ = following rs (at tbl σ.label) σ.values

-- the table of a program
abbrev pub table_of : Tree → List Instruction
table_of t = table t.body 0 (exit t) (exit t)

-- each state is among the next states of the one before
abbrev pub Path : List Range → List Instruction → State → List State → Type 0
Path rs tbl σ [] = Unit {0}
Path rs tbl σ (τ ∷ π) = In τ (next_states rs tbl σ) × Path rs tbl τ π

-- a path of a program's steps from label 0 and a start
abbrev pub Paths : Tree → List State → Type 0
Paths t [] = ⊥
Paths t (σ ∷ π) = (σ.label ≡ 0) × Setting (ranges t) σ.values × Path (ranges t) (table_of t) σ π

-- the prefix traces of a program are the paths of its steps: all of them and no others
abbrev pub TracesArePaths : Type 0
TracesArePaths = (t : Tree) (π : List State) → (Prefix t π → Paths t π) × (Paths t π → Prefix t π)
