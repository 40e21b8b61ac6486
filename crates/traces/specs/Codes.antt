-- The codes of a program's states, which codes are states, the start codes and the next codes. Assumes nothing.
use Rattle.std.specs.Prelude.{ℕ, zero, suc, ◌+◌, ◌*◌, ◌/◌, ◌%◌, ◌^◌, ◌<◌, Bool, true, cond, ◌&&◌, List, [], ◌∷◌, ◌++◌, length, ℤ, pos, ◌+ℤ◌, ◌==◌, nat_le}
use Rattle.traces.specs.declared.range.Range.{Range}
use Rattle.traces.specs.Traces.{State, ◌▹◌}
use Rattle.traces.specs.Tables.{Instruction, assigns, senses, goes, branches, above, next_states}

-- the sum of (value - low) × 64^i over the registers, i = 0 for the first
abbrev pub packed : List Range → List ℤ → ℕ
packed [] vs = 0
packed (r ∷ rs) [] = 0
packed (r ∷ rs) (v ∷ vs) = above r.low v + 64 * packed rs vs

-- the code of a state: its label × 2^36, plus that sum
abbrev pub code : List Range → State → ℕ
code rs σ = σ.label * 2 ^ 36 + packed rs σ.values

abbrev pub codes : List Range → List State → List ℕ
codes rs [] = []
codes rs (σ ∷ π) = code rs σ ∷ codes rs π

-- the values that a sum stands for
abbrev pub unpacked : List Range → ℕ → List ℤ
unpacked [] n = []
unpacked (r ∷ rs) n = (r.low +ℤ pos (n % 64)) ∷ unpacked rs (n / 64)

-- every digit is in its range, and there are no more digits
abbrev pub in_range : List Range → ℕ → Bool
in_range [] n = n == 0
in_range (r ∷ rs) n = nat_le (n % 64) (above r.low r.high) && in_range rs (n / 64)

-- the state that a code stands for
abbrev pub state_of : List Range → ℕ → State
state_of rs x = (x / 2 ^ 36) ▹ unpacked rs (x % 2 ^ 36)

-- which codes are states, n the exit label: all labels to the exit with all values in range
abbrev pub is_state : List Range → ℕ → ℕ → Bool
is_state rs n x = nat_le (x / 2 ^ 36) n && in_range rs (x % 2 ^ 36)

-- d + 64 c and so on, n numbers
abbrev pub digits : ℕ → ℕ → ℕ → List ℕ
digits d zero c = []
digits d (suc n) c = (d + 64 * c) ∷ digits (suc d) n c

-- every start of a register below each of the sums
abbrev pub below : Range → List ℕ → List ℕ
below r [] = []
below r (c ∷ cs) = digits (above r.low r.from) (suc (above r.from r.to)) c ++ below r cs

-- the start codes: their label is 0, and the first register changes fastest
abbrev pub start_codes : List Range → List ℕ
start_codes [] = 0 ∷ []
start_codes (r ∷ rs) = below r (start_codes rs)

-- the number of starts
abbrev pub settings : List Range → ℕ
settings [] = 1
settings (r ∷ rs) = suc (above r.from r.to) * settings rs

-- the next codes of a code, in order
abbrev pub next_codes : List Range → List Instruction → ℕ → List ℕ
next_codes rs tbl x = cond (is_state rs (length tbl) x) (codes rs (next_states rs tbl (state_of rs x))) []

-- each number is above the one before
abbrev pub Rises : List ℕ → Type 0
Rises [] = Unit {0}
Rises (x ∷ []) = Unit {0}
Rises (x ∷ y ∷ ys) = (x < y) × Rises (y ∷ ys)

-- an instruction goes on to labels up to n
abbrev pub leads_to : ℕ → Instruction → Bool
leads_to n (assigns x e m) = nat_le m n
leads_to n (senses x m) = nat_le m n
leads_to n (goes m) = nat_le m n
leads_to n (branches t y m) = nat_le y n && nat_le m n

abbrev pub lead_to : ℕ → List Instruction → Bool
lead_to n [] = true
lead_to n (i ∷ is) = leads_to n i && lead_to n is

-- six registers, at most 65,536 starts, at most 63 instructions, and all of them lead to a label up to the exit
abbrev pub sound : List Range → List Instruction → Bool
sound rs tbl = length rs == 6 && (nat_le (settings rs) 65536 && (nat_le (length tbl) 63 && lead_to (length tbl) tbl))
