-- What a job file holds, and which files are none. Assumes nothing.
use Rattle.std.specs.Prelude.{◌≡◌, ℕ, ◌+◌, ◌-◌, ◌*◌, ◌≤◌, Bool, true, false, cond, not, ◌&&◌, ◌||◌, List, length, take, drop, Some, None, Ok, Err, Option, Result, ◌==◌, nat_lt, slice_index}
use Rattle.model.specs.Refusals.{reply}
use Rattle.model.specs.declared.refusal.Refusal.{Refusal}
use Rattle.std.specs.Borrow.{Bor}
use Rattle.job.specs.declared.parts.Texts.{Texts}

-- the number in the four bytes from place i on, the low byte first
abbrev pub little : List ℕ → ℕ → ℕ
little bs i = slice_index bs i + 256 * (slice_index bs (i + 1) + 256 * (slice_index bs (i + 2) + 256 * slice_index bs (i + 3)))

-- the trailer's first number: how far the sheet's first byte lies before the file's end
abbrev pub distance : List ℕ → ℕ
distance bs = little bs (length bs - 12)

-- the trailer's second number, which should be the file's length
abbrev pub told_length : List ℕ → ℕ
told_length bs = little bs (length bs - 8)

-- the last four bytes are the letters LSTJ
abbrev pub lettered : List ℕ → Bool
lettered bs =
    (slice_index bs (length bs - 4) == 76) && (slice_index bs (length bs - 3) == 83 && (slice_index bs (length bs - 2) == 84 && slice_index bs (length bs - 1) == 74))

-- the program is the file up to the sheet's first byte
abbrev pub program_part : List ℕ → List ℕ
program_part bs = take (length bs - distance bs) bs

-- the sheet lies between there and the last twelve bytes
abbrev pub sheet_part : List ℕ → List ℕ
sheet_part bs = take (distance bs - 12) (drop (length bs - distance bs) bs)

-- SIZE: under 12 or over 16,384 bytes
abbrev pub missized : List ℕ → Bool
missized bs = nat_lt (length bs) 12 || nat_lt 16384 (length bs)

-- TRAILER: wrong letters, a wrong length, a distance under 12 or over the length
abbrev pub mistrailed : List ℕ → Bool
mistrailed bs =
    not (lettered bs) || (not (told_length bs == length bs) || (nat_lt (distance bs) 12 || nat_lt (length bs) (distance bs)))

-- the layer, cause and place of a file's fault, the smallest cause first, and of two long texts the program
abbrev pub fault : List ℕ → Option (ℕ × ℕ × ℕ)
fault bs =
    cond (missized bs) (Some (1, 1, length bs))
    (cond (mistrailed bs) (Some (1, 2, length bs - 12))
    (cond (nat_lt 4096 (length (program_part bs))) (Some (2, 3, 4096))
    (cond (nat_lt 4096 (length (sheet_part bs))) (Some (3, 3, (length bs - distance bs) + 4096))
    None)))

-- a file without fault is split into its two parts, any other is refused with its fault
abbrev pub Splits : List ℕ → Result Texts Refusal → Type 0
Splits bs (Ok t) = (fault bs ≡ None) × (t.program.now ≡ program_part bs) × (t.sheet.now ≡ sheet_part bs)
Splits bs (Err e) = fault bs ≡ Some (reply e)

-- what the trailer of a file of at least 12 bytes tells: the bytes before it, and the distance
abbrev pub Trailed : List ℕ → Option (Bor (List ℕ) × ℕ) → Type 0
Trailed bs None = 12 ≤ length bs → mistrailed bs ≡ true
Trailed bs (Some t) = (mistrailed bs ≡ false) × (12 ≤ t.1) × (t.1 ≤ length bs) × (t.1 ≡ distance bs) × (t.0.now ≡ take (length bs - 12) bs)
