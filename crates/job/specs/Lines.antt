-- The lines of a report, byte by byte, and what writing one leaves in the caller's buffer. Assumes nothing.
use Rattle.std.specs.Prelude.{◌≡◌, ℕ, ◌<◌, ◌≤◌, List, [], ◌∷◌, ◌++◌, length, drop, ℤ, Ok, Err, codes, decimal, Result, flat_map}
use Rattle.std.specs.Fmt.{signed_decimal}
use Rattle.model.specs.Refusals.{reply, layer_number, cause_number}
use Rattle.model.specs.declared.answer.Answer.{Answer}
use Rattle.model.specs.declared.answer.Verdict.{Verdict}
use Rattle.model.specs.declared.answer.Verdict.TheVariants.{Working, Pass, Fail, Full}
use Rattle.model.specs.declared.moment.Reading.{Reading}
use Rattle.model.specs.declared.refusal.Refusal.{Refusal}

-- a verdict's word
abbrev pub word : Verdict → List ℕ
word Working = codes "working"
word Pass = codes "pass"
word Fail = codes "fail"
word Full = codes "full"

-- a space and a number
abbrev pub spaced : ℕ → List ℕ
spaced n = 32 ∷ decimal n

-- each number with a space before it, and with `-` before a negative one
abbrev pub listed : List ℤ → List ℕ
listed vs = flat_map (λ v. 32 ∷ signed_decimal v) vs

-- `refused`, layer, cause and place, and a line feed
abbrev pub refused_line : Refusal → List ℕ
refused_line e = codes "refused" ++ (spaced (layer_number e.layer) ++ (spaced (cause_number e.cause) ++ (spaced e.place ++ (10 ∷ []))))

-- the verdict, the count, the stored configurations, and a line feed
abbrev pub verdict_line : Answer → List ℕ
verdict_line a = word a.verdict ++ (spaced a.count ++ (spaced a.stored ++ (10 ∷ [])))

-- a state's label and its six values, and a line feed
abbrev pub state_line : Reading → List ℕ
state_line s = decimal s.label ++ (listed s.values ++ (10 ∷ []))

-- the line at the front of a buffer of at least 64 bytes, its length told, the bytes after it as they were; a
-- shorter buffer is refused with LINE and stays as it was
abbrev pub Wrote : List ℕ → List ℕ → List ℕ → Result ℕ Refusal → Type 0
Wrote line old new (Ok n) = (64 ≤ length old) × (n ≡ length line) × (new ≡ line ++ drop (length line) old)
Wrote line old new (Err e) = (length old < 64) × (new ≡ old) × (reply e ≡ (6, 18, length old))
