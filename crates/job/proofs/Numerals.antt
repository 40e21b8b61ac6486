-- How a number is written digit by digit, and how long it gets. Assumes nothing.
use Rattle.std.proofs.Common.{◌≡◌, ℕ, ◌+◌, ◌/◌, ◌%◌, ◌^◌, ◌<◌, ◌≤◌, List, [], ◌∷◌, ◌++◌, length, decimal, ap, ◌∙◌, append_assoc, arith, lit<, length-append}
use Rattle.std.proofs.lemmas.Fmt.{decimal_digit, decimal_step, length-decimal-le}

-- a number of 64 bits has at most 20 digits
pub at_most_20 : (n : ℕ) → n < 2 ^ 64 → length (decimal n) ≤ 20
at_most_20 n h = length-decimal-le 20 n (lit< tt) (omega arith) h

pub at_most_3 : (n : ℕ) → n < 1000 → length (decimal n) ≤ 3
at_most_3 n h = length-decimal-le 3 n (lit< tt) h (omega arith)

pub at_most_5 : (n : ℕ) → n ≤ 32768 → length (decimal n) ≤ 5
at_most_5 n h = length-decimal-le 5 n (lit< tt) (omega arith) (omega arith)

pub length_step : (n : ℕ) → 10 ≤ n → n < 2 ^ 64 → length (decimal n) ≡ length (decimal (n / 10)) + 1
length_step n h f = ap length (decimal_step n h f) ∙ length-append (decimal (n / 10)) ((48 + n % 10) ∷ [])

-- a number's last digit behind the ones before it, which a number below 10 has not
pub last_digit : (old made : List ℕ) (n : ℕ) → 10 ≤ n → n < 2 ^ 64 → made ≡ old ++ decimal (n / 10) → made ++ ((48 + n % 10) ∷ []) ≡ old ++ decimal n
last_digit old made n h f e = rw (e, append_assoc, decimal_step n h f)

pub only_digit : (old made : List ℕ) (n : ℕ) → n < 10 → made ≡ old → made ++ ((48 + n % 10) ∷ []) ≡ old ++ decimal n
only_digit old made n h e = rw (e, decimal_digit n h) (grind arith)

-- a number's digits have room where the number before its last digit and that digit do
pub digit_room : (old made : List ℕ) (d n room : ℕ) → length old + length (decimal n) ≤ room → made ++ (d ∷ []) ≡ old ++ decimal n → length made + 1 ≤ room
digit_room old made d n room h e = omega (arith, simp length-append at (ap length e))
