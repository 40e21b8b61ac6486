-- When a table is turned away. Assumes nothing.
use Rattle.std.specs.Prelude.{◌≡◌, ℕ, Ok, Err, Result, ◌≢◌}
use Rattle.model.specs.Refusals.{reply}
use Rattle.model.specs.declared.refusal.Refusal.{Refusal}

-- MISFIT exactly where the length is not that at opening
abbrev pub Fits : ℕ → ℕ → Result (Unit {0}) Refusal → Type 0
Fits places length (Ok u) = places ≡ length
Fits places length (Err e) = (places ≢ length) × (reply e ≡ (6, 16, length))
