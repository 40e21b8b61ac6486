-- Which ranges four numbers make. Assumes nothing.
use Rattle.std.specs.Prelude.{◌≡◌, false, ℤ, Some, None, Option}
use Rattle.traces.specs.declared.range.Range.{Range}
use Rattle.traces.specs.Proper.{proper}

-- proper numbers make the range that has them, others none
abbrev pub Made : ℤ → ℤ → ℤ → ℤ → Option Range → Type 0
Made low high from to None = proper low high from to ≡ false
Made low high from to (Some r) = (r.low ≡ low) × (r.high ≡ high) × (r.from ≡ from) × (r.to ≡ to)
