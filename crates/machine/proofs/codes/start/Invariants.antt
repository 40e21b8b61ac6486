use Rattle.std.proofs.Common.{◌≡◌, ℕ, ◌+◌, ◌*◌, ◌^◌, ◌<◌, drop, Some}
use Rattle.model.specs.Cells.{at}
use Rattle.traces.specs.Codes.{settings, start_codes}
use Rattle.machine.proofs.codes.start.Given as goal

abbrev pub invariant-loop-range : goal.invariant-loop-range
invariant-loop-range l = (l.weight ≡ 64 ^ l.range-index) × (l.sum < l.weight) × (l.rest < settings (drop l.range-index l.ranges))
    × ((c : ℕ) → at (start_codes (drop l.range-index l.ranges)) l.rest ≡ Some c → at (start_codes l.ranges) l.place ≡ Some (l.sum + l.weight * c))
