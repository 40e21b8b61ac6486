use Rattle.std.proofs.Common.{◌≡◌, ◌++◌, length, take, drop}
use Rattle.traces.specs.Codes.{in_range, unpacked}
use Rattle.machine.proofs.codes.unpack.Given as goal

abbrev pub invariant-loop-place : goal.invariant-loop-place
invariant-loop-place l = (length l.values ≡ 6) × (in_range l.ranges l.sum ≡ in_range (drop l.place l.ranges) l.rest)
    × (unpacked l.ranges l.sum ≡ take l.place l.values ++ unpacked (drop l.place l.ranges) l.rest)
