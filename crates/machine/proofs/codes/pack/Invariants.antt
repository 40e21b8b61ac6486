use Rattle.std.proofs.Common.{◌≡◌, ◌+◌, ◌*◌, ◌^◌, length, drop}
use Rattle.traces.specs.Codes.{packed}
use Rattle.machine.proofs.codes.pack.Given as goal

abbrev pub invariant-loop-range : goal.invariant-loop-range
invariant-loop-range l = (l.weight ≡ 64 ^ length l.yielded) × (l.sum + l.weight * packed (drop (length l.yielded) l.ranges) (drop (length l.yielded) l.values) ≡ packed l.ranges l.values)
