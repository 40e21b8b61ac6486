use Rattle.std.proofs.Common.{◌≡◌, ◌+◌, ◌*◌, ◌≤◌, ◌++◌, length, take}
use Rattle.job.specs.Lines.{listed}
use Rattle.job.proofs.line.Line.push_values.Given as goal

abbrev pub invariant-loop-value : goal.invariant-loop-value
invariant-loop-value l =
    record {
      values : l.self ≡ l.initial.self ++ listed (take l.value-index l.values);
      bound : length l.self ≤ length l.initial.self + 7 * l.value-index;
    }
