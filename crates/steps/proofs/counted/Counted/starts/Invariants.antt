-- The start rows before this one are listed.
use Rattle.std.proofs.Common.{take}
use Rattle.steps.specs.Index.{Begun}
use Rattle.steps.proofs.counted.Counted.starts.Given as goal

abbrev pub invariant-loop-number : goal.invariant-loop-number
invariant-loop-number l = Begun (take l.number l.self.rows.now) l.starts
