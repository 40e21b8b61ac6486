use Rattle.std.proofs.Common.{length}
use Rattle.sheet.proofs.Rows.{Repeating}
use Rattle.sheet.proofs.descent.repeats.Given as goal

abbrev pub invariant-loop-node : goal.invariant-loop-node
invariant-loop-node l = Repeating l.initial.draft l.initial.read.index l.initial.read.rest.now l.draft l.read.index l.read.rest.now

abbrev pub decreases-loop-node : goal.decreases-loop-node
decreases-loop-node l = length l.read.rest.now
