use Rattle.std.proofs.Common.{length}
use Rattle.labels.proofs.Labelled.{Listed}
use Rattle.labels.proofs.sets.more_labels.Given as goal

abbrev pub invariant-loop-behind : goal.invariant-loop-behind
invariant-loop-behind l = Listed l.initial.set l.initial.left l.set l.left

abbrev pub decreases-loop-behind : goal.decreases-loop-behind
decreases-loop-behind l = length l.left
