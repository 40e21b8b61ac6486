use Rattle.std.proofs.Common.{◌+◌, ◌*◌, length}
use Rattle.text.proofs.Parts.{Turned}
use Rattle.text.proofs.arith.+joined_operand_sum.Given as goal

abbrev pub decreases-joined : goal.decreases-joined
decreases-joined l = 3 * l.limits.left + 1

abbrev pub decreases-operand : goal.decreases-operand
decreases-operand l = 3 * l.limits.left

abbrev pub decreases-sum : goal.decreases-sum
decreases-sum l = 3 * l.limits.left + 2

abbrev pub invariant-sum-loop-join : goal.invariant-sum-loop-join
invariant-sum-loop-join l = Turned l.limits.scope l.limits.left l.initial.room l.initial.read.index l.initial.read.rest.now l.room l.read.index l.read.rest.now

abbrev pub decreases-sum-loop-join : goal.decreases-sum-loop-join
decreases-sum-loop-join l = length l.read.rest.now
