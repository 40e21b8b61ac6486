use Rattle.std.proofs.Common.{◌+◌, ◌*◌, length}
use Rattle.text.proofs.Conditions.{Turned}
use Rattle.text.proofs.boolean.+condition_linked_one_test.Given as goal

abbrev pub decreases-condition : goal.decreases-condition
decreases-condition l = 3 * l.limits.left + 2

abbrev pub decreases-linked : goal.decreases-linked
decreases-linked l = 3 * l.limits.left + 1

abbrev pub decreases-one_test : goal.decreases-one_test
decreases-one_test l = 3 * l.limits.left

abbrev pub invariant-condition-loop-link : goal.invariant-condition-loop-link
invariant-condition-loop-link l = Turned l.limits.scope l.limits.left l.initial.room l.initial.read.index l.initial.read.rest.now l.room l.read.index l.read.rest.now

abbrev pub decreases-condition-loop-link : goal.decreases-condition-loop-link
decreases-condition-loop-link l = length l.read.rest.now
