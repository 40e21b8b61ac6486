use Rattle.std.proofs.Common.{◌+◌, ◌*◌, length}
use Rattle.sheet.proofs.Rows.{Rowing, Choosing}
use Rattle.sheet.proofs.descent.+choice_item_next_item_next_row_row_unit.Given as goal

abbrev pub decreases-unit : goal.decreases-unit
decreases-unit l = 6 * l.limits.left

abbrev pub decreases-item : goal.decreases-item
decreases-item l = 6 * l.limits.left + 1

abbrev pub decreases-next_item : goal.decreases-next_item
decreases-next_item l = 6 * l.limits.left + 2

abbrev pub decreases-row : goal.decreases-row
decreases-row l = 6 * l.limits.left + 3

abbrev pub decreases-next_row : goal.decreases-next_row
decreases-next_row l = 6 * l.limits.left + 4

abbrev pub decreases-choice : goal.decreases-choice
decreases-choice l = 6 * l.limits.left + 5

abbrev pub invariant-row-loop-limits : goal.invariant-row-loop-limits
invariant-row-loop-limits l = Rowing l.limits.left l.initial.draft l.initial.read.index l.initial.read.rest.now l.draft l.read.index l.read.rest.now

abbrev pub decreases-row-loop-limits : goal.decreases-row-loop-limits
decreases-row-loop-limits l = length l.read.rest.now

abbrev pub invariant-choice-loop-word : goal.invariant-choice-loop-word
invariant-choice-loop-word l = Choosing l.limits.left l.initial.draft l.initial.read.index l.initial.read.rest.now l.draft l.read.index l.read.rest.now

abbrev pub decreases-choice-loop-word : goal.decreases-choice-loop-word
decreases-choice-loop-word l = length l.read.rest.now
