-- The codes before this place are gone through.
use Rattle.std.proofs.Common.{◌-◌, ◌≤◌, length}
use Rattle.survey.specs.Held.{Held}
use Rattle.survey.specs.Order.{walked}
use Rattle.survey.proofs.walk.walk.Given as goal

abbrev pub invariant-loop-place : goal.invariant-loop-place
invariant-loop-place g l = (l.place ≤ l.stored) × Held l.initial.table l.table l.stored (walked (g.C.Cell.cell l.cell) l.place)

abbrev pub decreases-loop-place : goal.decreases-loop-place
decreases-loop-place g l = length l.initial.table - l.place
