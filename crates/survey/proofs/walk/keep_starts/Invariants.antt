-- The starts before this place are met.
use Rattle.std.proofs.Common.{[], length, take}
use Rattle.survey.specs.Held.{Held}
use Rattle.survey.specs.Order.{gather}
use Rattle.survey.proofs.walk.keep_starts.Given as goal

abbrev pub invariant-loop-place : goal.invariant-loop-place
invariant-loop-place g l = Held l.initial.table l.table l.stored (gather length (take l.place (g.C.Cell.cell l.cell).starts) [])
