-- The next codes before this place are met.
use Rattle.std.proofs.Common.{take}
use Rattle.store.specs.Entries.{entries}
use Rattle.survey.specs.Held.{Held}
use Rattle.survey.specs.Order.{gather}
use Rattle.survey.proofs.walk.keep_nexts.Given as goal

abbrev pub invariant-loop-place : goal.invariant-loop-place
invariant-loop-place g l = Held l.initial.table l.table l.total (gather (λ _. l.from) (take l.place ((g.C.Cell.cell l.cell).nexts l.code)) (entries l.initial.table l.initial.total))
