-- The labels of the codes before this place are marked.
use Rattle.store.specs.Entries.{entries, keys}
use Rattle.survey.specs.Held.{Marked}
use Rattle.survey.proofs.mark.marked.Given as goal

abbrev pub invariant-loop-record : goal.invariant-loop-record
invariant-loop-record g l = Marked (g.C.Cell.cell l.cell) (keys (entries l.stored l.record-index)) l.labels
