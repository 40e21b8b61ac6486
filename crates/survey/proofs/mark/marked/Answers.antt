-- The label of one code more is marked.
use Rattle.std.proofs.Common.{map, subst}
use Rattle.std.proofs.lemmas.List.{take_all}
use Rattle.store.specs.Entries.{entry, keys}
use Rattle.survey.specs.Held.{Marked}
use Rattle.survey.proofs.Marking.{marked_none, marked_some, marked_rest}
use Rattle.survey.proofs.mark.marked.Goals as goal
use Rattle.survey.proofs.mark.marked.Goals.{in-Some, in_default}

pub loop-record-init : goal.loop-record-init
loop-record-init g c = marked_none _

pub loop-record-preserved : goal.loop-record-preserved
loop-record-preserved g c =
    elim c.match-read.branch [
      | in-Some w ↦ marked_some _ _ c.loop-record.record-index c.loop-record-test.true _ c.loop-record.invariant _ _ w.in-Some.ensures w.labels-is
      | in_default w ↦ marked_rest _ _ c.loop-record.record-index c.loop-record-test.true _ c.loop-record.invariant _ w.in_default.ensures w.labels-is
    ]

pub returns : goal.returns
returns g c =
    let all = take_all c.loop-record.record-index c.args.stored.now c.loop-record-test.false in
    subst (λ xs. Marked (g.C.Cell.cell c.args.cell.now) (keys (map entry xs)) c.loop-record.labels) all c.loop-record.invariant
