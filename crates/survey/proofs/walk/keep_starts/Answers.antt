-- One start more is met, or finds no place.
use Rattle.std.proofs.Common.{[], length, sym, arith}
use Rattle.std.proofs.lemmas.Result.{err_from_is_err_and}
use Rattle.store.proofs.Laws.{at_none}
use Rattle.survey.proofs.Holding.{started, started_none, gathered_all}
use Rattle.survey.proofs.walk.keep_starts.Goals as goal
use Rattle.survey.proofs.walk.keep_starts.Goals.{in-Some+in_ok-stored, in_default}

pub returns-in_err-stored : goal.returns-in_err-stored
returns-in_err-stored g c =
    let p = err_from_is_err_and c.from_residual.result c.from_residual.ensures.1 in
    rw p.1 (started_none _ c.loop-place.place _ c.in-Some.ensures _ _ _ _ c.loop-place.invariant _ c.in_err-stored.ensures)

pub loop-place-preserved : goal.loop-place-preserved
loop-place-preserved g c =
    elim c.match-start_at.branch [
      | in-Some+in_ok-stored w ↦
          rw (w.table-is, w.stored-is) (started _ c.loop-place.place _ w.in-Some.ensures _ _ _ _ c.loop-place.invariant _ w.in_ok-stored.ensures)
      | in_default w ↦ absurd (omega (arith, at_none _ c.loop-place.place (sym w.in_default.ensures), c.start_count-place-end.ensures))
    ]

pub returns : goal.returns
returns g c = gathered_all length _ [] c.loop-place.place _ _ _ (omega (arith, c.start_count-place-end.ensures)) c.loop-place.invariant
