-- One next code more is met, or finds no place.
use Rattle.std.proofs.Common.{sym, arith}
use Rattle.std.proofs.lemmas.Result.{err_from_is_err_and}
use Rattle.store.proofs.Laws.{at_none}
use Rattle.survey.proofs.Holding.{held_itself, visited, visited_none, visited_all}
use Rattle.survey.proofs.walk.keep_nexts.Goals as goal
use Rattle.survey.proofs.walk.keep_nexts.Goals.{in-Some+in_ok-total, in_default}

pub returns-in_err-total : goal.returns-in_err-total
returns-in_err-total g c =
    let p = err_from_is_err_and c.from_residual.result c.from_residual.ensures.1 in
    rw p.1 (visited_none (g.C.Cell.cell c.args.cell.now) _ _ c.args.from c.requires.from c.requires.indexed.within _ _ c.loop-place.place _ _ _ c.in-Some.ensures c.loop-place.invariant c.in_err-total.ensures)

pub loop-place-init : goal.loop-place-init
loop-place-init g c = held_itself _ _ c.requires.indexed (omega arith)

pub loop-place-preserved : goal.loop-place-preserved
loop-place-preserved g c =
    elim c.match-next_at.branch [
      | in-Some+in_ok-total w ↦
          rw (w.table-is, w.total-is)
          (visited (g.C.Cell.cell c.args.cell.now) _ _ c.args.from c.requires.from c.requires.indexed.within _ _ c.loop-place.place _ _ _ w.in-Some.ensures c.loop-place.invariant w.in_ok-total.ensures)
      | in_default w ↦ absurd (omega (arith, at_none _ c.loop-place.place (sym w.in_default.ensures), c.next_count-place-end.ensures))
    ]

pub returns : goal.returns
returns g c =
    visited_all (g.C.Cell.cell c.args.cell.now) _ _ c.args.from c.requires.from c.requires.indexed.within _ _ c.loop-place.place
    (omega (arith, c.next_count-place-end.ensures)) c.loop-place.invariant
