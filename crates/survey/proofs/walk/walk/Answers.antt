-- One code more is gone through.
use Rattle.std.proofs.Common.{arith}
use Rattle.std.proofs.lemmas.Result.{err_from_is_err_and}
use Rattle.survey.proofs.Turning.{starts_over, walk_more, walk_over, walk_end}
use Rattle.survey.proofs.Holding.{packed_as}
use Rattle.survey.proofs.walk.walk.Goals as goal

pub returns-in_err-starts : goal.returns-in_err-starts
returns-in_err-starts g c =
    let p = err_from_is_err_and c.from_residual.result c.from_residual.ensures.1 in
    rw p.1 (λ small. starts_over (g.C.Cell.cell c.args.cell.now) _ _ (c.in_err-starts.ensures small))

pub returns-in_err-stored : goal.returns-in_err-stored
returns-in_err-stored g c =
    let m = g.C.Cell.cell c.args.cell.now in
    let p = err_from_is_err_and c.from_residual-in_err-stored.result c.from_residual-in_err-stored.ensures.1 in
    rw p.1 (λ small. packed_as m _ _ _ c.in_ok-starts.ensures.long (walk_over m _ _ _ _ _ c.loop-place-test.true c.loop-place.invariant.1 (c.in_err-stored.ensures (omega arith))))

pub overflow_add-place : goal.overflow_add-place
overflow_add-place g c = omega (arith, c.loop-place.invariant.1.fits)

pub loop-place-preserved : goal.loop-place-preserved
loop-place-preserved g c = walk_more (g.C.Cell.cell c.args.cell.now) _ _ _ _ _ c.loop-place-test.true c.loop-place.invariant.1 _ c.in_ok-stored.ensures

pub returns : goal.returns
returns g c = walk_end (g.C.Cell.cell c.args.cell.now) _ _ _ _ _ _ c.loop-place.invariant.0 c.loop-place-test.false c.in_ok-starts.ensures c.loop-place.invariant.1
