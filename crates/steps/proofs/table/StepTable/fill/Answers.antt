-- The filled table, or the refusal of the test that failed.
use Rattle.std.proofs.Common.{refl}
use Rattle.std.proofs.lemmas.Result.{err_from_is_err_and}
use Rattle.steps.proofs.Refusing.{none_many, all_proper, refused_many, refused_row, refused_arc}
use Rattle.steps.proofs.table.StepTable.fill.Goals as goal

pub returns-in_err-counted : goal.returns-in_err-counted
returns-in_err-counted c =
    let p = err_from_is_err_and c.from_residual.result c.from_residual.ensures.1 in
    rw (p.1, p.2) (refused_many c.args.rows.now c.args.arcs.now _ c.in_err-counted.ensures, refl)

pub returns-in_err-check_rows : goal.returns-in_err-check_rows
returns-in_err-check_rows c =
    let l = c.in_ok-counted.counted in
    let same = c.in_ok-counted.ensures in
    let p = err_from_is_err_and c.from_residual-in_err-check_rows.result c.from_residual-in_err-check_rows.ensures.1 in
    rw (p.1, p.2, ← same.0, ← same.1) (refused_row l.rows.now l.arcs.now _ l.few_rows l.few_arcs c.in_err-check_rows.ensures, refl)

pub returns-in_err-file : goal.returns-in_err-file
returns-in_err-file c =
    let l = c.in_ok-counted.counted in
    let same = c.in_ok-counted.ensures in
    let p = err_from_is_err_and c.from_residual-in_err-file.result c.from_residual-in_err-file.ensures.1 in
    rw (p.1, p.2, ← same.0, ← same.1) (refused_arc l.rows.now l.arcs.now _ l.few_rows l.few_arcs c.in_ok-check_rows.ensures c.in_err-file.ensures, refl)

pub returns : goal.returns
returns c =
    let l = c.in_ok-counted.counted in
    let same = c.in_ok-counted.ensures in
    let rows = c.in_ok-check_rows.ensures in
    let arcs = c.in_ok-file.ensures in
    rw (← same.0, ← same.1) ((none_many l.rows.now l.arcs.now l.few_rows l.few_arcs, all_proper l.rows.now l.arcs.now rows arcs.0), (refl, refl))
