-- All codes with their labels, or full.
use Rattle.std.proofs.Common.{◌≤◌, length, arith}
use Rattle.survey.proofs.Surveying.{surveyed, filled}
use Rattle.survey.proofs.call.survey.Goals as goal

pub returns : goal.returns
returns g c = (omega arith, surveyed (g.C.Cell.cell c.args.cell.now) _ _ _ _ c.in-Ok.ensures c.marked-labels.ensures)

pub returns-in_default : goal.returns-in_default
returns-in_default g c =
    let small : length c.args.table.now ≤ 1000000 = omega arith in
    (small, filled (g.C.Cell.cell c.args.cell.now) _ _ (c.in_default.ensures small))
