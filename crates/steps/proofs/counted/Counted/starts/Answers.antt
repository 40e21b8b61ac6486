-- One row more is listed, or is no start.
use Rattle.steps.proofs.Starting.{begun_start, begun_other}
use Rattle.steps.proofs.counted.Counted.starts.Goals as goal
use Rattle.steps.proofs.counted.Counted.starts.Goals.{then-row, else-row}

pub loop-number-preserved : goal.loop-number-preserved
loop-number-preserved c =
    let rs = c.args.self.now.rows.now in
    let i = c.loop-number.number in
    elim c.if-row.branch [
      | then-row w ↦ rw w.starts-is (begun_start rs i c.loop-number.starts _ c.loop-number-test.true c.loop-number.invariant w.push.result _ w.if-row.true c.args.self.now.few_rows w.push.ensures)
      | else-row w ↦ rw w.starts-is (begun_other rs i c.loop-number.starts _ c.loop-number-test.true c.loop-number.invariant w.if-row.false)
    ]
