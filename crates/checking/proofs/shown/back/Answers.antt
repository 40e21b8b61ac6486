use Rattle.std.proofs.Common.{◌+◌, ◌-◌, sym, ap, ◌∙◌}
use Rattle.checking.specs.Showing.{back_at, whole}
use Rattle.checking.proofs.Trails.{back_more}
use Rattle.checking.proofs.shown.back.Goals as goal

pub loop-step-preserved : goal.loop-step-preserved
loop-step-preserved g c =
    c.loop-step.invariant
    ∙ back_more (whole c.args.table.now) c.args.steps c.loop-step._step c.loop-step.at c.loop-step-test.true
    ∙ ap (back_at (whole c.args.table.now) (c.args.steps - (c.loop-step._step + 1))) (sym c.from-at.ensures)
