use Rattle.std.proofs.Common.{◌≡◌, ◌-◌}
use Rattle.checking.specs.Showing.{back_at, whole}
use Rattle.checking.proofs.shown.back.Given as goal

abbrev pub invariant-loop-step : goal.invariant-loop-step
invariant-loop-step g l = back_at (whole l.table) l.steps l.place ≡ back_at (whole l.table) (l.steps - l._step) l.at
