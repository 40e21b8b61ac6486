use Rattle.checking.specs.Showing.{whole}
use Rattle.checking.proofs.Trails.{Handing}
use Rattle.checking.proofs.shown.hand_out.Given as goal

abbrev pub invariant-loop-left : goal.invariant-loop-left
invariant-loop-left g l = Handing (whole l.table) l.end l.place l.initial.out l.out l.left l.at
