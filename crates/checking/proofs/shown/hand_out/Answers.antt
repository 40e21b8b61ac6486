use Rattle.std.proofs.Common.{ℕ, ◌-◌, List, set, sym, ap, ◌∙◌, subst, arith}
use Rattle.levels.specs.Units.{last_at}
use Rattle.checking.specs.Showing.{whole}
use Rattle.checking.proofs.Trails.{Handing, handing_more}
use Rattle.checking.proofs.shown.hand_out.Goals as goal

pub loop-left-preserved : goal.loop-left-preserved
loop-left-preserved g c =
    let place = c.loop-left.left - 1 in
    subst (λ (l : List ℕ). Handing (whole c.args.table.now) c.args.end c.args.place c.args.out.now l place c.from-at.result) (sym (c.put.ensures ∙ ap (set c.loop-left.out place) c.last.ensures))
    (subst (λ (a : ℕ). Handing (whole c.args.table.now) c.args.end c.args.place c.args.out.now (set c.loop-left.out place (last_at (whole c.args.table.now) c.loop-left.at)) place a) (sym c.from-at.ensures)
    (handing_more _ _ _ _ c.loop-left.out c.loop-left.left c.loop-left.at (omega arith) (omega arith) c.loop-left.invariant))
