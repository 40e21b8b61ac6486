use Rattle.std.proofs.Common.{◌+◌, drop, sym, ◌∙◌, subst, arith}
use Rattle.store.proofs.Walks.{place_in}
use Rattle.checking.specs.Standing.{Adds, Goes, Countable, phase_of}
use Rattle.checking.proofs.Turns.{adds_trans, met_adds, at_none, goes_more}
use Rattle.checking.proofs.state.Check.through.Goals as goal
use Rattle.checking.proofs.state.Check.through.Goals.{in-Some, in_default}

pub loop-place-preserved : goal.loop-place-preserved
loop-place-preserved g c =
    let cell = g.C.Cell.cell c.args.product.now.cell.now in
    let watch = g.W.Watch.watch c.args.product.now.watch.now in
    let all = cell.nexts c.args.key.now.last in
    elim c.match-next_at.branch [
      | in-Some w ↦
          let there = sym c.next_at.ensures ∙ w.in-Some.is in
          subst (λ k. Adds c.args.self.now k c.args.table.now c.match-next_at.table × Goes cell watch g.W.State.Key.kind c.args.key.now all (drop (c.loop-place.place + 1) all) c.args.self.now k c.args.table.now c.match-next_at.table × (Countable c.args.self.now.phase → Countable k.phase)) (sym w.self-is)
          (subst (λ t. Adds c.args.self.now w.meet.new.self c.args.table.now t × Goes cell watch g.W.State.Key.kind c.args.key.now all (drop (c.loop-place.place + 1) all) c.args.self.now w.meet.new.self c.args.table.now t × (Countable c.args.self.now.phase → Countable w.meet.new.self.phase)) (sym w.table-is) (
            adds_trans c.loop-place.invariant.0 (met_adds g.W.State.Key.kind _ _ _ _ _ _ (phase_of c.loop-place.self.phase) (phase_of w.meet.new.self.phase) w.meet.ensures.places w.meet.ensures.met),
            goes_more cell watch g.W.State.Key.kind c.args.key.now all c.loop-place.place w.in-Some.code w.onward-turned.result c.loop-place.auto.table there
                (λ st. w.onward-turned.ensures (cell.nexts_are_states _ _ (place_in _ all c.loop-place.place there)) (c.reading-start.ensures st))
                w.meet.ensures.met c.loop-place.invariant.1,
            λ h. w.meet.ensures.counts (c.loop-place.invariant.2 h),
          ))
      | in_default w ↦ absurd (omega (arith, at_none all c.loop-place.place (sym c.next_at.ensures ∙ w.in_default.is), c.next_count-place-end.ensures))
    ]
