use Rattle.std.proofs.Common.{ℕ, min, length, subst, arith}
use Rattle.checking.specs.Replay.{Replayed, since}
use Rattle.checking.proofs.Answering.{begin_so}
use Rattle.checking.proofs.replaying.replay.Goals as goal

pub returns : goal.returns
returns g c =
    let cell = g.C.Cell.cell c.args.cell.now in
    let watch = g.W.Watch.watch c.args.watch.now in
    let places = min c.args.places (length c.args.table.now) in
    let begun = begin_so cell watch g.W.State.Key.kind c.args.table.now c.open.new.table c.min-places.result places c.min-places.ensures (omega arith) c.open.auto.table (c.in_ok-check.check, c.in_ok-check.answer) c.in_ok-check.ensures in (
      begun.0,
      begun.1,
      subst (λ (n : ℕ). Replayed cell watch g.W.State.Key.kind n (since places 0) c.args.calls.now c.go_on.new.replies (length c.args.calls.now)) begun.3 (c.go_on.ensures.pays (since places 0) begun.2),
      c.go_on.ensures.rest,
    )
