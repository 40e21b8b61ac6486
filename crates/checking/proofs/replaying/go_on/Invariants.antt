use Rattle.std.proofs.Common.{◌≡◌, ◌≤◌, length, take, drop}
use Rattle.checking.specs.Replay.{History, Keeps, Replayed, history}
use Rattle.checking.proofs.replaying.go_on.Given as goal

abbrev pub invariant-loop-place : goal.invariant-loop-place
invariant-loop-place g l =
    let c = g.C.Cell.cell l.product.cell.now in
    let w = g.W.Watch.watch l.product.watch.now in
    (l.place ≤ length l.calls)
    × (drop l.place l.replies ≡ drop l.place l.initial.replies)
    × ((h : History) → Keeps c w g.W.State.Key.kind h l.initial.check l.initial.table
    → Keeps c w g.W.State.Key.kind (history (length l.initial.table) h (take l.place l.calls)) l.check l.table
    × Replayed c w g.W.State.Key.kind (length l.initial.table) h l.calls l.replies l.place)
