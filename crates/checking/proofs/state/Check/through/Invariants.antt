use Rattle.std.proofs.Common.{drop}
use Rattle.checking.specs.Standing.{Adds, Goes, Countable}
use Rattle.checking.proofs.state.Check.through.Given as goal

abbrev pub invariant-loop-place : goal.invariant-loop-place
invariant-loop-place g l =
    let c = g.C.Cell.cell l.product.cell.now in
    Adds l.initial.self l.self l.initial.table l.table
    × Goes c (g.W.Watch.watch l.product.watch.now) g.W.State.Key.kind l.key (c.nexts l.key.last) (drop l.place (c.nexts l.key.last)) l.initial.self l.self l.initial.table l.table
    × (Countable l.initial.self.phase → Countable l.self.phase)
