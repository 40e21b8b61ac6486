use Rattle.std.proofs.Common.{ℕ, ◌+◌}
use Rattle.checking.specs.Standing.{Adds, Stands}
use Rattle.checking.proofs.state.Check.spend.Given as goal

abbrev pub invariant-loop-spent : goal.invariant-loop-spent
invariant-loop-spent g l =
    Adds l.initial.self l.self l.initial.table l.table
    × ((u : ℕ) → Stands (g.C.Cell.cell l.product.cell.now) (g.W.Watch.watch l.product.watch.now) g.W.State.Key.kind u l.initial.self l.initial.table → Stands (g.C.Cell.cell l.product.cell.now) (g.W.Watch.watch l.product.watch.now) g.W.State.Key.kind (u + l._spent) l.self l.table)
