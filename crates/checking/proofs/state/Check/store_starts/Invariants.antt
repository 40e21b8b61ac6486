use Rattle.std.proofs.Common.{◌≡◌, drop}
use Rattle.checking.specs.Opening.{Storing}
use Rattle.checking.proofs.state.Check.store_starts.Given as goal

abbrev pub invariant-loop-place : goal.invariant-loop-place
invariant-loop-place g l =
    (l.self.places ≡ l.initial.self.places)
    × (l.initial.self.stored ≡ 0 → Storing (g.C.Cell.cell l.product.cell.now) (g.W.Watch.watch l.product.watch.now) g.W.State.Key.kind (drop l.place (g.C.Cell.cell l.product.cell.now).starts) l.initial.table l.table l.self.stored)
