-- No stored place at or above the link has the key, and links fall.
use Rattle.std.proofs.Common.{◌≤◌}
use Rattle.store.proofs.Walks.{Walks}
use Rattle.store.proofs.lookup.find.Given as goal

abbrev pub invariant-loop-place : goal.invariant-loop-place
invariant-loop-place g l = (l.link ≤ l.stored) × Walks g.K.Key.kind l.table l.stored l.key l.link

abbrev pub decreases-loop-place : goal.decreases-loop-place
decreases-loop-place g l = l.link
