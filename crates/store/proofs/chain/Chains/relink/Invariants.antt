-- The records before this one are linked.
use Rattle.std.proofs.Common.{◌≡◌, ◌^◌}
use Rattle.store.specs.Steps.{all_linked}
use Rattle.store.proofs.chain.Chains.relink.Given as goal

abbrev pub invariant-loop-place : goal.invariant-loop-place
invariant-loop-place g l = l.table ≡ all_linked g.K.Key.kind (2 ^ l.self.bits) l.initial.table l.place
