-- The heads before this one are cleared.
use Rattle.std.proofs.Common.{◌≡◌}
use Rattle.store.specs.Steps.{cleared}
use Rattle.store.proofs.chain.clear.Given as goal

abbrev pub invariant-loop-record : goal.invariant-loop-record
invariant-loop-record g l = l.heads ≡ cleared l.initial.heads l.record-index
