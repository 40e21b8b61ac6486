use Rattle.std.proofs.Common.{length}
use Rattle.values.proofs.evaluate.+arith_value.Given as goal

abbrev pub decreases-arith_value : goal.decreases-arith_value
decreases-arith_value l = length l.nodes.now
