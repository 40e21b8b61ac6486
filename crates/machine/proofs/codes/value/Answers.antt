use Rattle.std.proofs.Common.{arith}
use Rattle.std.proofs.lemmas.Int.{ints}
use Rattle.traces.proofs.Spans.{range_ordered}
use Rattle.traces.proofs.Packing.{narrow}
use Rattle.machine.proofs.codes.value.Goals as goal

pub returns : goal.returns
returns c = let o = range_ordered c.args.range.now in let n = narrow c.args.range.now in omega (arith, ints)
