use Rattle.std.proofs.Common.{get_or, pos, arith, w16, SFits, rules}
use Rattle.std.proofs.lemmas.List.{take_more, flat_map_more}
use Rattle.std.proofs.lemmas.Int.{to_z-of_z}
use Rattle.job.proofs.line.Line.push_values.Goals as goal

pub loop-value-preserved : goal.loop-value-preserved
loop-value-preserved c =
    let v = get_or c.args.values.now c.loop-value.value-index (pos 0) in
    let fits : SFits w16 v = search rules in
    record {
      values = rw (take_more c.args.values.now c.loop-value.value-index (pos 0) c.loop-value-test.true, ← flat_map_more, ← c.loop-value.invariant.values) (rw (to_z-of_z w16 v fits) at c.push_value.ensures.value);
      bound = omega arith;
    }
