-- The arc is proper where its row has room.
use Rattle.std.proofs.Common.{arith}
use Rattle.steps.proofs.Filing.{enters, enters_as}
use Rattle.steps.proofs.counted.Counted.enter.Goals as goal

pub returns : goal.returns
returns c =
    let is = c.from-from.ensures in
    let to = c.from.ensures in
    let row = rw is at c.index-nexts-from.is in
    let entered = enters _ c.args.arc.now c.args.nexts.now c.push.result c.index-nexts-from.result _ (omega arith) (omega arith) c.args.self.now.few_rows c.told-nexts row (rw is at c.push.ensures) in
    rw is (enters_as _ c.args.arc.now c.args.nexts.now _ c.push.result c.map_err.result c.map_err.ensures.variant entered)
