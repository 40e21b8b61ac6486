use Rattle.std.proofs.Common.{◌<◌, arith, rules}
use Rattle.traces.proofs.Laws.{is_sound}
use Rattle.traces.proofs.Packing.{packed_small}
use Rattle.machine.specs.Cells.{instructions}
use Rattle.machine.proofs.program.Program.encode.Goals as goal

pub overflow_add-result : goal.overflow_add-result
overflow_add-result c =
    let s = is_sound c.args.self.now.ranges (instructions c.args.self.now) c.args.self.now.is in
    let h = packed_small c.args.self.now.ranges s.six c.args.state.now.values c.requires in
    let e = c.pack.ensures in
    let f : c.args.state.now.label < 256 = search rules in
    omega arith
