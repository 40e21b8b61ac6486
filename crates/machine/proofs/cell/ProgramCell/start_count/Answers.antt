use Rattle.std.proofs.Common.{sym, ◌∙◌}
use Rattle.traces.proofs.Begins.{start_length}
use Rattle.machine.proofs.cell.ProgramCell.start_count.Goals as goal

pub returns : goal.returns
returns c = c.count.ensures ∙ sym (start_length c.args.self.now.ranges)
