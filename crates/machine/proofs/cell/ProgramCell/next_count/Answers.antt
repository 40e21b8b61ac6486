use Rattle.std.proofs.Common.{rules, of_calls}
use Rattle.machine.proofs.States.{counted}
use Rattle.machine.proofs.cell.ProgramCell.next_count.Goals as goal

pub returns : goal.returns
returns c = counted c.args.self.now c.args.code c.map_or.result c.state.result _ c.state.ensures c.map_or.ensures (λ σ q. search (rules, of_calls))
