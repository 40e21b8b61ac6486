-- As many as the statement at the label leads to.
use Rattle.std.proofs.Common.{rules, of_calls}
use Rattle.machine.proofs.States.{found_ways}
use Rattle.machine.proofs.program.Program.outcome_count.Goals as goal

pub returns : goal.returns
returns c = found_ways c.args.self.now c.args.state.now c.deref.result.now c.from.result c.map_or.result c.get.result _ c.deref.ensures.value c.from.ensures c.get.ensures.lookup c.map_or.ensures (λ s q. search (rules, of_calls))
