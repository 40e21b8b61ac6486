use Rattle.std.proofs.Common.{nat_lt, rules, of_calls, arith}
use Rattle.std.proofs.lemmas.Bool.{ltb-false}
use Rattle.traces.specs.Codes.{start_codes}
use Rattle.traces.proofs.Begins.{start_length}
use Rattle.machine.proofs.States.{then_at}
use Rattle.machine.proofs.cell.ProgramCell.start_at.Goals as goal

pub returns : goal.returns
returns c =
    let e = start_length c.args.self.now.ranges in
    let f = c.count.ensures in
    then_at (start_codes c.args.self.now.ranges) c.args.place (nat_lt c.args.place c.count.result) c.then.result _ c.then.ensures.variant c.then.ensures.some (λ b x q. search (rules, of_calls)) (λ b. let n = ltb-false _ _ b in omega arith)
