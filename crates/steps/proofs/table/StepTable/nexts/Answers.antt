-- The codes that are filed for a row, and none for what is no row.
use Rattle.std.proofs.Common.{arith, refl, rules, of_calls}
use Rattle.steps.proofs.Asking.{next_codes}
use Rattle.steps.proofs.table.StepTable.nexts.Goals as goal

pub returns : goal.returns
returns c =
    let t = c.args.self.now in
    next_codes t.rows.now t.arcs.now t.index.nexts c.args.code c.map_or.result _ c.get.result _ t.fit t.filed (omega arith) refl c.get.ensures.lookup c.map_or.ensures (λ s q. search (rules, of_calls))
