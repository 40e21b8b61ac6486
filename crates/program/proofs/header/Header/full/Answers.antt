use Rattle.std.proofs.Common.{None, sym, ◌∙◌, arith, rules}
use Rattle.traces.specs.Programs.{range}
use Rattle.program.proofs.Wholes.{mapped}
use Rattle.program.proofs.header.Header.full.Goals as goal

pub returns : goal.returns
returns c = mapped range None c.args.self.now.ranges c.map.result (c.map.ensures.items.long ∙ sym c.args.self.now.six) (λ i h. let k = c.map.ensures.items.at i None (range None) (omega arith) in search (rules, k.2.met))
