use Rattle.std.proofs.Common.{None, is_some, sym, ◌∙◌, arith, rules}
use Rattle.traces.specs.declared.range.Range.{Range}
use Rattle.program.proofs.Wholes.{mapped}
use Rattle.program.proofs.header.Header.flags.Goals as goal

pub returns : goal.returns
returns c = mapped (is_some {T = Range}) None c.args.self.now.ranges c.map.result (c.map.ensures.items.long ∙ sym c.args.self.now.six) (λ i h. let k = c.map.ensures.items.at i None (is_some {T = Range} None) (omega arith) in search (rules, k.2.met))
