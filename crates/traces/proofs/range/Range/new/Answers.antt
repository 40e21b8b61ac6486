use Rattle.std.proofs.Common.{arith}
use Rattle.std.proofs.lemmas.Int.{ints, to_z-of_z}
use Rattle.traces.proofs.Spans.{Ordered, improper, is_proper}
use Rattle.traces.proofs.range.Range.new.Goals as goal

pub returns-then-low-from : goal.returns-then-low-from
returns-then-low-from c = improper c.args.low c.args.high c.args.from c.args.to (λ o. let a = o.floor in let b = o.ceiling in let d = o.first in let e = o.some in let f = o.last in let g = o.narrow in grind (arith, ints))

pub returns-then-high-low-gt63 : goal.returns-then-high-low-gt63
returns-then-high-low-gt63 c = improper c.args.low c.args.high c.args.from c.args.to (λ o. let a = o.floor in let b = o.ceiling in let d = o.first in let e = o.some in let f = o.last in let g = o.narrow in omega (arith, ints))

pub invariant_of-result : goal.invariant_of-result
invariant_of-result c =
    let o : Ordered c.args.low c.args.high c.args.from c.args.to = record { floor = omega (arith, ints); ceiling = omega (arith, ints); first = omega (arith, ints); some = omega (arith, ints); last = omega (arith, ints); narrow = omega (arith, ints) } in
    let p = is_proper c.args.low c.args.high c.args.from c.args.to o in
    record { sound = simp (to_z-of_z, c.ranges.low, c.ranges.high, c.ranges.from, c.ranges.to) p }
