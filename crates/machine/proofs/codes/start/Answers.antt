use Rattle.std.proofs.Common.{◌≡◌, ◌+◌, ◌*◌, ◌%◌, ◌^◌, ◌≤◌, get_or, ap, ◌∙◌, arith}
use Rattle.traces.specs.Tables.{above}
use Rattle.machine.proofs.Digits.{back_first, rest_below, start_more, start_digit, weight_room, weight_more, digit_room, start_all}
use Rattle.machine.proofs.codes.start.Goals as goal
use Rattle.machine.proofs.codes.start.Goals.{After-digit}

-- the digit is at most 63, and the weight is small
record Room (c : After-digit) : Type 0 where
  first : c.digit.result ≡ above (get_or c.args.ranges.now c.loop-range.range-index c.range-item.result).low (get_or c.args.ranges.now c.loop-range.range-index c.range-item.result).from
  digit : c.digit.result + c.loop-range.rest % c.starts-count.result ≤ 63
  product : (c.digit.result + c.loop-range.rest % c.starts-count.result) * c.loop-range.weight ≤ 63 * c.loop-range.weight
  weight : c.loop-range.weight ≤ 2 ^ 30

room : (c : After-digit) → Room c
room c =
    let r = get_or c.args.ranges.now c.loop-range.range-index c.range-item.result in
    let s = start_digit r c.loop-range.rest c.starts-count.result c.starts-count.ensures in
    let e : c.digit.result ≡ above r.low r.from = c.digit.ensures ∙ ap (above r.low) (back_first r) in
    let d : c.digit.result + c.loop-range.rest % c.starts-count.result ≤ 63 = omega arith in
    record { first = e; digit = d; product = digit_room _ c.loop-range.weight d; weight = weight_room c.loop-range.range-index c.loop-range.weight (omega arith) c.loop-range.invariant.0 }

pub overflow_mul-sum : goal.overflow_mul-sum
overflow_mul-sum c = let r = room c in let p = r.product in let w = r.weight in omega arith

pub overflow_add-sum : goal.overflow_add-sum
overflow_add-sum c = let r = room c in let p = r.product in let w = r.weight in let i = c.loop-range.invariant.1 in omega arith

pub overflow_mul-weight : goal.overflow_mul-weight
overflow_mul-weight c = let r = room c in let w = r.weight in omega arith

pub loop-range-preserved : goal.loop-range-preserved
loop-range-preserved c =
    let r = room c in
    let p = r.product in
    let i = c.loop-range.invariant.1 in (
      weight_more c.loop-range.range-index c.loop-range.weight c.loop-range.invariant.0,
      omega arith,
      rest_below c.args.ranges.now c.loop-range.range-index c.range-item.result c.loop-range.rest c.starts-count.result (omega arith) c.loop-range.invariant.2 c.starts-count.ensures,
      start_more c.args.ranges.now c.loop-range.range-index c.range-item.result c.loop-range.rest c.starts-count.result c.digit.result c.loop-range.sum c.loop-range.weight c.args.place (omega arith) c.starts-count.ensures r.first c.loop-range.invariant.3,
    )

pub returns : goal.returns
returns c = start_all c.args.ranges.now c.loop-range.range-index c.loop-range.rest c.loop-range.sum c.loop-range.weight c.args.place (omega arith) c.loop-range.invariant.2 c.loop-range.invariant.3
