-- One digit more is added.
use Rattle.std.proofs.Common.{◌≡◌, ◌+◌, ◌*◌, ◌^◌, ◌<◌, ◌≤◌, length, drop, ap, ◌∙◌, arith}
use Rattle.std.proofs.lemmas.List.{length_push}
use Rattle.std.proofs.lemmas.Slice.Zip.{zip_turn}
use Rattle.traces.specs.Codes.{packed}
use Rattle.traces.specs.Tables.{above}
use Rattle.traces.proofs.Packing.{packed_small}
use Rattle.machine.proofs.Digits.{fits_here, packed_more, weight_room, weight_more, back}
use Rattle.machine.proofs.codes.pack.Goals as goal
use Rattle.machine.proofs.codes.pack.Goals.{After-digit}

pub digit-requires : goal.digit-requires
digit-requires c =
    let t = zip_turn c.args.ranges.now c.args.values.now c.loop-range.yielded c.into_iter-range-iterator.result c.loop-range.range-iterator c.next.new.self c.next.result (cc) (cc) c.loop-range.yielded_by (c.in-Some.range, c.in-Some.value) c.in-Some.is c.next.ensures.steps in
    let f = fits_here c.args.ranges.now c.args.values.now (length c.loop-range.yielded) c.in-Some.range.now c.in-Some.value.now c.requires t.0 t.1 (t.2 _) (t.3 _) in
    rw (back c.in-Some.range.now c.in-Some.value.now f.0 f.1) f

-- the sum with this digit, and what it comes to with the others
record Turn (c : After-digit) : Type 0 where
  low : length c.loop-range.yielded < 6
  more : c.loop-range.sum + c.digit.result * c.loop-range.weight + c.loop-range.weight * 64 * packed (drop (length c.loop-range.yielded + 1) c.args.ranges.now) (drop (length c.loop-range.yielded + 1) c.args.values.now) ≡ packed c.args.ranges.now c.args.values.now
  room : packed c.args.ranges.now c.args.values.now < 2 ^ 36
  weight : c.loop-range.weight ≤ 2 ^ 30

turn : (c : After-digit) → Turn c
turn c =
    let rs = c.args.ranges.now in
    let vs = c.args.values.now in
    let i = length c.loop-range.yielded in
    let r = c.in-Some.range.now in
    let v = c.in-Some.value.now in
    let t = zip_turn rs vs c.loop-range.yielded c.into_iter-range-iterator.result c.loop-range.range-iterator c.next.new.self c.next.result (cc) (cc) c.loop-range.yielded_by (c.in-Some.range, c.in-Some.value) c.in-Some.is c.next.ensures.steps in
    let f = fits_here rs vs i r v c.requires t.0 t.1 (t.2 _) (t.3 _) in
    let h : i < 6 = omega arith in
    record {
      low = h;
      more = packed_more rs vs i r v c.loop-range.sum c.loop-range.weight c.digit.result _ t.0 t.1 (t.2 _) (t.3 _) c.loop-range.invariant.1 (c.digit.ensures ∙ ap (above r.low) (back r v f.0 f.1));
      room = packed_small rs c.told-ranges vs c.requires;
      weight = weight_room i c.loop-range.weight h c.loop-range.invariant.0;
    }

pub overflow_mul-sum : goal.overflow_mul-sum
overflow_mul-sum c = let t = turn c in let e = t.more in let r = t.room in omega arith

pub overflow_add-sum : goal.overflow_add-sum
overflow_add-sum c = let t = turn c in let e = t.more in let r = t.room in omega arith

pub overflow_mul-weight : goal.overflow_mul-weight
overflow_mul-weight c = let t = turn c in let w = t.weight in omega arith

pub loop-range-preserved : goal.loop-range-preserved
loop-range-preserved c =
    let t = turn c in
    rw (length_push c.loop-range.yielded (c.in-Some.range, c.in-Some.value)) (weight_more (length c.loop-range.yielded) c.loop-range.weight c.loop-range.invariant.0, t.more)
