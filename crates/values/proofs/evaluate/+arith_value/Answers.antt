use Rattle.std.proofs.Common.{◌<◌, ◌+ℤ◌, ◌-ℤ◌, sym, ap, ◌∙◌, w32, SFits, to_z, of_z, rules}
use mir.ValLaws.{to_z-of_z}
use Rattle.std.specs.Int.{saturate_to_bits}
use Rattle.values.proofs.Values.{at_is, value_none, worth, through}
use Rattle.values.proofs.evaluate.+arith_value.Goals as goal

pub returns-in_default : goal.returns-in_default
returns-in_default t c = value_none c.args.moment.now c.args.nodes.now c.args.index _ c.in_default.ensures.lookup.3

pub returns-in-Number : goal.returns-in-Number
returns-in-Number t c =
    let found = c.in-Some.ensures.lookup in
    let f : SFits w32 c.from.result = search rules in
    let small : c.in-Number.n < 65536 = search rules in
    through c.args.moment.now c.args.nodes.now c.args.index c.from.result f
    (worth c.args.moment.now c.args.nodes.now c.args.index _ _ c.requires found.3.0 (at_is c.args.nodes.now c.args.index _ _ found.3.0 (sym found.1 ∙ c.in-Number.is)) (c.from.ensures, small))

pub returns-in-Current : goal.returns-in-Current
returns-in-Current t c =
    let found = c.in-Some.ensures.lookup in
    let f : SFits w32 c.reading.result = search rules in
    let r = c.reading.ensures in
    through c.args.moment.now c.args.nodes.now c.args.index c.reading.result f
    (worth c.args.moment.now c.args.nodes.now c.args.index _ _ c.requires found.3.0 (at_is c.args.nodes.now c.args.index _ _ found.3.0 (sym found.1 ∙ c.in-Current.is)) (r.value, r.low, r.high))

pub returns-in-Initial : goal.returns-in-Initial
returns-in-Initial t c =
    let found = c.in-Some.ensures.lookup in
    let f : SFits w32 c.reading-in-Initial.result = search rules in
    let r = c.reading-in-Initial.ensures in
    through c.args.moment.now c.args.nodes.now c.args.index c.reading-in-Initial.result f
    (worth c.args.moment.now c.args.nodes.now c.args.index _ _ c.requires found.3.0 (at_is c.args.nodes.now c.args.index _ _ found.3.0 (sym found.1 ∙ c.in-Initial.is)) (r.value, r.low, r.high))

pub returns-in-Plus : goal.returns-in-Plus
returns-in-Plus t c =
    let found = c.in-Some.ensures.lookup in
    let f : SFits w32 c.saturating_add.result = search rules in
    let fx : SFits w32 c.arith_value.result = search rules in
    let fy : SFits w32 c.arith_value-in-Plus.result = search rules in
    through c.args.moment.now c.args.nodes.now c.args.index c.saturating_add.result f
    (worth c.args.moment.now c.args.nodes.now c.args.index _ _ c.requires found.3.0 (at_is c.args.nodes.now c.args.index _ _ found.3.0 (sym found.1 ∙ c.in-Plus.is)) (c.arith_value.result, c.arith_value-in-Plus.result, c.arith_value.ensures, c.arith_value-in-Plus.ensures, c.saturating_add.ensures ∙ ap (λ v. saturate_to_bits 31 (v +ℤ to_z w32 (of_z w32 c.arith_value-in-Plus.result))) (to_z-of_z w32 c.arith_value.result fx) ∙ ap (λ v. saturate_to_bits 31 (c.arith_value.result +ℤ v)) (to_z-of_z w32 c.arith_value-in-Plus.result fy)))

pub returns-in-Minus : goal.returns-in-Minus
returns-in-Minus t c =
    let found = c.in-Some.ensures.lookup in
    let f : SFits w32 c.saturating_sub.result = search rules in
    let fx : SFits w32 c.arith_value-in-Minus.result = search rules in
    let fy : SFits w32 c.arith_value-in-Minus-2.result = search rules in
    through c.args.moment.now c.args.nodes.now c.args.index c.saturating_sub.result f
    (worth c.args.moment.now c.args.nodes.now c.args.index _ _ c.requires found.3.0 (at_is c.args.nodes.now c.args.index _ _ found.3.0 (sym found.1 ∙ c.in-Minus.is)) (c.arith_value-in-Minus.result, c.arith_value-in-Minus-2.result, c.arith_value-in-Minus.ensures, c.arith_value-in-Minus-2.ensures, c.saturating_sub.ensures ∙ ap (λ v. saturate_to_bits 31 (v -ℤ to_z w32 (of_z w32 c.arith_value-in-Minus-2.result))) (to_z-of_z w32 c.arith_value-in-Minus.result fx) ∙ ap (λ v. saturate_to_bits 31 (c.arith_value-in-Minus.result -ℤ v)) (to_z-of_z w32 c.arith_value-in-Minus-2.result fy)))
