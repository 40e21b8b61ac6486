use Rattle.std.proofs.Common.{◌∷◌}
use Rattle.text.proofs.Parts.{broken, stops_by}
use Rattle.text.proofs.Conditions.{truth_many, truth_read}
use Rattle.text.proofs.boolean.truth.Goals as goal

pub returns-in_err-count : goal.returns-in_err-count
returns-in_err-count c =
    let f = c.in_err-count.ensures.1 in
    broken _ _ _ c.in_err-count.field-0.0 c.from_residual.ensures.1 (stops_by _ _ (c.args.word ∷ c.args.rest.now) f.cause_is f.place_is (truth_many _ _ _ c.args.word c.args.rest.now c.requires f.full))

pub returns : goal.returns
returns c = truth_read _ _ c.args.word c.args.rest.now c.args.room.now c.count.new.self c.push_test.new.self _ c.requires c.in_ok-count.ensures c.push_test.ensures
