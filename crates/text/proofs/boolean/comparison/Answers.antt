use Rattle.text.proofs.Parts.{broken}
use Rattle.text.proofs.Conditions.{compare_stopped_first, compare_refused, compare_many, compare_stopped, compare_read}
use Rattle.text.proofs.boolean.comparison.Goals as goal

pub returns-in_err-a : goal.returns-in_err-a
returns-in_err-a c = broken _ _ _ c.in_err-a.field-0.0 c.from_residual.ensures.1 (compare_stopped_first _ _ _ _ _ _ c.requires c.in_err-a.ensures)

pub returns-in_err-compare : goal.returns-in_err-compare
returns-in_err-compare c = broken _ _ _ c.in_err-compare.field-0.0 c.from_residual-in_err-compare.ensures.1 (compare_refused _ _ _ _ _ c.args.room.now c.sum.new.room _ _ c.requires c.in_ok-a.ensures c.in_err-compare.ensures)

pub returns-in_err-count : goal.returns-in_err-count
returns-in_err-count c =
    let k = c.in_ok-compare.ensures in
    let f = c.in_err-count.ensures.1 in
    broken _ _ _ c.in_err-count.field-0.0 c.from_residual-in_err-count.ensures.1
    (compare_many _ _ _ _ _ c.args.room.now c.sum.new.room _ c.in_ok-compare.compare c.in_ok-compare.word c.in_ok-compare.rest.now _ c.requires c.in_ok-a.ensures k.0 k.1 f.full f.cause_is f.place_is)

pub returns-in_err-b : goal.returns-in_err-b
returns-in_err-b c =
    let k = c.in_ok-compare.ensures in
    broken _ _ _ c.in_err-b.field-0.0 c.from_residual-in_err-b.ensures.1
    (compare_stopped _ _ _ _ _ c.args.room.now c.sum.new.room c.count.new.self _ c.in_ok-compare.compare c.in_ok-compare.word c.in_ok-compare.rest.now _ c.requires c.in_ok-a.ensures k.0 k.1 c.in_ok-count.ensures.1 c.in_err-b.ensures)

pub returns : goal.returns
returns c =
    let k = c.in_ok-compare.ensures in
    compare_read _ _ _ _ c.args.room.now c.sum.new.room c.count.new.self c.sum-2.new.room c.push_test.new.self _ _ _ c.in_ok-compare.compare c.in_ok-compare.word c.in_ok-compare.rest.now _ _ c.requires c.in_ok-a.ensures k.0 k.1 c.in_ok-count.ensures c.in_ok-b.ensures c.node-node.ensures c.push_test.ensures
