use Rattle.std.proofs.Common.{refl}
use Rattle.text.proofs.Parts.{broken}
use Rattle.sheet.proofs.Items.{tested_read, tested_refused, tested_stopped}
use Rattle.sheet.proofs.descent.tested.Goals as goal

pub returns-in_err-inside : goal.returns-in_err-inside
returns-in_err-inside c =
    let f = c.in_err-inside.ensures in
    broken _ _ _ c.in_err-inside.field-0.0 c.from_residual.ensures.1 (tested_refused c.args.draft.now c.args.limits.left c.args.limits.end c.args.words.now _ f.1 f.0)

pub returns-in_err-test : goal.returns-in_err-test
returns-in_err-test c =
    let s = c.in_ok-inside.ensures in
    broken _ _ _ c.in_err-test.field-0.0 c.from_residual-in_err-test.ensures.1 (tested_stopped c.args.draft.now c.args.limits.left c.args.limits.end c.args.words.now c.in_ok-inside.inside.now _ s c.in_err-test.ensures)

pub returns : goal.returns
returns c = tested_read c.args.draft.now _ c.assert-index.new.self c.args.labels c.args.limits.left c.args.words.now c.in_ok-inside.inside.now c.in_ok-test.test.rest.now c.assert-index.result c.in_ok-test.test.index c.in_ok-inside.ensures c.in_ok-test.ensures refl refl refl refl refl c.assert-index.ensures
