use Rattle.std.proofs.Common.{length, sym}
use Rattle.std.proofs.lemmas.Bool.{eqb-true, eqb-false}
use Rattle.std.proofs.lemmas.List.{nil_from_length}
use Rattle.text.proofs.Parts.{broken}
use Rattle.sheet.proofs.Wholes.{rest_many, rest_more, rest_read, first_word}
use Rattle.sheet.proofs.descent.rested.Goals as goal

pub returns-in_err-room_for_assertion : goal.returns-in_err-room_for_assertion
returns-in_err-room_for_assertion c = broken _ _ _ c.in_err-room_for_assertion.field-0.0 c.from_residual.ensures.1 (rest_many c.args.draft.now c.args.word c.requires.sign c.args.rest.now c.args.end _ c.in_err-room_for_assertion.ensures)

pub returns-then-not-is_empty : goal.returns-then-not-is_empty
returns-then-not-is_empty c =
    let f = first_word c.args.rest.now (eqb-false (length c.args.rest.now) 0 (sym c.if-not-is_empty.ensures)) in
    rest_more c.args.draft.now c.args.word c.requires.sign c.args.rest.now c.in_ok-room_for_assertion.ensures f.0 f.1 f.2 c.args.end _ c.unexpected.ensures

pub returns : goal.returns
returns c =
    let none = nil_from_length c.args.rest.now (eqb-true (length c.args.rest.now) 0 (sym c.if-not-is_empty.ensures)) in
    rest_read c.args.draft.now c.args.word c.requires.sign c.args.rest.now c.in_ok-room_for_assertion.ensures none c.args.index _ _ _ _ _ _ c.assert-anything.ensures c.push-more.ensures c.push-root.ensures
