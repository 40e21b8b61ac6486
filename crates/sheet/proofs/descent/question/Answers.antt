use Rattle.std.proofs.lemmas.Result.{MatchResult-weaker}
use Rattle.text.proofs.Parts.{broken}
use Rattle.sheet.proofs.Items.{question_read, question_stopped, question_many}
use Rattle.sheet.proofs.descent.question.Goals as goal

pub returns-in_err-room_for_assertion : goal.returns-in_err-room_for_assertion
returns-in_err-room_for_assertion c = broken _ _ _ c.in_err-room_for_assertion.field-0.0 c.from_residual.ensures.1 (question_many c.args.draft.now c.args.limits.left c.args.word c.requires c.args.rest.now c.args.limits.end _ c.in_err-room_for_assertion.ensures)

pub returns : goal.returns
returns c =
    let x = c.args.draft.now in
    let few = c.in_ok-room_for_assertion.ensures in
    MatchResult-weaker c.tested.result c.tested.ensures
    (λ r t. question_read x c.args.limits.left c.args.word c.requires c.args.rest.now few _ r.index r.rest.now t)
    (λ f s. question_stopped x c.args.limits.left c.args.word c.requires c.args.rest.now few c.args.limits.end f s)
