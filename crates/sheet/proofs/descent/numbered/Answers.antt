use Rattle.std.proofs.Common.{ℕ, ap, subst, ◌∙◌}
use Rattle.std.proofs.lemmas.Result.{MatchResult-weaker}
use Rattle.text.proofs.Parts.{broken}
use Rattle.regular.specs.Sets.{with}
use Rattle.labels.specs.LabelBits.{MoreRead}
use Rattle.sheet.proofs.Items.{number_read, number_labels_stopped, number_stopped, number_too_large, number_too_many}
use Rattle.sheet.proofs.descent.numbered.Goals as goal

pub returns-in_err-label : goal.returns-in_err-label
returns-in_err-label c = broken _ _ _ c.in_err-label.field-0.0 c.from_residual.ensures.1 (number_too_large c.args.draft.now c.args.limits.left c.args.number c.args.word c.requires c.args.rest.now c.args.limits.end _ c.in_err-label.ensures)

pub returns-in_err-room_for_assertion : goal.returns-in_err-room_for_assertion
returns-in_err-room_for_assertion c = broken _ _ _ c.in_err-room_for_assertion.field-0.0 c.from_residual-in_err-room_for_assertion.ensures.1 (number_too_many c.args.draft.now c.args.limits.left c.args.number c.args.word c.requires c.args.rest.now c.in_ok-label.ensures.1 c.args.limits.end _ c.in_err-room_for_assertion.ensures)

pub returns-in_err-labels : goal.returns-in_err-labels
returns-in_err-labels c = broken _ _ _ c.in_err-labels.field-0.0 c.from_residual-in_err-labels.ensures.1 (number_labels_stopped c.args.draft.now c.args.limits.left c.args.number c.args.word c.requires c.args.rest.now c.in_ok-label.ensures.1 c.in_ok-room_for_assertion.ensures c.args.limits.end _ c.in_err-labels.ensures)

pub returns : goal.returns
returns c =
    let x = c.args.draft.now in
    let n = c.in_ok-label.ensures in
    let few = c.in_ok-room_for_assertion.ensures in
    let labels = c.in_ok-labels.labels in
    let behind = c.in_ok-labels.behind.now in
    let l = subst (λ (s : ℕ). MoreRead s c.args.rest.now labels behind) (c.with.ensures.small (rw n.0 n.1) ∙ ap (with 0) n.0) c.in_ok-labels.ensures in
    MatchResult-weaker c.tested.result c.tested.ensures
    (λ r t. number_read x c.args.limits.left c.args.number c.args.word c.requires c.args.rest.now n.1 few behind labels l _ r.index r.rest.now t)
    (λ f s. number_stopped x c.args.limits.left c.args.number c.args.word c.requires c.args.rest.now n.1 few behind labels l c.args.limits.end f s)
