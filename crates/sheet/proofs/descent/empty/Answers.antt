use Rattle.text.proofs.Parts.{broken}
use Rattle.sheet.proofs.Items.{empty_many, empty_read}
use Rattle.sheet.proofs.descent.empty.Goals as goal

pub returns-in_err-index : goal.returns-in_err-index
returns-in_err-index c = broken _ _ _ c.in_err-index.field-0.0 c.from_residual.ensures.1 (λ left end. empty_many c.args.draft.now left c.args.word c.requires c.args.rest.now end _ c.in_err-index.ensures)

pub returns : goal.returns
returns c = λ left. empty_read c.args.draft.now c.signed.new.draft left c.args.word c.requires c.args.rest.now c.in_ok-index.index c.in_ok-index.ensures
