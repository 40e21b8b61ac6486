use Rattle.text.proofs.Parts.{broken}
use Rattle.sheet.proofs.Rows.{repeating_more, repeats_read, repeats_many}
use Rattle.sheet.proofs.descent.repeats.Goals as goal

pub returns-in_err-index : goal.returns-in_err-index
returns-in_err-index c = broken _ _ _ c.in_err-index.field-0.0 c.from_residual.ensures.1 (λ end. repeats_many _ _ _ _ _ _ _ c.in-Some.word c.in-Some.rest.now end _ c.loop-node.invariant c.in-Some.ensures c.in_err-index.ensures)

pub loop-node-preserved : goal.loop-node-preserved
loop-node-preserved c = repeating_more _ _ _ _ _ _ _ _ _ c.in-Some.word c.in-Some.rest.now c.loop-node.invariant c.in-Some.ensures c.in_ok-index.ensures

pub returns : goal.returns
returns c = repeats_read _ _ _ _ _ _ c.loop-node.invariant c.in_default.ensures
