use Rattle.std.proofs.Common.{◌∙◌, inr}
use Rattle.text.proofs.Parts.{broken}
use Rattle.program.proofs.Answering.{faultless, faulty}
use Rattle.program.proofs.reading.program.Goals as goal

pub returns-in_err-whole : goal.returns-in_err-whole
returns-in_err-whole c =
    let k = c.in_ok-cut.ensures in
    broken _ _ _ c.in_err-whole.field-0.0 c.from_residual-in_err-whole.ensures.1
    (inr (faulty c.args.text.now k.0 c.list.result.now (c.list.ensures ∙ k.1) _ c.in_err-whole.ensures))

pub returns : goal.returns
returns c =
    let k = c.in_ok-cut.ensures in
    faultless c.args.text.now k.0 c.list.result.now (c.list.ensures ∙ k.1) c.whole.new.header c.whole.new.board c.assemble.result c.in_ok-whole.ensures c.assemble.ensures
