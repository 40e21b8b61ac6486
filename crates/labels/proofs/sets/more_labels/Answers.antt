use Rattle.text.proofs.Parts.{broken}
use Rattle.labels.proofs.Labelled.{listed_more, listed_stopped, listed_done}
use Rattle.labels.proofs.sets.more_labels.Goals as goal

pub returns-in_err-n : goal.returns-in_err-n
returns-in_err-n c = broken _ _ _ c.in_err-n.field-0.0 c.from_residual.ensures.1 (listed_stopped _ c.args.labels c.args.words.now c.loop-behind.set c.loop-behind.left.now c.in-Some.behind.now _ c.loop-behind.invariant (c.in-Some.field-0-0, c.in-Some.ensures.0, c.in-Some.ensures.1) c.in_err-n.ensures)

pub loop-behind-preserved : goal.loop-behind-preserved
loop-behind-preserved c = listed_more _ _ _ _ c.in-Some.behind.now _ _ _ c.loop-behind.invariant (c.in-Some.field-0-0, c.in-Some.ensures.0, c.in-Some.ensures.1) c.in_ok-n.ensures (c.with-set.ensures.small c.in_ok-n.ensures.small)

pub returns : goal.returns
returns c = listed_done _ _ _ _ c.loop-behind.invariant c.in_default.ensures
