use Rattle.std.proofs.Common.{ℕ, sym, subst}
use Rattle.grammar.specs.Grammars.{Quiet}
use Rattle.text.specs.Table.{label, rules_of}
use Rattle.text.proofs.Parts.{broken}
use Rattle.labels.specs.LabelBits.{LabelAt}
use Rattle.labels.proofs.Labelled.{label_refused, label_other, label_large, label_read}
use Rattle.labels.proofs.sets.label.Goals as goal

pub returns-in_err-word : goal.returns-in_err-word
returns-in_err-word c =
    let f = c.in_err-word.ensures in
    broken _ _ _ c.in_err-word.field-0.0 c.from_residual.ensures.1 (label_refused _ _ _ (subst (Quiet (rules_of label)) (sym f.1) tt) f.0)

pub returns-in_err-label_of-in-Number : goal.returns-in_err-label_of-in-Number
returns-in_err-label_of-in-Number c = broken _ _ _ c.in_err-label_of-in-Number.field-0.0 c.from_residual-in_err-label_of-in-Number.ensures.1 (label_large _ _ c.in_ok-word.word c.in_ok-word.rest.now c.in-Number.n _ c.in_ok-word.ensures c.in-Number.is c.in_err-label_of-in-Number.ensures)

pub returns-in_ok-label_of-in-Number : goal.returns-in_ok-label_of-in-Number
returns-in_ok-label_of-in-Number c =
    let n = c.in_ok-label_of-in-Number.ensures in
    subst (λ (x : ℕ). LabelAt c.args.words.now x c.in_ok-word.rest.now) (sym n.0) (label_read _ c.in_ok-word.word c.in_ok-word.rest.now c.in-Number.n c.in_ok-word.ensures c.in-Number.is n.1)

pub returns-in_default : goal.returns-in_default
returns-in_default c = label_other _ _ c.in_ok-word.word c.in_ok-word.rest.now _ c.in_ok-word.ensures c.in_default.not-Number c.unexpected.ensures
