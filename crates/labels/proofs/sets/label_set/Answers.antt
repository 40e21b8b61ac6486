use Rattle.std.proofs.Common.{ℕ, List, sym, subst, Bor, ◌∙◌, ap}
use Rattle.grammar.specs.Grammars.{Quiet}
use Rattle.std.proofs.lemmas.Result.{MatchResult-weaker}
use Rattle.text.specs.declared.reading.Fault.{Fault}
use Rattle.text.specs.declared.word.Word.{Word}
use Rattle.text.specs.Table.{label_set, rules_of}
use Rattle.text.proofs.Parts.{broken}
use Rattle.regular.specs.Sets.{with}
use Rattle.labels.proofs.Labelled.{set_refused, set_other, set_large, set_all, set_read, set_stopped}
use Rattle.labels.proofs.sets.label_set.Goals as goal

pub returns-in_err-word : goal.returns-in_err-word
returns-in_err-word c =
    let f = c.in_err-word.ensures in
    broken _ _ _ c.in_err-word.field-0.0 c.from_residual.ensures.1 (set_refused _ _ _ (subst (Quiet (rules_of label_set)) (sym f.1) tt) f.0)

pub returns-in-Question : goal.returns-in-Question
returns-in-Question c = set_all _ c.in_ok-word.word c.in_ok-word.rest.now c.in_ok-word.ensures c.in-Question.is

pub returns-in_err-label_of-in-Number : goal.returns-in_err-label_of-in-Number
returns-in_err-label_of-in-Number c = broken _ _ _ c.in_err-label_of-in-Number.field-0.0 c.from_residual-in_err-label_of-in-Number.ensures.1 (set_large _ _ c.in_ok-word.word c.in_ok-word.rest.now c.in-Number.n _ c.in_ok-word.ensures c.in-Number.is c.in_err-label_of-in-Number.ensures)

pub returns-in_ok-label_of-in-Number : goal.returns-in_ok-label_of-in-Number
returns-in_ok-label_of-in-Number c =
    let n = c.in_ok-label_of-in-Number.ensures in
    let w = c.in_ok-word.word in
    let vs = c.in_ok-word.rest.now in
    MatchResult-weaker {X = ℕ × Bor (List Word)} {Y = Fault} c.more_labels.result c.more_labels.ensures
    (λ x r. set_read c.args.words.now w vs c.in-Number.n c.with.result x.0 x.1.now c.in_ok-word.ensures c.in-Number.is n.1 (c.with.ensures.small (rw n.0 n.1) ∙ ap (with 0) n.0) r)
    (λ f g. set_stopped c.args.end c.args.words.now w vs c.in-Number.n f c.in_ok-word.ensures c.in-Number.is n.1 g)

pub returns-in_default : goal.returns-in_default
returns-in_default c = set_other _ _ c.in_ok-word.word c.in_ok-word.rest.now _ c.in_ok-word.ensures c.in_default.not-Question c.in_default.not-Number c.unexpected.ensures
