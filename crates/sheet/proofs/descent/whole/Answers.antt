use Rattle.std.proofs.Common.{ℕ}
use Rattle.std.proofs.lemmas.Result.{MatchResult-weaker}
use Rattle.text.proofs.Parts.{broken}
use Rattle.sheet.specs.Texts.{choice}
use Rattle.sheet.specs.Owed.{RowRead, RowStops, Stopped}
use Rattle.sheet.proofs.Wholes.{from_new, whole_strict, whole_rested, whole_rest_stopped, whole_more, whole_stopped}
use Rattle.sheet.proofs.descent.whole.Goals as goal

pub returns-in_err-read : goal.returns-in_err-read
returns-in_err-read c =
    let s = from_new c.new.ensures (λ (left end : ℕ). Stopped (RowStops c.args.draft.now left c.args.words.now) end c.in_err-read.field-0.0) c.in_err-read.ensures in
    broken _ _ _ c.in_err-read.field-0.0 c.from_residual.ensures.1 (whole_stopped c.args.draft.now c.args.words.now c.args.end _ s)

pub returns-in-None : goal.returns-in-None
returns-in-None c =
    let r = from_new c.new.ensures (λ (left end : ℕ). RowRead choice c.args.draft.now left c.args.words.now c.choice.new.draft c.in_ok-read.read.index c.in_ok-read.read.rest.now) c.in_ok-read.ensures in
    whole_strict _ _ _ _ _ r c.in-None.ensures

pub returns-in-Rest : goal.returns-in-Rest
returns-in-Rest c =
    let r = from_new c.new.ensures (λ (left end : ℕ). RowRead choice c.args.draft.now left c.args.words.now c.choice.new.draft c.in_ok-read.read.index c.in_ok-read.read.rest.now) c.in_ok-read.ensures in
    MatchResult-weaker c.rested.result c.rested.ensures
    (λ u t. whole_rested _ _ _ _ _ r c.in-Some.word c.in-Some.rest.now _ c.in-Some.ensures c.in-Rest.is t)
    (λ f s. whole_rest_stopped _ _ _ _ _ r c.in-Some.word c.in-Some.rest.now c.in-Some.ensures c.args.end f s)

pub returns-in_default : goal.returns-in_default
returns-in_default c =
    let r = from_new c.new.ensures (λ (left end : ℕ). RowRead choice c.args.draft.now left c.args.words.now c.choice.new.draft c.in_ok-read.read.index c.in_ok-read.read.rest.now) c.in_ok-read.ensures in
    whole_more _ _ _ _ _ r c.in-Some.word c.in-Some.rest.now c.in-Some.ensures c.in_default.not-Rest c.args.end _ c.unexpected.ensures
