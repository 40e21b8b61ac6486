use Rattle.std.proofs.Common.{◌∙◌, inl, inr}
use Rattle.text.proofs.Parts.{broken}
use Rattle.sheet.proofs.Finished.{laid_down}
use Rattle.sheet.proofs.Answering.{faultless, faulty, too_long}
use Rattle.sheet.proofs.reading.sheet_of.Goals as goal

pub finished-requires : goal.finished-requires
finished-requires c =
    let x = c.args.room in
    let r = c.in_ok-whole.ensures in
    (r.tree, laid_down x.draft c.whole.new.draft r.tree r.index x.fresh.0 x.fresh.1 r.grown)

pub returns-in_err-cut : goal.returns-in_err-cut
returns-in_err-cut c = broken _ _ _ c.in_err-cut.field-0.0 c.from_residual.ensures.1 (inl (too_long _ _ c.in_err-cut.ensures.0))

pub returns-in_err-whole : goal.returns-in_err-whole
returns-in_err-whole c =
    let x = c.args.room in
    let k = c.in_ok-cut.ensures in
    broken _ _ _ c.in_err-whole.field-0.0 c.from_residual-in_err-whole.ensures.1 (inr (faulty x.draft x.fresh.3 x.fresh.1 x.fresh.2 c.args.text.now k.0 c.list.result.now (c.list.ensures ∙ k.1) _ c.in_err-whole.ensures))

pub returns : goal.returns
returns c =
    let x = c.args.room in
    let r = c.in_ok-whole.ensures in
    let k = c.in_ok-cut.ensures in
    let l = laid_down x.draft c.whole.new.draft r.tree r.index x.fresh.0 x.fresh.1 r.grown in
    faultless x.draft x.fresh.3 x.fresh.1 x.fresh.2 c.args.text.now k.0 c.list.result.now (c.list.ensures ∙ k.1) c.whole.new.draft c.finished.result r (c.finished.ensures r.tree l)
