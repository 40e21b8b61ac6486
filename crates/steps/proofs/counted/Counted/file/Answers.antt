-- One arc more is filed, or is refused.
use Rattle.std.proofs.Common.{◌≡◌, sym, ◌∙◌, rules, of_calls}
use Rattle.std.proofs.lemmas.Result.{err_from_is_err_and}
use Rattle.steps.proofs.Filing.{arcs_more, filed_more, ok_is, err_is}
use Rattle.steps.proofs.counted.Counted.file.Goals as goal

pub returns-in_err-map_err : goal.returns-in_err-map_err
returns-in_err-map_err c =
    let p = err_from_is_err_and c.from_residual.result c.from_residual.ensures.1 in
    let none = (err_is c.enter.result (sym c.in_err-map_err.ensures.variant)).1 in
    let wrong = rw none at c.enter.ensures in
    let told = rw none at c.in_err-map_err.ensures.cases in
    let same : c.in_err-map_err.field-0.0 ≡ c.new-refusal.result = search (rules, of_calls) in
    let i = c.loop-number.number in
    rw (p.1, p.2) (
      i,
      same ∙ c.new-refusal.ensures,
      c.loop-number-test.true,
      c.loop-number.invariant.0,
      arcs_more _ c.args.self.now.arcs.now i _ c.loop-number-test.true c.loop-number.invariant.0 ∙ wrong _ c.loop-number.invariant.1,
    )

pub loop-number-preserved : goal.loop-number-preserved
loop-number-preserved c =
    let right = rw (ok_is c.enter.result (sym c.in_ok-map_err.ensures.variant)).1 at c.enter.ensures in
    filed_more _ c.args.self.now.arcs.now c.loop-number.number _ _ c.loop-number-test.true c.loop-number.invariant.0 (right _ c.loop-number.invariant.1)
