use Rattle.std.proofs.Common.{Some, sym, ap, ◌∙◌, arith}
use Rattle.checking.proofs.Histories.{at_get_or, done_more, rest_more}
use Rattle.checking.proofs.replaying.go_on.Goals as goal

pub loop-place-preserved : goal.loop-place-preserved
loop-place-preserved g c =
    let asked = c.in-Some.asked.now in (
      omega (arith, c.in-Some.ensures.lookup.3.0),
      rest_more _ _ c.loop-place.place c.respond.result c.loop-place.invariant.1,
      λ h q. done_more _ _ _ _ _ h _ _ _ _ _ _ c.loop-place.place asked (at_get_or _ _ asked c.in-Some.ensures.lookup.3.0 ∙ ap Some (sym c.in-Some.ensures.lookup.1)) (omega arith) c.loop-place.auto.table c.respond.ensures (c.loop-place.invariant.2 h q),
    )
