use Rattle.std.proofs.Common.{◌+◌, cond, ltb, get_or, sym, ap, ◌∙◌, subst}
use Rattle.levels.specs.Units.{trail}
use Rattle.checking.specs.Showing.{whole, shown, Handed}
use Rattle.checking.specs.Standing.{phase_of}
use Rattle.checking.proofs.Trails.{run_length, run_handed}
use Rattle.checking.proofs.state.Check.shown_run.Goals as goal

pub returns : goal.returns
returns g c =
    let es = whole c.args.table.now in
    let b = c.in-Failing.before in
    let p = c.in-Failing.place in
    let y = c.in-Failing.code in (
      c.in_ok-fits.ensures,
      subst (λ ph. Handed (shown (phase_of ph) c.args.table.now) c.args.out.now c.hand_out.new.out (b + 1)) (sym c.in-Failing.is) (
        sym (run_length es b p y),
        run_handed es b p c.args.out.now y c.hand_out.new.out (c.hand_out.auto.out ∙ c.put.auto.out)
            (λ j l. c.hand_out.ensures j l ∙ ap (λ old. cond (ltb j b) (get_or (trail es b p) j 0) (get_or old j 0)) c.put.ensures),
      ),
    )
