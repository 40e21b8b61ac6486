use Rattle.std.proofs.Common.{Some, sym, ap, ◌∙◌, subst, arith}
use Rattle.model.specs.Refusals.{reply}
use Rattle.levels.specs.Units.{last_at}
use Rattle.checking.specs.Showing.{whole, shown, CodeAt, NoCode}
use Rattle.checking.specs.Standing.{phase_of}
use Rattle.checking.proofs.Trails.{run_length, run_at, run_end}
use Rattle.checking.proofs.state.Check.shown_state.Goals as goal

pub returns-then-place-count : goal.returns-then-place-count
returns-then-place-count g c = (
  λ _. subst (λ ph. NoCode (shown (phase_of ph) c.args.table.now) c.args.place c.new-then-place-count.result) (sym c.in-Failing.is)
      (omega (arith, run_length (whole c.args.table.now) c.in-Failing.before c.in-Failing.end c.in-Failing.code), ap reply c.new-then-place-count.ensures),
  λ no. absurd (no c.in_ok-fits.ensures),
)

pub returns-then-place-count-2 : goal.returns-then-place-count-2
returns-then-place-count-2 g c = (
  c.in_ok-fits.ensures,
  subst (λ ph. CodeAt (shown (phase_of ph) c.args.table.now) c.args.place c.in-Failing.code) (sym c.in-Failing.is)
      (run_end (whole c.args.table.now) c.in-Failing.before c.in-Failing.end c.in-Failing.code c.args.place c.if-place-count-2.true),
)

pub returns : goal.returns
returns g c = (
  c.in_ok-fits.ensures,
  subst (λ ph. CodeAt (shown (phase_of ph) c.args.table.now) c.args.place c.last.result) (sym c.in-Failing.is)
      (
      run_at (whole c.args.table.now) c.in-Failing.before c.in-Failing.end c.in-Failing.code c.args.place (omega (arith, c.if-place-count.false, c.if-place-count-2.false))
      ∙ ap (λ i. Some (last_at (whole c.args.table.now) i)) (sym c.back.ensures)
      ∙ ap Some (sym c.last.ensures)
      ),
)
