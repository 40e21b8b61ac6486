use Rattle.std.proofs.Common.{◌≡◌, cond, sym, ap, ◌∙◌}
use Rattle.std.proofs.lemmas.Bool.{cond-true, cond-false}
use Rattle.text.specs.Expressions.{holds}
use Rattle.traces.specs.Traces.{seen, ◌▹◌}
use Rattle.machine.specs.Trees.{ariths_of, tests_of}
use Rattle.machine.specs.Views.{test_at}
use Rattle.machine.proofs.Standing.{test_here}
use Rattle.machine.proofs.program.Program.branch.Goals as goal
use Rattle.machine.proofs.program.Program.branch.Goals.{then-holds, else-holds}

pub returns : goal.returns
returns c =
    let p = c.args.self.now in
    let ns = ariths_of p.expressions in
    let ts = tests_of p.expressions in
    let ρ = c.args.state.now.values in
    let v = c.holds-holds.ensures (test_at ns ts c.args.test) (test_here ns ts c.args.test c.requires) in
    let v' : c.holds-holds.result ≡ holds (seen ρ) (test_at ns ts c.args.test) = v ∙ ap (λ m. holds m (test_at ns ts c.args.test)) c.moment.ensures in
    let l : c.if-holds.result ≡ cond c.holds-holds.result c.args.yes c.args.no = elim c.if-holds.branch [
      | then-holds w ↦ w.result-is ∙ sym (cond-true c.holds-holds.result c.args.yes c.args.no w.if-holds.true)
      | else-holds w ↦ w.result-is ∙ sym (cond-false c.holds-holds.result c.args.yes c.args.no w.if-holds.false)
    ] in
    ap (λ n. n ▹ ρ) (l ∙ ap (λ b. cond b c.args.yes c.args.no) v')
