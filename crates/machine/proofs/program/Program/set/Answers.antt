use Rattle.std.proofs.Common.{◌≡◌, ap, ◌∙◌, w32, SFits, rules}
use Rattle.text.specs.Words.{register_index}
use Rattle.text.specs.Expressions.{value}
use Rattle.traces.specs.Traces.{seen, kept}
use Rattle.std.proofs.lemmas.Int.{to_z-of_z}
use Rattle.machine.specs.Trees.{ariths_of}
use Rattle.machine.specs.Views.{arith_at}
use Rattle.machine.proofs.States.{set_is}
use Rattle.machine.proofs.Standing.{arith_here}
use Rattle.machine.proofs.program.Program.set.Goals as goal

pub returns : goal.returns
returns c =
    let p = c.args.self.now in
    let ns = ariths_of p.expressions in
    let ρ = c.args.state.now.values in
    let v = c.value-result.ensures (arith_at ns c.args.value) (arith_here ns c.args.value c.requires) in
    let v' : c.value-result.result ≡ value (seen ρ) (arith_at ns c.args.value) = v ∙ ap (λ m. value m (arith_at ns c.args.value)) c.moment.ensures in
    let f : SFits w32 c.value-result.result = search rules in
    c.changed.ensures ∙ set_is p.ranges ρ c.args.next (register_index c.args.register) c.range.result c.keep.result (value (seen ρ) (arith_at ns c.args.value)) c.range.ensures (c.keep.ensures ∙ ap (kept c.range.result) (to_z-of_z w32 c.value-result.result f ∙ v'))
