use Rattle.std.proofs.Common.{◌≡◌, pos, ◌+ℤ◌, nat_le, ap, sym, ◌∙◌, arith, rules, of_calls, Some, slice_set}
use Rattle.std.proofs.lemmas.Bool.{leb-true, leb-false}
use Rattle.text.specs.Words.{register_index}
use Rattle.traces.specs.declared.range.Range.{Range}
use Rattle.traces.specs.Traces.{◌▹◌}
use Rattle.traces.specs.Tables.{above}
use Rattle.traces.proofs.Laws.{sense_length}
use Rattle.machine.specs.Cells.{sensed}
use Rattle.machine.proofs.States.{sense_there, then_at}
use Rattle.machine.proofs.program.Program.sense.Goals as goal

pub returns : goal.returns
returns c =
    let w = c.width.ensures in
    let r = c.range-range.result in
    let x = register_index c.args.register in
    let ρ = c.args.state.now.values in
    let l = sense_length c.args.self.now.ranges x c.args.next ρ in
    let u = ap (λ (q : Range). above q.low q.high) c.range-range.ensures in
    then_at (sensed c.args.self.now x c.args.next c.args.state.now) c.args.place (nat_le c.args.place c.width.result) c.then.result _ c.then.ensures.variant c.then.ensures.some
    (λ b σ q.
    let n = leb-true _ _ b in
    let e : σ ≡ c.args.next ▹ slice_set ρ x (r.low +ℤ pos c.args.place) = search (rules, of_calls) in
    sense_there c.args.self.now.ranges c.args.next ρ x c.args.place r c.range-range.ensures (omega arith) ∙ ap Some (sym e))
    (λ b. let n = leb-false _ _ b in omega arith)
