-- The state at a place among those that the statement at the label leads to.
use Rattle.std.proofs.Common.{sym, ap, ◌∙◌}
use Rattle.model.specs.Cells.{at}
use Rattle.traces.specs.Tables.{following}
use Rattle.machine.proofs.States.{none_at, some_at}
use Rattle.machine.proofs.program.Program.outcome.Goals as goal

pub returns-in_err-statement : goal.returns-in_err-statement
returns-in_err-statement c =
    let p = c.args.self.now in
    let σ = c.args.state.now in
    let none = none_at p c.deref.result.now c.from.result σ.label c.deref.ensures.value c.from.ensures c.in_err-statement.ensures.lookup.3 in
    c.from_residual.ensures ∙ sym (ap (λ o. at (following p.ranges o σ.values) c.args.place) none)

pub perform-requires : goal.perform-requires
perform-requires c =
    let found = c.in_ok-statement.ensures.lookup in
    (some_at c.args.self.now c.deref.result.now c.from.result c.args.state.now.label c.deref.ensures.value c.from.ensures c.in_ok-statement.statement.now found.3.0 found.1).1

pub returns : goal.returns
returns c =
    let p = c.args.self.now in
    let σ = c.args.state.now in
    let found = c.in_ok-statement.ensures.lookup in
    let some = (some_at p c.deref.result.now c.from.result σ.label c.deref.ensures.value c.from.ensures c.in_ok-statement.statement.now found.3.0 found.1).0 in
    c.perform.ensures ∙ sym (ap (λ o. at (following p.ranges o σ.values) c.args.place) some)
