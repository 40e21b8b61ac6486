-- The theorem at the meanings of the caller's cell and watch.
use Rattle.model.specs.Keys.{configuration_key}
use Rattle.levels.proofs.Theorem.{law, tally}
use Rattle.levels.proofs.law_holds.Goals as goal

pub returns : goal.returns
returns g c =
    let m = g.C.Cell.cell c.args.cell.now in
    let w = g.W.Watch.watch c.args.watch.now in
    let k = configuration_key g.W.State.Key.kind in
    record { law = λ n u. law m w k n u; tally = λ n u. tally m w k n u }
