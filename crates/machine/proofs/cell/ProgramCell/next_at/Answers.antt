use Rattle.std.proofs.Common.{length, Some, sym, ap, ◌∙◌}
use Rattle.model.specs.Cells.{at}
use Rattle.traces.specs.Tables.{next_states}
use Rattle.traces.specs.Codes.{state_of}
use Rattle.traces.proofs.Laws.{is_sound, nexts_are, next_fits}
use Rattle.machine.specs.Cells.{instructions}
use Rattle.machine.proofs.States.{is_some, codes_some, codes_none, in_at}
use Rattle.machine.proofs.cell.ProgramCell.next_at.Goals as goal

pub returns-in_err-next : goal.returns-in_err-next
returns-in_err-next c =
    let p = c.args.self.now in
    let s = is_some p.ranges (length (instructions p)) c.args.code c.in_ok-state.state (sym c.in_ok-state.was ∙ c.state.ensures) in
    let π = next_states p.ranges (instructions p) (state_of p.ranges c.args.code) in
    let e = sym (ap (λ σ. at (next_states p.ranges (instructions p) σ) c.args.place) s.1) ∙ sym c.outcome.ensures ∙ c.in_err-next.was in
    c.from_residual-in_err-next.ensures ∙ sym (ap (λ xs. at xs c.args.place) (nexts_are p.ranges (instructions p) c.args.code s.0) ∙ codes_none p.ranges π c.args.place e)

pub encode-requires : goal.encode-requires
encode-requires c =
    let p = c.args.self.now in
    let s = is_some p.ranges (length (instructions p)) c.args.code c.in_ok-state.state (sym c.in_ok-state.was ∙ c.state.ensures) in
    let π = next_states p.ranges (instructions p) (state_of p.ranges c.args.code) in
    let e = sym (ap (λ σ. at (next_states p.ranges (instructions p) σ) c.args.place) s.1) ∙ sym c.outcome.ensures ∙ c.in_ok-next.was in
    next_fits p.ranges (instructions p) (is_sound p.ranges (instructions p) p.is) c.args.code c.in_ok-next.next s.0 (in_at π c.args.place c.in_ok-next.next e)

pub returns : goal.returns
returns c =
    let p = c.args.self.now in
    let s = is_some p.ranges (length (instructions p)) c.args.code c.in_ok-state.state (sym c.in_ok-state.was ∙ c.state.ensures) in
    let π = next_states p.ranges (instructions p) (state_of p.ranges c.args.code) in
    let e = sym (ap (λ σ. at (next_states p.ranges (instructions p) σ) c.args.place) s.1) ∙ sym c.outcome.ensures ∙ c.in_ok-next.was in
    ap Some c.encode.ensures ∙ sym (ap (λ xs. at xs c.args.place) (nexts_are p.ranges (instructions p) c.args.code s.0) ∙ codes_some p.ranges π c.args.place c.in_ok-next.next e)
