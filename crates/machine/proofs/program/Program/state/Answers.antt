use Rattle.std.proofs.Common.{◌≡◌, length, vec_items, sym, ◌∙◌, arith}
use Rattle.traces.proofs.Laws.{is_sound}
use Rattle.machine.specs.declared.program.Program.{Program}
use Rattle.machine.specs.Trees.{ariths_of, tests_of}
use Rattle.machine.specs.Cells.{instructions}
use Rattle.machine.proofs.States.{views_length, no_label, has_values}
use Rattle.machine.proofs.program.Program.state.Goals as goal

-- the exit label is the number of statements
exit_is : (p : Program) → length (instructions p) ≡ length (vec_items p.statements)
exit_is p = views_length (ariths_of p.expressions) (tests_of p.expressions) (vec_items p.statements)

pub returns-then-label-len : goal.returns-then-label-len
returns-then-label-len c =
    let e = exit_is c.args.self.now in
    let f = c.len.ensures in
    no_label c.args.self.now.ranges (length (instructions c.args.self.now)) c.args.code (omega arith)

pub overflow_cast-result : goal.overflow_cast-result
overflow_cast-result c =
    let e = exit_is c.args.self.now in
    let f = c.len.ensures in
    let s = is_sound c.args.self.now.ranges (instructions c.args.self.now) c.args.self.now.is in
    let h = s.short in
    omega arith

pub returns : goal.returns
returns c =
    let e = exit_is c.args.self.now in
    let f = c.len.ensures in
    has_values c.args.self.now.ranges (length (instructions c.args.self.now)) c.args.code c.in_ok-values.values (omega arith) (sym c.in_ok-values.was ∙ c.unpack.ensures)
