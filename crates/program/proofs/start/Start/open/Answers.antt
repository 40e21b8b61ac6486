use Rattle.text.proofs.Parts.{broken}
use Rattle.program.proofs.Openings.{open_many, open_deep, open_stopped}
use Rattle.program.proofs.start.Start.open.Goals as goal

pub returns-in_err-check_room : goal.returns-in_err-check_room
returns-in_err-check_room c = broken _ _ _ c.in_err-check_room.field-0.0 c.from_residual.ensures.1 (open_many _ c.args.self.word c.args.self.rest.now _ c.requires _ c.in_err-check_room.ensures)

pub returns-in_err-limits : goal.returns-in_err-limits
returns-in_err-limits c = broken _ _ _ c.in_err-limits.field-0.0 c.from_residual-in_err-limits.ensures.1 (open_deep _ c.args.self.word c.args.self.rest.now _ c.requires c.in_ok-check_room.ensures _ c.in_err-limits.ensures)

pub returns-in_err-test : goal.returns-in_err-test
returns-in_err-test c = broken _ _ _ c.in_err-test.field-0.0 c.from_residual-in_err-test.ensures.1 (open_stopped _ c.args.self.word c.args.self.rest.now _ c.requires c.in_ok-check_room.ensures c.in_ok-limits.ensures _ c.in_err-test.ensures)
