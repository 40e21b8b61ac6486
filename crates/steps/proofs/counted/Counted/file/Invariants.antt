-- The arcs before this one are proper, and filed.
use Rattle.std.proofs.Common.{◌≡◌, true, [], length, take}
use Rattle.steps.specs.Index.{Filed}
use Rattle.steps.specs.Tables.{proper_arcs}
use Rattle.steps.proofs.counted.Counted.file.Given as goal

abbrev pub invariant-loop-number : goal.invariant-loop-number
invariant-loop-number l = (proper_arcs (length l.self.rows.now) [] (take l.number l.self.arcs.now) ≡ true) × Filed (take l.number l.self.arcs.now) l.nexts
