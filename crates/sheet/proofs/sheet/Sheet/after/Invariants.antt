use Rattle.std.proofs.Common.{◌≡◌, vec_items}
use Rattle.regular.specs.Sets.{gather}
use Rattle.sheet.proofs.sheet.Sheet.after.Given as goal

abbrev pub invariant-loop-place : goal.invariant-loop-place
invariant-loop-place l = l.all ≡ gather (vec_items l.self.follow) l.set l.place
