use Rattle.std.proofs.Common.{◌≡◌}
use Rattle.regular.specs.Sets.{gain}
use Rattle.sheet.proofs.automaton.join.Given as goal

abbrev pub invariant-loop-place : goal.invariant-loop-place
invariant-loop-place l = l.follow ≡ gain l.initial.follow l.from l.to l.place
