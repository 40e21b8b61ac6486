use Rattle.std.proofs.Common.{◌-◌}
use Rattle.program.specs.Headers.{HeaderRead}
use Rattle.program.proofs.declarations.declarations.Given as goal

abbrev pub invariant-loop-behind : goal.invariant-loop-behind
invariant-loop-behind l = HeaderRead l.initial.words l.header l.rest

abbrev pub decreases-loop-behind : goal.decreases-loop-behind
decreases-loop-behind l = 6 - l.header.next
