use Rattle.std.proofs.Common.{◌≡◌, min, take}
use Rattle.lexing.specs.Lexing.{decimal}
use Rattle.lexing.proofs.scan.value.Given as goal

abbrev pub invariant-loop-d : goal.invariant-loop-d
invariant-loop-d l = l.n ≡ min 1001 (decimal (take l.d-index l.run))
