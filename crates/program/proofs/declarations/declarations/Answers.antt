use Rattle.std.proofs.Common.{subst}
use Rattle.text.proofs.Parts.{broken}
use Rattle.program.specs.Headers.{HeaderRead}
use Rattle.program.proofs.declarations.declarations.Goals as goal

pub returns-in_err-rest : goal.returns-in_err-rest
returns-in_err-rest c =
    let x = c.in-Some.ensures in
    broken _ _ _ c.in_err-rest.field-0.0 c.from_residual.ensures.1
    (c.in_err-rest.ensures c.args.words.now _ x.1 x.2 (subst (λ v. HeaderRead c.args.words.now c.loop-behind.header v) x.0 c.loop-behind.invariant))
