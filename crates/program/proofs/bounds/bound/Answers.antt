use Rattle.std.proofs.Common.{arith}
use Rattle.std.proofs.lemmas.Int.{ints}
use Rattle.text.proofs.Parts.{broken}
use Rattle.program.proofs.Bounding.{bound_plain, bound_plainly_stopped, bound_negated, bound_negated_stopped, onward}
use Rattle.program.proofs.bounds.bound.Goals as goal

pub returns-in_err-number-in-Some : goal.returns-in_err-number-in-Some
returns-in_err-number-in-Some c = broken _ _ _ c.in_err-number-in-Some.field-0.0 c.from_residual.ensures.1 (bound_negated_stopped c.in-Some.ensures c.in_err-number-in-Some.ensures)

pub returns-in_ok-number-in-Some : goal.returns-in_ok-number-in-Some
returns-in_ok-number-in-Some c = bound_negated c.in-Some.ensures c.in_ok-number-in-Some.ensures (λ h k. omega (arith, ints))

pub returns-in-None : goal.returns-in-None
returns-in-None c = onward c.number-in-None.result c.number-in-None.ensures (λ y x. bound_plain _ _ _ x) (λ f x. bound_plainly_stopped _ _ _ c.in-None.ensures x)
