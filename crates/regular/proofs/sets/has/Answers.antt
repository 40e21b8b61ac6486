use Rattle.std.proofs.Common.{ℕ, eqb, sym, ap, ◌∙◌, le-ltb}
use Rattle.std.proofs.lemmas.Nat.Bits.{bit_at_above}
use Rattle.regular.proofs.sets.has.Goals as goal

pub returns-else-i-lt64 : goal.returns-else-i-lt64
returns-else-i-lt64 c = le-ltb c.args.i 64 c.if-i-lt64.false ∙ sym (ap (λ (n : ℕ). eqb n 1) (bit_at_above c.args.set 64 c.args.i c.ranges.set.fits c.if-i-lt64.false))
