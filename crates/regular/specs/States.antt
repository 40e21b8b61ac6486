-- States of a sheet's watch as keys: the first state is unlike every set, and sets are alike where they are equal. Assumes nothing.
use Rattle.std.specs.Prelude.{◌≡◌, ℕ, Bool, true, false, ◌==◌, refl}
use Rattle.std.proofs.Common.{ap}
use borrow.Author.Tests.{eq-eqb, eqb-true, clash}
use Rattle.model.specs.Keys.{KeyMeaning}
use Rattle.regular.specs.declared.positions.Positions.{Positions}
use Rattle.regular.specs.declared.positions.Positions.TheVariants.{Start, After}

-- whether two states are the same
abbrev pub alike : Positions → Positions → Bool
alike Start Start = true
alike Start (After t) = false
alike (After s) Start = false
alike (After s) (After t) = s == t

-- the number that a state's bucket is taken from: the set itself, and for the first state all 64 bits
abbrev pub digest : Positions → ℕ
digest Start = 18446744073709551615
digest (After s) = s

pub alike_same : (s t : Positions) → alike s t ≡ true → s ≡ t
alike_same Start Start h = refl
alike_same Start (After t) h = absurd (clash h)
alike_same (After s) Start h = absurd (clash h)
alike_same (After s) (After t) h = ap After (eqb-true s t h)

pub alike_itself : (s : Positions) → alike s s ≡ true
alike_itself Start = refl
alike_itself (After s) = eq-eqb s s refl

abbrev pub positions_key : KeyMeaning Positions
positions_key = record { alike = alike; digest = digest; sound = alike_same; complete = alike_itself }
