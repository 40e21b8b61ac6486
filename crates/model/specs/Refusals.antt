-- The numbers of refusals, and what a refusal says. Assumes nothing.
use Rattle.std.specs.Prelude.{ℕ}
use Rattle.model.specs.declared.refusal.Layer.{Layer}
use Rattle.model.specs.declared.refusal.Layer.TheVariants.{Job, Program, Sheet, Monitor, Steps, Check}
use Rattle.model.specs.declared.refusal.Cause.{Cause}
use Rattle.model.specs.declared.refusal.Cause.TheVariants.{Size, Trailer, Length, Byte, Unexpected, Number, Range, Starts, Register, Break, Many, Deep, Step, NoRun, Beyond, Misfit, Large, Line}
use Rattle.model.specs.declared.refusal.Refusal.{Refusal}

-- the number of each layer
abbrev pub layer_number : Layer → ℕ
layer_number Job = 1
layer_number Program = 2
layer_number Sheet = 3
layer_number Monitor = 4
layer_number Steps = 5
layer_number Check = 6

-- the number of each cause: of two causes the one with the smaller number is told
abbrev pub cause_number : Cause → ℕ
cause_number Size = 1
cause_number Trailer = 2
cause_number Length = 3
cause_number Byte = 4
cause_number Unexpected = 5
cause_number Number = 6
cause_number Range = 7
cause_number Starts = 8
cause_number Register = 9
cause_number Break = 10
cause_number Many = 11
cause_number Deep = 12
cause_number Step = 13
cause_number NoRun = 14
cause_number Beyond = 15
cause_number Misfit = 16
cause_number Large = 17
cause_number Line = 18

-- what a refusal says: the numbers of its layer and cause, and its place
abbrev pub reply : Refusal → ℕ × ℕ × ℕ
reply r = (layer_number r.layer, cause_number r.cause, r.place)
