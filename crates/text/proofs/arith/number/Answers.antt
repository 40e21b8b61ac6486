use Rattle.std.proofs.Common.{◌∷◌, refl, arith}
use Rattle.text.specs.Expressions.{number}
use Rattle.text.specs.Derivations.{a_number}
use Rattle.text.proofs.Going.{number_goes, number_large, number_many}
use Rattle.text.proofs.Parts.{broken, stops_by, stops_here, leaf_read}
use Rattle.text.proofs.arith.number.Goals as goal

pub returns-then-value-gt-LARGEST_NUMBER : goal.returns-then-value-gt-LARGEST_NUMBER
returns-then-value-gt-LARGEST_NUMBER c = stops_here _ _ c.fault.ensures (number_large _ _ _ c.args.word c.args.value c.requires _ (omega arith))

pub returns-in_err-index : goal.returns-in_err-index
returns-in_err-index c =
    let f = c.in_err-index.ensures in
    broken _ _ _ c.in_err-index.field-0.0 c.from_residual.ensures.1
    (stops_by _ _ (c.args.word ∷ c.args.rest.now) f.cause_is f.place_is (number_many _ _ _ c.args.word c.args.value c.requires _ (omega arith) f.full))

pub returns : goal.returns
returns c =
    let l = c.in_ok-index.ensures in
    leaf_read _ (number c.args.value) _ _ c.args.word c.args.rest.now _ _ _ (a_number c.requires) refl (λ ns k h. h) l (number_goes _ _ _ c.args.word c.args.value c.requires _ (omega arith) (omega (arith, l.few)))
