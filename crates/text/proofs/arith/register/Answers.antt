use Rattle.std.proofs.Common.{◌∷◌, refl, arith}
use Rattle.text.proofs.Going.{register_goes, register_unknown, register_many}
use Rattle.text.proofs.Parts.{broken, stops_by, named_found, named_read}
use Rattle.text.proofs.arith.register.Goals as goal

pub returns-in_err-allows : goal.returns-in_err-allows
returns-in_err-allows c =
    let f = c.in_err-allows.ensures in
    broken _ _ _ c.in_err-allows.field-0.0 c.from_residual.ensures.1
    (stops_by _ _ (c.args.word ∷ c.args.rest.now) f.cause_is f.place_is (register_unknown _ _ _ c.args.word c.args.word.token refl (named_found c.args.word c.args.node c.requires) _ f.why))

pub returns-in_err-index : goal.returns-in_err-index
returns-in_err-index c =
    let f = c.in_err-index.ensures in
    broken _ _ _ c.in_err-index.field-0.0 c.from_residual-in_err-index.ensures.1
    (stops_by _ _ (c.args.word ∷ c.args.rest.now) f.cause_is f.place_is (register_many _ _ _ c.args.word c.args.word.token refl (named_found c.args.word c.args.node c.requires) _ c.in_ok-allows.ensures f.full))

pub returns : goal.returns
returns c =
    let l = c.in_ok-index.ensures in
    named_read c.args.node _ _ c.args.word c.args.rest.now _ _ _ c.requires l (register_goes _ _ _ c.args.word c.args.word.token refl (named_found c.args.word c.args.node c.requires) _ c.in_ok-allows.ensures (omega (arith, l.few)))
