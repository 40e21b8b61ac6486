use Rattle.std.proofs.Common.{◌≡◌, length, get_or, pos, sym, ap, ◌∙◌, arith, w16, w32, SFits, rules}
use mir.ValLaws.{to_z-of_z}
use Rattle.text.specs.Words.{register_index}
use Rattle.values.proofs.Values.{register_at}
use Rattle.values.proofs.evaluate.reading.Goals as goal

pub returns-clause-value : goal.returns-clause-value
returns-clause-value c =
    let f : SFits w32 c.from.result = search rules in
    let g : SFits w16 (get_or c.args.values.now c.index.result (pos 0)) = search rules in
    let long : length c.args.values.now ≡ 6 = search rules in
    to_z-of_z w32 c.from.result f ∙ c.from.ensures ∙ to_z-of_z w16 (get_or c.args.values.now c.index.result (pos 0)) g ∙ ap (λ i. get_or c.args.values.now i (pos 0)) c.index.ensures.value ∙ sym (register_at c.args.values.now (register_index c.args.register) (omega (arith, c.index.ensures.value, c.index.ensures.small, long)))
