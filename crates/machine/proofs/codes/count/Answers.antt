-- The product of the numbers of starts.
use Rattle.std.proofs.Common.{rules, tests, ◌*◌, ◌∙◌}
use Rattle.std.proofs.lemmas.Iterator.{YieldsList-from_slice, YieldsList-from_map}
use Rattle.std.proofs.lemmas.Iterator.Adapters.{total_from_yields_List}
use Rattle.machine.proofs.Digits.{choices, choices_all, choices_fit}
use Rattle.machine.proofs.codes.count.Goals as goal

pub product-requires-clause-fits : goal.product-requires-clause-fits
product-requires-clause-fits c =
    choices_fit c.map.result c.args.ranges.now (YieldsList-from_map _ choices (YieldsList-from_slice c.args.ranges.now cc) c.map.ensures.closure (λ x r q k. search (rules, tests))) c.requires

pub returns : goal.returns
returns c =
    let rs = c.args.ranges.now in
    total_from_yields_List (λ a x. a * x) 1 c.product.result c.product.ensures.ran (YieldsList-from_map _ choices (YieldsList-from_slice rs cc) c.map.ensures.closure (λ x r q k. search (rules, tests))) ∙ choices_all rs
