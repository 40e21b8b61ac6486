-- The test of each value is the test of them all.
use Rattle.std.proofs.Common.{◌&&◌, ap, ◌∙◌, rules, tests, sym}
use Rattle.std.proofs.lemmas.Iterator.{YieldsList-from_slice}
use Rattle.std.proofs.lemmas.Iterator.Search.{all_from_yields_List}
use Rattle.std.proofs.lemmas.Bool.{lt-ltb}
use Rattle.steps.specs.Tables.{limited}
use Rattle.steps.proofs.Lists.{within, limited_all}
use Rattle.steps.proofs.row.Row.is_proper.Goals as goal

pub returns-then-self-lt64 : goal.returns-then-self-lt64
returns-then-self-lt64 c =
    let vs = c.args.self.now.values in
    let a = all_from_yields_List within _ _ _ c.all.ensures.ran (YieldsList-from_slice vs cc) (λ x b q k. search (rules, tests)) in
    a ∙ limited_all vs ∙ sym (ap (λ b. b && limited vs) (lt-ltb c.args.self.now.label 64 c.if-self-lt64.true))
