use Rattle.std.proofs.Common.{◌≡◌, Bool, ◌&&◌, sym, ap, ◌∙◌, subst}
use Rattle.text.specs.Expressions.{holds}
use Rattle.regular.specs.Words.{asserts}
use Rattle.sheet.specs.declared.tree.Leaf.{Leaf}
use Rattle.sheet.specs.Parts.{assertion_of, test_of, Tested}
use Rattle.sheet.proofs.Growing.{test_at}
use Rattle.sheet.proofs.watch.asserted.Goals as goal

pub returns-then-cover : goal.returns-then-cover
returns-then-cover c =
    let e = c.args.tests.now in
    let m = c.args.moment.now in
    let i = c.in-Given.test in
    subst (λ (x : Leaf). Tested e.ariths.items e.tests.items x → c.holds.result ≡ asserts (assertion_of e.ariths.items e.tests.items x) m) (sym c.in-Given.is)
    (λ t. c.holds.ensures t.0 t.1 ∙ ap (holds m) (sym (test_at e.ariths.items e.tests.items i t.0 t.1)) ∙ ap (λ (b : Bool). b && holds m (test_of e.ariths.items e.tests.items i)) c.if-cover.ensures)
