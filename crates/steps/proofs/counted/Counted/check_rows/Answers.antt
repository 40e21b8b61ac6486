-- The first row that is not proper, or none.
use Rattle.std.proofs.Common.{rules, tests}
use Rattle.std.proofs.lemmas.Iterator.{YieldsList-from_slice, IsFirst-from_position}
use Rattle.steps.proofs.Lists.{Right, Wrong, all_right, first_wrong}
use Rattle.steps.proofs.counted.Counted.check_rows.Goals as goal

pub returns-in-Some : goal.returns-in-Some
returns-in-Some c =
    let rs = c.args.self.now.rows.now in
    let found = IsFirst-from_position _ _ _ Wrong Right c.in-Some.ensures.ran (YieldsList-from_slice rs cc) (λ x q k. search (rules, tests)) (λ x q k. search (rules, tests)) in
    let p = first_wrong rs c.in-Some.place found in
    (c.in-Some.place, c.new.ensures, p.0, p.1, p.2)

pub returns-in-None : goal.returns-in-None
returns-in-None c =
    let rs = c.args.self.now.rows.now in
    all_right rs (IsFirst-from_position _ _ _ Wrong Right c.in-None.ensures.ran (YieldsList-from_slice rs cc) (λ x q k. search (rules, tests)) (λ x q k. search (rules, tests)))
