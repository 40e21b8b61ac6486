use Rattle.std.proofs.Common.{◌≡◌, Some, subst, arith}
use Rattle.std.proofs.lemmas.Grind.{common_steps}
use Rattle.std.proofs.lemmas.List.{drop-take}
use Rattle.job.specs.Jobs.{Trailed}
use Rattle.job.proofs.parts.split.Goals as goal

pub returns-then-distance-gt-LONGEST_TEXT : goal.returns-then-distance-gt-LONGEST_TEXT
returns-then-distance-gt-LONGEST_TEXT c = grind (arith, common_steps)

pub returns : goal.returns
returns c =
    let e : c.trailer.result ≡ Some (c.in_ok-texts.texts, c.in_ok-texts.distance) = rw c.in_ok-texts.was at c.ok_or.ensures.ok_part in
    let t : Trailed c.args.file.now (Some (c.in_ok-texts.texts, c.in_ok-texts.distance)) = subst (Trailed c.args.file.now) e c.trailer.ensures in
    (grind (arith, common_steps), grind (arith, common_steps), grind (arith, common_steps, drop-take))
