use Rattle.std.proofs.Common.{refl, rules, arith}
use Rattle.checking.specs.declared.calls.Reply.TheVariants.{Told, Code}
use Rattle.checking.proofs.Answering.{part_of, mapped_is, same_call, opens, works, restarts, says_told, shows}
use Rattle.checking.proofs.replaying.respond.Goals as goal

pub returns-in-Open : goal.returns-in-Open
returns-in-Open g c =
    same_call _ _ _ c.in-Open.is c.min-places.ensures
    (opens _ _ _ _ _ _ _ _ _ (part_of _ _ _ (omega (arith, c.min-places.ensures)) c.open.auto.table) c.open.ensures.0 c.open.result _ (mapped_is Told _ _ (search rules)) c.open.ensures.1 c.open.ensures.2)

pub returns-in-Work : goal.returns-in-Work
returns-in-Work g c =
    same_call _ _ _ c.in-Work.is c.min-places.ensures
    (works _ _ _ _ _ _ _ _ _ (part_of _ _ _ (omega (arith, c.min-places.ensures)) c.work.auto.table) c.in-Work.units c.work.result _ (mapped_is Told _ _ (search rules)) c.work.ensures)

pub returns-in-Restart : goal.returns-in-Restart
returns-in-Restart g c =
    same_call _ _ _ c.in-Restart.is c.min-places.ensures
    (restarts _ _ _ _ _ _ _ _ _ (part_of _ _ _ (omega (arith, c.min-places.ensures)) c.restart.auto.table) c.restart.result _ (mapped_is Told _ _ (search rules)) c.restart.ensures)

pub returns-in-Verdict : goal.returns-in-Verdict
returns-in-Verdict g c =
    same_call _ _ _ c.in-Verdict.is c.min-places.ensures
    (says_told _ _ _ _ _ _ _ _ _ (part_of _ _ _ (omega (arith, c.min-places.ensures)) refl) c.verdict.result _ refl c.verdict.ensures refl refl)

pub returns-in-Shown : goal.returns-in-Shown
returns-in-Shown g c =
    same_call _ _ _ c.in-Shown.is c.min-places.ensures
    (shows _ _ _ _ _ _ _ _ _ (part_of _ _ _ (omega (arith, c.min-places.ensures)) refl) c.in-Shown.place c.shown_state.result _ (mapped_is Code _ _ (search rules)) c.shown_state.ensures refl refl)
