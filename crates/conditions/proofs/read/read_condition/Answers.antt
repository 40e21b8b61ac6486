use Rattle.std.proofs.Common.{length, sym, refl, ◌∙◌}
use Rattle.std.proofs.lemmas.Bool.{eqb-true, eqb-false}
use Rattle.std.proofs.lemmas.List.{nil_from_length}
use Rattle.text.proofs.Parts.{broken, stopped_at}
use Rattle.text.proofs.Conditions.{read_at}
use Rattle.conditions.proofs.Meant.{faulty, too_much, good_text}
use Rattle.conditions.proofs.read.read_condition.Goals as goal

pub returns-in_err-read : goal.returns-in_err-read
returns-in_err-read c =
    let h = c.in_ok-cut.ensures in
    let f = rw c.new-limits.ensures at c.in_err-read.ensures in
    broken _ _ _ c.in_err-read.field-0.0 c.from_residual-in_err-read.ensures.1 (faulty c.args.text.now _ h.0 _ (stopped_at (sym (c.list.ensures ∙ h.1)) f))

pub returns-then-not-is_empty : goal.returns-then-not-is_empty
returns-then-not-is_empty c =
    let h = c.in_ok-cut.ensures in
    let r = rw c.new-limits.ensures at c.in_ok-read.ensures in
    too_much c.args.text.now _ h.0 c.args.room c.condition.new.room _ c.in_ok-read.read.rest.now _ refl (read_at (sym (c.list.ensures ∙ h.1)) r) (eqb-false (length c.in_ok-read.read.rest.now) 0 (sym c.if-not-is_empty.ensures)) (rw c.new-limits.ensures at c.unexpected.ensures)

pub returns : goal.returns
returns c =
    let h = c.in_ok-cut.ensures in
    let r = rw c.new-limits.ensures at c.in_ok-read.ensures in
    good_text c.args.text.now _ h.0 c.args.room c.condition.new.room _ c.in_ok-read.read.rest.now refl (read_at (sym (c.list.ensures ∙ h.1)) r) (nil_from_length c.in_ok-read.read.rest.now (eqb-true (length c.in_ok-read.read.rest.now) 0 (sym c.if-not-is_empty.ensures)))
