use Rattle.std.proofs.Common.{refl}
use Rattle.text.specs.Table.{guard}
use Rattle.text.proofs.Parts.{broken, refused_at}
use Rattle.program.proofs.Guards.{no_paren, guard_deep, guard_inner, guard_open, guard_read}
use Rattle.program.proofs.opening.guard.Goals as goal

pub returns-in_err-word : goal.returns-in_err-word
returns-in_err-word c =
    let f = c.in_err-word.ensures in
    broken _ _ _ c.in_err-word.field-0.0 c.from_residual.ensures.1 (refused_at guard _ _ _ _ _ _ refl (no_paren c.args.words.now f.1) f.0)

pub returns-in_err-deeper : goal.returns-in_err-deeper
returns-in_err-deeper c = broken _ _ _ c.in_err-deeper.field-0.0 c.from_residual-in_err-deeper.ensures.1 (guard_deep c.in_ok-word.ensures c.in_err-deeper.ensures)

pub returns-in_err-inner : goal.returns-in_err-inner
returns-in_err-inner c = broken _ _ _ c.in_err-inner.field-0.0 c.from_residual-in_err-inner.ensures.1 (guard_inner c.in_ok-word.ensures c.in_ok-deeper.ensures c.in_err-inner.ensures)

pub returns-in_err-behind : goal.returns-in_err-behind
returns-in_err-behind c = broken _ _ _ c.in_err-behind.field-0.0 c.from_residual-in_err-behind.ensures.1 (guard_open c.in_ok-word.ensures c.in_ok-deeper.ensures c.in_ok-inner.ensures c.in_err-behind.ensures)

pub returns : goal.returns
returns c = guard_read c.in_ok-word.ensures c.in_ok-deeper.ensures c.in_ok-inner.ensures c.in_ok-behind.ensures
