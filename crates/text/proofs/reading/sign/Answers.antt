use Rattle.std.proofs.Common.{sym, ◌∙◌}
use Rattle.text.proofs.Tests.{same_kinds}
use Rattle.text.proofs.reading.sign.Goals as goal

pub returns-then-eq : goal.returns-then-eq
returns-then-eq c = (c.in_ok-word.ensures, sym (same_kinds _ _ _ _ _ c.eq.ensures c.kind.ensures c.kind-2.ensures) ∙ c.if-eq.true)
