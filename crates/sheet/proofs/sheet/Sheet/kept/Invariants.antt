use Rattle.std.proofs.Common.{◌≡◌}
use Rattle.regular.specs.Words.{holding}
use Rattle.regular.specs.Sets.{keep}
use Rattle.sheet.specs.Sheets.{tree_of}
use Rattle.sheet.proofs.sheet.Sheet.kept.Given as goal

abbrev pub invariant-loop-place : goal.invariant-loop-place
invariant-loop-place l = l.held ≡ keep (λ p. holding (tree_of l.self) p l.moment) l.set l.place
