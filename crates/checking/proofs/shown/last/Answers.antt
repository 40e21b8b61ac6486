use Rattle.std.proofs.Common.{rules}
use Rattle.checking.proofs.Trails.{read_last}
use Rattle.checking.proofs.shown.last.Goals as goal

pub returns : goal.returns
returns g c = read_last _ _ c.get.result _ c.get.ensures.lookup (search rules)
