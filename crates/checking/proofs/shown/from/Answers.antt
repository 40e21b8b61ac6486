use Rattle.std.proofs.Common.{rules}
use Rattle.checking.proofs.Trails.{read_from}
use Rattle.checking.proofs.shown.from.Goals as goal

pub returns : goal.returns
returns g c = read_from _ _ c.get.result _ c.get.ensures.lookup (search rules)
