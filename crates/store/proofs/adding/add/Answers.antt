-- A new key: what writing its record and entering it come to.
use Rattle.std.proofs.Common.{arith}
use Rattle.store.proofs.Growth.{grown, indexed}
use Rattle.store.proofs.adding.add.Goals as goal

pub returns : goal.returns
returns g c =
    let e = c.enter.ensures in (
      c.in_default.ensures,
      grown g.K.Key.kind _ _ _ _ e.0 _ (omega arith) e.1 c.put.ensures e.2 (omega arith),
      indexed g.K.Key.kind _ _ _ _ e.0 _ (omega arith) e.1 c.put.ensures e.2,
    )
