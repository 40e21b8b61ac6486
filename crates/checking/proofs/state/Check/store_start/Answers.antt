use Rattle.std.proofs.Common.{refl, rules}
use Rattle.checking.proofs.Starts.{kept_start}
use Rattle.checking.proofs.state.Check.store_start.Goals as goal

pub returns-in_err-self-clause-stores : goal.returns-in_err-self-clause-stores
returns-in_err-self-clause-stores g c =
    kept_start _ _ _ c.args.code c.in-Some.key _ _ _ _ _ c.in-Some.ensures c.in_err-self.ensures (search rules)

pub returns-in_ok-self-clause-stores : goal.returns-in_ok-self-clause-stores
returns-in_ok-self-clause-stores g c =
    kept_start _ _ _ c.args.code c.in-Some.key _ _ _ _ _ c.in-Some.ensures c.in_ok-self.ensures refl
