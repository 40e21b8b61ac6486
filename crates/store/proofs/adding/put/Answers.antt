-- A write to one place.
use Rattle.store.proofs.Amends.{put_amend}
use Rattle.store.proofs.adding.put.Goals as goal

pub returns : goal.returns
returns g c = put_amend _ c.args.table.now c.args.place
