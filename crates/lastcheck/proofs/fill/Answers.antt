-- One read more: its bytes stand behind those before.
use Rattle.lastcheck.proofs.Reading.{read_more}
use Rattle.lastcheck.proofs.fill.Goals as goal

pub loop-filled-preserved : goal.loop-filled-preserved
loop-filled-preserved g c =
    let read = c.in_ok-count.ensures in
    (read.fits, read_more _ _ _ c.loop-filled.buffer c.read_at.new.buffer c.loop-filled.filled c.in_ok-count.count c.read_at.ensures.front c.loop-filled.invariant.1 read.bytes)
