-- One head more is cleared.
use Rattle.std.proofs.Common.{◌≡◌, length, ap, ◌∙◌, add-one, arith}
use Rattle.store.specs.Steps.{amend, with_head, cleared}
use Rattle.store.proofs.Amends.{set_amend}
use Rattle.store.proofs.chain.clear.Goals as goal

pub loop-record-preserved : goal.loop-record-preserved
loop-record-preserved g c =
    rw add-one
    (set_amend (with_head 0) _ c.loop-record.record-index c.record-item.result ∙ ap (λ xs. amend (with_head 0) xs c.loop-record.record-index) c.loop-record.invariant)

pub returns : goal.returns
returns g c =
    let all : c.loop-record.record-index ≡ length c.args.heads.now = omega arith in
    c.loop-record.invariant ∙ ap (cleared c.args.heads.now) all
