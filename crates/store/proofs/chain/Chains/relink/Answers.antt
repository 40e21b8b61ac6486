-- One record more is linked.
use Rattle.std.proofs.Common.{◌≡◌, ◌^◌, ap, ◌∙◌, add-one, arith}
use Rattle.store.specs.Steps.{linked, cleared, all_linked}
use Rattle.store.proofs.Growth.{cleared_taken}
use Rattle.store.proofs.chain.Chains.relink.Goals as goal

pub loop-place-preserved : goal.loop-place-preserved
loop-place-preserved g c =
    rw add-one (c.link.ensures ∙ ap (λ xs. linked g.K.Key.kind (2 ^ c.args.self.bits) xs c.loop-place.place) c.loop-place.invariant)

pub returns : goal.returns
returns g c =
    let m = 2 ^ c.args.self.bits in
    let n = c.count-buckets.ensures in
    let all : c.loop-place.place ≡ m = omega arith in
    c.loop-place.invariant ∙ ap (all_linked g.K.Key.kind m _) all
    ∙ ap (λ xs. all_linked g.K.Key.kind m xs m) (cleared_taken c.count-buckets.result c.args.table.now _ (omega arith) c.clear.ensures ∙ ap (cleared c.args.table.now) n)
