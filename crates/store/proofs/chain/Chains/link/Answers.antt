-- The two writes of a link.
use Rattle.std.proofs.Common.{◌<◌, ◌^◌, length, ◌∙◌, add-one, arith, rules}
use Rattle.store.specs.Chains.{bucket_of}
use Rattle.store.specs.Steps.{with_head, with_next}
use Rattle.store.proofs.Amends.{set_amend, pick_read}
use Rattle.store.proofs.Growth.{linked_is}
use Rattle.store.proofs.chain.Chains.link.Goals as goal

pub offset_bounds-table-at : goal.offset_bounds-table-at
offset_bounds-table-at g c = let h : c.bucket-at.result < length c.args.table.now = omega arith in search rules

pub returns : goal.returns
returns g c =
    let m = 2 ^ c.args.self.bits in
    let low : c.bucket-at.result < length c.args.table.now = omega arith in
    linked_is g.K.Key.kind m _ _ _ _ c.bucket-at.result _ _
    (c.bucket-at.ensures.value ∙ pick_read (λ r. bucket_of g.K.Key.kind m r.key) _ _ c.index-table-place.result c.requires.place)
    (pick_read (λ r. r.head) _ _ c.index-table-at.result low)
    (add-one c.args.place) (set_amend (with_next _) _ _ _) (set_amend (with_head _) _ _ _)
