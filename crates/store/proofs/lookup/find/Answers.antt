-- A look-up: where it starts, a turn, and its ends.
use Rattle.std.proofs.Common.{◌^◌, sym, subst, arith, ◌≡◌}
use Rattle.store.proofs.Walks.{Walks, walks_from, walks_end, turn_found, turn_low, turn_on}
use Rattle.store.proofs.lookup.find.Goals as goal

pub returns-then-stored-link : goal.returns-then-stored-link
returns-then-stored-link g c ix _ =
    let p = walks_from g.K.Key.kind c.args.table.now c.args.stored (2 ^ c.of-chains.result.bits) c.bucket.result c.args.key.now c.index-table-bucket.result c.of-chains.ensures (omega arith) c.bucket.ensures.below c.bucket.ensures.value in
    omega (arith, p.0 ix)

pub loop-place-init : goal.loop-place-init
loop-place-init g c =
    (omega arith, (walks_from g.K.Key.kind _ _ _ _ _ c.index-table-bucket.result c.of-chains.ensures (omega arith) c.bucket.ensures.below c.bucket.ensures.value).1)

pub returns-then-same : goal.returns-then-same
returns-then-same g c =
    turn_found g.K.Key.kind _ _ _ _ _ _ _ c.of-chains.ensures (omega arith) (omega arith) c.loop-place.invariant.0 c.index-table-place.is c.loop-place.invariant.1 (sym c.if-same.ensures)

pub returns-then-next-link : goal.returns-then-next-link
returns-then-next-link g c ix _ =
    omega (arith, turn_low g.K.Key.kind _ _ _ _ _ _ _ c.of-chains.ensures (omega arith) (omega arith) c.loop-place.invariant.0 c.index-table-place.is c.loop-place.invariant.1 ix)

pub loop-place-preserved : goal.loop-place-preserved
loop-place-preserved g c = (
  omega arith,
  turn_on g.K.Key.kind _ _ _ _ _ _ _ c.of-chains.ensures (omega arith) (omega arith) c.loop-place.invariant.0 c.index-table-place.is c.loop-place.invariant.1 (sym c.if-same.ensures),
)

pub returns : goal.returns
returns g c =
    let none : c.loop-place.link ≡ 0 = omega arith in
    walks_end g.K.Key.kind _ _ _ _ c.of-chains.ensures (subst (Walks g.K.Key.kind _ _ _) none c.loop-place.invariant.1)
