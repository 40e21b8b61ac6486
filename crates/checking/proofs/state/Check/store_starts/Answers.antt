use Rattle.std.proofs.Common.{◌≡◌, ◌+◌, drop, sym, ◌∙◌, subst, arith, rules}
use Rattle.checking.specs.Opening.{Storing}
use Rattle.checking.proofs.Starts.{storing_more, storing_full}
use Rattle.checking.proofs.Turns.{at_none}
use Rattle.checking.proofs.state.Check.store_starts.Goals as goal
use Rattle.checking.proofs.state.Check.store_starts.Goals.{in-Some+in_ok-store_start, in_default}

pub returns-in_err-store_start-clause-stores : goal.returns-in_err-store_start-clause-stores
returns-in_err-store_start-clause-stores g c = λ z.
    storing_full _ _ _ c.loop-place.place c.in-Some.code (sym c.start_at.ensures ∙ c.in-Some.is) _ _ _ _ c.loop-place.auto.table (c.loop-place.invariant.1 z) _ _ _ c.in_err-store_start.ensures.stores (search rules)

pub loop-place-preserved : goal.loop-place-preserved
loop-place-preserved g c =
    let cell = g.C.Cell.cell c.args.product.now.cell.now in
    let watch = g.W.Watch.watch c.args.product.now.watch.now in
    elim c.match-start_at.branch [
      | in-Some+in_ok-store_start w ↦
          subst (λ k. (k.places ≡ c.args.self.now.places) × (c.args.self.now.stored ≡ 0 → Storing cell watch g.W.State.Key.kind (drop (c.loop-place.place + 1) cell.starts) c.args.table.now c.match-start_at.table k.stored)) (sym w.self-is)
          (subst (λ t. (w.store_start.new.self.places ≡ c.args.self.now.places) × (c.args.self.now.stored ≡ 0 → Storing cell watch g.W.State.Key.kind (drop (c.loop-place.place + 1) cell.starts) c.args.table.now t w.store_start.new.self.stored)) (sym w.table-is) (
            w.store_start.ensures.places ∙ c.loop-place.invariant.0,
            λ z. storing_more _ _ _ c.loop-place.place w.in-Some.code (sym c.start_at.ensures ∙ w.in-Some.is) _ _ _ _ c.loop-place.auto.table (c.loop-place.invariant.1 z) _ _ w.in_ok-store_start.ensures.stores,
          ))
      | in_default w ↦ absurd (omega (arith, at_none cell.starts c.loop-place.place (sym c.start_at.ensures ∙ w.in_default.is), c.start_count-place-end.ensures))
    ]
