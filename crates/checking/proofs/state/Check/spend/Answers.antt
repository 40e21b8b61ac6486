use Rattle.std.proofs.Common.{◌≡◌, ℕ, ◌+◌, ◌-◌, sym, ◌∙◌, subst, add_assoc, arith}
use Rattle.checking.specs.Standing.{Stands}
use Rattle.checking.proofs.Turns.{adds_trans}
use Rattle.checking.proofs.Standings.{no_place, settled_more}
use Rattle.checking.proofs.state.Check.spend.Goals as goal

pub returns-then-is_none : goal.returns-then-is_none
returns-then-is_none g c =
    record {
      adds = c.loop-spent.invariant.0;
      stands = λ u s.
          let rest : (u + c.loop-spent._spent) + (c.args.units - c.loop-spent._spent) ≡ u + c.args.units = omega arith in
          subst (λ (v : ℕ). Stands (g.C.Cell.cell c.args.product.now.cell.now) (g.W.Watch.watch c.args.product.now.watch.now) g.W.State.Key.kind v c.loop-spent.self c.loop-spent.table) rest
          (settled_more _ _ _ (c.args.units - c.loop-spent._spent) _ _ _ (sym c.place.ensures ∙ no_place _ c.if-is_none.ensures) (c.loop-spent.invariant.1 u s));
    }

pub loop-spent-preserved : goal.loop-spent-preserved
loop-spent-preserved g c = (
  adds_trans c.loop-spent.invariant.0 c.unit.ensures.adds,
  λ u s. subst (λ (v : ℕ). Stands (g.C.Cell.cell c.args.product.now.cell.now) (g.W.Watch.watch c.args.product.now.watch.now) g.W.State.Key.kind v c.unit.new.self c.unit.new.table) (add_assoc u c.loop-spent._spent 1) (c.unit.ensures.stands (u + c.loop-spent._spent) (c.loop-spent.invariant.1 u s)),
)

pub returns : goal.returns
returns g c =
    record {
      adds = c.loop-spent.invariant.0;
      stands = λ u s.
          let all : u + c.loop-spent._spent ≡ u + c.args.units = omega arith in
          subst (λ (v : ℕ). Stands (g.C.Cell.cell c.args.product.now.cell.now) (g.W.Watch.watch c.args.product.now.watch.now) g.W.State.Key.kind v c.loop-spent.self c.loop-spent.table) all (c.loop-spent.invariant.1 u s);
    }
