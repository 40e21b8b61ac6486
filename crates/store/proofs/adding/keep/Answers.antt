-- The answers of adding, told by how many are stored.
use Rattle.std.proofs.Common.{◌≡◌, ◌+◌, length, drop, Some, None, Ok, Err, sym, refl, ap, subst, arith}
use Rattle.std.proofs.lemmas.Result.{err_from_is_err_and}
use Rattle.store.specs.Chains.{Indexed}
use Rattle.store.specs.declared.adding.Added.TheVariants.{Known, New}
use Rattle.store.specs.Keeping.{old, new, no_place}
use Rattle.store.proofs.Laws.{found_known}
use Rattle.store.proofs.adding.keep.Goals as goal

pub returns-in_err-add : goal.returns-in_err-add
returns-in_err-add g c =
    let p = err_from_is_err_and c.from_residual.result c.from_residual.ensures.1 in
    let a = c.in_err-add.ensures in
    rw p.1
    (record {
      kept = λ ix. no_place (sym (found_known g.K.Key.kind _ _ None (a.1 ix))) a.2 a.0;
      indexed = λ ix. subst (λ zs. Indexed g.K.Key.kind zs c.args.stored) (sym a.0) ix;
      added = (Err _, a, refl);
      more = omega arith;
      long = ap length a.0;
      beyond = ap (drop c.args.stored) a.0;
    })

pub returns-in-Known : goal.returns-in-Known
returns-in-Known g c =
    let a = rw c.in-Known.is at c.in_ok-add.ensures in
    record {
      kept = λ ix. old (sym (found_known g.K.Key.kind _ _ (Some c.in-Known.field-0) (a.1.1 ix))) a.0;
      indexed = λ ix. subst (λ zs. Indexed g.K.Key.kind zs c.args.stored) (sym a.0) ix;
      added = (Ok (Known c.in-Known.field-0), a, refl);
      more = omega arith;
      long = ap length a.0;
      beyond = ap (drop c.args.stored) a.0;
    }

pub returns-in-New : goal.returns-in-New
returns-in-New g c =
    let a = rw c.in-New.is at c.in_ok-add.ensures in
    let one : c.saturating_add.result ≡ c.args.stored + 1 = omega (arith, c.saturating_add.ensures, a.1.room) in
    rw one
    (record {
      kept = λ ix. new (sym (found_known g.K.Key.kind _ _ None (a.0 ix))) a.1.room a.1.stored;
      indexed = a.2;
      added = (Ok New, a, refl);
      more = omega arith;
      long = a.1.long;
      beyond = a.1.beyond;
    })
