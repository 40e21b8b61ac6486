use Rattle.std.proofs.Common.{sym, refl, ◌∙◌, arith}
use Rattle.store.proofs.Laws.{entry_read}
use Rattle.store.specs.Entries.{entry}
use Rattle.checking.proofs.Turns.{adds_none, adds_trans, adds_same}
use Rattle.checking.proofs.Standings.{settled_stands, next_inside, next_stored, unit_stands}
use Rattle.checking.proofs.state.Check.unit.Goals as goal

pub returns-in_default : goal.returns-in_default
returns-in_default g c =
    record { adds = adds_none _ _; stands = λ u s. settled_stands _ _ _ u _ _ s (sym c.place.ensures ∙ c.in_default.is) }

pub returns-in_default-get-clause-stands : goal.returns-in_default-get-clause-stands
returns-in_default-get-clause-stands g c = λ u s. absurd (omega (arith, next_inside _ _ _ u _ _ s c.in-Some.place (sym c.place.ensures ∙ c.in-Some.is), c.in_default-get.ensures.lookup.3))

pub returns : goal.returns
returns g c =
    record {
      adds = adds_trans c.through.ensures.adds (adds_same _ _ _ _ c.advance.ensures.kept.0 c.advance.ensures.kept.1 refl);
      stands = λ u s.
          let p = sym c.place.ensures ∙ c.in-Some.is in
          let read = c.in-Some-get.record.now in
          let there = entry_read _ _ c.in-Some.place read (next_stored _ _ _ u _ _ s c.in-Some.place p) c.in-Some-get.ensures.lookup.3.0 c.in-Some-get.ensures.lookup.1 in
          unit_stands _ _ _ u _ _ s c.through.new.self c.advance.new.self c.through.new.table c.in-Some.place (entry read) p there
          c.through.auto.table c.through.ensures.adds c.through.ensures.goes c.through.ensures.counts c.advance.ensures.kept c.advance.ensures.phase;
    }
