-- The law of a check, for every cell, watch, number of places and number of units. Assumes nothing.
use Rattle.std.proofs.Common.{ℕ, zero, suc, sym, subst}
use Rattle.model.specs.Cells.{CellMeaning}
use Rattle.model.specs.Keys.{KeyMeaning}
use Rattle.model.specs.Watches.{WatchMeaning}
use Rattle.model.specs.declared.configuration.Configuration.{Configuration}
use Rattle.levels.specs.Law.{Law, keys, Tally}
use Rattle.levels.specs.Units.{Phase, looking, extending, passing, failing, filled, Standing, turn, after, says}
use Rattle.levels.proofs.Lists.{Entries}
use Rattle.levels.proofs.Counting.{after_one}
use Rattle.levels.proofs.Extending.{extend_stands}
use Rattle.levels.proofs.Looking.{look_stands}
use Rattle.levels.proofs.Opening.{opened_stands}
use Rattle.levels.proofs.Standings.{Good, Stands, law_from_stands, tally_from_stands}

module _ {S : Type 0} (c : CellMeaning) (w : WatchMeaning S) (key : KeyMeaning (Configuration S)) (n : ℕ) where
  turn_stands : (u : ℕ) (es : Entries S) (ph : Phase) → Good c w n u es ph → Stands c w n (suc u) (turn c w key.alike n es ph)
  turn_stands u es (looking j low i) g = look_stands c w key.alike n u es j low i g
  turn_stands u es (extending j end i) g = extend_stands c w key n u es j end i g
  turn_stands u es passing g = g
  turn_stands u es (failing m i y) g = g
  turn_stands u es filled g = g

  pub stands : (u : ℕ) → Stands c w n u (after c w key.alike n u)
  stands zero = opened_stands c w key n
  stands (suc u) =
      let s = after c w key.alike n u in
      subst (λ (a : Standing S). Stands c w n (suc u) a) (sym (after_one c w key.alike n u)) (turn_stands u s.stored s.phase (stands u))

pub law : {S : Type 0} (c : CellMeaning) (w : WatchMeaning S) (k : KeyMeaning (Configuration S)) (n u : ℕ) → Law c w n u (says (after c w k.alike n u))
law c w k n u = law_from_stands c w n u (after c w k.alike n u) (stands c w k n u)

pub tally : {S : Type 0} (c : CellMeaning) (w : WatchMeaning S) (k : KeyMeaning (Configuration S)) (n u : ℕ) → Tally c w n (keys (after c w k.alike n u).stored) (says (after c w k.alike n u))
tally c w k n u = tally_from_stands c w n u (after c w k.alike n u) (stands c w k n u)
