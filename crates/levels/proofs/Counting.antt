-- Units one after the other: so many and so many more, and that a settled check stays as it is. Assumes nothing.
use Rattle.std.proofs.Common.{◌≡◌, ℕ, zero, suc, ◌+◌, Bool, refl, ap, ◌∙◌, suc-add, zero-add}
use Rattle.model.specs.Cells.{CellMeaning}
use Rattle.model.specs.Watches.{WatchMeaning}
use Rattle.model.specs.declared.configuration.Configuration.{Configuration}
use Rattle.levels.specs.Units.{Standing, opened, unit, units, after}

module _ {S : Type 0} (c : CellMeaning) (w : WatchMeaning S) (same : Configuration S → Configuration S → Bool) (n : ℕ) where
  -- the last of the units may be taken off
  pub unit_last : (u : ℕ) (s : Standing S) → units c w same n (suc u) s ≡ unit c w same n (units c w same n u s)
  unit_last zero s = refl
  unit_last (suc u) s = unit_last u (unit c w same n s)

  pub after_one : (u : ℕ) → after c w same n (suc u) ≡ unit c w same n (after c w same n u)
  after_one u = unit_last u (opened c w same n)

  pub units_more : (a b : ℕ) (s : Standing S) → units c w same n (a + b) s ≡ units c w same n b (units c w same n a s)
  units_more zero b s = ap (λ (m : ℕ). units c w same n m s) (zero-add b)
  units_more (suc a) b s = ap (λ (m : ℕ). units c w same n m s) (suc-add a b) ∙ units_more a b (unit c w same n s)

  pub after_more : (a b : ℕ) → after c w same n (a + b) ≡ units c w same n b (after c w same n a)
  after_more a b = units_more a b (opened c w same n)

  -- a check that a unit leaves as it is stays so
  pub still : (u : ℕ) (s : Standing S) → unit c w same n s ≡ s → units c w same n u s ≡ s
  still zero s e = refl
  still (suc u) s e = ap (λ (a : Standing S). units c w same n u a) e ∙ still u s e
