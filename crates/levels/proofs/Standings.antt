-- What holds of a check after each unit, by its phase, and that it makes what the check says true. Assumes nothing.
use Rattle.std.proofs.Common.{◌≡◌, ℕ, suc, ◌+◌, ◌<◌, ◌≤◌, [], ◌∷◌, ◌++◌, length, sym, ◌∙◌, subst, add-one, arith}
use Rattle.model.specs.Cells.{CellMeaning}
use Rattle.model.specs.Watches.{WatchMeaning}
use Rattle.levels.specs.Law.{More, Clear, Law, keys, Counts, Tally}
use Rattle.levels.specs.Units.{Phase, looking, extending, passing, failing, filled, Standing, passed, failed, trail, said, says}
use Rattle.levels.proofs.Lists.{Entries}
use Rattle.levels.proofs.Reaching.{Shortly, Reached, Fine, Closed, Covers}
use Rattle.levels.proofs.Storing.{Sound, length_keys}

module _ {S : Type 0} (c : CellMeaning) (w : WatchMeaning S) (n : ℕ) where
  -- looking through level j, which begins at place low, with place i to come
  pub record InLooking (u : ℕ) (es : Entries S) (j low i : ℕ) : Type 0 where
    pub sound : Sound n (Shortly c w j) es
    pub first : 1 ≤ j
    pub clear : Clear c w j
    pub covers : Covers c w j (length es) es
    pub here : (p : ℕ) → low ≤ p → p < length es → Reached c w es j p
    pub closed : (p : ℕ) → p < low → Closed c w es p
    pub fine : (p : ℕ) → p < i → Fine c w es p
    pub begun : low ≤ i
    pub inside : i < length es
    pub count : u ≡ low + i

  -- extending level j, which ends before place end, with place i to come
  pub record InExtending (u : ℕ) (es : Entries S) (j end i : ℕ) : Type 0 where
    pub sound : Sound n (Shortly c w (suc j)) es
    pub first : 1 ≤ j
    pub clear : Clear c w (suc j)
    pub covers : Covers c w j end es
    pub here : (p : ℕ) → i ≤ p → p < end → Reached c w es j p
    pub above : (p : ℕ) → end ≤ p → p < length es → Reached c w es (suc j) p
    pub closed : (p : ℕ) → p < i → Closed c w es p
    pub fine : (p : ℕ) → p < end → Fine c w es p
    pub inside : i < end
    pub bound : end ≤ length es
    pub count : u ≡ end + i

  abbrev pub Good : ℕ → Entries S → Phase → Type 0
  Good u es (looking j low i) = InLooking u es j low i
  Good u es (extending j end i) = InExtending u es j end i
  Good u es passing = Law c w n u passed × Counts c w (keys es)
  Good u es (failing m i y) = Law c w n u (failed (trail es m i ++ (y ∷ []))) × Counts c w (keys es)
  Good u es filled = More c w n × (length es ≡ n)

  abbrev pub Stands : ℕ → Standing S → Type 0
  Stands u s = Good u s.stored s.phase

  law_from_good : (u : ℕ) (es : Entries S) (ph : Phase) → Good u es ph → Law c w n u (said es ph)
  law_from_good u es (looking j low i) g = let f = g.sound.fits in (omega arith, g.clear)
  law_from_good u es (extending j end i) g = let f = g.sound.fits in (omega arith, subst (λ (m : ℕ). Clear c w m) (sym (add-one j)) g.clear)
  law_from_good u es passing g = g.0
  law_from_good u es (failing m i y) g = g.0
  law_from_good u es filled g = g.0

  pub law_from_stands : (u : ℕ) (s : Standing S) → Stands u s → Law c w n u (says s)
  law_from_stands u s g = law_from_good u s.stored s.phase g

  tally_from_good : (u : ℕ) (es : Entries S) (ph : Phase) → Good u es ph → Tally c w n (keys es) (said es ph)
  tally_from_good u es (looking j low i) g = (g.sound.apart, λ k h. let r = g.sound.each k h in (r.0, r.1.0, r.1.1, r.2))
  tally_from_good u es (extending j end i) g = (g.sound.apart, λ k h. let r = g.sound.each k h in let l = r.2 in (r.0, r.1.0, r.1.1, omega arith))
  tally_from_good u es passing g = g.1
  tally_from_good u es (failing m i y) g = g.1
  tally_from_good u es filled g = length_keys es ∙ g.1

  pub tally_from_stands : (u : ℕ) (s : Standing S) → Stands u s → Tally c w n (keys s.stored) (says s)
  tally_from_stands u s g = tally_from_good u s.stored s.phase g
