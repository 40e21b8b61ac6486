-- One unit of looking: a code that makes a run unpermitted is found at its shortest, and a level without one is clear. Assumes nothing.
use Rattle.std.proofs.Common.{◌≡◌, ℕ, suc, ◌+◌, ◌<◌, ◌≤◌, Bool, ltb, ◌⊎◌, List, [], ◌∷◌, length, Some, None, Option, sym, refl, ap, ◌∙◌, subst, inl, inr, ⊎_elim, arith, ltb-false, ltb-true}
use Rattle.std.proofs.lemmas.Bool.{cases_lt, cond_both}
use Rattle.model.specs.Cells.{CellMeaning, In, at}
use Rattle.model.specs.Entries.{Entry}
use Rattle.model.specs.Runs.{moment}
use Rattle.model.specs.Watches.{WatchMeaning}
use Rattle.model.specs.declared.configuration.Configuration.{Configuration}
use Rattle.levels.specs.Law.{Bad, Law, keys, Counts}
use Rattle.levels.specs.Units.{looking, extending, failed, blame, blamed, looked, look, trail}
use Rattle.levels.proofs.Lists.{Entries, push, length_push, some_injective, some_none}
use Rattle.levels.proofs.Reaching.{Fine, line_length, line_trail, clear_more}
use Rattle.levels.proofs.Settling.{fails, fails_counted}
use Rattle.levels.proofs.Standings.{InLooking, InExtending, Good, Stands}
use Rattle.levels.proofs.Watching.{run_push, unpermitted_push}

module _ {S : Type 0} where
  pub blame_some : (z : ℕ) (o : Option S) (r : Option ℕ) (y : ℕ) → blame z o r ≡ Some y → ((y ≡ z) × (o ≡ None)) ⊎ (r ≡ Some y)
  blame_some z None r y e = inl (some_injective (sym e), refl)
  blame_some z (Some t) r y e = inr e

  pub blame_none : (z : ℕ) (o : Option S) (r : Option ℕ) → blame z o r ≡ None → ((t : S) × (o ≡ Some t)) × (r ≡ None)
  blame_none z None r e = absurd (some_none e)
  blame_none z (Some t) r e = ((t, refl), e)

module _ {S : Type 0} (c : CellMeaning) (w : WatchMeaning S) (same : Configuration S → Configuration S → Bool) (n : ℕ) where
  blamed_some : (x : ℕ) (s : S) (ys : List ℕ) (y : ℕ) → blamed c w same n x s ys ≡ Some y → In y ys × (w.step s (moment c x y) ≡ None)
  blamed_some x s [] y e = absurd (some_none (sym e))
  blamed_some x s (z ∷ zs) y e =
      ⊎_elim (λ q. (inl q.0, subst (λ (a : ℕ). w.step s (moment c x a) ≡ None) (sym q.0) q.1))
      (λ q. let r = blamed_some x s zs y q in (inr r.0, r.1)) (blame_some z (w.step s (moment c x z)) (blamed c w same n x s zs) y e)

  blamed_none : (x : ℕ) (s : S) (ys : List ℕ) → blamed c w same n x s ys ≡ None → (y : ℕ) → In y ys → (t : S) × (w.step s (moment c x y) ≡ Some t)
  blamed_none x s [] e y h = absurd h
  blamed_none x s (z ∷ zs) e y (inl q) =
      subst (λ (a : ℕ). (t : S) × (w.step s (moment c x a) ≡ Some t)) (sym q) (blame_none z (w.step s (moment c x z)) (blamed c w same n x s zs) e).0
  blamed_none x s (z ∷ zs) e y (inr h) = blamed_none x s zs (blame_none z (w.step s (moment c x z)) (blamed c w same n x s zs) e).1 y h

  module _ (u : ℕ) (es : Entries S) (j low i : ℕ) (g : InLooking c w n u es j low i) where
    -- a code found at place i
    found : (y : ℕ) (e : Entry (Configuration S)) → at es i ≡ Some e → In y (c.nexts e.key.last) → w.step e.key.state (moment c e.key.first y) ≡ None
        → Law c w n (suc u) (failed (push (trail es j i) y)) × Counts c w (keys es)
    found y e q h none =
        let r = g.here i g.begun g.inside in
        let same_entry = some_injective (sym q ∙ r.1) in
        let k = r.0.key in
        let h' = subst (λ (d : Entry (Configuration S)). In y (c.nexts d.key.last)) same_entry h in
        let none' = subst (λ (d : Entry (Configuration S)). w.step d.key.state (moment c d.key.first y) ≡ None) same_entry none in
        let bad : Bad c w (push r.2 y) = (run_push c w r.2 k y r.4 h', unpermitted_push c w r.2 k y r.4.1 none') in
        let long : length (push r.2 y) ≡ suc j = length_push r.2 y ∙ ap suc (line_length es j i r.2 r.3) in
        subst (λ (zs : List ℕ). Law c w n (suc u) (failed (push zs y)) × Counts c w (keys es)) (sym (line_trail es j i r.2 r.3)) (
          fails c w n (suc u) j (length es) es (push r.2 y) g.sound.fits g.clear g.covers bad long,
          fails_counted c w n j (length es) es (push r.2 y) g.sound g.clear g.covers bad long,
        )

    -- one more place without such a code
    module _ (fine : Fine c w es i) where
      fine_more : (p : ℕ) → p < i + 1 → Fine c w es p
      fine_more p h = ⊎_elim (λ l. g.fine p l) (λ l. subst (λ (a : ℕ). Fine c w es a) (let a : i ≡ p = omega arith in a) fine) (cases_lt p i)

      on : i + 1 < length es → InLooking c w n (suc u) es j low (i + 1)
      on h =
          record {
            sound = g.sound;
            first = g.first;
            clear = g.clear;
            covers = g.covers;
            here = g.here;
            closed = g.closed;
            fine = fine_more;
            begun = omega arith;
            inside = h;
            count = omega arith;
          }

      over : length es ≤ i + 1 → InExtending c w n (suc u) es j (length es) low
      over h =
          let all : (p : ℕ) → p < length es → Fine c w es p = λ p l. fine_more p (omega arith) in
          record {
            sound = record { fits = g.sound.fits; apart = g.sound.apart; each = λ k a. let r = g.sound.each k a in let l = r.2 in (r.0, r.1, omega arith) };
            first = g.first;
            clear = clear_more c w j (length es) es g.first g.covers g.clear all;
            covers = g.covers;
            here = g.here;
            above = λ p a b. absurd (let z : ⊥ = omega arith in z);
            closed = g.closed;
            fine = all;
            inside = omega arith;
            bound = omega arith;
            count = omega arith;
          }

    looked_stands : (e : Entry (Configuration S)) → at es i ≡ Some e → (o : Option ℕ) → blamed c w same n e.key.first e.key.state (c.nexts e.key.last) ≡ o
        → Stands c w n (suc u) (looked c w same n es j low i o)
    looked_stands e q (Some y) b = let r = blamed_some e.key.first e.key.state (c.nexts e.key.last) y b in found y e q r.0 r.1
    looked_stands e q None b =
        let fine : Fine c w es i = (e, q, blamed_none e.key.first e.key.state (c.nexts e.key.last) b) in
        cond_both (ltb (i + 1) (length es)) (looking j low (i + 1)) (extending j (length es) low) (λ ph. Good c w n (suc u) es ph)
        (λ t. on fine (ltb-true (i + 1) (length es) t)) (λ t. over fine (ltb-false (i + 1) (length es) t))

    pub look_stands : Stands c w n (suc u) (look c w same n es j low i (at es i))
    look_stands =
        let r = g.here i g.begun g.inside in
        let e = r.0 in
        subst (λ (o : Option (Entry (Configuration S))). Stands c w n (suc u) (look c w same n es j low i o)) (sym r.1)
        (looked_stands e r.1 (blamed c w same n e.key.first e.key.state (c.nexts e.key.last)) refl)
