-- The opening: a start that is unpermitted, or the starts stored as the first level. Assumes nothing.
use Rattle.std.proofs.Common.{◌≡◌, ℕ, ◌<◌, ◌≤◌, eqb, List, [], ◌∷◌, length, Some, None, Option, sym, refl, ap, ◌∙◌, subst, inl, inr, ⊎_elim, arith, eqb-true}
use borrow.Author.Tests.{eqb-false}
use Rattle.std.proofs.lemmas.Bool.{cond_both, cond-true, cond-false}
use Rattle.model.specs.Cells.{CellMeaning, In, at}
use Rattle.model.specs.Entries.{Entry}
use Rattle.model.specs.Keys.{KeyMeaning}
use Rattle.model.specs.Runs.{Run, moment, Has}
use Rattle.model.specs.Watches.{WatchMeaning}
use Rattle.model.specs.declared.configuration.Configuration.{Configuration}
use Rattle.levels.specs.Law.{Bad, Clear, Law, Counts, keys}
use Rattle.levels.specs.Units.{Phase, passing, filled, failed, Kept, onward, blamed_start, put_starts, begun, opened}
use Rattle.levels.proofs.Lists.{Entries, at_below, below_at, some_none}
use Rattle.levels.proofs.Looking.{blame_some, blame_none}
use Rattle.levels.proofs.Reaching.{Shortly, Reached, Fine, Closed, Covers}
use Rattle.levels.proofs.Settling.{more_from_over, fails, fails_counted, passes, passes_counted}
use Rattle.levels.proofs.Standings.{InLooking, Good, Stands}
use Rattle.levels.proofs.Storing.{Sound, Grown, Stores, place_of, starts_puts, stores_puts}
use Rattle.levels.proofs.Watching.{RunOf, permitted_from_has, has_one, one_has, onward_moved, moved_onward}

module _ {S : Type 0} (c : CellMeaning) (w : WatchMeaning S) (key : KeyMeaning (Configuration S)) (n : ℕ) where
  blamed_start_some : (xs : List ℕ) (x : ℕ) → blamed_start c w key.alike n xs ≡ Some x → In x xs × (w.step w.first (moment c x x) ≡ None)
  blamed_start_some [] x e = absurd (some_none (sym e))
  blamed_start_some (z ∷ zs) x e =
      ⊎_elim (λ q. (inl q.0, subst (λ (a : ℕ). w.step w.first (moment c a a) ≡ None) (sym q.0) q.1))
      (λ q. let r = blamed_start_some zs x q in (inr r.0, r.1)) (blame_some z (w.step w.first (moment c z z)) (blamed_start c w key.alike n zs) x e)

  blamed_start_none : (xs : List ℕ) → blamed_start c w key.alike n xs ≡ None → (x : ℕ) → In x xs → (t : S) × (w.step w.first (moment c x x) ≡ Some t)
  blamed_start_none [] e x h = absurd h
  blamed_start_none (z ∷ zs) e x (inl q) =
      subst (λ (a : ℕ). (t : S) × (w.step w.first (moment c a a) ≡ Some t)) (sym q) (blame_none z (w.step w.first (moment c z z)) (blamed_start c w key.alike n zs) e).0
  blamed_start_none (z ∷ zs) e x (inr h) = blamed_start_none zs (blame_none z (w.step w.first (moment c z z)) (blamed_start c w key.alike n zs) e).1 x h

  -- no run has no states
  never : (xs : List ℕ) → Run c xs → length xs ≤ 0 → ⊥
  never [] r h = r
  never (x ∷ xs) r h = omega arith

  found : (x : ℕ) → In x c.starts → w.step w.first (moment c x x) ≡ None → Law c w n 0 (failed (x ∷ [])) × Counts c w []
  found x h e =
      let clear : Clear c w 0 = λ xs r l. absurd (never xs r l) in
      let covers : Covers c w 0 0 [] = λ xs k r l. absurd (never xs r.0 l) in
      let bad : Bad c w (x ∷ []) = ((h, tt), λ p. w.stops w.first (moment c x x) e [] p) in (
        fails c w n 0 0 0 [] (x ∷ []) (omega arith) clear covers bad refl,
        fails_counted c w n 0 0 [] (x ∷ []) (record { fits = omega arith; apart = tt; each = λ k a. absurd a }) clear covers bad refl,
      )

  -- an entry whose configuration is that of a start
  abbrev Start : Entry (Configuration S) → Type 0
  Start d = (x : ℕ) × In x c.starts × (t : S) × (w.step w.first (moment c x x) ≡ Some t) × (record { first = x; last = x; state = t } ≡ d.key)

  run_start : (x : ℕ) → In x c.starts → (t : S) → w.step w.first (moment c x x) ≡ Some t → (k : Configuration S) → record { first = x; last = x; state = t } ≡ k → RunOf c w (x ∷ []) k
  run_start x h t e k q = ((h, tt), subst (λ (a : Configuration S). Has c w (x ∷ []) a) q (has_one c w x t e))

  reached_start : (fs : Entries S) (p : ℕ) (d : Entry (Configuration S)) → at fs p ≡ Some d → Start d → Reached c w fs 1 p
  reached_start fs p d q a =
      (d, q, a.0 ∷ [], (d, q, [], refl, ap (λ (l : Configuration S). l.last ∷ []) a.4), run_start a.0 a.1 a.2 a.3 d.key a.4)

  module _ (steps : (x : ℕ) → In x c.starts → (t : S) × (w.step w.first (moment c x x) ≡ Some t)) where
    clear_one : Clear c w 1
    clear_one [] r h = absurd r
    clear_one (x ∷ []) r h = let t = steps x r.0 in permitted_from_has c w (x ∷ []) (record { first = x; last = x; state = t.0 }) (has_one c w x t.0 t.1)
    clear_one (x ∷ y ∷ ys) r h = absurd (let z : ⊥ = omega arith in z)

    module _ (fs : Entries S) (grown : Grown n (Shortly c w 1) Start [] fs)
        (stores : (k : Configuration S) → ((x : ℕ) × In x c.starts × (onward c w key.alike n x w.first x ≡ Some k)) → In k (keys fs)) where
      covers_one : Covers c w 1 (length fs) fs
      covers_one [] k r h = absurd r.0
      covers_one (x ∷ []) k r h =
          let t = one_has c w x k r.1 in
          let a = place_of k fs (stores k (x, r.0.0, moved_onward c w key.alike n x w.first x t.0 t.1 ∙ ap {B = Option (Configuration S)} (λ l. Some l) t.2)) in
          (a.0, below_at fs a.0 a.1 a.2, a.1, a.2, a.3)
      covers_one (x ∷ y ∷ ys) k r h = absurd (let z : ⊥ = omega arith in z)

      all_start : (p : ℕ) → p < length fs → Reached c w fs 1 p
      all_start p h =
          let d = at_below fs p h in
          ⊎_elim (λ q. absurd (some_none (sym q))) (λ q. reached_start fs p d.0 d.1 q.1) (grown.new p d.0 d.1)

      level_one : (length fs ≡ 0 → ⊥) → InLooking c w n 0 fs 1 0 0
      level_one h =
          record {
            sound = grown.sound;
            first = omega arith;
            clear = clear_one;
            covers = covers_one;
            here = λ p a b. all_start p b;
            closed = λ p a. absurd (let z : ⊥ = omega arith in z);
            fine = λ p a. absurd (let z : ⊥ = omega arith in z);
            begun = omega arith;
            inside = omega arith;
            count = refl;
          }

      none : length fs ≡ 0 → Good c w n 0 fs passing
      none h =
          let fine : (p : ℕ) → p < length fs → Fine c w fs p = λ p a. absurd (let z : ⊥ = omega arith in z) in
          let closed : (p : ℕ) → p < length fs → Closed c w fs p = λ p a. absurd (let z : ⊥ = omega arith in z) in (
            passes c w 1 fs (omega arith) clear_one covers_one fine closed n 0 grown.sound.fits,
            passes_counted c w 1 fs (omega arith) clear_one covers_one fine closed n grown.sound,
          )

    stored_stands : (r : Kept S) → Stores n (Shortly c w 1) Start [] r (λ k. (x : ℕ) × In x c.starts × (onward c w key.alike n x w.first x ≡ Some k)) → Stands c w n 0 (begun c w key.alike n None r)
    stored_stands r (inl h) =
        subst (λ (ph : Phase). Good c w n 0 r.stored ph) (sym (cond-true r.full filled _ h.0)) (more_from_over c w n 1 clear_one h.1, h.2)
    stored_stands r (inr h) =
        subst (λ (ph : Phase). Good c w n 0 r.stored ph) (sym (cond-false r.full filled _ h.0))
        (cond_both (eqb (length r.stored) 0) _ _ (λ ph. Good c w n 0 r.stored ph)
        (λ q. none r.stored h.1 h.2 (eqb-true (length r.stored) 0 q)) (λ q. level_one r.stored h.1 h.2 (eqb-false (length r.stored) 0 q)))

  empty : Sound n (Shortly c w 1) []
  empty = record { fits = omega arith; apart = tt; each = λ k h. absurd h }

  stores_starts : Stores n (Shortly c w 1) Start [] (put_starts c w key.alike n c.starts []) (λ k. (x : ℕ) × In x c.starts × (onward c w key.alike n x w.first x ≡ Some k))
  stores_starts =
      let f : ℕ → Option (Configuration S) = λ x. onward c w key.alike n x w.first x in
      subst (λ (a : Kept S). Stores n (Shortly c w 1) Start [] a (λ k. (x : ℕ) × In x c.starts × (f x ≡ Some k))) (sym (starts_puts c w key n c.starts []))
      (stores_puts c w key n (Shortly c w 1) Start f length c.starts [] empty
      (λ x h k q.
      let t = onward_moved c w key.alike n x w.first x k q in
      ((x ∷ [], run_start x h t.0 t.1 k t.2, omega arith), λ ds. (x, h, t.0, t.1, t.2))))

  begun_stands : (o : Option ℕ) → blamed_start c w key.alike n c.starts ≡ o → Stands c w n 0 (begun c w key.alike n o (put_starts c w key.alike n c.starts []))
  begun_stands (Some x) e = let r = blamed_start_some c.starts x e in found x r.0 r.1
  begun_stands None e = stored_stands (blamed_start_none c.starts e) (put_starts c w key.alike n c.starts []) stores_starts

  pub opened_stands : Stands c w n 0 (opened c w key.alike n)
  opened_stands = begun_stands (blamed_start c w key.alike n c.starts) refl
