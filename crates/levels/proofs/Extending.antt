-- One unit of extending: the next configurations are stored with a run of one state more, or there is no room for them. Assumes nothing.
use Rattle.std.proofs.Common.{◌≡◌, ℕ, suc, ◌+◌, ◌<◌, ◌≤◌, cond, eqb, ltb, List, length, Some, Option, sym, refl, ap, ◌∙◌, subst, inl, inr, ⊎_elim, add-one, arith, ltb-false, ltb-true, eqb-true}
use borrow.Author.Tests.{eqb-false}
use Rattle.std.proofs.lemmas.Bool.{cases_lt, cond_both, cond-true, cond-false}
use Rattle.model.specs.Cells.{CellMeaning, In, at}
use Rattle.model.specs.Entries.{Entry}
use Rattle.model.specs.Keys.{KeyMeaning}
use Rattle.model.specs.Runs.{Has}
use Rattle.model.specs.Watches.{WatchMeaning}
use Rattle.model.specs.declared.configuration.Configuration.{Configuration}
use Rattle.levels.specs.Law.{keys}
use Rattle.levels.specs.Units.{Phase, looking, extending, passing, filled, Kept, onward, put_nexts, extended, extend}
use Rattle.levels.proofs.Lists.{Entries, push, length_push, at_below, below_at, some_injective}
use Rattle.levels.proofs.Reaching.{Line, Shortly, Reached, Fine, Closed, Covers, line_length, reached_within, fine_within, closed_within, covers_within, covers_more}
use Rattle.levels.proofs.Settling.{more_from_over, passes, passes_counted}
use Rattle.levels.proofs.Standings.{InLooking, InExtending, Good, Stands}
use Rattle.levels.proofs.Storing.{Grown, Stores, nexts_puts, stores_puts}
use Rattle.levels.proofs.Watching.{RunOf, Steps, moved, run_push, has_push, onward_moved, moved_onward}

module _ {S : Type 0} (c : CellMeaning) (w : WatchMeaning S) (key : KeyMeaning (Configuration S)) (n : ℕ) where
  -- an entry reached from place i, whose configuration is k moved by one of the next codes
  abbrev After : ℕ → Configuration S → Entry (Configuration S) → Type 0
  After i k d = (d.from ≡ i) × (y : ℕ) × In y (c.nexts k.last) × (t : S) × Steps c w k y t × (moved c w k y t ≡ d.key)

  -- a run of one state more
  run_after : (k : Configuration S) (xs : List ℕ) → RunOf c w xs k → (y : ℕ) → In y (c.nexts k.last) → (t : S) → Steps c w k y t → (l : Configuration S) → moved c w k y t ≡ l → RunOf c w (push xs y) l
  run_after k xs r y h t e l q = (run_push c w xs k y r h, subst (λ (a : Configuration S). Has c w (push xs y) a) q (has_push c w xs k y t r.1 e))

  reached_after : (fs : Entries S) (j i p : ℕ) (d : Entry (Configuration S)) → at fs p ≡ Some d → (r : Reached c w fs j i) → After i r.0.key d → Reached c w fs (suc j) p
  reached_after fs j i p d q r a = (
    d,
    q,
    push r.2 a.1,
    (d, q, r.2, subst (λ (m : ℕ). Line fs j m r.2) (sym a.0) r.3, ap (λ (l : Configuration S). push r.2 l.last) a.5),
    run_after r.0.key r.2 r.4 a.1 a.2 a.3 a.4 d.key a.5,
  )

  module _ (u : ℕ) (es : Entries S) (j end i : ℕ) (g : InExtending c w n u es j end i) where
    -- what is stored after place i was extended
    module _ (e : Entry (Configuration S)) (e-at : at es i ≡ Some e) (fs : Entries S) (grown : Grown n (Shortly c w (suc j)) (After i e.key) es fs)
        (stores : (k : Configuration S) → ((y : ℕ) × In y (c.nexts e.key.last) × (onward c w key.alike n e.key.first e.key.state y ≡ Some k)) → In k (keys fs)) where
      closed_more : (p : ℕ) → p < i + 1 → Closed c w fs p
      closed_more p h =
          ⊎_elim (λ l. closed_within c w es fs grown.old p (g.closed p l))
          (λ l. subst (λ (a : ℕ). Closed c w fs a) (let a : i ≡ p = omega arith in a)
          (e, grown.old i e e-at, λ y a t s. stores (moved c w e.key y t) (y, a, moved_onward c w key.alike n e.key.first e.key.state y t s)))
          (cases_lt p i)

      fine_all : (p : ℕ) → p < end → Fine c w fs p
      fine_all p h = fine_within c w es fs grown.old p (g.fine p h)

      covers_old : Covers c w j end fs
      covers_old = covers_within c w es fs grown.old j end g.covers

      above_more : (p : ℕ) → end ≤ p → p < length fs → Reached c w fs (suc j) p
      above_more p a b =
          let d = at_below fs p b in
          ⊎_elim (λ q. reached_within c w es fs grown.old (suc j) p (g.above p a (below_at es p d.0 q)))
          (λ q.
          let r = reached_within c w es fs grown.old j i (g.here i (omega arith) g.inside) in
          let same_entry = some_injective (sym (grown.old i e e-at) ∙ r.1) in
          reached_after fs j i p d.0 d.1 r (subst (λ (k : Entry (Configuration S)). After i k.key d.0) same_entry q.1))
          (grown.new p d.0 d.1)

      on : i + 1 < end → InExtending c w n (suc u) fs j end (i + 1)
      on h =
          record {
            sound = grown.sound;
            first = g.first;
            clear = g.clear;
            covers = covers_old;
            here = λ p a b. reached_within c w es fs grown.old j p (g.here p (omega arith) b);
            above = above_more;
            closed = closed_more;
            fine = fine_all;
            inside = h;
            bound = (let a = grown.longer in let b = g.bound in omega arith);
            count = omega arith;
          }

      module _ (ended : end ≤ i + 1) where
        closed_all : (p : ℕ) → p < end → Closed c w fs p
        closed_all p h = closed_more p (omega arith)

        long : end ≤ length fs
        long = let a = grown.longer in let b = g.bound in omega arith

        covers_new : Covers c w (suc j) (length fs) fs
        covers_new = covers_more c w j end fs g.first covers_old long closed_all

        next : (length fs ≡ end → ⊥) → InLooking c w n (suc u) fs (suc j) end end
        next h =
            record {
              sound = grown.sound;
              first = omega arith;
              clear = g.clear;
              covers = covers_new;
              here = above_more;
              closed = closed_all;
              fine = fine_all;
              begun = omega arith;
              inside = (let a = long in omega arith);
              count = (let a = g.inside in let b = g.count in omega arith);
            }

        done : length fs ≡ end → Good c w n (suc u) fs passing
        done h =
            let fine : (p : ℕ) → p < length fs → Fine c w fs p = λ p a. fine_all p (omega arith) in
            let closed : (p : ℕ) → p < length fs → Closed c w fs p = λ p a. closed_all p (omega arith) in (
              passes c w (suc j) fs (omega arith) g.clear covers_new fine closed n (suc u) grown.sound.fits,
              passes_counted c w (suc j) fs (omega arith) g.clear covers_new fine closed n grown.sound,
            )

      grown_stands : Good c w n (suc u) fs (cond (ltb (i + 1) end) (extending j end (i + 1)) (cond (eqb (length fs) end) passing (looking (j + 1) end end)))
      grown_stands =
          cond_both (ltb (i + 1) end) _ _ (λ ph. Good c w n (suc u) fs ph) (λ t. on (ltb-true (i + 1) end t))
          (λ t.
          let ended = ltb-false (i + 1) end t in
          cond_both (eqb (length fs) end) _ _ (λ ph. Good c w n (suc u) fs ph) (λ q. done ended (eqb-true (length fs) end q))
          (λ q. subst (λ (m : ℕ). InLooking c w n (suc u) fs m end end) (sym (add-one j)) (next ended (eqb-false (length fs) end q))))

    extended_stands : (e : Entry (Configuration S)) → at es i ≡ Some e → (r : Kept S)
        → Stores n (Shortly c w (suc j)) (After i e.key) es r (λ k. (y : ℕ) × In y (c.nexts e.key.last) × (onward c w key.alike n e.key.first e.key.state y ≡ Some k))
        → Stands c w n (suc u) (extended c w key.alike n j end i r)
    extended_stands e q r (inl h) =
        subst (λ (ph : Phase). Good c w n (suc u) r.stored ph) (sym (cond-true r.full filled _ h.0)) (more_from_over c w n (suc j) g.clear h.1, h.2)
    extended_stands e q r (inr h) =
        subst (λ (ph : Phase). Good c w n (suc u) r.stored ph) (sym (cond-false r.full filled _ h.0)) (grown_stands e q r.stored h.1 h.2)

    stores_nexts : (r : Reached c w es j i)
        → Stores n (Shortly c w (suc j)) (After i r.0.key) es (put_nexts c w key.alike n i r.0.key.first r.0.key.state (c.nexts r.0.key.last) es)
        (λ k. (y : ℕ) × In y (c.nexts r.0.key.last) × (onward c w key.alike n r.0.key.first r.0.key.state y ≡ Some k))
    stores_nexts r =
        let k = r.0.key in
        let f = onward c w key.alike n k.first k.state in
        subst (λ (a : Kept S). Stores n (Shortly c w (suc j)) (After i k) es a (λ l. (y : ℕ) × In y (c.nexts k.last) × (f y ≡ Some l))) (sym (nexts_puts c w key n i k.first k.state (c.nexts k.last) es))
        (stores_puts c w key n (Shortly c w (suc j)) (After i k) f (λ ds. i) (c.nexts k.last) es g.sound
        (λ y h l q.
        let t = onward_moved c w key.alike n k.first k.state y l q in
        let a = line_length es j i r.2 r.3 in
        let b = length_push r.2 y in
        ((push r.2 y, run_after k r.2 r.4 y h t.0 t.1 l t.2, omega arith), λ ds. (refl, y, h, t.0, t.1, t.2))))

    pub extend_stands : Stands c w n (suc u) (extend c w key.alike n es j end i (at es i))
    extend_stands =
        let r = g.here i (omega arith) g.inside in
        subst (λ (o : Option (Entry (Configuration S))). Stands c w n (suc u) (extend c w key.alike n es j end i o)) (sym r.1)
        (extended_stands r.0 r.1 (put_nexts c w key.alike n i r.0.key.first r.0.key.state (c.nexts r.0.key.last) es) (stores_nexts r))
