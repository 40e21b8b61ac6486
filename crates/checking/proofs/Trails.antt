-- Going back along the places that records were reached from. Assumes nothing.
use Rattle.std.proofs.Common.{◌≡◌, ℕ, zero, suc, ◌+◌, ◌-◌, ◌<◌, ◌≤◌, cond, ltb, ◌≢◌, List, [], ◌∷◌, ◌++◌, length, get_or, set, Some, None, Option, MatchOption, Bor, sym, refl, ap, ◌∙◌, subst, inl, inr, arith, length-append, length-set, get_or-set_other, get_or-set_same, le-ltb, lt-ltb}
use Rattle.std.specs.Slice.{IsItemAt}
use Rattle.std.proofs.lemmas.Bool.{cases_lt}
use Rattle.std.proofs.lemmas.List.{get_or_append_left}
use Rattle.model.specs.Cells.{at}
use Rattle.model.specs.Entries.{Entry}
use Rattle.model.specs.declared.configuration.Configuration.{Configuration}
use Rattle.levels.specs.Units.{from_at, last_at, trail}
use Rattle.levels.proofs.Reaching.{from_at_is, last_at_is}
use Rattle.store.specs.Entries.{entry}
use Rattle.store.specs.declared.record.Record.{Record}
use Rattle.store.proofs.Laws.{entries_length, entry_read}
use Rattle.checking.specs.Showing.{whole, back_at}

at_front : {A : Type 0} (xs : List A) (y : A) (p : ℕ) → p < length xs → at (xs ++ (y ∷ [])) p ≡ at xs p
at_front [] y p h = absurd (omega arith)
at_front (x ∷ xs) y zero h = refl
at_front (x ∷ xs) y (suc p) h = at_front xs y p (omega arith)

at_end : {A : Type 0} (xs : List A) (y : A) (p : ℕ) → p ≡ length xs → at (xs ++ (y ∷ [])) p ≡ Some y
at_end [] y p e = ap (at (y ∷ [])) e
at_end (x ∷ xs) y zero e = absurd (omega arith)
at_end (x ∷ xs) y (suc p) e = at_end xs y p (omega arith)

module _ {S : Type 0} where
  from_past : (es : List (Entry (Configuration S))) (i : ℕ) → length es ≤ i → from_at es i ≡ 0
  from_past [] i h = refl
  from_past (e ∷ es) zero h = absurd (omega arith)
  from_past (e ∷ es) (suc i) h = from_past es i (omega arith)

  last_past : (es : List (Entry (Configuration S))) (i : ℕ) → length es ≤ i → last_at es i ≡ 0
  last_past [] i h = refl
  last_past (e ∷ es) zero h = absurd (omega arith)
  last_past (e ∷ es) (suc i) h = last_past es i (omega arith)

  module _ (xs : List (Record (Configuration S))) (i : ℕ) where
    there : (r : Record (Configuration S)) → i < length xs → r ≡ get_or xs i r → at (whole xs) i ≡ Some (entry r)
    there r h e = entry_read xs (length xs) i r h h e

    past : length xs ≤ i → length (whole xs) ≤ i
    past h = omega (arith, entries_length xs (length xs) (omega arith))

    -- what a look at a place reads there
    pub read_from : (o : Option (Bor (Record (Configuration S)))) (v : ℕ) → IsItemAt xs i o → MatchOption o (v ≡ 0) (λ r. v ≡ r.now.from) → v ≡ from_at (whole xs) i
    read_from None v l h = h ∙ sym (from_past (whole xs) i (past l.3))
    read_from (Some r) v l h = h ∙ sym (from_at_is (whole xs) i (entry r.now) (there r.now l.3.0 l.1))

    pub read_last : (o : Option (Bor (Record (Configuration S)))) (v : ℕ) → IsItemAt xs i o → MatchOption o (v ≡ 0) (λ r. v ≡ r.now.key.last) → v ≡ last_at (whole xs) i
    read_last None v l h = h ∙ sym (last_past (whole xs) i (past l.3))
    read_last (Some r) v l h = h ∙ sym (last_at_is (whole xs) i (entry r.now) (there r.now l.3.0 l.1))

  -- one step of going back
  pub back_more : (es : List (Entry (Configuration S))) (m s i : ℕ) → s < m → back_at es (m - s) i ≡ back_at es (m - (s + 1)) (from_at es i)
  back_more es m s i h = ap (λ k. back_at es k i) (let e : m - s ≡ suc (m - (s + 1)) = omega arith in e)

  pub trail_length : (es : List (Entry (Configuration S))) (m i : ℕ) → length (trail es m i) ≡ m
  trail_length es zero i = refl
  trail_length es (suc m) i = length-append (trail es m (from_at es i)) (last_at es i ∷ []) ∙ omega (arith, trail_length es m (from_at es i))

  pub run_length : (es : List (Entry (Configuration S))) (m i y : ℕ) → length (trail es m i ++ (y ∷ [])) ≡ m + 1
  run_length es m i y = length-append (trail es m i) (y ∷ []) ∙ omega (arith, trail_length es m i)

  trail_at : (es : List (Entry (Configuration S))) (m i p : ℕ) → p < m → at (trail es m i) p ≡ Some (last_at es (back_at es (m - 1 - p) i))
  trail_at es zero i p h = absurd (omega arith)
  trail_at es (suc m) i p h =
      let long = trail_length es m (from_at es i) in
      elim (cases_lt p m) [
        | inl l ↦
            at_front (trail es m (from_at es i)) (last_at es i) p (omega (arith, long))
            ∙ trail_at es m (from_at es i) p l
            ∙ ap (λ k. Some (last_at es (back_at es k i))) (let e : suc (m - 1 - p) ≡ suc m - 1 - p = omega arith in e)
        | inr l ↦
            at_end (trail es m (from_at es i)) (last_at es i) p (omega (arith, long))
            ∙ ap (λ k. Some (last_at es (back_at es k i))) (let e : 0 ≡ suc m - 1 - p = omega arith in e)
      ]

  -- the code at a place of a shown run
  pub run_at : (es : List (Entry (Configuration S))) (m i y p : ℕ) → p < m → at (trail es m i ++ (y ∷ [])) p ≡ Some (last_at es (back_at es (m - 1 - p) i))
  run_at es m i y p h = at_front (trail es m i) y p (omega (arith, trail_length es m i)) ∙ trail_at es m i p h

  pub run_end : (es : List (Entry (Configuration S))) (m i y p : ℕ) → p ≡ m → at (trail es m i ++ (y ∷ [])) p ≡ Some y
  run_end es m i y p e = at_end (trail es m i) y p (e ∙ sym (trail_length es m i))

get_or_at : (xs : List ℕ) (i y : ℕ) → at xs i ≡ Some y → get_or xs i 0 ≡ y
get_or_at [] i y e = absurd (cc)
get_or_at (x ∷ xs) zero y e = let z : x ≡ y = cc in z
get_or_at (x ∷ xs) (suc i) y e = get_or_at xs i y e

module _ {S : Type 0} (es : List (Entry (Configuration S))) where
  -- a step more, from the far end
  back_out : (k i : ℕ) → back_at es (suc k) i ≡ from_at es (back_at es k i)
  back_out zero i = refl
  back_out (suc k) i = back_out k (from_at es i)

  module _ (end place : ℕ) (old : List ℕ) where
    -- the codes from place `left` on are written, and `at` is the place whose code comes next
    pub record Handing (new : List ℕ) (left now : ℕ) : Type 0 where
      pub code : (j : ℕ) → j < length new → left ≤ j → get_or new j 0 ≡ cond (ltb j end) (get_or (trail es end place) j 0) (get_or old j 0)
      pub still : (j : ℕ) → j < left → get_or new j 0 ≡ get_or old j 0
      pub back : now ≡ back_at es (end - left) place

    pub handing_more : (new : List ℕ) (left now : ℕ) → 0 < left → left ≤ end → Handing new left now → Handing (set new (left - 1) (last_at es now)) (left - 1) (from_at es now)
    handing_more new left now some most h =
        let p = left - 1 in
        let here : p < length new → get_or (set new p (last_at es now)) p 0 ≡ cond (ltb p end) (get_or (trail es end place) p 0) (get_or old p 0) =
        λ l.
        get_or-set_same new p (last_at es now) 0 l
        ∙ ap (last_at es) (h.back ∙ ap (λ k. back_at es k place) (let e : end - left ≡ end - 1 - p = omega arith in e))
        ∙ sym (get_or_at (trail es end place) p _ (trail_at es end place p (omega arith)))
        ∙ simp (lt-ltb p end (omega arith)) in
        record {
          code = λ j l m. elim (cases_lt p j) [
            | inl q ↦ let ne : j ≢ p = λ e. omega arith in get_or-set_other new p j (last_at es now) 0 ne ∙ h.code j (omega (arith, length-set new p (last_at es now))) (omega arith)
            | inr q ↦ let e : p ≡ j = omega arith in subst (λ (j : ℕ). get_or (set new p (last_at es now)) j 0 ≡ cond (ltb j end) (get_or (trail es end place) j 0) (get_or old j 0)) e (here (omega (arith, length-set new p (last_at es now))))
          ];
          still = λ j l. let ne : j ≢ p = λ e. omega arith in get_or-set_other new p j (last_at es now) 0 ne ∙ h.still j (omega arith);
          back = ap (from_at es) h.back ∙ sym (back_out (end - left) place) ∙ ap (λ k. back_at es k place) (let e : suc (end - left) ≡ end - p = omega arith in e);
        }

    -- behind the code that settled the check
    pub run_handed : (code : ℕ) (new : List ℕ) → length new ≡ length old → ((j : ℕ) → j < length new → get_or new j 0 ≡ cond (ltb j end) (get_or (trail es end place) j 0) (get_or (set old end code) j 0))
        → (j : ℕ) → j < length new → get_or new j 0 ≡ cond (ltb j (end + 1)) (get_or (trail es end place ++ (code ∷ [])) j 0) (get_or old j 0)
    run_handed code new long h j l =
        elim (cases_lt j end) [
          | inl q ↦
              h j l ∙ simp (lt-ltb j end q, lt-ltb j (end + 1) (omega arith))
              (sym (get_or_append_left (trail es end place) (code ∷ []) 0 j (omega (arith, trail_length es end place))))
          | inr q ↦ elim (cases_lt end j) [
            | inl r ↦
                let ne : j ≢ end = λ e. omega arith in
                h j l ∙ simp (le-ltb j end q, le-ltb j (end + 1) (omega arith)) (get_or-set_other old end j code 0 ne)
            | inr r ↦
                let e : end ≡ j = omega arith in
                h j l ∙ simp (le-ltb j end q, lt-ltb j (end + 1) (omega arith))
                (subst (λ (j : ℕ). get_or (set old end code) j 0 ≡ get_or (trail es end place ++ (code ∷ [])) j 0) e
                (get_or-set_same old end code 0 (omega (arith, long)) ∙ sym (get_or_at (trail es end place ++ (code ∷ [])) end code (run_end es end place code end refl))))
          ]
        ]
