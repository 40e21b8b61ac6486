-- One next code after another: what meeting a code does to the rest of a unit. Assumes nothing.
use Rattle.std.proofs.Common.{◌≡◌, ℕ, zero, suc, ◌+◌, ◌-◌, ◌≤◌, true, cond, ◌||◌, List, [], ◌∷◌, length, drop, Some, None, Option, Ok, Err, Result, is_err, sym, refl, ap, ◌∙◌, subst, add-one, arith, le-ltb, lt-ltb}
use Rattle.std.specs.Option.{option_map}
use Rattle.std.proofs.lemmas.List.{drop-drop}
use Rattle.model.specs.Cells.{CellMeaning, at}
use Rattle.model.specs.Entries.{Entry}
use Rattle.model.specs.Keys.{KeyMeaning, configuration_key}
use Rattle.model.specs.Runs.{moment}
use Rattle.model.specs.Watches.{WatchMeaning}
use Rattle.model.specs.declared.configuration.Configuration.{Configuration}
use Rattle.levels.specs.Units as units
use Rattle.levels.specs.Units.{Standing, Kept, looking, extending, passing, failing, filled, blame, blamed, put, put_nexts, looked, extended, onward}
use Rattle.store.specs.Entries as stores
use Rattle.store.specs.Entries.{entries}
use Rattle.store.specs.Keeping as keeping
use Rattle.store.specs.Keeping.{KeptSo, old, new, no_place, now_stored}
use Rattle.store.specs.declared.adding.NoPlace.{NoPlace}
use Rattle.store.specs.declared.record.Record.{Record}
use Rattle.store.proofs.Laws.{entries_length, places_all}
use Rattle.checking.specs.declared.state.Check.{Check}
use Rattle.checking.specs.Keeping.{Sound}
use Rattle.checking.specs.Standing.{Met, Same, kept_phase, rest, resting, Adds, view, phase_of, Goes}

-- more places beyond are the same too
pub beyond_more : {A : Type 0} (xs ys : List A) (m n : ℕ) → m ≤ n → drop m ys ≡ drop m xs → drop n ys ≡ drop n xs
beyond_more xs ys m n h e =
    let d : n ≡ m + (n - m) = omega arith in
    ap (λ k. drop k ys) d ∙ sym (drop-drop (n - m) m ys) ∙ ap (drop (n - m)) e ∙ drop-drop (n - m) m xs ∙ ap (λ k. drop k xs) (sym d)

pub adds_none : {S : Type 0} (k : Check) (xs : List (Record (Configuration S))) → Adds k k xs xs
adds_none k xs = record { places = refl; more = omega arith; beyond = refl }

pub adds_trans : {S : Type 0} {k l m : Check} {xs ys zs : List (Record (Configuration S))} → Adds k l xs ys → Adds l m ys zs → Adds k m xs zs
adds_trans {k = k} {l = l} {m = m} {xs = xs} {ys = ys} {zs = zs} a b =
    record {
      places = b.places ∙ a.places;
      more = omega (arith, a.more, b.more);
      beyond = b.beyond ∙ beyond_more xs ys l.stored m.stored b.more a.beyond;
    }

pub adds_same : {S : Type 0} (k k' : Check) (xs ys : List (Record (Configuration S))) → k'.places ≡ k.places → k'.stored ≡ k.stored → ys ≡ xs → Adds k k' xs ys
adds_same k k' xs ys p q e = record { places = p; more = omega (arith, q); beyond = ap (drop k'.stored) e }

module _ {S : Type 0} (kind : KeyMeaning S) where
  -- meeting a code only adds
  pub met_adds : (y : ℕ) (t : Option (Configuration S)) (k k' : Check) (xs ys : List (Record (Configuration S))) (ph ph' : units.Phase) → k'.places ≡ k.places → Met kind y t ph ph' k.stored k'.stored xs ys → Adds k k' xs ys
  met_adds y None k k' xs ys (looking j low i) ph' p h = adds_same k k' xs ys p h.1 h.2
  met_adds y (Some c) k k' xs ys (extending j end i) ph' p h =
      record { places = p; more = omega (arith, h.1.more, h.2); beyond = subst (λ (n : ℕ). drop n ys ≡ drop n xs) (sym h.2) h.1.beyond }
  met_adds y t k k' xs ys ph ph' p h = adds_same k k' xs ys p h.1 h.2

module _ {S : Type 0} (c : CellMeaning) (w : WatchMeaning S) (kind : KeyMeaning S) (n : ℕ) where
  abbrev key : KeyMeaning (Configuration S)
  key = configuration_key kind

  -- the two ways to say that a key is known
  pub known_same : (k : Configuration S) (es : List (Entry (Configuration S))) → units.known c w key.alike n k es ≡ stores.known key es k
  known_same k [] = refl
  known_same k (e ∷ es) = ap (λ b. key.alike e.key k || b) (known_same k es)

  -- what was kept is what the definition puts
  pub kept_put : (xs ys : List (Record (Configuration S))) (m : ℕ) (k : Configuration S) (f : ℕ) (r : Result ℕ NoPlace) → n ≡ length xs → Sound key xs m → keeping.Kept key xs ys m k f r
      → put c w key.alike n (entries xs m) k f ≡ record { stored = entries ys (now_stored m r); full = is_err r }
  kept_put xs ys m k f r e g (old q s) = simp (known_same k (entries xs m), q, s)
  kept_put xs ys m k f r e g (new q l s) =
      simp (known_same k (entries xs m), q, s, lt-ltb (length (entries xs m)) n (omega (arith, entries_length xs m g.indexed.within, places_all xs g.small)))
  kept_put xs ys m k f r e g (no_place q l s) =
      simp (known_same k (entries xs m), q, s, le-ltb (length (entries xs m)) n (omega (arith, entries_length xs m g.indexed.within, places_all xs g.small)))

  -- and what was sound is sound with it
  pub kept_sound : {xs ys : List (Record (Configuration S))} {m : ℕ} {k : Configuration S} {f : ℕ} {r : Result ℕ NoPlace} → KeptSo key xs ys m k f r → Sound key xs m → Sound key ys (now_stored m r)
  kept_sound h g = record { indexed = h.indexed g.indexed; small = omega (arith, h.long, g.small) }

  -- what is sound before a code is met and what the rest of the unit comes to, afterwards
  pub record On (x : ℕ) (s : S) (ys : List ℕ) (y : ℕ) (ph ph' : units.Phase) (m m' : ℕ) (xs zs : List (Record (Configuration S))) : Type 0 where
    pub sound : Sound key zs m'
    pub same : rest c w kind n x s (y ∷ ys) (entries xs m) ph ≡ rest c w kind n x s ys (entries zs m') ph'

  module _ (x : ℕ) (s : S) (y : ℕ) (ys : List ℕ) where
    -- where nothing changed
    on_same : (ph ph' qh : units.Phase) (m m' : ℕ) (xs zs : List (Record (Configuration S))) → Sound key xs m → Same qh ph' m m' xs zs → rest c w kind n x s (y ∷ ys) (entries xs m) ph ≡ rest c w kind n x s ys (entries xs m) qh → On x s ys y ph ph' m m' xs zs
    on_same ph ph' qh m m' xs zs g h e =
        record {
          sound = subst (λ (zs : List (Record (Configuration S))). Sound key zs m') (sym h.2) (subst (λ (m : ℕ). Sound key xs m) (sym h.1) g);
          same = e ∙ (λ i. rest c w kind n x s ys (entries (sym h.2 i) (sym h.1 i)) (sym h.0 i));
        }

    -- where the codes behind y do not matter to the phase, or y does not
    step_none : w.step s (moment c x y) ≡ None → (es : List (Entry (Configuration S))) (j low i : ℕ) → rest c w kind n x s (y ∷ ys) es (looking j low i) ≡ rest c w kind n x s ys es (failing j i y)
    step_none e es j low i = ap (λ o. looked c w key.alike n es j low i (blame y o (blamed c w key.alike n x s ys))) e

    step_some : (t : S) → w.step s (moment c x y) ≡ Some t → (es : List (Entry (Configuration S))) (j low i : ℕ) → rest c w kind n x s (y ∷ ys) es (looking j low i) ≡ rest c w kind n x s ys es (looking j low i)
    step_some t e es j low i = ap (λ o. looked c w key.alike n es j low i (blame y o (blamed c w key.alike n x s ys))) e

    -- what the definition does with a configuration that y turned up, while extending
    step_put : (k : Configuration S) → onward c w key.alike n x s y ≡ Some k → (es : List (Entry (Configuration S))) (r : Kept S) (j end i : ℕ) → put c w key.alike n es k i ≡ r
        → rest c w kind n x s (y ∷ ys) es (extending j end i) ≡ extended c w key.alike n j end i (cond r.full r (put_nexts c w key.alike n i x s ys r.stored))
    step_put k e es r j end i q =
        ap (λ o. extended c w key.alike n j end i (units.and_then c w key.alike n (units.put_new c w key.alike n es o i) (put_nexts c w key.alike n i x s ys))) e
        ∙ ap (λ r. extended c w key.alike n j end i (cond r.full r (put_nexts c w key.alike n i x s ys r.stored))) q

    step_over : onward c w key.alike n x s y ≡ None → (es : List (Entry (Configuration S))) (j end i : ℕ) → rest c w kind n x s (y ∷ ys) es (extending j end i) ≡ rest c w kind n x s ys es (extending j end i)
    step_over e es j end i = ap (λ o. extended c w key.alike n j end i (units.and_then c w key.alike n (units.put_new c w key.alike n es o i) (put_nexts c w key.alike n i x s ys))) e

    step_kept : (k : Configuration S) → onward c w key.alike n x s y ≡ Some k → (xs zs : List (Record (Configuration S))) (m j end i : ℕ) (r : Result ℕ NoPlace) → n ≡ length xs → Sound key xs m → keeping.Kept key xs zs m k i r
        → rest c w kind n x s (y ∷ ys) (entries xs m) (extending j end i) ≡ rest c w kind n x s ys (entries zs (now_stored m r)) (kept_phase r (extending j end i))
    step_kept k e xs zs m j end i (Ok m') q g d = step_put k e (entries xs m) _ j end i (kept_put xs zs m k i (Ok m') q g d)
    step_kept k e xs zs m j end i (Err p) q g d = step_put k e (entries xs m) _ j end i (kept_put xs zs m k i (Err p) q g d)

    pub no_step : onward c w key.alike n x s y ≡ None → w.step s (moment c x y) ≡ None
    no_step e = from (w.step s (moment c x y)) e
      where
        from : (o : Option S) → ◌≡◌ {A = Option (Configuration S)} (option_map (λ t. record { first = x; last = y; state = t }) o) None → o ≡ None
        from None e = refl
        from (Some t) e = absurd (cc)

    pub a_step : (k : Configuration S) → onward c w key.alike n x s y ≡ Some k → (t : S) × (w.step s (moment c x y) ≡ Some t)
    a_step k e = from (w.step s (moment c x y)) e
      where
        from : (o : Option S) → option_map (λ t. record { first = x; last = y; state = t }) o ≡ Some k → (t : S) × (o ≡ Some t)
        from None e = absurd (cc)
        from (Some t) e = (t, refl)

    -- meeting code y is the step from the codes with y in front to the codes behind it
    pub met_on : (t : Option (Configuration S)) (ph ph' : units.Phase) (m m' : ℕ) (xs zs : List (Record (Configuration S))) → n ≡ length xs → t ≡ onward c w key.alike n x s y → Sound key xs m → Met kind y t ph ph' m m' xs zs → On x s ys y ph ph' m m' xs zs
    met_on None (looking j low i) ph' m m' xs zs q e g h = on_same (looking j low i) ph' (failing j i y) m m' xs zs g h (step_none (no_step (sym e)) (entries xs m) j low i)
    met_on (Some k) (looking j low i) ph' m m' xs zs q e g h = let t = a_step k (sym e) in on_same (looking j low i) ph' (looking j low i) m m' xs zs g h (step_some t.0 t.1 (entries xs m) j low i)
    met_on None (extending j end i) ph' m m' xs zs q e g h = on_same (extending j end i) ph' (extending j end i) m m' xs zs g h (step_over (sym e) (entries xs m) j end i)
    met_on (Some k) (extending j end i) ph' m m' xs zs q e g h =
        record {
          sound = subst (λ (m : ℕ). Sound key zs m) (sym h.2) (kept_sound h.1 g);
          same = step_kept k (sym e) xs zs m j end i h.0 q g (h.1.kept g.indexed) ∙ (λ i. rest c w kind n x s ys (entries zs (sym h.2 i)) (sym h.3 i));
        }
    met_on t ph ph' m m' xs zs q e g h = on_same ph ph' ph m m' xs zs g h refl

-- the codes from a place on are the code there and those behind it
pub drop_at : {A : Type 0} (xs : List A) (i : ℕ) (y : A) → at xs i ≡ Some y → drop i xs ≡ y ∷ drop (i + 1) xs
drop_at xs i y e = go xs i e ∙ ap (λ k. y ∷ drop k xs) (sym (add-one i))
  where
    go : (xs : List _) (i : ℕ) → at xs i ≡ Some y → drop i xs ≡ y ∷ drop (suc i) xs
    go [] i e = absurd (cc)
    go (x ∷ xs) zero e = ap (λ z. z ∷ xs) (let z : x ≡ y = cc in z)
    go (x ∷ xs) (suc i) e = go xs i e

pub at_none : {A : Type 0} (xs : List A) (i : ℕ) → at xs i ≡ None → length xs ≤ i
at_none [] i e = omega arith
at_none (x ∷ xs) zero e = absurd (cc)
at_none (x ∷ xs) (suc i) e = omega (arith, at_none xs i e)

module _ {S : Type 0} (c : CellMeaning) (w : WatchMeaning S) (kind : KeyMeaning S) (key : Configuration S) (all : List ℕ) where
  -- one more code
  pub goes_more : {k k₁ k₂ : Check} {xs ys zs : List (Record (Configuration S))} (i y : ℕ) (t : Option (Configuration S))
      → length ys ≡ length xs → at all i ≡ Some y → (c.state key.first ≡ true → t ≡ onward c w (configuration_key kind).alike 0 key.first key.state y)
      → Met kind y t (phase_of k₁.phase) (phase_of k₂.phase) k₁.stored k₂.stored ys zs
      → Goes c w kind key all (drop i all) k k₁ xs ys → Goes c w kind key all (drop (i + 1) all) k k₂ xs zs
  goes_more {k = k} {k₁ = k₁} {k₂ = k₂} {xs = xs} {ys = ys} {zs = zs} i y t q a e h r = record {
    on = λ g st.
        let before = r.on g st in
        let on = met_on c w kind (length xs) key.first key.state y (drop (i + 1) all) t (phase_of k₁.phase) (phase_of k₂.phase) k₁.stored k₂.stored ys zs (sym q) (e st) before.0 h in
        (on.sound, before.1 ∙ ap (λ l. resting c w kind (length xs) key.first key.state l (view k₁ ys)) (drop_at all i y a) ∙ on.same);
  }
