-- How a check that stands as after u units comes to stand as after more of them. Assumes nothing.
use Rattle.std.proofs.Common.{◌≡◌, ℕ, zero, suc, ◌+◌, ◌<◌, ◌≤◌, Bool, false, List, [], length, Some, None, Option, is_some, sym, refl, ap, ◌∙◌, subst, add-zero, add-one, arith}
use Rattle.std.proofs.lemmas.Bool.{true≢false}
use Rattle.model.specs.Cells.{CellMeaning, at}
use Rattle.model.specs.Entries.{Entry}
use Rattle.model.specs.Keys.{KeyMeaning, configuration_key}
use Rattle.model.specs.Watches.{WatchMeaning}
use Rattle.model.specs.declared.configuration.Configuration.{Configuration}
use Rattle.levels.specs.Units as units
use Rattle.levels.specs.Units.{Standing, looking, extending, passing, failing, filled, look, extend, turn, unit}
use Rattle.levels.proofs.Counting.{after_one}
use Rattle.store.specs.Entries.{entries}
use Rattle.store.specs.declared.record.Record.{Record}
use Rattle.store.proofs.Laws.{entries_length}
use Rattle.checking.specs.declared.phase.Phase.{Phase}
use Rattle.checking.specs.declared.phase.Phase.TheVariants.{Looking, Extending}
use Rattle.checking.specs.declared.state.Check.{Check}
use Rattle.checking.specs.Keeping.{Sound}
use Rattle.checking.specs.Standing.{phase_of, place_of, view, after, Stands, Adds, Goes, Countable, advanced, rest}
use Rattle.checking.proofs.Bounds.{Facts, Ready, ready}

-- a working check's numbers can be counted one further
countable : {S : Type 0} (c : CellMeaning) (n : ℕ) (es : List (Entry (Configuration S))) (ph : Phase) → n ≤ 1000000 → Ready c n es (phase_of ph) → Countable ph
countable c n es (Looking j low i) h r = (omega (arith, r.level), omega (arith, r.next, r.fits))
countable c n es (Extending j end i) h r = (omega (arith, r.level), omega (arith, r.next, r.fits))
countable c n es ph h r = tt

-- what comes next is the place of a stored configuration that began in a state
facts_at : {S : Type 0} (c : CellMeaning) (n : ℕ) (es : List (Entry (Configuration S))) (ph : units.Phase) (i : ℕ) → place_of ph ≡ Some i → Ready c n es ph → (j : ℕ) × Facts c n es j i
facts_at c n es (looking j low i) k e r = (j, subst (λ (i : ℕ). Facts c n es j i) (let z : i ≡ k = cc in z) r)
facts_at c n es (extending j end i) k e r = (j, subst (λ (i : ℕ). Facts c n es j i) (let z : i ≡ k = cc in z) r)
facts_at c n es ph k e r = absurd (cc)

module _ {S : Type 0} (c : CellMeaning) (w : WatchMeaning S) (kind : KeyMeaning S) (n : ℕ) where
  abbrev alike : Configuration S → Configuration S → Bool
  alike = (configuration_key kind).alike

  -- with no code to come, the unit ends
  rest_none : (x : ℕ) (s : S) (es : List (Entry (Configuration S))) (ph : units.Phase) → rest c w kind n x s [] es ph ≡ record { stored = es; phase = advanced ph (length es) }
  rest_none x s es (looking j low i) = refl
  rest_none x s es (extending j end i) = refl
  rest_none x s es passing = refl
  rest_none x s es (failing b i y) = refl
  rest_none x s es filled = refl

  -- a unit takes the next codes of the configuration at the place that comes next
  turn_rest : (es : List (Entry (Configuration S))) (ph : units.Phase) (i : ℕ) (e : Entry (Configuration S)) → place_of ph ≡ Some i → at es i ≡ Some e
      → turn c w alike n es ph ≡ rest c w kind n e.key.first e.key.state (c.nexts e.key.last) es ph
  turn_rest es (looking j low k) i e p a = ap (look c w alike n es j low k) (ap (at es) (let z : k ≡ i = cc in z) ∙ a)
  turn_rest es (extending j end k) i e p a = ap (extend c w alike n es j end k) (ap (at es) (let z : k ≡ i = cc in z) ∙ a)
  turn_rest es ph i e p a = refl

  -- a unit leaves a settled check as it is
  turn_settled : (es : List (Entry (Configuration S))) (ph : units.Phase) → place_of ph ≡ None → turn c w alike n es ph ≡ record { stored = es; phase = ph }
  turn_settled es (looking j low i) p = absurd (cc)
  turn_settled es (extending j end i) p = absurd (cc)
  turn_settled es ph p = refl

  after_more : (u : ℕ) → after c w kind n (u + 1) ≡ unit c w alike n (after c w kind n u)
  after_more u = ap (after c w kind n) (add-one u) ∙ after_one c w alike n u

module _ {S : Type 0} (c : CellMeaning) (w : WatchMeaning S) (kind : KeyMeaning S) (u : ℕ) (k : Check) (xs : List (Record (Configuration S))) (s : Stands c w kind u k xs) where
  abbrev n : ℕ
  n = length xs

  pub is_ready : Ready c n (entries xs k.stored) (phase_of k.phase)
  is_ready = subst (λ (t : Standing S). Ready c n t.stored t.phase) (sym s.is) (ready c w kind n u)

  unit_of : after c w kind n (u + 1) ≡ unit c w (configuration_key kind).alike n (view k xs)
  unit_of = after_more c w kind n u ∙ ap (unit c w (configuration_key kind).alike n) (sym s.is)

  -- a settled check stands as after any more units
  pub settled_stands : place_of (phase_of k.phase) ≡ None → Stands c w kind (u + 1) k xs
  settled_stands p =
      record {
        places = s.places;
        sound = s.sound;
        is = sym (turn_settled c w kind n (entries xs k.stored) (phase_of k.phase) p) ∙ sym unit_of;
      }

  -- the place that comes next is in the table
  pub next_inside : (i : ℕ) → place_of (phase_of k.phase) ≡ Some i → i < n
  next_inside i p =
      let f = (facts_at c n (entries xs k.stored) (phase_of k.phase) i p is_ready).1 in
      omega (arith, f.next, f.fits)

  pub next_stored : (i : ℕ) → place_of (phase_of k.phase) ≡ Some i → i < k.stored
  next_stored i p =
      let f = (facts_at c n (entries xs k.stored) (phase_of k.phase) i p is_ready).1 in
      omega (arith, f.next, entries_length xs k.stored s.sound.indexed.within)

  module _ (k₁ k₂ : Check) (ys : List (Record (Configuration S))) (i : ℕ) (e : Entry (Configuration S)) (p : place_of (phase_of k.phase) ≡ Some i) (a : at (entries xs k.stored) i ≡ Some e) where
    -- going through the codes and advancing is a unit
    pub unit_stands : length ys ≡ length xs → Adds k k₁ xs ys → Goes c w kind e.key (c.nexts e.key.last) [] k k₁ xs ys → (Countable k.phase → Countable k₁.phase)
        → (k₂.places ≡ k₁.places) × (k₂.stored ≡ k₁.stored) → (Countable k₁.phase → phase_of k₂.phase ≡ advanced (phase_of k₁.phase) k₁.stored) → Stands c w kind (u + 1) k₂ ys
    unit_stands l d go t same ph =
        let f = (facts_at c n (entries xs k.stored) (phase_of k.phase) i p is_ready).1 in
        let went = go.on s.sound (f.first e a) in
        let count = ph (t (countable c n (entries xs k.stored) k.phase s.sound.small is_ready)) in
        let long = entries_length ys k₁.stored went.0.indexed.within in
        let end : view k₂ ys ≡ record { stored = entries ys k₁.stored; phase = advanced (phase_of k₁.phase) (length (entries ys k₁.stored)) } = λ i. record { stored = entries ys (same.1 i); phase = (count ∙ ap (advanced (phase_of k₁.phase)) (sym long)) i } in
        record {
          places = same.0 ∙ d.places ∙ s.places ∙ sym l;
          sound = subst (λ (m : ℕ). Sound (configuration_key kind) ys m) (sym same.1) went.0;
          is =
              end
              ∙ sym (rest_none c w kind n e.key.first e.key.state (entries ys k₁.stored) (phase_of k₁.phase))
              ∙ sym went.1
              ∙ sym (turn_rest c w kind n (entries xs k.stored) (phase_of k.phase) i e p a)
              ∙ sym unit_of
              ∙ ap (λ m. after c w kind m (u + 1)) (sym l);
        }

-- where no place is found there is none
pub no_place : (o : Option ℕ) → is_some o ≡ false → o ≡ None
no_place None e = refl
no_place (Some i) e = absurd (true≢false e)

-- a settled check stands as after any number of units more
pub settled_more : {S : Type 0} (c : CellMeaning) (w : WatchMeaning S) (kind : KeyMeaning S) (d u : ℕ) (k : Check) (xs : List (Record (Configuration S))) → place_of (phase_of k.phase) ≡ None → Stands c w kind u k xs → Stands c w kind (u + d) k xs
settled_more c w kind zero u k xs p s = subst (λ (v : ℕ). Stands c w kind v k xs) (sym (add-zero u)) s
settled_more c w kind (suc d) u k xs p s =
    subst (λ (v : ℕ). Stands c w kind v k xs) (omega arith) (settled_more c w kind d (u + 1) k xs p (settled_stands c w kind u k xs s p))
