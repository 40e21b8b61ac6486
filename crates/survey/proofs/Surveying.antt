-- From the walk and the marks to what the survey owes. Assumes nothing.
use Rattle.std.proofs.Common.{◌≡◌, ℕ, zero, suc, ◌<◌, ◌≤◌, Bool, true, false, List, [], ◌∷◌, length, get_or, take, Some, sym, refl, ap, ◌∙◌, subst, inl, inr, arith}
use Rattle.std.proofs.lemmas.List.{take-map}
use Rattle.model.specs.Cells.{CellMeaning, In, at}
use Rattle.model.specs.Entries.{Entry}
use Rattle.store.specs.declared.record.Record.{Record}
use Rattle.store.specs.Entries.{entries, keys}
use Rattle.levels.proofs.Lists.{some_none}
use Rattle.levels.specs.Law.{Distinct}
use Rattle.survey.specs.Calls.{Surveyed, Filled}
use Rattle.survey.specs.Held.{Held, Packed, Marked}
use Rattle.survey.specs.Order.{Met, walked}
use Rattle.survey.specs.Reach.{Reachable, Origin, Sound, Levelled}
use Rattle.survey.proofs.Meeting.{reachable_all}
use Rattle.survey.proofs.Walking.{walked_still, walked_sound, walked_whole, walked_room, walked_over, in_take, distinct_take}
use Rattle.survey.proofs.Levels.{walked_levelled}
use Rattle.survey.proofs.Holding.{held_length}

at_take : {A : Type 0} (xs : List A) (n i : ℕ) → i < n → at (take n xs) i ≡ at xs i
at_take xs zero i h = absurd (omega arith)
at_take [] (suc n) i h = refl
at_take (x ∷ xs) (suc n) zero h = refl
at_take (x ∷ xs) (suc n) (suc i) h = at_take xs n i (omega arith)

-- what stands in the front of a list stands there in the whole
front_at : {A : Type 0} (xs : List A) (n i : ℕ) (x : A) → at (take n xs) i ≡ Some x → (i < n) × (at xs i ≡ Some x)
front_at xs zero i x h = absurd (some_none (sym h))
front_at [] (suc n) i x h = absurd (some_none (sym h))
front_at (y ∷ ys) (suc n) zero x h = (omega arith, h)
front_at (y ∷ ys) (suc n) (suc i) x h = let q = front_at ys n i x h in (omega (arith, q.0), q.1)

module _ (c : CellMeaning) where
  -- the first of sound entries are sound
  sound_take : (n : ℕ) (es : Met) → Sound c es → Sound c (take n es)
  sound_take n es s =
      let k : keys (take n es) ≡ take n (keys es) = sym (take-map (λ (e : Entry ℕ). e.key) n es) in
      record {
        apart = subst Distinct (sym k) (distinct_take c n (keys es) s.apart);
        reached = λ x h. s.reached x (in_take c n (keys es) x (subst (λ l. In x l) k h));
        origin = λ p e h. let q = front_at es n p e h in move p e q.0 k (s.origin p e q.1);
      }
    where
      move : (p : ℕ) (e : Entry ℕ) → p < n → keys (take n es) ≡ take n (keys es) → Origin c es p e → Origin c (take n es) p e
      move p e l k (inl o) = inl o
      move p e l k (inr o) = let f = o.0 in inr (f, o.1, ap (λ z. at z e.from) k ∙ at_take (keys es) n e.from (omega arith) ∙ o.2, o.3)

  levelled_take : (n : ℕ) (es : Met) → Levelled c es → Levelled c (take n es)
  levelled_take n es s p q x y h hx hy =
      let k : keys (take n es) ≡ take n (keys es) = sym (take-map (λ (e : Entry ℕ). e.key) n es) in
      let a = front_at (keys es) n p x (ap (λ l. at l p) (sym k) ∙ hx) in
      let b = front_at (keys es) n q y (ap (λ l. at l q) (sym k) ∙ hy) in
      s p q x y h a.1 b.1

  reachable_state : (x : ℕ) → Reachable c x → c.state x ≡ true
  reachable_state = reachable_all c (λ x. c.state x ≡ true) c.starts_are_states (λ x y h q. c.nexts_are_states x y q)

  pub surveyed : (xs ys : List (Record ℕ)) (m : ℕ) (labels : List Bool) → Held xs ys m (walked c m) → Marked c (keys (entries ys m)) labels → Surveyed c xs ys m labels
  surveyed xs ys m labels h k =
      let l = held_length xs ys m (walked c m) h in
      let w = h.indexed.within in
      let e = h.long in
      let ends : length (walked c m) ≤ m = omega arith in
      let fits : m ≤ length xs = omega arith in
      let all : walked c (length xs) ≡ walked c m = walked_still c m (length xs) fits ends in
      let s = h.stored in
      let whole : (x : ℕ) → Reachable c x → In x (keys (entries ys m)) = λ x r. subst (λ es. In x (keys es)) (sym s) (walked_whole c m ends x r) in
      let sound : Sound c (entries ys m) = subst (Sound c) (sym s) (walked_sound c m) in
      record {
        number = sym l ∙ ap length (sym all);
        stored = s ∙ sym all;
        fits = fits;
        long = e;
        beyond = h.beyond;
        sound = sound;
        levels = subst (Levelled c) (sym s) (walked_levelled c m);
        whole = whole;
        room = walked_room c m (length xs) ends fits;
        labelled = k.long;
        marked = λ n low t. let o = k.only n low t in (o.0, sound.reached o.0 o.1, o.2);
        shown = λ n low t. ap (λ z. get_or labels z false) (sym t.2) ∙ k.all t.0 (whole t.0 t.1) (reachable_state t.0 t.1);
      }

  pub filled : (xs ys : List (Record ℕ)) → Packed xs ys (walked c (length xs)) → Filled c xs ys
  filled xs ys p =
      record {
        number = p.over;
        stored = p.stored;
        long = p.long;
        sound = subst (Sound c) (sym p.stored) (sound_take (length xs) (walked c (length xs)) (walked_sound c (length xs)));
        levels = subst (Levelled c) (sym p.stored) (levelled_take (length xs) (walked c (length xs)) (walked_levelled c (length xs)));
        more = walked_over c (length xs) (length xs) p.over;
      }
