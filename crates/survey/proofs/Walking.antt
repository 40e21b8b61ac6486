-- The walk through a cell: the codes met are reachable, and at its end they are all. Assumes nothing.
use Rattle.std.proofs.Common.{◌≡◌, ℕ, zero, suc, ◌+◌, ◌-◌, ◌<◌, ◌≤◌, List, [], ◌∷◌, length, take, Some, None, Option, sym, refl, ap, ◌∙◌, subst, inl, inr, arith}
use Rattle.std.proofs.lemmas.Bool.{cases_lt, cases_eq}
use Rattle.std.proofs.lemmas.List.{length-map, length-take-le}
use Rattle.model.specs.Cells.{CellMeaning, In, at}
use Rattle.model.specs.Entries.{Entry}
use Rattle.levels.specs.Law.{Distinct}
use Rattle.levels.proofs.Lists.{some_injective, pigeons, at_below, below_at}
use Rattle.store.specs.Entries.{keys}
use Rattle.store.proofs.Walks.{place_in}
use Rattle.survey.specs.Order.{Met, gather, visit, walked}
use Rattle.survey.specs.Reach.{Reachable, More, Sound}
use Rattle.survey.proofs.Meeting.{Begins, begins_itself, begins_trans, begins_long, begins_at, begins_in, gather_begins, gather_in, reachable_start, reachable_next, reachable_all, sound_none, sound_gather, at_keys}

pub at_past : {A : Type 0} (xs : List A) (i : ℕ) → length xs ≤ i → at xs i ≡ None
at_past [] i h = refl
at_past (x ∷ xs) zero h = absurd (omega arith)
at_past (x ∷ xs) (suc i) h = at_past xs i (omega arith)

-- a key stands at a place
pub key_at : (es : Met) (x : ℕ) → In x (keys es) → (p : ℕ) × (e : Entry ℕ) × (at es p ≡ Some e) × (x ≡ e.key)
key_at [] x h = absurd h
key_at (e ∷ es) x (inl q) = (0, e, refl, q)
key_at (e ∷ es) x (inr h) = let r = key_at es x h in (suc r.0, r.1, r.2, r.3)

over : (a b : ℕ) → a ≤ b → (k : ℕ) × (b ≡ k + a)
over a b l = (b - a, omega arith)

module _ (c : CellMeaning) where
  pub visit_is : (i : ℕ) (es : Met) (e : Entry ℕ) → at es i ≡ Some e → visit c i es (at es i) ≡ gather (λ _. i) (c.nexts e.key) es
  visit_is i es e h = ap (visit c i es) h

  visit_begins : (i : ℕ) (es : Met) (o : Option (Entry ℕ)) → Begins es (visit c i es o)
  visit_begins i es None = begins_itself es
  visit_begins i es (Some e) = gather_begins (λ _. i) (c.nexts e.key) es

  pub walked_step : (i : ℕ) → Begins (walked c i) (walked c (suc i))
  walked_step i = visit_begins i (walked c i) (at (walked c i) i)

  walked_more : (i k : ℕ) → Begins (walked c i) (walked c (k + i))
  walked_more i zero = subst (λ j. Begins (walked c i) (walked c j)) (let e : i ≡ zero + i = omega arith in e) (begins_itself (walked c i))
  walked_more i (suc k) =
      subst (λ j. Begins (walked c i) (walked c j)) (let e : suc (k + i) ≡ suc k + i = omega arith in e)
      (begins_trans (walked c i) (walked c (k + i)) (walked c (suc (k + i))) (walked_more i k) (walked_step (k + i)))

  -- going on only adds
  pub walked_begins : (i j : ℕ) → i ≤ j → Begins (walked c i) (walked c j)
  walked_begins i j h = let q = over i j h in subst (λ z. Begins (walked c i) (walked c z)) (sym q.1) (walked_more i q.0)

  still : (i k : ℕ) → length (walked c i) ≤ i → walked c (k + i) ≡ walked c i
  still i zero h = ap (walked c) (let e : zero + i ≡ i = omega arith in e)
  still i (suc k) h =
      let s = still i k h in
      let l = ap length s in
      ap (walked c) (let e : suc k + i ≡ suc (k + i) = omega arith in e) ∙ ap (visit c (k + i) (walked c (k + i))) (at_past (walked c (k + i)) (k + i) (omega arith)) ∙ s

  -- once every code met was gone through, nothing is added any more
  pub walked_still : (i j : ℕ) → i ≤ j → length (walked c i) ≤ i → walked c j ≡ walked c i
  walked_still i j h l = let q = over i j h in ap (walked c) q.1 ∙ still i q.0 l

  sound_visit : (i : ℕ) (es : Met) (o : Option (Entry ℕ)) → at es i ≡ o → Sound c es → Sound c (visit c i es o)
  sound_visit i es None e s = s
  sound_visit i es (Some d) e s =
      sound_gather c (λ _. i) (c.nexts d.key) es s
      (λ y h. reachable_next c d.key y (s.reached d.key (place_in d.key (keys es) i (at_keys es i d e))) h)
      (λ y ds h b. inr (let l = below_at es i d e in let m = begins_long es ds b in omega arith, d.key, at_keys ds i d (begins_at es ds i d b e), h))

  -- the codes met are different and reachable, and each has its origin
  pub walked_sound : (i : ℕ) → Sound c (walked c i)
  walked_sound zero = sound_gather c length c.starts [] (sound_none c) (λ y h. reachable_start c y h) (λ y ds h b. inl (h, refl))
  walked_sound (suc i) = sound_visit i (walked c i) (at (walked c i) i) refl (walked_sound i)

  -- the starts are met
  pub starts_met : (i x : ℕ) → In x c.starts → In x (keys (walked c i))
  starts_met zero x h = gather_in length c.starts [] x h
  starts_met (suc i) x h = begins_in x (walked c i) (walked c (suc i)) (walked_step i) (starts_met i x h)

  -- the next codes of the first i codes are met
  pub nexts_met : (i p : ℕ) (e : Entry ℕ) → p < i → at (walked c i) p ≡ Some e → (y : ℕ) → In y (c.nexts e.key) → In y (keys (walked c i))
  nexts_met zero p e l h y q = absurd (omega arith)
  nexts_met (suc i) p e l h y q =
      elim (cases_lt i (length (walked c i))) [
        | inl low ↦
            let b = at_below (walked c i) p (omega arith) in
            let same : b.0 ≡ e = some_injective (sym (begins_at (walked c i) (walked c (suc i)) p b.0 (walked_step i) b.1) ∙ h) in
            let here : at (walked c i) p ≡ Some e = b.1 ∙ ap Some same in
            elim (cases_eq p i) [
              | inl is ↦
                  subst (λ es. In y (keys es)) (sym (visit_is i (walked c i) e (subst (λ z. at (walked c i) z ≡ Some e) is here))) (gather_in (λ _. i) (c.nexts e.key) (walked c i) y q)
              | inr other ↦ begins_in y (walked c i) (walked c (suc i)) (walked_step i) (nexts_met i p e (omega arith) here y q)
            ]
        | inr high ↦
            let same : walked c (suc i) ≡ walked c i = ap (visit c i (walked c i)) (at_past (walked c i) i high) in
            let here : at (walked c i) p ≡ Some e = ap (λ es. at es p) (sym same) ∙ h in
            let low = below_at (walked c i) p e here in
            subst (λ es. In y (keys es)) (sym same) (nexts_met i p e (omega arith) here y q)
      ]

  -- at the end all reachable codes are met
  pub walked_whole : (i : ℕ) → length (walked c i) ≤ i → (x : ℕ) → Reachable c x → In x (keys (walked c i))
  walked_whole i h =
      reachable_all c (λ x. In x (keys (walked c i))) (starts_met i)
      (λ x y m q. let r = key_at (walked c i) x m in let l = below_at (walked c i) r.0 r.1 r.2 in nexts_met i r.0 r.1 (omega arith) r.2 y (subst (λ z. In y (c.nexts z)) r.3 q))

  -- there are no more of them
  pub walked_room : (i n : ℕ) → length (walked c i) ≤ i → i ≤ n → More c n → ⊥
  walked_room i n h l m =
      let p = pigeons m.0 (keys (walked c i)) m.2 (λ x q. walked_whole i h x (m.3 x q)) in
      let k = length-map (walked c i) (λ (e : Entry ℕ). e.key) in
      let e = m.1 in
      omega arith

  pub in_take : (k : ℕ) (xs : List ℕ) (x : ℕ) → In x (take k xs) → In x xs
  in_take zero xs x h = absurd h
  in_take (suc k) [] x h = absurd h
  in_take (suc k) (y ∷ ys) x (inl e) = inl e
  in_take (suc k) (y ∷ ys) x (inr h) = inr (in_take k ys x h)

  pub distinct_take : (k : ℕ) (xs : List ℕ) → Distinct xs → Distinct (take k xs)
  distinct_take zero xs d = tt
  distinct_take (suc k) [] d = tt
  distinct_take (suc k) (y ∷ ys) d = (λ h. d.0 (in_take k ys y h), distinct_take k ys d.1)

  -- one more than there are places
  pub walked_over : (i n : ℕ) → n < length (walked c i) → More c n
  walked_over i n h =
      let s = walked_sound i in
      let k = length-map (walked c i) (λ (e : Entry ℕ). e.key) in
      (take (n + 1) (keys (walked c i)), length-take-le (n + 1) (keys (walked c i)) (omega arith), distinct_take (n + 1) (keys (walked c i)) s.apart, λ x q. s.reached x (in_take (n + 1) (keys (walked c i)) x q))
