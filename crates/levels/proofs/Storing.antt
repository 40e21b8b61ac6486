-- Storing configurations one after the other: what is stored afterwards, and what it means that one found no place. Assumes nothing.
use Rattle.std.proofs.Common.{◌≡◌, ℕ, zero, suc, ◌+◌, ◌<◌, ◌≤◌, true, false, cond, ltb, ◌⊎◌, List, [], ◌∷◌, length, Some, None, Option, sym, refl, ap, subst, inl, inr, ⊎_elim, arith, ltb-false, ltb-true}
use Rattle.std.proofs.lemmas.Bool.{cond_both, cond-true, cond-false, or_cases, or_parts, both_ways}
use Rattle.model.specs.Cells.{CellMeaning, In, at}
use Rattle.model.specs.Entries.{Entry}
use Rattle.model.specs.Keys.{KeyMeaning}
use Rattle.model.specs.Watches.{WatchMeaning}
use Rattle.model.specs.declared.configuration.Configuration.{Configuration}
use Rattle.levels.specs.Law.{Distinct, keys}
use Rattle.levels.specs.Units.{Kept, known, put, and_then, put_new, put_nexts, put_starts, onward}
use Rattle.levels.proofs.Lists.{Entries, push, length_push, in_push, in_push_new, distinct_push, at_push, at_push_old, some_injective, some_none}

module _ {S : Type 0} where
  pub length_keys : (es : Entries S) → length (keys es) ≡ length es
  length_keys [] = refl
  length_keys (e ∷ es) = ap suc (length_keys es)

  keys_push : (es : Entries S) (e : Entry (Configuration S)) → keys (push es e) ≡ push (keys es) e.key
  keys_push [] e = refl
  keys_push (d ∷ ds) e = ap (λ (r : List (Configuration S)). d.key ∷ r) (keys_push ds e)

  in_keys_push : (es : Entries S) (e : Entry (Configuration S)) → In e.key (keys (push es e))
  in_keys_push es e = subst (λ (r : List (Configuration S)). In e.key r) (sym (keys_push es e)) (in_push_new e.key (keys es))

  -- what is stored stands at a place
  pub place_of : (k : Configuration S) (es : Entries S) → In k (keys es) → (p : ℕ) × (e : Entry (Configuration S)) × (at es p ≡ Some e) × (k ≡ e.key)
  place_of k [] h = absurd h
  place_of k (e ∷ es) (inl q) = (0, e, refl, q)
  place_of k (e ∷ es) (inr h) = let r = place_of k es h in (suc r.0, r.1, r.2, r.3)

  pub in_keys : (es : Entries S) (p : ℕ) (e : Entry (Configuration S)) → at es p ≡ Some e → In e.key (keys es)
  in_keys [] p e q = absurd (some_none (sym q))
  in_keys (d ∷ ds) zero e q = inl (ap (λ (r : Entry (Configuration S)). r.key) (sym (some_injective q)))
  in_keys (d ∷ ds) (suc p) e q = inr (in_keys ds p e q)

  -- each entry of the first stands at its place in the second
  abbrev pub Within : Entries S → Entries S → Type 0
  Within es fs = (p : ℕ) (e : Entry (Configuration S)) → at es p ≡ Some e → at fs p ≡ Some e

  pub within_keys : (es fs : Entries S) → Within es fs → (k : Configuration S) → In k (keys es) → In k (keys fs)
  within_keys es fs s k h =
      let r = place_of k es h in
      subst (λ (a : Configuration S). In a (keys fs)) (sym r.3) (in_keys fs r.0 r.1 (s r.0 r.1 r.2))

  wanted : (f : ℕ → Option (Configuration S)) (y : ℕ) (ys : List ℕ) (k : Configuration S) (z : ℕ) → In z (y ∷ ys) → f z ≡ Some k
      → (f y ≡ Some k) ⊎ ((z : ℕ) × In z ys × (f z ≡ Some k))
  wanted f y ys k z (inl e) q = inl (subst (λ (a : ℕ). f a ≡ Some k) e q)
  wanted f y ys k z (inr h) q = inr (z, h, q)

-- P holds of each configuration that is stored
module _ {S : Type 0} (n : ℕ) (P : Configuration S → Type 0) where
  -- different configurations in no more than n places, all of them P
  pub record Sound (es : Entries S) : Type 0 where
    pub fits : length es ≤ n
    pub apart : Distinct (keys es)
    pub each : (k : Configuration S) → In k (keys es) → P k

  -- one too many
  abbrev pub Over : Type 0
  Over = (ks : List (Configuration S)) × (length ks ≡ n + 1) × Distinct ks × ((k : Configuration S) → In k ks → P k)

-- and Q of each entry that is new
module _ {S : Type 0} (n : ℕ) (P : Configuration S → Type 0) (Q : Entry (Configuration S) → Type 0) where
  -- the second has the entries of the first at their places, and after them only new ones
  pub record Grown (es fs : Entries S) : Type 0 where
    pub sound : Sound n P fs
    pub longer : length es ≤ length fs
    pub old : Within es fs
    pub new : (p : ℕ) (e : Entry (Configuration S)) → at fs p ≡ Some e → (at es p ≡ Some e) ⊎ ((length es ≤ p) × Q e)

  -- storing ended with one too many and no place left, or everything wanted is stored
  abbrev pub Stores : Entries S → Kept S → (Configuration S → Type 0) → Type 0
  Stores es r W = ((r.full ≡ true) × Over n P × (length r.stored ≡ n)) ⊎ ((r.full ≡ false) × Grown es r.stored × ((k : Configuration S) → W k → In k (keys r.stored)))

  -- less is wanted
  stores_like : (es : Entries S) (r : Kept S) (V W : Configuration S → Type 0) → ((k : Configuration S) → W k → V k) → Stores es r V → Stores es r W
  stores_like es r V W f (inl h) = inl h
  stores_like es r V W f (inr h) = inr (h.0, h.1, λ k v. h.2 k (f k v))

  grown_none : (es : Entries S) → Sound n P es → Grown es es
  grown_none es s = record { sound = s; longer = omega arith; old = λ p e h. h; new = λ p e h. inl h }

  grown_trans : (es fs gs : Entries S) → Grown es fs → Grown fs gs → Grown es gs
  grown_trans es fs gs g h =
      record {
        sound = h.sound;
        longer = omega arith;
        old = λ p e a. h.old p e (g.old p e a);
        new = λ p e a. ⊎_elim (λ b. g.new p e b) (λ b. let x = g.longer in let y = b.0 in inr (omega arith, b.1)) (h.new p e a);
      }

  -- storing goes on from what was stored
  stores_join : (es fs : Entries S) (r : Kept S) (V W : Configuration S → Type 0) → Grown es fs → ((k : Configuration S) → V k → In k (keys fs)) → Stores fs r W
      → Stores es r (λ k. V k ⊎ W k)
  stores_join es fs r V W g v (inl h) = inl h
  stores_join es fs r V W g v (inr h) =
      inr (h.0, grown_trans es fs r.stored g h.1, λ k. ⊎_elim (λ a. within_keys fs r.stored h.1.old k (v k a)) (λ a. h.2 k a))

  grown_push : (es : Entries S) (e : Entry (Configuration S)) → Sound n P es → length es < n → (In e.key (keys es) → ⊥) → P e.key → Q e → Grown es (push es e)
  grown_push es e s h no_key p q =
      let l = length_push es e in
      record {
        sound = record {
          fits = omega arith;
          apart = subst (λ (r : List (Configuration S)). Distinct r) (sym (keys_push es e)) (distinct_push e.key (keys es) s.apart no_key);
          each = λ k a. ⊎_elim (λ b. s.each k b) (λ b. subst P (sym b) p) (in_push k e.key (keys es) (subst (λ (r : List (Configuration S)). In k r) (keys_push es e) a));
        };
        longer = omega arith;
        old = λ i d a. at_push_old es e i d a;
        new = λ i d a. ⊎_elim (λ b. inl b) (λ b. let z = b.0 in inr (omega arith, subst Q (sym b.1) q)) (at_push es e i d a);
      }

  over_push : (es : Entries S) (k : Configuration S) → Sound n P es → n ≤ length es → (In k (keys es) → ⊥) → P k → Over n P
  over_push es k s h no_key p = (
    push (keys es) k,
    (let a = length_push (keys es) k in let b = length_keys es in let f = s.fits in omega arith),
    distinct_push k (keys es) s.apart no_key,
    λ j a. ⊎_elim (λ b. s.each j b) (λ b. subst P (sym b) p) (in_push j k (keys es) a),
  )

module _ {S : Type 0} (c : CellMeaning) (w : WatchMeaning S) (key : KeyMeaning (Configuration S)) (n : ℕ) where
  known_true : (k : Configuration S) (es : Entries S) → known c w key.alike n k es ≡ true → In k (keys es)
  known_true k [] e = absurd (both_ways false refl e)
  known_true k (d ∷ ds) e =
      ⊎_elim (λ q. inl (sym (key.sound d.key k q))) (λ q. inr (known_true k ds q)) (or_cases (key.alike d.key k) (known c w key.alike n k ds) e)

  known_false : (k : Configuration S) (es : Entries S) → known c w key.alike n k es ≡ false → In k (keys es) → ⊥
  known_false k [] e h = h
  known_false k (d ∷ ds) e (inl q) =
      both_ways (key.alike d.key k) (or_parts (key.alike d.key k) (known c w key.alike n k ds) e).0
      (subst (λ (a : Configuration S). key.alike d.key a ≡ true) (sym q) (key.complete d.key))
  known_false k (d ∷ ds) e (inr h) = known_false k ds (or_parts (key.alike d.key k) (known c w key.alike n k ds) e).1 h

  -- one option after the other, for each code of a list
  abbrev pub puts : (ℕ → Option (Configuration S)) → (Entries S → ℕ) → List ℕ → Entries S → Kept S
  puts f g [] es = record { stored = es; full = false }
  puts f g (y ∷ ys) es = and_then c w key.alike n (put_new c w key.alike n es (f y) (g es)) (puts f g ys)

  pub nexts_puts : (i x : ℕ) (s : S) (ys : List ℕ) (es : Entries S) → put_nexts c w key.alike n i x s ys es ≡ puts (onward c w key.alike n x s) (λ ds. i) ys es
  nexts_puts i x s [] es = refl
  nexts_puts i x s (y ∷ ys) es =
      let k = put_new c w key.alike n es (onward c w key.alike n x s y) i in
      ap (λ (r : Kept S). cond k.full k r) (nexts_puts i x s ys k.stored)

  pub starts_puts : (xs : List ℕ) (es : Entries S) → put_starts c w key.alike n xs es ≡ puts (λ x. onward c w key.alike n x w.first x) length xs es
  starts_puts [] es = refl
  starts_puts (x ∷ xs) es =
      let k = put_new c w key.alike n es (onward c w key.alike n x w.first x) (length es) in
      ap (λ (r : Kept S). cond k.full k r) (starts_puts xs k.stored)

  module _ (P : Configuration S → Type 0) (Q : Entry (Configuration S) → Type 0) where
    stores_put : (es : Entries S) (k : Configuration S) (from : ℕ) → Sound n P es → P k → Q (record { key = k; from = from })
        → Stores n P Q es (put c w key.alike n es k from) (λ l. l ≡ k)
    stores_put es k from s p q =
        cond_both (known c w key.alike n k es) _ _ (λ r. Stores n P Q es r (λ l. l ≡ k))
        (λ a. inr (refl, grown_none n P Q es s, λ l e. subst (λ (m : Configuration S). In m (keys es)) (sym e) (known_true k es a)))
        (λ a. cond_both (ltb (length es) n) _ _ (λ r. Stores n P Q es r (λ l. l ≡ k))
        (λ b. inr (
          refl,
          grown_push n P Q es (record { key = k; from = from }) s (ltb-true (length es) n b) (known_false k es a) p q,
          λ l e. subst (λ (m : Configuration S). In m (keys (push es (record { key = k; from = from })))) (sym e) (in_keys_push es (record { key = k; from = from })),
        ))
        (λ b. let l = ltb-false (length es) n b in let f = s.fits in inl (refl, over_push n P Q es k s l (known_false k es a) p, omega arith)))

    -- storing where there may be none to store
    stores_new : (es : Entries S) (o : Option (Configuration S)) (from : ℕ) → Sound n P es
        → ((k : Configuration S) → o ≡ Some k → P k × Q (record { key = k; from = from })) → Stores n P Q es (put_new c w key.alike n es o from) (λ l. o ≡ Some l)
    stores_new es None from s h = inr (refl, grown_none n P Q es s, λ l e. absurd (some_none (sym e)))
    stores_new es (Some k) from s h = stores_like n P Q es (put c w key.alike n es k from) (λ l. l ≡ k) (λ l. Some k ≡ Some l) (λ l e. some_injective (sym e)) (stores_put es k from s (h k refl).0 (h k refl).1)

    stores_then : (es : Entries S) (r : Kept S) (go : Entries S → Kept S) (V W : Configuration S → Type 0) → Stores n P Q es r V
        → ((fs : Entries S) → Sound n P fs → Stores n P Q fs (go fs) W) → Stores n P Q es (and_then c w key.alike n r go) (λ k. V k ⊎ W k)
    stores_then es r go V W (inl h) next =
        subst (λ (m : Kept S). Stores n P Q es m (λ k. V k ⊎ W k)) (sym (cond-true r.full r (go r.stored) h.0)) (inl h)
    stores_then es r go V W (inr h) next =
        subst (λ (m : Kept S). Stores n P Q es m (λ k. V k ⊎ W k)) (sym (cond-false r.full r (go r.stored) h.0))
        (stores_join n P Q es r.stored (go r.stored) V W h.1 h.2 (next r.stored h.1.sound))

    pub stores_puts : (f : ℕ → Option (Configuration S)) (g : Entries S → ℕ) (ys : List ℕ) (es : Entries S) → Sound n P es
        → ((y : ℕ) → In y ys → (k : Configuration S) → f y ≡ Some k → P k × ((ds : Entries S) → Q (record { key = k; from = g ds })))
        → Stores n P Q es (puts f g ys es) (λ k. (y : ℕ) × In y ys × (f y ≡ Some k))
    stores_puts f g [] es s h = inr (refl, grown_none n P Q es s, λ k t. absurd t.1)
    stores_puts f g (y ∷ ys) es s h =
        stores_like n P Q es (puts f g (y ∷ ys) es) (λ k. (f y ≡ Some k) ⊎ ((z : ℕ) × In z ys × (f z ≡ Some k))) (λ k. (z : ℕ) × In z (y ∷ ys) × (f z ≡ Some k))
        (λ k t. wanted f y ys k t.0 t.1 t.2)
        (stores_then es (put_new c w key.alike n es (f y) (g es)) (puts f g ys) (λ k. f y ≡ Some k) (λ k. (z : ℕ) × In z ys × (f z ≡ Some k))
        (stores_new es (f y) (g es) s (λ k e. let r = h y (inl refl) k e in (r.0, r.1 es)))
        (λ fs t. stores_puts f g ys fs t (λ z a. h z (inr a))))
