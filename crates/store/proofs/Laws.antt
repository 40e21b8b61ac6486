-- What callers use of the store's definitions. Assumes nothing.
use Rattle.std.proofs.Common.{◌≡◌, ℕ, zero, suc, ◌+◌, ◌-◌, ◌<◌, ◌≤◌, true, List, [], ◌∷◌, map, length, get_or, take, drop, is_some, Some, None, Option, sym, refl, ap, ◌∙◌, subst, inl, inr, arith}
use Rattle.std.proofs.lemmas.Nat.{pow_pos}
use Rattle.std.proofs.lemmas.List.{drop-drop, length-map, length-take-le, take-map, take-take, take_at}
use Rattle.std.proofs.lemmas.Bool.{or_cases, or_left, or_right, cases_Bool, true≢false}
use Rattle.model.specs.Cells.{In, at}
use Rattle.model.specs.Keys.{KeyMeaning}
use Rattle.store.specs.declared.record.Record.{Record}
use Rattle.store.specs.Calls.{Grown, places}
use Rattle.store.specs.Chains.{Indexed, pick, bucket_of, bucket_at, head_at, next_at}
use Rattle.model.specs.Entries.{Entry}
use Rattle.store.specs.Entries.{entry, entries, keys, Found, known}
use Rattle.store.proofs.Tops.{kept_chains}
use Rattle.store.proofs.Walks.{never_some, place_in}

-- more places beyond are the same too
pub beyond_more : {A : Type 0} (xs ys : List A) (m n : ℕ) → m ≤ n → drop m ys ≡ drop m xs → drop n ys ≡ drop n xs
beyond_more xs ys m n h e =
    let d : n ≡ m + (n - m) = omega arith in
    ap (λ k. drop k ys) d ∙ sym (drop-drop (n - m) m ys) ∙ ap (drop (n - m)) e ∙ drop-drop (n - m) m xs ∙ ap (λ k. drop k xs) (sym d)

-- nothing stands at a place only past the end
pub at_none : {A : Type 0} (xs : List A) (i : ℕ) → at xs i ≡ None → length xs ≤ i
at_none [] i e = omega arith
at_none (x ∷ xs) zero e = absurd (never_some x (sym e))
at_none (x ∷ xs) (suc i) e = omega (arith, at_none xs i e)

module _ {K : Type 0} where
  -- a table of at most a million places can store as many records
  pub places_all : (xs : List (Record K)) → length xs ≤ 1000000 → places xs ≡ length xs
  places_all xs l = omega arith

  pub entries_length : (xs : List (Record K)) (n : ℕ) → n ≤ length xs → length (entries xs n) ≡ n
  entries_length xs n l = length-map (take n xs) entry ∙ length-take-le n xs l

  -- fewer of the entries
  pub entries_take : (xs : List (Record K)) (m n : ℕ) → m ≤ n → take m (entries xs n) ≡ entries xs m
  entries_take xs m n l = take-map entry m (take n xs) ∙ ap (map entry) (take-take m n xs l)

  -- a read of a stored record gives its entry
  pub entry_read : (xs : List (Record K)) (n i : ℕ) (x : Record K) → i < n → i < length xs → x ≡ get_or xs i x → at (entries xs n) i ≡ Some (entry x)
  entry_read xs n i x l h e = go xs n i l h ∙ ap (λ r. Some (entry r)) (sym e)
    where
      go : (ys : List (Record K)) (m j : ℕ) → j < m → j < length ys → at (entries ys m) j ≡ Some (entry (get_or ys j x))
      go ys zero j a b = absurd (omega arith)
      go [] (suc m) j a b = absurd (omega arith)
      go (y ∷ ys) (suc m) zero a b = refl
      go (y ∷ ys) (suc m) (suc j) a b = go ys m j (omega arith) (omega arith)

  -- storing one more leaves the entries before it
  pub grown_before : (xs ys : List (Record K)) (n : ℕ) (k : K) (f : ℕ) → Grown xs ys n k f → entries ys n ≡ entries xs n
  grown_before xs ys n k f g =
      let small : n ≤ length xs = omega (arith, g.room) in
      sym (entries_take ys n (n + 1) (omega arith)) ∙ ap (take n) g.stored ∙ take_at (entries xs n) (record { key = k; from = f } ∷ []) n (entries_length xs n small)

module _ {K : Type 0} (kind : KeyMeaning K) where
  -- with nothing stored, any table is indexed, whatever its places held before
  pub none_indexed : (xs : List (Record K)) → Indexed kind xs 0
  none_indexed xs = record {
    within = omega arith;
    chains = λ m p. absurd (let some : 0 < m = subst (λ x. 0 < x) (sym p.power.1) (pow_pos p.power.0) in omega (arith, p.within));
  }

  pub known_in : (es : List (Entry K)) (k : K) → known kind es k ≡ true → In k (keys es)
  known_in [] k t = absurd (true≢false (sym t))
  known_in (e ∷ es) k t =
      elim (or_cases (kind.alike e.key k) (known kind es k) t) [
        | inl h ↦ inl (sym (kind.sound e.key k h))
        | inr h ↦ inr (known_in es k h)
      ]

  pub in_known : (es : List (Entry K)) (k : K) → In k (keys es) → known kind es k ≡ true
  in_known [] k h = absurd h
  in_known (e ∷ es) k (inl h) = or_left (kind.alike e.key k) (known kind es k) (subst (λ x. kind.alike x k ≡ true) h (kind.complete k))
  in_known (e ∷ es) k (inr h) = or_right (kind.alike e.key k) (known kind es k) (in_known es k h)

  -- a place is answered exactly for a known key
  pub found_known : (es : List (Entry K)) (k : K) (r : Option ℕ) → Found es k r → is_some r ≡ known kind es k
  found_known es k (Some i) f = sym (in_known es k (place_in k (keys es) i f.0))
  found_known es k None f =
      elim (cases_Bool (known kind es k)) [
        | inl t ↦ absurd (f (known_in es k t))
        | inr t ↦ sym t
      ]

  -- being indexed depends on the stored places alone
  pub same_indexed : (xs ys : List (Record K)) (n : ℕ) → take n ys ≡ take n xs → n ≤ length ys → Indexed kind xs n → Indexed kind ys n
  same_indexed xs ys n e l ix = record {
    within = l;
    chains = λ m p.
        kept_chains (bucket_at kind m xs) _ (head_at xs) _ (next_at xs) _ m n (ix.chains m p)
        (λ i h. sym (agree (λ r. bucket_of kind m r.key) i h))
        (λ b h. agree (λ r. r.head) b (omega (arith, p.within)))
        (λ i h. agree (λ r. r.next) i h);
  }
    where
      pick_take : (p : Record K → ℕ) (zs : List (Record K)) (m i : ℕ) → i < m → pick p (take m zs) i ≡ pick p zs i
      pick_take p zs zero i h = absurd (omega arith)
      pick_take p [] (suc m) i h = refl
      pick_take p (z ∷ zs) (suc m) zero h = refl
      pick_take p (z ∷ zs) (suc m) (suc i) h = pick_take p zs m i (omega arith)

      agree : (p : Record K → ℕ) (i : ℕ) → i < n → pick p ys i ≡ pick p xs i
      agree p i h = sym (pick_take p ys n i h) ∙ ap (λ l. pick p l i) e ∙ pick_take p xs n i h
