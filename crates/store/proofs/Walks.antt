-- The walk along a chain finds every key of its bucket. Assumes nothing.
use Rattle.std.proofs.Common.{◌≡◌, ℕ, zero, suc, ◌<◌, ◌≤◌, true, false, List, [], ◌∷◌, length, get_or, Some, None, Option, sym, refl, ap, ◌∙◌, subst, inl, inr, arith}
use Rattle.std.proofs.lemmas.Bool.{cases_order, both_ways}
use Rattle.model.specs.Cells.{In, at}
use Rattle.model.specs.Keys.{KeyMeaning}
use Rattle.store.specs.declared.record.Record.{Record}
use Rattle.store.specs.Entries.{entries, keys, Found}
use Rattle.store.specs.Chains.{Buckets, Indexed, top, bucket_of, bucket_at, head_at, next_at}
use Rattle.store.specs.Calls.{FoundSo}
use Rattle.store.proofs.Amends.{pick_read}
use Rattle.store.proofs.Tops.{top_le, top_above, top_again, top_hit, same_buckets}

same_some : {A : Type 0} (x y : A) → ◌≡◌ {A = Option A} (Some x) (Some y) → x ≡ y
same_some x y e = cc

pub never_some : {A : Type 0} (x : A) → ◌≡◌ {A = Option A} None (Some x) → ⊥
never_some x e = let z : ◌≡◌ {A = ℕ} 0 1 = cc in omega arith

-- what is among the elements has a place
pub in_place : {A : Type 0} (x : A) (xs : List A) → In x xs → (i : ℕ) × (at xs i ≡ Some x)
in_place x [] h = absurd h
in_place x (y ∷ ys) (inl e) = (0, ap Some (sym e))
in_place x (y ∷ ys) (inr h) = let p = in_place x ys h in (suc p.0, p.1)

pub place_in : {A : Type 0} (x : A) (xs : List A) (i : ℕ) → at xs i ≡ Some x → In x xs
place_in x [] i e = never_some x e
place_in x (y ∷ ys) zero e = inl (sym (same_some y x e))
place_in x (y ∷ ys) (suc i) e = inr (place_in x ys i e)

module _ {K : Type 0} (kind : KeyMeaning K) where
  -- a place that has the key is stored, and lies in the key's bucket
  pub key_stored : (xs : List (Record K)) (n i : ℕ) (k : K) → at (keys (entries xs n)) i ≡ Some k → i < n
  key_stored xs zero i k e = absurd (never_some k e)
  key_stored [] (suc n) i k e = absurd (never_some k e)
  key_stored (x ∷ xs) (suc n) zero k e = omega arith
  key_stored (x ∷ xs) (suc n) (suc i) k e = let h = key_stored xs n i k e in omega arith

  pub key_bucket : (m : ℕ) (xs : List (Record K)) (n i : ℕ) (k : K) → at (keys (entries xs n)) i ≡ Some k → bucket_at kind m xs i ≡ bucket_of kind m k
  key_bucket m xs zero i k e = absurd (never_some k e)
  key_bucket m [] (suc n) i k e = absurd (never_some k e)
  key_bucket m (x ∷ xs) (suc n) zero k e = ap (bucket_of kind m) (same_some x.key k e)
  key_bucket m (x ∷ xs) (suc n) (suc i) k e = key_bucket m xs n i k e

  -- a read of a stored record gives the key of its entry
  pub key_read : (xs : List (Record K)) (n i : ℕ) (x : Record K) → i < n → i < length xs → x ≡ get_or xs i x → at (keys (entries xs n)) i ≡ Some x.key
  key_read xs n i x l h e = go xs n i l h ∙ ap (λ r. Some r.key) (sym e)
    where
      go : (ys : List (Record K)) (m j : ℕ) → j < m → j < length ys → at (keys (entries ys m)) j ≡ Some (get_or ys j x).key
      go ys zero j a b = absurd (omega arith)
      go [] (suc m) j a b = absurd (omega arith)
      go (y ∷ ys) (suc m) zero a b = refl
      go (y ∷ ys) (suc m) (suc j) a b = go ys m j (omega arith) (omega arith)

  -- a link that the walk stands at, for m buckets: it leads into the key's bucket, and no place at or above it has the key
  pub record Walk (m : ℕ) (xs : List (Record K)) (n : ℕ) (k : K) (link : ℕ) : Type 0 where
    pub inside : top (bucket_at kind m xs) link (bucket_of kind m k) ≡ link
    pub passed : (j : ℕ) → link ≤ j → at (keys (entries xs n)) j ≡ Some k → ⊥

  pub walk_start : (m : ℕ) (xs : List (Record K)) (n : ℕ) (k : K) (link : ℕ) → link ≡ top (bucket_at kind m xs) n (bucket_of kind m k) → Walk m xs n k link
  walk_start m xs n k link e =
      let D = bucket_at kind m xs in
      let b = bucket_of kind m k in
      record {
        inside = subst (λ x. top D x b ≡ x) (sym e) (top_again D n b);
        passed = λ j h there. let up = top_above D n b j (key_stored xs n j k there) (key_bucket m xs n j k there) in absurd (omega (arith, e));
      }

  -- one link on, past a place with another key
  pub walk_on : (m : ℕ) (xs : List (Record K)) (n : ℕ) (k : K) (i next : ℕ) → Walk m xs n k (suc i) → (at (keys (entries xs n)) i ≡ Some k → ⊥) → next ≡ top (bucket_at kind m xs) i (bucket_at kind m xs i) → Walk m xs n k next
  walk_on m xs n k i next w other e =
      let D = bucket_at kind m xs in
      let b = bucket_of kind m k in
      let hit = top_hit D i b w.inside in
      let is = e ∙ ap (top D i) hit in
      record {
        inside = subst (λ x. top D x b ≡ x) (sym is) (top_again D i b);
        passed = λ j h there.
            elim (cases_order j i) [
              | inl z ↦ other (subst (λ x. at (keys (entries xs n)) x ≡ Some k) z there)
              | inr (inl z) ↦ let up = top_above D i b j z (key_bucket m xs n j k there) in absurd (omega (arith, is))
              | inr (inr z) ↦ w.passed j (omega arith) there
            ];
      }

  -- how the walk stands for whatever number of buckets there is, where the records are indexed
  abbrev pub Walks : List (Record K) → ℕ → K → ℕ → Type 0
  Walks xs n k link = Indexed kind xs n → (m : ℕ) → Buckets n m → Walk m xs n k link

  pub head_is : (xs : List (Record K)) (n m : ℕ) (k : K) → Indexed kind xs n → Buckets n m → bucket_of kind m k < m → head_at xs (bucket_of kind m k) ≡ top (bucket_at kind m xs) n (bucket_of kind m k)
  head_is xs n m k ix p low = (ix.chains m p).heads (bucket_of kind m k) low

  pub head_low : (xs : List (Record K)) (n m : ℕ) (k : K) → Indexed kind xs n → Buckets n m → bucket_of kind m k < m → head_at xs (bucket_of kind m k) ≤ n
  head_low xs n m k ix p low = let e = head_is xs n m k ix p low in let h = top_le (bucket_at kind m xs) n (bucket_of kind m k) in omega (arith, e)

  pub walks_start : (xs : List (Record K)) (n m : ℕ) (k : K) → Buckets n m → bucket_of kind m k < m → Walks xs n k (head_at xs (bucket_of kind m k))
  walks_start xs n m k p low ix l q =
      subst (λ x. Walk x xs n k (head_at xs (bucket_of kind m k))) (same_buckets n m l p q) (walk_start m xs n k _ (head_is xs n m k ix p low))

  -- the link that a walk starts from, as it is read
  pub walks_from : (xs : List (Record K)) (n m b : ℕ) (k : K) (d : Record K) → Buckets n m → n ≤ length xs → b < m → b ≡ bucket_of kind m k → (Indexed kind xs n → (get_or xs b d).head ≤ n) × Walks xs n k (get_or xs b d).head
  walks_from xs n m b k d p l low e =
      let is : (get_or xs b d).head ≡ head_at xs (bucket_of kind m k) = pick_read (λ r. r.head) xs b d (omega (arith, p.within)) ∙ ap (head_at xs) e in
      let below : bucket_of kind m k < m = subst (λ x. x < m) e low in
      (λ ix. subst (λ x. x ≤ n) (sym is) (head_low xs n m k ix p below), subst (Walks xs n k) (sym is) (walks_start xs n m k p below))

  pub next_low : (xs : List (Record K)) (n m i : ℕ) → Indexed kind xs n → Buckets n m → i < n → next_at xs i ≤ i
  next_low xs n m i ix p l = let e = (ix.chains m p).nexts i l in let h = top_le (bucket_at kind m xs) i (bucket_at kind m xs i) in omega (arith, e)

  pub walks_on : (xs : List (Record K)) (n i : ℕ) (k : K) → Walks xs n k (suc i) → i < n → (at (keys (entries xs n)) i ≡ Some k → ⊥) → Walks xs n k (next_at xs i)
  walks_on xs n i k w l other ix m p = walk_on m xs n k i (next_at xs i) (w ix m p) other ((ix.chains m p).nexts i l)

  pub walks_end : (xs : List (Record K)) (n m : ℕ) (k : K) → Buckets n m → Walks xs n k 0 → Indexed kind xs n → Found (entries xs n) k None
  walks_end xs n m k p w ix h = let q = in_place k (keys (entries xs n)) h in (w ix m p).passed q.0 (omega arith) q.1

  pub walks_found : (xs : List (Record K)) (n m i : ℕ) (k : K) → Buckets n m → Walks xs n k (suc i) → at (keys (entries xs n)) i ≡ Some k → Indexed kind xs n → Found (entries xs n) k (Some i)
  walks_found xs n m i k p w there ix = (there, λ j l. (w ix m p).passed j (omega arith))

  -- comparing tells whether the key is there
  pub other_key : (xs : List (Record K)) (n i : ℕ) (j k : K) → at (keys (entries xs n)) i ≡ Some j → kind.alike j k ≡ false → at (keys (entries xs n)) i ≡ Some k → ⊥
  other_key xs n i j k a t b = let e = same_some j k (sym a ∙ b) in both_ways (kind.alike j k) t (subst (λ x. kind.alike j x ≡ true) e (kind.complete j))

  -- a turn of the search, at the record x that the link leads to: the key is found, or the next link is lower and the walk goes on
  module _ (xs : List (Record K)) (n m i link : ℕ) (x : Record K) (k : K) (p : Buckets n m) (within : n ≤ length xs) (up : link ≡ suc i) (low : link ≤ n) (read : x ≡ get_or xs i x) (w : Walks xs n k link) where
    there : at (keys (entries xs n)) i ≡ Some x.key
    there = key_read xs n i x (omega arith) (omega arith) read

    at_next : x.next ≡ next_at xs i
    at_next = ap (λ r. r.next) read ∙ pick_read (λ r. r.next) xs i x (omega arith)

    pub turn_found : kind.alike x.key k ≡ true → FoundSo kind xs n k (Some i)
    turn_found t =
        let here : at (keys (entries xs n)) i ≡ Some k = there ∙ ap Some (kind.sound x.key k t) in
        (record { stored = omega arith; within = within; there = here }, walks_found xs n m i k p (subst (Walks xs n k) up w) here)

    pub turn_low : Indexed kind xs n → x.next < link
    turn_low ix = let h = next_low xs n m i ix p (omega arith) in let e = at_next in omega arith

    pub turn_on : kind.alike x.key k ≡ false → Walks xs n k x.next
    turn_on t = subst (Walks xs n k) (sym at_next) (walks_on xs n i k (subst (Walks xs n k) up w) (omega arith) (other_key xs n i x.key k there t))
