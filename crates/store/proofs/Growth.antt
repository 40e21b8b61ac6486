-- What entering one more record in the chains does to a table. Assumes nothing.
use Rattle.std.proofs.Common.{◌≡◌, ℕ, zero, suc, ◌+◌, ◌<◌, ◌≤◌, ltb, List, ◌++◌, map, length, take, drop, set, sym, refl, ap, ◌∙◌, subst, inl, inr, add-one, arith}
use Rattle.std.proofs.lemmas.Nat.{mod_below, pow_pos}
use Rattle.std.proofs.lemmas.List.{take-map, take_more_set, map_push, length-map, length-take-le, take-append-drop}
use Rattle.std.proofs.lemmas.Bool.{cond_both, ltb-true, ltb-false, cases_eq}
use Rattle.model.specs.Keys.{KeyMeaning}
use Rattle.store.specs.declared.record.Record.{Record}
use Rattle.store.specs.Calls.{Grown}
use Rattle.store.specs.Entries.{entry}
use Rattle.store.specs.Chains.{Buckets, Linked, Indexed, bucket_of, bucket_at, head_at, next_at}
use Rattle.store.specs.Steps.{amend, with_head, with_next, cleared, linked, all_linked, entered}
use Rattle.store.proofs.Amends.{put_amend, length_amend, amend_front, drop_amend, map_amend, pick_kept, pick_here, pick_other, pick_below}
use Rattle.store.proofs.Tops.{kept_chains, no_chains, one_more, same_buckets}

-- the entries are the same, and the places from n on
pub record Same {K : Type 0} (n : ℕ) (xs ys : List (Record K)) : Type 0 where
  pub entries : map entry ys ≡ map entry xs
  pub beyond : drop n ys ≡ drop n xs

module _ {K : Type 0} where
  pub same_then : (n : ℕ) (xs ys zs : List (Record K)) → Same n xs ys → Same n ys zs → Same n xs zs
  same_then n xs ys zs p q = record { entries = q.entries ∙ p.entries; beyond = q.beyond ∙ p.beyond }

  pub same_head : (n : ℕ) (h : ℕ) (xs : List (Record K)) (i : ℕ) → i < n → Same n xs (amend (with_head h) xs i)
  same_head n h xs i l = record { entries = map_amend entry (with_head h) (λ x. refl) xs i; beyond = drop_amend (with_head h) n xs i l }

  pub same_next : (n : ℕ) (v : ℕ) (xs : List (Record K)) (i : ℕ) → i < n → Same n xs (amend (with_next v) xs i)
  same_next n v xs i l = record { entries = map_amend entry (with_next v) (λ x. refl) xs i; beyond = drop_amend (with_next v) n xs i l }

  pub same_length : (n : ℕ) (xs ys : List (Record K)) → Same n xs ys → length ys ≡ length xs
  same_length n xs ys s = sym (length-map ys entry) ∙ ap length s.entries ∙ length-map xs entry

  pub same_cleared : (n m : ℕ) (xs : List (Record K)) → m ≤ n → Same n xs (cleared xs m)
  same_cleared n zero xs l = record { entries = refl; beyond = refl }
  same_cleared n (suc b) xs l = same_then n xs (cleared xs b) _ (same_cleared n b xs (omega arith)) (same_head n 0 (cleared xs b) b l)

  -- clearing in the front of a table leaves the rest
  pub cleared_front : (xs ys : List (Record K)) (m : ℕ) → m ≤ length xs → cleared (xs ++ ys) m ≡ cleared xs m ++ ys
  cleared_front xs ys zero l = refl
  cleared_front xs ys (suc b) l =
      let e = same_length b xs (cleared xs b) (same_cleared b b xs (omega arith)) in
      ap (λ zs. amend (with_head 0) zs b) (cleared_front xs ys b (omega arith)) ∙ amend_front (with_head 0) (cleared xs b) ys b (omega arith)

  -- clearing the front of a table, taken by itself
  pub cleared_taken : (m : ℕ) (xs hs : List (Record K)) → m ≤ length xs → hs ≡ cleared (take m xs) (length (take m xs)) → hs ++ drop m xs ≡ cleared xs m
  cleared_taken m xs hs l e =
      let n : length (take m xs) ≡ m = length-take-le m xs l in
      ap (λ zs. zs ++ drop m xs) (e ∙ ap (cleared (take m xs)) n)
      ∙ sym (cleared_front (take m xs) (drop m xs) m (omega arith)) ∙ ap (λ zs. cleared zs m) (take-append-drop m xs)

  -- the heads of the cleared buckets
  pub cleared_heads : (m : ℕ) (xs : List (Record K)) → m ≤ length xs → (b : ℕ) → b < m → head_at (cleared xs m) b ≡ 0
  cleared_heads zero xs l b h = absurd (omega arith)
  cleared_heads (suc a) xs l b h =
      elim (cases_eq b a) [
        | inl z ↦ subst (λ x. head_at (amend (with_head 0) (cleared xs a) a) x ≡ 0) (sym z)
            (pick_here (λ r. r.head) (with_head 0) 0 (λ x. refl) (cleared xs a) a (let e = same_length a xs (cleared xs a) (same_cleared a a xs (omega arith)) in omega arith))
        | inr z ↦ pick_other (λ r. r.head) (with_head 0) (cleared xs a) a b z ∙ cleared_heads a xs (omega arith) b (omega arith)
      ]

module _ {K : Type 0} (kind : KeyMeaning K) where
  -- the two writes of a link, as they are made
  pub linked_is : (m : ℕ) (xs zs ys : List (Record K)) (i b h v : ℕ) → b ≡ bucket_at kind m xs i → v ≡ head_at xs b → h ≡ suc i → zs ≡ amend (with_next v) xs i → ys ≡ amend (with_head h) zs b → ys ≡ linked kind m xs i
  linked_is m xs zs ys i b h v at head up next set =
      set ∙ (λ t. amend (with_head (up t)) ((next ∙ (λ s. amend (with_next ((head ∙ ap (head_at xs) at) s)) xs i)) t) (at t))

  abbrev Chained : ℕ → List (Record K) → ℕ → Type 0
  Chained m xs n = Linked (bucket_at kind m xs) (head_at xs) (next_at xs) m n

  pub bucket_low : (m : ℕ) (xs : List (Record K)) (i : ℕ) → 0 < m → bucket_at kind m xs i < m
  bucket_low m xs i h = pick_below (λ r. bucket_of kind m r.key) m h (λ r. mod_below _ m h) xs i

  pub same_linked : (n m : ℕ) (xs : List (Record K)) (i : ℕ) → 0 < m → m ≤ n → i < n → Same n xs (linked kind m xs i)
  same_linked n m xs i z l h =
      let v = head_at xs (bucket_at kind m xs i) in
      let low = bucket_low m xs i z in
      same_then n xs (amend (with_next v) xs i) _ (same_next n v xs i h) (same_head n (suc i) _ (bucket_at kind m xs i) (omega arith))

  -- one more record in the chains
  pub chained_more : (m : ℕ) (xs : List (Record K)) (i : ℕ) → 0 < m → m ≤ length xs → i < length xs → Chained m xs i → Chained m (linked kind m xs i) (suc i)
  chained_more m xs i z l h old =
      let b = bucket_at kind m xs i in
      let v = head_at xs b in
      let zs = amend (with_next v) xs i in
      let low = bucket_low m xs i z in
      let long = length_amend (with_next v) xs i in
      let bucket_same : (j : ℕ) → bucket_at kind m xs j ≡ bucket_at kind m (linked kind m xs i) j =
      λ j. sym (pick_kept (λ r. bucket_of kind m r.key) (with_head (suc i)) (λ x. refl) zs b j ∙ pick_kept (λ r. bucket_of kind m r.key) (with_next v) (λ x. refl) xs i j) in
      let head_same : (j : ℕ) → head_at zs j ≡ head_at xs j = λ j. pick_kept (λ r. r.head) (with_next v) (λ x. refl) xs i j in
      let next_same : (j : ℕ) → next_at (linked kind m xs i) j ≡ next_at zs j = λ j. pick_kept (λ r. r.next) (with_head (suc i)) (λ x. refl) zs b j in
      kept_chains (bucket_at kind m xs) _ (head_at (linked kind m xs i)) _ (next_at (linked kind m xs i)) _ m (suc i)
      (one_more (bucket_at kind m xs) (head_at xs) (head_at (linked kind m xs i)) (next_at xs) (next_at (linked kind m xs i)) m i old low
      (pick_here (λ r. r.head) (with_head (suc i)) (suc i) (λ x. refl) zs b (omega arith))
      (λ j e. pick_other (λ r. r.head) (with_head (suc i)) zs b j e ∙ head_same j)
      (next_same i ∙ pick_here (λ r. r.next) (with_next v) v (λ x. refl) xs i h)
      (λ j e. next_same j ∙ pick_other (λ r. r.next) (with_next v) xs i j (λ q. omega arith)))
      (λ j e. bucket_same j) (λ j e. refl) (λ j e. refl)

  -- linking the first i records, one after the other, after the heads are cleared
  pub chained_all : (n m : ℕ) (xs : List (Record K)) (i : ℕ) → 0 < m → m ≤ n → m ≤ length xs → i ≤ m → ((b : ℕ) → b < m → head_at xs b ≡ 0) → Same n xs (all_linked kind m xs i) × Chained m (all_linked kind m xs i) i
  chained_all n m xs zero z l h k none = (record { entries = refl; beyond = refl }, no_chains (bucket_at kind m xs) (head_at xs) (next_at xs) m none)
  chained_all n m xs (suc i) z l h k none =
      let old = chained_all n m xs i z l h (omega arith) none in
      let ys = all_linked kind m xs i in
      let long = same_length n xs ys old.0 in
      (same_then n xs ys _ old.0 (same_linked n m ys i z l (omega arith)), chained_more m ys i z (omega arith) (omega arith) old.1)

  buckets_some : (n m : ℕ) → Buckets n m → 0 < m
  buckets_some n m p = subst (λ x. 0 < x) (sym p.power.1) (pow_pos p.power.0)

  -- entering the record at place n
  pub entered_same : (m : ℕ) (xs : List (Record K)) (n : ℕ) → n < length xs → Buckets (n + 1) m → Same (n + 1) xs (entered kind m xs n)
  entered_same m xs n l p =
      let z = buckets_some (n + 1) m p in
      let cs = same_cleared (n + 1) m xs p.within in
      let long = same_length (n + 1) xs (cleared xs m) cs in
      cond_both (ltb m (suc n)) (linked kind m xs n) (all_linked kind m (cleared xs m) m) (λ ys. Same (n + 1) xs ys)
      (λ t. same_linked (n + 1) m xs n z p.within (omega arith))
      (λ t. same_then (n + 1) xs (cleared xs m) _ cs (chained_all (n + 1) m (cleared xs m) m z p.within (omega (arith, p.within)) (omega arith) (cleared_heads m xs (omega (arith, p.within)))).0)

  pub entered_chained : (m : ℕ) (xs : List (Record K)) (n : ℕ) → n < length xs → Buckets (n + 1) m → ((k : ℕ) → Buckets n k → Chained k xs n) → Chained m (entered kind m xs n) (n + 1)
  entered_chained m xs n l p old =
      let z = buckets_some (n + 1) m p in
      let long = same_length (n + 1) xs (cleared xs m) (same_cleared (n + 1) m xs p.within) in
      cond_both (ltb m (suc n)) (linked kind m xs n) (all_linked kind m (cleared xs m) m) (λ ys. Chained m ys (n + 1))
      (λ t.
      let less = ltb-true m (suc n) t in
      subst (Chained m (linked kind m xs n)) (sym (add-one n))
      (chained_more m xs n z (omega (arith, p.within)) l (old m (record { power = p.power; within = omega arith; most = omega (arith, p.most) }))))
      (λ t.
      let most = ltb-false m (suc n) t in
      let all : m ≡ n + 1 = omega (arith, p.within) in
      subst (Chained m (all_linked kind m (cleared xs m) m)) all
      (chained_all m m (cleared xs m) m z (omega arith) (omega (arith, p.within)) (omega arith) (cleared_heads m xs (omega (arith, p.within)))).1)

  -- writing a record behind the n stored ones, and entering it
  module _ (xs zs ys : List (Record K)) (n m : ℕ) (x : Record K) (room : n < length xs) (p : Buckets (n + 1) m) (put : zs ≡ amend (λ _. x) xs n) (enter : ys ≡ entered kind m zs n) where
    longer : length zs ≡ length xs
    longer = ap length put ∙ length_amend (λ _. x) xs n

    same : Same (n + 1) zs ys
    same = subst (Same (n + 1) zs) (sym enter) (entered_same m zs n (let e = longer in omega arith) p)

    pub grown : n < 4294967295 → Grown xs ys n x.key x.from
    grown small = record {
      room = omega arith;
      long = same_length (n + 1) zs ys same ∙ longer;
      stored =
          sym (take-map entry (n + 1) ys) ∙ ap (take (n + 1)) same.entries ∙ take-map entry (n + 1) zs
          ∙ ap (λ l. map entry (take (n + 1) l)) (put ∙ sym (put_amend x xs n))
          ∙ ap (map entry) (take_more_set xs n x room) ∙ map_push entry (take n xs) x;
      beyond = same.beyond ∙ ap (drop (n + 1)) put ∙ drop_amend (λ _. x) (n + 1) xs n (omega arith);
    }

    kept : Indexed kind xs n → (k : ℕ) → Buckets n k → Chained k zs n
    kept ix k q =
        subst (λ l. Chained k l n) (sym put)
        (kept_chains (bucket_at kind k xs) _ (head_at xs) _ (next_at xs) _ k n (ix.chains k q)
        (λ i l. sym (pick_other (λ r. bucket_of kind k r.key) (λ _. x) xs n i (λ e. omega arith)))
        (λ i l. pick_other (λ r. r.head) (λ _. x) xs n i (λ e. omega (arith, q.within)))
        (λ i l. pick_other (λ r. r.next) (λ _. x) xs n i (λ e. omega arith)))

    pub indexed : Indexed kind xs n → Indexed kind ys (n + 1)
    indexed ix = record {
      within = let a = same_length (n + 1) zs ys same in let b = longer in omega arith;
      chains = λ k q.
          subst (λ j. Chained j ys (n + 1)) (same_buckets (n + 1) m k p q)
          (subst (λ l. Chained m l (n + 1)) (sym enter) (entered_chained m zs n (let e = longer in omega arith) p (kept ix)));
    }
