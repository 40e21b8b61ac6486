-- The table while codes are met: what one more leaves, and how steps follow one another. Assumes nothing.
use Rattle.std.proofs.Common.{◌≡◌, ℕ, zero, suc, ◌+◌, ◌<◌, ◌≤◌, false, List, [], ◌∷◌, ◌++◌, length, get_or, take, drop, Some, Ok, Err, Result, sym, refl, ap, ◌∙◌, subst, add-one, arith}
use Rattle.std.proofs.lemmas.List.{length_push, take_all, take_at, take-append-drop, get_or_default}
use Rattle.model.specs.Cells.{CellMeaning, at}
use Rattle.model.specs.Entries.{Entry}
use Rattle.model.specs.Keys.{code_key}
use Rattle.store.specs.declared.record.Record.{Record}
use Rattle.store.specs.declared.adding.NoPlace.{NoPlace}
use Rattle.store.specs.Keeping as keeping
use Rattle.store.specs.Keeping.{Kept, now_stored, old, new, no_place}
use Rattle.store.specs.Chains.{Indexed}
use Rattle.store.specs.Calls.{places}
use Rattle.store.specs.Entries.{entry, entries, known}
use Rattle.store.proofs.Laws.{beyond_more, entries_length, entry_read, places_all}
use Rattle.levels.proofs.Lists.{some_injective, some_none}
use Rattle.survey.specs.Held.{Held, Packed, KeptSo}
use Rattle.survey.specs.Order.{Met, meet, gather, visit, walked}
use Rattle.survey.proofs.Meeting.{meet_known, meet_new, Begins, begins_long, begins_take, meet_begins, gather_begins, gather_append, gather_push}
use Rattle.survey.proofs.Walking.{visit_is}

abbrev Table : Type 0
Table = List (Record ℕ)

pub held_length : (xs ys : Table) (m : ℕ) (es : Met) → Held xs ys m es → length es ≡ m
held_length xs ys m es h = sym (ap length h.stored) ∙ entries_length ys m h.indexed.within

-- a table whose records are indexed holds their entries
pub held_itself : (xs : Table) (m : ℕ) → Indexed code_key xs m → m ≤ 4294967295 → Held xs xs m (entries xs m)
held_itself xs m ix small = record { stored = refl; indexed = ix; fits = omega (arith, ix.within); long = refl; beyond = refl }

module _ (xs ys : Table) (n k f : ℕ) where
  abbrev met : Met
  met = meet (entries xs n) k f

  -- the code is new and finds no place
  kept_none : Indexed code_key xs n → known code_key (entries xs n) k ≡ false → places xs ≤ n → ys ≡ xs → length xs ≤ 1000000 → Packed xs ys met
  kept_none ix t q same small =
      let e : Entry ℕ = record { key = k; from = f } in
      let all : n ≡ length xs = omega (arith, places_all xs small, ix.within) in
      let l = entries_length xs n ix.within in
      let m = meet_new (entries xs n) k f t in
      let r : entries xs (length xs) ≡ take (length xs) met =
      ap (entries xs) (sym all) ∙ sym (take_at (entries xs n) (e ∷ []) (length xs) (l ∙ all)) ∙ ap (take (length xs)) (sym m) in
      subst (λ zs. Packed xs zs met) (sym same) (record { over = omega (arith, length_push (entries xs n) e, ap length m); stored = r; long = refl })

  kept_by : (r : Result ℕ NoPlace) → Indexed code_key xs n → n ≤ 4294967295 → Kept code_key xs ys n k f r → Indexed code_key ys (now_stored n r) → length ys ≡ length xs → drop (now_stored n r) ys ≡ drop (now_stored n r) xs → KeptSo xs ys met r
  kept_by r ix small (old t e) i l b = record { stored = ap (λ zs. entries zs n) e ∙ sym (meet_known (entries xs n) k f t); indexed = i; fits = omega (arith, i.within); long = l; beyond = b }
  kept_by r ix small (new t q e) i l b = record { stored = e ∙ sym (meet_new (entries xs n) k f t); indexed = i; fits = omega arith; long = l; beyond = b }
  kept_by r ix small (no_place t q e) i l b = kept_none ix t q e

  -- keeping a code in the table meets it
  pub kept_met : (r : Result ℕ NoPlace) → Indexed code_key xs n → n ≤ 4294967295 → keeping.KeptSo code_key xs ys n k f r → KeptSo xs ys met r
  kept_met r ix small s = kept_by r ix small (s.kept ix) (s.indexed ix) s.long s.beyond

-- one step after the other
pub held_then : (xs ys zs : Table) (m n : ℕ) (es fs : Met) → Held xs ys m es → Held ys zs n fs → Begins es fs → Held xs zs n fs
held_then xs ys zs m n es fs h g b =
    let l = begins_long es fs b in
    let p = held_length xs ys m es h in
    let q = held_length ys zs n fs g in
    record { stored = g.stored; indexed = g.indexed; fits = g.fits; long = g.long ∙ h.long; beyond = g.beyond ∙ beyond_more xs ys m n (omega arith) h.beyond }

pub packed_then : (xs ys zs : Table) (es : Met) → length ys ≡ length xs → Packed ys zs es → Packed xs zs es
packed_then xs ys zs es e p =
    record { over = subst (λ n. n < length es) e p.over; stored = subst (λ n. entries zs n ≡ take n es) e p.stored; long = p.long ∙ e }

-- what comes later does not change that places are wanting, nor what the places hold
pub packed_more : (xs ys : Table) (es fs : Met) → Packed xs ys es → Begins es fs → Packed xs ys fs
packed_more xs ys es fs p b =
    let l = begins_long es fs b in
    let o = p.over in
    record { over = omega arith; stored = p.stored ∙ sym (begins_take (length xs) es fs b (omega arith)); long = p.long }

pub held_as : (xs ys : Table) (m : ℕ) (es fs : Met) → es ≡ fs → Held xs ys m es → Held xs ys m fs
held_as xs ys m es fs e h = subst (Held xs ys m) e h

take_next : (ks : List ℕ) (i k : ℕ) → at ks i ≡ Some k → take (i + 1) ks ≡ take i ks ++ (k ∷ [])
take_next ks i k e = ap (λ n. take n ks) (add-one i) ∙ go ks i e
  where
    go : (ls : List ℕ) (j : ℕ) → at ls j ≡ Some k → take (suc j) ls ≡ take j ls ++ (k ∷ [])
    go [] j h = absurd (some_none (sym h))
    go (l ∷ ls) zero h = ap (λ z. z ∷ []) (some_injective h)
    go (l ∷ ls) (suc j) h = ap (λ z. l ∷ z) (go ls j h)

-- the codes of a list, one after the other: g tells where one is reached from
module _ (g : Met → ℕ) (ks : List ℕ) (es : Met) (i k : ℕ) (here : at ks i ≡ Some k) (xs ys zs : Table) (m : ℕ) (h : Held xs ys m (gather g (take i ks) es)) where
  abbrev so_far : Met
  so_far = gather g (take i ks) es

  next_is : gather g (take (i + 1) ks) es ≡ meet so_far k (g so_far)
  next_is = ap (λ l. gather g l es) (take_next ks i k here) ∙ gather_push g (take i ks) k es

  met_is : meet (entries ys m) k (g so_far) ≡ gather g (take (i + 1) ks) es
  met_is = ap (λ ds. meet ds k (g so_far)) h.stored ∙ sym next_is

  kept_here : (r : Result ℕ NoPlace) → keeping.KeptSo code_key ys zs m k (g so_far) r → KeptSo ys zs (meet (entries ys m) k (g so_far)) r
  kept_here r q = kept_met ys zs m k (g so_far) r h.indexed (omega (arith, h.fits)) q

  pub gathered : (n : ℕ) → keeping.KeptSo code_key ys zs m k (g so_far) (Ok n) → Held xs zs n (gather g (take (i + 1) ks) es)
  gathered n q =
      held_as xs zs n (meet (entries ys m) k (g so_far)) (gather g (take (i + 1) ks) es) met_is
      (held_then xs ys zs m n so_far (meet (entries ys m) k (g so_far)) h (kept_here (Ok n) q) (subst (λ ds. Begins so_far (meet ds k (g so_far))) (sym h.stored) (meet_begins so_far k (g so_far))))

  pub gathered_none : (e : NoPlace) → keeping.KeptSo code_key ys zs m k (g so_far) (Err e) → length xs ≤ 1000000 → Packed xs zs (gather g ks es)
  gathered_none e q small =
      packed_more xs zs (gather g (take (i + 1) ks) es) (gather g ks es)
      (subst (Packed xs zs) met_is (packed_then xs ys zs (meet (entries ys m) k (g so_far)) h.long (kept_here (Err e) q (omega (arith, h.long)))))
      (subst (λ l. Begins (gather g (take (i + 1) ks) es) (gather g l es)) (take-append-drop (i + 1) ks) (subst (λ ds. Begins (gather g (take (i + 1) ks) es) ds) (sym (gather_append g (take (i + 1) ks) (drop (i + 1) ks) es)) (gather_begins g (drop (i + 1) ks) (gather g (take (i + 1) ks) es))))

-- the whole list was gone through
pub gathered_all : (g : Met → ℕ) (ks : List ℕ) (es : Met) (i : ℕ) (xs ys : Table) (m : ℕ) → length ks ≤ i → Held xs ys m (gather g (take i ks) es) → Held xs ys m (gather g ks es)
gathered_all g ks es i xs ys m l h = subst (λ l. Held xs ys m (gather g l es)) (take_all i ks l) h

-- the starts, each reached from its own place
module _ (ks : List ℕ) (i k : ℕ) (here : Some k ≡ at ks i) (xs ys zs : Table) (m : ℕ) (h : Held xs ys m (gather length (take i ks) [])) where
  own : m ≡ length (gather length (take i ks) [])
  own = sym (held_length xs ys m (gather length (take i ks) []) h)

  pub started : (n : ℕ) → keeping.KeptSo code_key ys zs m k m (Ok n) → Held xs zs n (gather length (take (i + 1) ks) [])
  started n q = gathered length ks [] i k (sym here) xs ys zs m h n (subst (λ f. keeping.KeptSo code_key ys zs m k f (Ok n)) own q)

  pub started_none : (e : NoPlace) → keeping.KeptSo code_key ys zs m k m (Err e) → length xs ≤ 1000000 → Packed xs zs (gather length ks [])
  started_none e q = gathered_none length ks [] i k (sym here) xs ys zs m h e (subst (λ f. keeping.KeptSo code_key ys zs m k f (Err e)) own q)

-- what a place of the table holds while nothing is known of it
abbrev pub blank : Record ℕ
blank = record { key = 0; from = 0; head = 0; next = 0 }

-- the next codes of the code that is read at a place
pub visit_read : (c : CellMeaning) (xs : Table) (n i : ℕ) → i < n → n ≤ length xs → visit c i (entries xs n) (at (entries xs n) i) ≡ gather (λ _. i) (c.nexts (get_or xs i blank).key) (entries xs n)
visit_read c xs n i l h =
    let low : i < length xs = omega arith in
    visit_is c i (entries xs n) (entry (get_or xs i blank)) (entry_read xs n i (get_or xs i blank) l low (get_or_default xs i blank (get_or xs i blank) low))

-- the next codes of the code that is read at place i, gone through to place j: xs is the table before the first of them
module _ (c : CellMeaning) (xs : Table) (n i : ℕ) (low : i < n) (within : n ≤ length xs) (ys : Table) (m j : ℕ) where
  abbrev codes : List ℕ
  codes = c.nexts (get_or xs i blank).key

  abbrev pub Visited : Type 0
  Visited = Held xs ys m (gather (λ _. i) (take j codes) (entries xs n))

  pub visited : (zs : Table) (k o : ℕ) → Some k ≡ at codes j → Visited → keeping.KeptSo code_key ys zs m k i (Ok o) → Held xs zs o (gather (λ _. i) (take (j + 1) codes) (entries xs n))
  visited zs k o here h q = gathered (λ _. i) codes (entries xs n) j k (sym here) xs ys zs m h o q

  pub visited_none : (zs : Table) (k : ℕ) (e : NoPlace) → Some k ≡ at codes j → Visited → keeping.KeptSo code_key ys zs m k i (Err e) → length xs ≤ 1000000 → Packed xs zs (visit c i (entries xs n) (at (entries xs n) i))
  visited_none zs k e here h q small =
      subst (Packed xs zs) (sym (visit_read c xs n i low within)) (gathered_none (λ _. i) codes (entries xs n) j k (sym here) xs ys zs m h e q small)

  pub visited_all : length codes ≤ j → Visited → Held xs ys m (visit c i (entries xs n) (at (entries xs n) i))
  visited_all past h = subst (Held xs ys m) (sym (visit_read c xs n i low within)) (gathered_all (λ _. i) codes (entries xs n) j xs ys m past h)

-- the same for a table of the same length
pub packed_as : (c : CellMeaning) (xs ys zs : Table) → length ys ≡ length xs → Packed ys zs (walked c (length ys)) → Packed xs zs (walked c (length xs))
packed_as c xs ys zs e p = packed_then xs ys zs (walked c (length xs)) e (subst (λ n. Packed ys zs (walked c n)) e p)
