-- What keeping a key comes to, by how many records are stored after it. Assumes nothing.
use Rattle.std.specs.Prelude.{◌≡◌, ℕ, ◌+◌, ◌<◌, ◌≤◌, true, false, List, [], ◌∷◌, ◌++◌, length, drop, Ok, Err, Result}
use Rattle.model.specs.Keys.{KeyMeaning}
use Rattle.store.specs.declared.record.Record.{Record}
use Rattle.store.specs.declared.adding.Added.{Added}
use Rattle.store.specs.declared.adding.Added.TheVariants.{Known, New}
use Rattle.store.specs.declared.adding.NoPlace.{NoPlace}
use Rattle.store.specs.Calls.{places, AddedSo}
use Rattle.store.specs.Chains.{Indexed}
use Rattle.store.specs.Entries.{entries, known}

-- how key k, reached from place f, was kept among the first m records of xs, which leaves ys: it was known, or it is the
-- last, or no place is left
pub data Kept {K : Type 0} (kind : KeyMeaning K) (xs ys : List (Record K)) (m : ℕ) (k : K) (f : ℕ) : Result ℕ NoPlace → Type 0 where
  old : known kind (entries xs m) k ≡ true → ys ≡ xs → Kept kind xs ys m k f (Ok m)
  new : known kind (entries xs m) k ≡ false → m < places xs → entries ys (m + 1) ≡ entries xs m ++ (record { key = k; from = f } ∷ []) → Kept kind xs ys m k f (Ok (m + 1))
  no_place : {e : NoPlace} → known kind (entries xs m) k ≡ false → places xs ≤ m → ys ≡ xs → Kept kind xs ys m k f (Err e)

-- how many are stored after it, by the answer
abbrev pub now_stored : ℕ → Result ℕ NoPlace → ℕ
now_stored m (Ok m') = m'
now_stored m (Err e) = m

-- the answer to keeping, by what adding came to
abbrev pub counted : ℕ → Result Added NoPlace → Result ℕ NoPlace
counted m (Ok (Known i)) = Ok m
counted m (Ok New) = Ok (m + 1)
counted m (Err e) = Err e

-- the answer to keeping the key: records that were indexed are indexed after it; whatever the table holds, the key was
-- added as AddedSo has it, so nothing stored goes, and no place beyond the stored ones is written
pub record KeptSo {K : Type 0} (kind : KeyMeaning K) (xs ys : List (Record K)) (m : ℕ) (k : K) (f : ℕ) (r : Result ℕ NoPlace) : Type 0 where
  pub kept : Indexed kind xs m → Kept kind xs ys m k f r
  pub indexed : Indexed kind xs m → Indexed kind ys (now_stored m r)
  pub added : (a : Result Added NoPlace) × AddedSo kind xs ys m k f a × (r ≡ counted m a)
  pub more : m ≤ now_stored m r
  pub long : length ys ≡ length xs
  pub beyond : drop (now_stored m r) ys ≡ drop (now_stored m r) xs
