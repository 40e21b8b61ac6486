-- The index in the records: hash chains whose heads and links are fields of the records. Assumes nothing.
use Rattle.std.specs.Prelude.{◌≡◌, ℕ, zero, suc, ◌*◌, ◌/◌, ◌%◌, ◌^◌, ◌<◌, ◌≤◌, cond, List, [], ◌∷◌, length, ◌==◌, bit_xor}
use Rattle.model.specs.Keys.{KeyMeaning, spread}
use Rattle.store.specs.declared.record.Record.{Record}

-- m is the number of buckets of n records: the largest power of two not above n
pub record Buckets (n m : ℕ) : Type 0 where
  pub power : (k : ℕ) × (m ≡ 2 ^ k)
  pub within : m ≤ n
  pub most : n < 2 * m

-- the bucket of a key among m buckets: the upper half of its digest, spread over 64 bits
abbrev pub bucket_of : {K : Type 0} → KeyMeaning K → ℕ → K → ℕ
bucket_of kind m k = (spread (bit_xor (kind.digest k) (kind.digest k / 2 ^ 32)) / 2 ^ 32) % m

-- a number read off the element at a place, 0 past the end
abbrev pub pick : {A : Type 0} → (A → ℕ) → List A → ℕ → ℕ
pick f [] i = 0
pick f (x ∷ xs) zero = f x
pick f (x ∷ xs) (suc i) = pick f xs i

-- one more than the greatest place below n whose bucket is b, 0 where there is none; D is the bucket of each place
abbrev pub top : (ℕ → ℕ) → ℕ → ℕ → ℕ
top D zero b = 0
top D (suc i) b = cond (D i == b) (suc i) (top D i b)

-- chains over n places in m buckets, links one more than the place that they lead to: the head H of a bucket leads
-- to its greatest place, the link N of a place to the greatest place below it in the same bucket
pub record Linked (D H N : ℕ → ℕ) (m n : ℕ) : Type 0 where
  pub heads : (b : ℕ) → b < m → H b ≡ top D n b
  pub nexts : (i : ℕ) → i < n → N i ≡ top D i (D i)

-- the bucket of the key at a place
abbrev pub bucket_at : {K : Type 0} → KeyMeaning K → ℕ → List (Record K) → ℕ → ℕ
bucket_at kind m xs i = pick (λ r. bucket_of kind m r.key) xs i

abbrev pub head_at : {K : Type 0} → List (Record K) → ℕ → ℕ
head_at xs i = pick (λ r. r.head) xs i

abbrev pub next_at : {K : Type 0} → List (Record K) → ℕ → ℕ
next_at xs i = pick (λ r. r.next) xs i

-- the first n records of a table are stored, and their index fields are chains over them; of no record nothing is asked
pub record Indexed {K : Type 0} (kind : KeyMeaning K) (xs : List (Record K)) (n : ℕ) : Type 0 where
  pub within : n ≤ length xs
  pub chains : (m : ℕ) → Buckets n m → Linked (bucket_at kind m xs) (head_at xs) (next_at xs) m n
