-- What the steps inside the store do to a table, as functions of lists. Assumes nothing.
use Rattle.std.specs.Prelude.{ℕ, zero, suc, cond, List, [], ◌∷◌, nat_lt}
use Rattle.model.specs.Keys.{KeyMeaning}
use Rattle.store.specs.declared.record.Record.{Record}
use Rattle.store.specs.Chains.{bucket_at, head_at}

-- the list with the element at a place changed by f
abbrev pub amend : {A : Type 0} → (A → A) → List A → ℕ → List A
amend f [] i = []
amend f (x ∷ xs) zero = f x ∷ xs
amend f (x ∷ xs) (suc i) = x ∷ amend f xs i

abbrev pub with_head : {K : Type 0} → ℕ → Record K → Record K
with_head h r = record r { head = h }

abbrev pub with_next : {K : Type 0} → ℕ → Record K → Record K
with_next v r = record r { next = v }

-- the heads of the first m buckets cleared
abbrev pub cleared : {K : Type 0} → List (Record K) → ℕ → List (Record K)
cleared xs zero = xs
cleared xs (suc b) = amend (with_head 0) (cleared xs b) b

-- the record at place i put at the head of its chain
abbrev pub linked : {K : Type 0} → KeyMeaning K → ℕ → List (Record K) → ℕ → List (Record K)
linked kind m xs i =
    amend (with_head (suc i)) (amend (with_next (head_at xs (bucket_at kind m xs i))) xs i) (bucket_at kind m xs i)

-- the first i records, one after the other, put at the heads of their chains
abbrev pub all_linked : {K : Type 0} → KeyMeaning K → ℕ → List (Record K) → ℕ → List (Record K)
all_linked kind m xs zero = xs
all_linked kind m xs (suc i) = linked kind m (all_linked kind m xs i) i

-- the record at place i put into the chains of the records before it: at the head of its own where there are fewer
-- buckets than records, else by linking all of them again
abbrev pub entered : {K : Type 0} → KeyMeaning K → ℕ → List (Record K) → ℕ → List (Record K)
entered kind m xs i = cond (nat_lt m (suc i)) (linked kind m xs i) (all_linked kind m (cleared xs m) m)
