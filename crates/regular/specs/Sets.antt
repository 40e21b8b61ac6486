-- Sets of small numbers, as places and labels, in one number: i is in the set where bit i is 1. Assumes nothing.
use Rattle.std.specs.Prelude.{◌≡◌, ℕ, zero, suc, ◌/◌, ◌%◌, ◌^◌, Bool, true, cond, ◌&&◌, List, [], ◌∷◌, ◌==◌, bit_or, slice_index, slice_set}

-- whether i is in the set
abbrev pub has : ℕ → ℕ → Bool
has s i = s / 2 ^ i % 2 == 1

-- i is in the set
abbrev pub Has : ℕ → ℕ → Type 0
Has s i = has s i ≡ true

-- the set with i in it too
abbrev pub with : ℕ → ℕ → ℕ
with s i = bit_or s (2 ^ i)

-- a set with the numbers of a list in it too
abbrev pub collected : ℕ → List ℕ → ℕ
collected s [] = s
collected s (n ∷ ns) = collected (with s n) ns

-- the sets that stand at the places of s, together; of the first k places
abbrev pub gather : List ℕ → ℕ → ℕ → ℕ
gather fs s zero = 0
gather fs s (suc k) = cond (has s k) (bit_or (gather fs s k) (slice_index fs k)) (gather fs s k)

-- the places of s that pass a test, of the first k places
abbrev pub keep : (ℕ → Bool) → ℕ → ℕ → ℕ
keep p s zero = 0
keep p s (suc k) = cond (has s k && p k) (with (keep p s k) k) (keep p s k)

-- the list in which each of the sets at the places of s, of the first k places, has gained the set more
abbrev pub gain : List ℕ → ℕ → ℕ → ℕ → List ℕ
gain fs s more zero = fs
gain fs s more (suc k) = cond (has s k) (slice_set (gain fs s more k) k (bit_or (slice_index (gain fs s more k) k) more)) (gain fs s more k)
