-- What a cell means: states with codes, start codes, next codes, labels and values. Assumes nothing.
use Rattle.std.specs.Prelude.{◌≡◌, ℕ, zero, suc, ◌<◌, ◌≤◌, Bool, true, false, cond, ◌⊎◌, List, [], ◌∷◌, length, ℤ, pos, negsuc, ◌≤ℤ◌, Some, None, Option}
use Rattle.model.specs.declared.moment.Reading.{Reading}

-- x is among the elements
abbrev pub In : {A : Type 0} → A → List A → Type 0
In x [] = ⊥
In x (y ∷ ys) = (x ≡ y) ⊎ In x ys

-- the element at a place, none past the end
abbrev pub at : {A : Type 0} → List A → ℕ → Option A
at [] i = None
at (x ∷ xs) zero = Some x
at (x ∷ xs) (suc i) = at xs i

-- each number is a register's: from -1,000 to 1,000
abbrev pub Limited : List ℤ → Type 0
Limited [] = Unit {0}
Limited (v ∷ vs) = (negsuc 999 ≤ℤ v) × (v ≤ℤ pos 1000) × Limited vs

pub record CellMeaning : Type 0 where
  -- which codes are states
  pub state : ℕ → Bool
  -- the start codes, in order
  pub starts : List ℕ
  -- the next codes of a code, in order
  pub nexts : ℕ → List ℕ
  -- a state's label and its six values
  pub reads : ℕ → Reading
  pub few_starts : length starts ≤ 65536
  pub few_nexts : (x : ℕ) → length (nexts x) ≤ 64
  pub starts_are_states : (x : ℕ) → In x starts → state x ≡ true
  pub nexts_are_states : (x y : ℕ) → In y (nexts x) → state y ≡ true
  pub none_from_no_state : (x : ℕ) → state x ≡ false → nexts x ≡ []
  pub labels_limited : (x : ℕ) → state x ≡ true → (reads x).label < 64
  pub values_limited : (x : ℕ) → state x ≡ true → Limited (reads x).values

-- an observation: yes and the reading for a state, no and the record as it was for no state
abbrev pub Observed : CellMeaning → ℕ → Reading → Reading → Bool → Type 0
Observed c x old new r = (r ≡ c.state x) × (new ≡ cond (c.state x) (c.reads x) old)
