-- The prefix traces of a program, rule by rule. Assumes nothing.
use Rattle.std.specs.Prelude.{◌≡◌, ℕ, zero, suc, ◌+◌, Bool, true, false, cond, ◌⊎◌, List, [], ◌∷◌, ◌++◌, ℤ, ◌≤ℤ◌, int_lt, slice_set}
use Rattle.model.specs.declared.moment.Moment.{Moment}
use Rattle.model.specs.declared.moment.Reading.{Reading}
use Rattle.text.specs.Expressions.{value, holds}
use Rattle.traces.specs.declared.range.Range.{Range}
use Rattle.traces.specs.Programs.{Part, assign, sense, skip, if_then, if_else, while, break, block, empty, list, size, begins, nil, Tree, ranges}

-- a state: the label of the next statement, and the values of the six registers
abbrev pub State : Type 0
State = Reading

infix 20 ◌▹◌
abbrev pub ◌▹◌ : ℕ → List ℤ → State
ℓ ▹ ρ = record { label = ℓ; values = ρ }

-- what an expression of a program sees: the values
abbrev pub seen : List ℤ → Moment
seen ρ = record { label = 0; values = ρ; starts = ρ }

-- a register's range
abbrev pub range_at : List Range → ℕ → Range
range_at [] x = nil
range_at (r ∷ rs) zero = r
range_at (r ∷ rs) (suc x) = range_at rs x

-- what a register keeps of a value: the value, or the nearer end of its range
abbrev pub kept : Range → ℤ → ℤ
kept r z = cond (int_lt z r.low) r.low (cond (int_lt r.high z) r.high z)

-- the values after register x is set to z
abbrev pub stored : List Range → List ℤ → ℕ → ℤ → List ℤ
stored rs ρ x z = slice_set ρ x (kept (range_at rs x) z)

-- the traces of a loop at label ℓ with the label after it, where the body begins, its test and its body's traces: the least set with
pub data Loop (ℓ after first : ℕ) (test : List ℤ → Bool) (Body : List State → Type 0) : List State → Type 0 where
  -- a trace that stops at the loop,
  stops : {π : List State} (ρ : List ℤ) → π ≡ (ℓ ▹ ρ) ∷ [] → Loop ℓ after first test Body π
  -- one that came back to the loop and leaves it,
  leaves : {π : List State} (ω : List State) (ρ : List ℤ) → Loop ℓ after first test Body (ω ++ ((ℓ ▹ ρ) ∷ [])) → test ρ ≡ false
      → π ≡ ω ++ ((ℓ ▹ ρ) ∷ (after ▹ ρ) ∷ []) → Loop ℓ after first test Body π
  -- and one that came back to the loop and goes on in the body
  enters : {π : List State} (ω : List State) (ρ : List ℤ) (φ : List State) → Loop ℓ after first test Body (ω ++ ((ℓ ▹ ρ) ∷ [])) → test ρ ≡ true
      → Body ((first ▹ ρ) ∷ φ) → π ≡ ω ++ ((ℓ ▹ ρ) ∷ (first ▹ ρ) ∷ φ) → Loop ℓ after first test Body π

-- a trace that stops where it starts, at label ℓ
abbrev pub Stops : ℕ → List State → Type 0
Stops ℓ π = (ρ : List ℤ) × (π ≡ (ℓ ▹ ρ) ∷ [])

module _ (rs : List Range) where
  -- the prefix traces of a component with labels from ℓ on, a the label after it, b the label that its breaks go to
  abbrev pub Traces : Part → ℕ → ℕ → ℕ → List State → Type 0
  -- assignment: it stops, or stores the value and is after it
  Traces (assign x e) ℓ a b π = Stops ℓ π ⊎ ((ρ : List ℤ) × (π ≡ (ℓ ▹ ρ) ∷ (a ▹ stored rs ρ x (value (seen ρ) e)) ∷ []))
  -- sense: it stops, or has any value of the range and is after it
  Traces (sense x) ℓ a b π = Stops ℓ π ⊎ ((ρ : List ℤ) × (v : ℤ) × ((range_at rs x).low ≤ℤ v) × (v ≤ℤ (range_at rs x).high) × (π ≡ (ℓ ▹ ρ) ∷ (a ▹ slice_set ρ x v) ∷ []))
  -- skip: it stops, or is after it
  Traces skip ℓ a b π = Stops ℓ π ⊎ ((ρ : List ℤ) × (π ≡ (ℓ ▹ ρ) ∷ (a ▹ ρ) ∷ []))
  -- conditional: it stops, or is after it where the test fails, or goes on in the part where the test holds
  Traces (if_then t s) ℓ a b π = Stops ℓ π
      ⊎ (((ρ : List ℤ) × (holds (seen ρ) t ≡ false) × (π ≡ (ℓ ▹ ρ) ∷ (a ▹ ρ) ∷ []))
      ⊎ ((ρ : List ℤ) × (φ : List State) × (holds (seen ρ) t ≡ true) × Traces s (ℓ + 1) a b ((begins s (ℓ + 1) a ▹ ρ) ∷ φ) × (π ≡ (ℓ ▹ ρ) ∷ (begins s (ℓ + 1) a ▹ ρ) ∷ φ)))
  -- conditional with two parts: it stops, or goes on in the part that the test chooses
  Traces (if_else t s u) ℓ a b π = Stops ℓ π
      ⊎ (((ρ : List ℤ) × (φ : List State) × (holds (seen ρ) t ≡ true) × Traces s (ℓ + 1) a b ((begins s (ℓ + 1) a ▹ ρ) ∷ φ) × (π ≡ (ℓ ▹ ρ) ∷ (begins s (ℓ + 1) a ▹ ρ) ∷ φ))
      ⊎ ((ρ : List ℤ) × (φ : List State) × (holds (seen ρ) t ≡ false) × Traces u (ℓ + 1 + size s) a b ((begins u (ℓ + 1 + size s) a ▹ ρ) ∷ φ) × (π ≡ (ℓ ▹ ρ) ∷ (begins u (ℓ + 1 + size s) a ▹ ρ) ∷ φ)))
  -- iteration: the least fixed point; after the body comes the loop, and its breaks go to the label after the loop
  Traces (while t s) ℓ a b π = Loop ℓ a (begins s (ℓ + 1) ℓ) (λ ρ. holds (seen ρ) t) (λ φ. Traces s (ℓ + 1) ℓ a φ) π
  -- break: it stops, or is at the label that breaks go to
  Traces break ℓ a b π = Stops ℓ π ⊎ ((ρ : List ℤ) × (π ≡ (ℓ ▹ ρ) ∷ (b ▹ ρ) ∷ []))
  -- a block has the traces of its list
  Traces (block s) ℓ a b π = Traces s ℓ a b π
  -- the empty list: it stops at the label after it
  Traces empty ℓ a b π = Stops a π
  -- a list and a statement: a trace of the list, or one that ends where a trace of the statement begins, followed by that
  Traces (list s u) ℓ a b π = Traces s ℓ (begins u (ℓ + size s) a) b π
      ⊎ ((ω : List State) × (σ : State) × (φ : List State) × Traces s ℓ (begins u (ℓ + size s) a) b (ω ++ (σ ∷ [])) × Traces u (ℓ + size s) a b (σ ∷ φ) × (π ≡ ω ++ (σ ∷ φ)))

-- the values are a start: each from FROM to TO
abbrev pub Setting : List Range → List ℤ → Type 0
Setting [] [] = Unit {0}
Setting [] (v ∷ vs) = ⊥
Setting (r ∷ rs) [] = ⊥
Setting (r ∷ rs) (v ∷ vs) = (r.from ≤ℤ v) × (v ≤ℤ r.to) × Setting rs vs

abbrev pub Starts : List Range → List State → Type 0
Starts rs [] = ⊥
Starts rs (σ ∷ π) = Setting rs σ.values

-- the exit label is the number of labelled statements; no break of a program stands outside every loop
abbrev pub exit : Tree → ℕ
exit t = size t.body

-- the prefix traces of a program: those of its list of statements, from each start
abbrev pub Prefix : Tree → List State → Type 0
Prefix t π = Traces (ranges t) t.body 0 (exit t) (exit t) π × Starts (ranges t) π
