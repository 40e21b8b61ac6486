-- Prefix traces are the paths of steps: both ways, by structural induction. Assumes nothing.
use Rattle.std.proofs.Common.{◌≡◌, ℕ, zero, suc, ◌+◌, ◌<◌, ◌≤◌, Bool, true, false, cond, ◌⊎◌, List, [], ◌∷◌, ◌++◌, length, set, ℤ, Some, Option, sym, refl, ap, ◌∙◌, subst, inl, inr, append_assoc, arith, length-append}
use Rattle.std.proofs.lemmas.Bool.{cases_eq, cases_lt, cases_Bool}
use Rattle.model.specs.Cells.{In}
use Rattle.text.specs.Expressions.{Test, holds}
use Rattle.traces.specs.declared.range.Range.{Range}
use Rattle.traces.specs.Programs.{Part, assign, sense, skip, if_then, if_else, while, break, block, empty, list, size, begins}
use Rattle.traces.specs.Traces.{State, ◌▹◌, seen, range_at, Loop, stops, leaves, enters, Stops, Traces}
use Rattle.traces.specs.Tables.{Instruction, assigns, senses, goes, branches, table, outcomes, following, each, span}
use Rattle.traces.proofs.Spans.{span_has, span_only}

pub length_table : (s : Part) (ℓ a b : ℕ) → length (table s ℓ a b) ≡ size s
length_table (assign x e) ℓ a b = refl
length_table (sense x) ℓ a b = refl
length_table skip ℓ a b = refl
length_table (if_then t s) ℓ a b = omega (arith, length_table s (ℓ + 1) a b)
length_table (if_else t s u) ℓ a b =
    omega (arith, length_table s (ℓ + 1) a b, length_table u (ℓ + 1 + size s) a b, length-append (table s (ℓ + 1) a b) (table u (ℓ + 1 + size s) a b))
length_table (while t s) ℓ a b = omega (arith, length_table s (ℓ + 1) ℓ a)
length_table break ℓ a b = refl
length_table (block s) ℓ a b = length_table s ℓ a b
length_table empty ℓ a b = refl
length_table (list s u) ℓ a b =
    let c = begins u (ℓ + size s) a in
    omega (arith, length_table s ℓ c b, length_table u (ℓ + size s) a b, length-append (table s ℓ c b) (table u (ℓ + size s) a b))

-- a component begins at its first label, or is empty and begins at the label after it
pub begins_is : (s : Part) (ℓ a : ℕ) → ((begins s ℓ a ≡ ℓ) × (0 < size s)) ⊎ ((begins s ℓ a ≡ a) × (size s ≡ 0))
begins_is (assign x e) ℓ a = inl (refl, omega arith)
begins_is (sense x) ℓ a = inl (refl, omega arith)
begins_is skip ℓ a = inl (refl, omega arith)
begins_is (if_then t s) ℓ a = inl (refl, omega arith)
begins_is (if_else t s u) ℓ a = inl (refl, omega arith)
begins_is (while t s) ℓ a = inl (refl, omega arith)
begins_is break ℓ a = inl (refl, omega arith)
begins_is (block s) ℓ a = begins_is s ℓ a
begins_is empty ℓ a = inr (refl, refl)
begins_is (list s u) ℓ a =
    elim (begins_is s ℓ (begins u (ℓ + size s) a)) [
      | inl h ↦ inl (h.0, omega (arith, h.1))
      | inr h ↦ elim (begins_is u (ℓ + size s) a) [
        | inl k ↦ inl (h.0 ∙ k.0 ∙ omega (arith, h.1), omega (arith, k.1))
        | inr k ↦ inr (h.0 ∙ k.0, omega (arith, h.1, k.1))
      ]
    ]

-- the label is none of the labels from lo to hi
abbrev pub Out : ℕ → ℕ → ℕ → Type 0
Out lo hi l = (l < lo) ⊎ (hi ≤ l)

-- the label is one of the labels from lo to hi, or a, or b
abbrev pub Near : ℕ → ℕ → ℕ → ℕ → ℕ → Type 0
Near lo hi a b l = ((lo ≤ l) × (l < hi)) ⊎ ((l ≡ a) ⊎ (l ≡ b))

only : {A : Type 0} (x y : A) → In x (y ∷ []) → x ≡ y
only x y (inl e) = e
only x y (inr n) = absurd n

-- the labels that an instruction leads to
abbrev Leads : Instruction → ℕ → Type 0
Leads (assigns x e n) l = l ≡ n
Leads (senses x n) l = l ≡ n
Leads (goes n) l = l ≡ n
Leads (branches t y n) l = (l ≡ y) ⊎ (l ≡ n)

each_leads : (τ : State) (n : ℕ) (ρ : List ℤ) (x : ℕ) (vs : List ℤ) → In τ (each n ρ x vs) → τ.label ≡ n
each_leads τ n ρ x [] m = absurd m
each_leads τ n ρ x (v ∷ vs) (inl e) = ap (λ (σ : State). σ.label) e
each_leads τ n ρ x (v ∷ vs) (inr m) = each_leads τ n ρ x vs m

branch_leads : (h : Bool) (y n : ℕ) → (cond h y n ≡ y) ⊎ (cond h y n ≡ n)
branch_leads true y n = inl refl
branch_leads false y n = inr refl

pub outcomes_lead : (rs : List Range) (i : Instruction) (ρ : List ℤ) (τ : State) → In τ (outcomes rs i ρ) → Leads i τ.label
outcomes_lead rs (assigns x e n) ρ τ m = ap (λ (σ : State). σ.label) (only τ _ m)
outcomes_lead rs (senses x n) ρ τ m = each_leads τ n ρ x (span (range_at rs x)) m
outcomes_lead rs (goes n) ρ τ m = ap (λ (σ : State). σ.label) (only τ _ m)
outcomes_lead rs (branches t y n) ρ τ m =
    let e = ap (λ (σ : State). σ.label) (only τ _ m) in
    elim (branch_leads (holds (seen ρ) t) y n) [ inl h ↦ inl (e ∙ h) | inr h ↦ inr (e ∙ h) ]

module _ (rs : List Range) (N : ℕ → Option Instruction) where
  abbrev pub Step : State → State → Type 0
  Step σ τ = In τ (following rs (N σ.label) σ.values)

  -- the instructions stand at the labels from ℓ on
  abbrev pub Placed : ℕ → List Instruction → Type 0
  Placed ℓ [] = Unit {0}
  Placed ℓ (i ∷ is) = (N ℓ ≡ Some i) × Placed (ℓ + 1) is

  pub placed_left : (ℓ : ℕ) (xs ys : List Instruction) → Placed ℓ (xs ++ ys) → Placed ℓ xs
  placed_left ℓ [] ys p = tt
  placed_left ℓ (x ∷ xs) ys p = (p.0, placed_left (ℓ + 1) xs ys p.1)

  pub placed_right : (ℓ k : ℕ) (xs ys : List Instruction) → k ≡ ℓ + length xs → Placed ℓ (xs ++ ys) → Placed k ys
  placed_right ℓ k [] ys e p = let z : ℓ ≡ k = omega arith in subst (λ l. Placed l ys) z p
  placed_right ℓ k (x ∷ xs) ys e p = placed_right (ℓ + 1) k xs ys (omega arith) p.1

  -- steps from labels from lo to hi
  abbrev pub Walk : ℕ → ℕ → State → List State → Type 0
  Walk lo hi σ [] = Unit {0}
  Walk lo hi σ (τ ∷ π) = (lo ≤ σ.label) × (σ.label < hi) × Step σ τ × Walk lo hi τ π

  abbrev pub Walks : ℕ → ℕ → ℕ → List State → Type 0
  Walks lo hi f [] = ⊥
  Walks lo hi f (σ ∷ π) = (σ.label ≡ f) × Walk lo hi σ π

  walk_wider : (lo hi lo' hi' : ℕ) (σ : State) (π : List State) → lo' ≤ lo → hi ≤ hi' → Walk lo hi σ π → Walk lo' hi' σ π
  walk_wider lo hi lo' hi' σ [] p q w = tt
  walk_wider lo hi lo' hi' σ (τ ∷ π) p q w = (omega (arith, w.0), omega (arith, w.1), w.2, walk_wider lo hi lo' hi' τ π p q w.3)

  walks_wider : (lo hi lo' hi' f : ℕ) (π : List State) → lo' ≤ lo → hi ≤ hi' → Walks lo hi f π → Walks lo' hi' f π
  walks_wider lo hi lo' hi' f [] p q w = w
  walks_wider lo hi lo' hi' f (σ ∷ π) p q w = (w.0, walk_wider lo hi lo' hi' σ π p q w.1)

  walk_append : (lo hi : ℕ) (σ : State) (ω : List State) (τ : State) (φ : List State) → Walk lo hi σ (ω ++ (τ ∷ [])) → Walk lo hi τ φ → Walk lo hi σ (ω ++ (τ ∷ φ))
  walk_append lo hi σ [] τ φ w v = (w.0, w.1, w.2, v)
  walk_append lo hi σ (υ ∷ ω) τ φ w v = (w.0, w.1, w.2, walk_append lo hi υ ω τ φ w.3 v)

  walks_append : (lo hi f : ℕ) (ω : List State) (τ : State) (φ : List State) → Walks lo hi f (ω ++ (τ ∷ [])) → Walk lo hi τ φ → Walks lo hi f (ω ++ (τ ∷ φ))
  walks_append lo hi f [] τ φ w v = (w.0, v)
  walks_append lo hi f (σ ∷ ω) τ φ w v = (w.0, walk_append lo hi σ ω τ φ w.1 v)

  -- the outcomes of the instruction at a state's label
  steps_by : (i : Instruction) (ℓ : ℕ) (σ τ : State) → N ℓ ≡ Some i → σ.label ≡ ℓ → Step σ τ → In τ (outcomes rs i σ.values)
  steps_by i ℓ σ τ p e m = subst (λ o. In τ (following rs o σ.values)) (ap N e ∙ p) m

  by_steps : (i : Instruction) (ℓ : ℕ) (σ τ : State) → N ℓ ≡ Some i → σ.label ≡ ℓ → In τ (outcomes rs i σ.values) → Step σ τ
  by_steps i ℓ σ τ p e m = subst (λ o. In τ (following rs o σ.values)) (sym (ap N e ∙ p)) m

  leads_by : (i : Instruction) (ℓ : ℕ) (σ τ : State) → N ℓ ≡ Some i → σ.label ≡ ℓ → Step σ τ → Leads i τ.label
  leads_by i ℓ σ τ p e m = outcomes_lead rs i σ.values τ (steps_by i ℓ σ τ p e m)

  -- the two halves of what stands at the labels of a list
  part_left : (s u : Part) (ℓ a b : ℕ) → Placed ℓ (table (list s u) ℓ a b) → Placed ℓ (table s ℓ (begins u (ℓ + size s) a) b)
  part_left s u ℓ a b p = placed_left ℓ _ _ p

  part_right : (s u : Part) (ℓ a b : ℕ) → Placed ℓ (table (list s u) ℓ a b) → Placed (ℓ + size s) (table u (ℓ + size s) a b)
  part_right s u ℓ a b p = placed_right ℓ (ℓ + size s) _ _ (let h = length_table s ℓ (begins u (ℓ + size s) a) b in omega arith) p

  else_left : (s u : Part) (ℓ a b : ℕ) → Placed ℓ (table s ℓ a b ++ table u (ℓ + size s) a b) → Placed ℓ (table s ℓ a b)
  else_left s u ℓ a b p = placed_left ℓ _ _ p

  else_right : (s u : Part) (ℓ a b : ℕ) → Placed ℓ (table s ℓ a b ++ table u (ℓ + size s) a b) → Placed (ℓ + size s) (table u (ℓ + size s) a b)
  else_right s u ℓ a b p = placed_right ℓ (ℓ + size s) _ _ (let h = length_table s ℓ a b in omega arith) p

  -- a step from a label of a component leads to a label of it, to the label after it or to the label of its breaks
  pub closed : (s : Part) (ℓ a b : ℕ) → Placed ℓ (table s ℓ a b) → (σ τ : State) → ℓ ≤ σ.label → σ.label < ℓ + size s → Step σ τ → Near ℓ (ℓ + size s) a b τ.label
  closed (assign x e) ℓ a b p σ τ g h m = let k = leads_by _ ℓ σ τ p.0 (omega arith) m in inr (inl k)
  closed (sense x) ℓ a b p σ τ g h m = let k = leads_by _ ℓ σ τ p.0 (omega arith) m in inr (inl k)
  closed skip ℓ a b p σ τ g h m = let k = leads_by _ ℓ σ τ p.0 (omega arith) m in inr (inl k)
  closed (if_then t s) ℓ a b p σ τ g h m =
      elim (cases_eq σ.label ℓ) [
        | inl e ↦ let k = leads_by _ ℓ σ τ p.0 e m in let d = begins_is s (ℓ + 1) a in grind arith
        | inr n ↦ let k = closed s (ℓ + 1) a b p.1 σ τ (omega arith) (omega arith) m in grind arith
      ]
  closed (if_else t s u) ℓ a b p σ τ g h m =
      elim (cases_eq σ.label ℓ) [
        | inl e ↦ let k = leads_by _ ℓ σ τ p.0 e m in let d = begins_is s (ℓ + 1) a in let f = begins_is u (ℓ + 1 + size s) a in grind arith
        | inr n ↦ elim (cases_lt σ.label (ℓ + 1 + size s)) [
          | inl l ↦ let k = closed s (ℓ + 1) a b (else_left s u (ℓ + 1) a b p.1) σ τ (omega arith) (omega arith) m in grind arith
          | inr l ↦ let k = closed u (ℓ + 1 + size s) a b (else_right s u (ℓ + 1) a b p.1) σ τ (omega arith) (omega arith) m in grind arith
        ]
      ]
  closed (while t s) ℓ a b p σ τ g h m =
      elim (cases_eq σ.label ℓ) [
        | inl e ↦ let k = leads_by _ ℓ σ τ p.0 e m in let d = begins_is s (ℓ + 1) ℓ in grind arith
        | inr n ↦ let k = closed s (ℓ + 1) ℓ a p.1 σ τ (omega arith) (omega arith) m in grind arith
      ]
  closed break ℓ a b p σ τ g h m = let k = leads_by _ ℓ σ τ p.0 (omega arith) m in inr (inr k)
  closed (block s) ℓ a b p σ τ g h m = closed s ℓ a b p σ τ g h m
  closed empty ℓ a b p σ τ g h m = absurd (omega arith)
  closed (list s u) ℓ a b p σ τ g h m =
      elim (cases_lt σ.label (ℓ + size s)) [
        | inl l ↦ let k = closed s ℓ (begins u (ℓ + size s) a) b (part_left s u ℓ a b p) σ τ g l m in let f = begins_is u (ℓ + size s) a in grind arith
        | inr l ↦ let k = closed u (ℓ + size s) a b (part_right s u ℓ a b p) σ τ l (omega arith) m in grind arith
      ]

  -- ---- each trace is a path
  abbrev Forth : Part → Type 0
  Forth s = (ℓ a b : ℕ) (π : List State) → Placed ℓ (table s ℓ a b) → Traces rs s ℓ a b π → Walks ℓ (ℓ + size s) (begins s ℓ a) π

  stops_walks : (lo hi ℓ : ℕ) (π : List State) → Stops ℓ π → Walks lo hi ℓ π
  stops_walks lo hi ℓ π (ρ, e) = subst (λ φ. Walks lo hi ℓ φ) (sym e) (refl, tt)

  -- one step and a path from there
  step_walks : (i : Instruction) (ℓ hi : ℕ) (ρ : List ℤ) (τ : State) (φ π : List State) → N ℓ ≡ Some i → ℓ < hi → In τ (outcomes rs i ρ) → Walk ℓ hi τ φ
      → π ≡ (ℓ ▹ ρ) ∷ τ ∷ φ → Walks ℓ hi ℓ π
  step_walks i ℓ hi ρ τ φ π p h m w e = subst (λ ψ. Walks ℓ hi ℓ ψ) (sym e) (refl, (omega arith, h, by_steps i ℓ (ℓ ▹ ρ) τ p refl m, w))

  chosen : (h c : Bool) (y n : ℕ) (ρ : List ℤ) → h ≡ c → In (cond c y n ▹ ρ) ((cond h y n ▹ ρ) ∷ [])
  chosen h c y n ρ e = inl (ap (λ d. cond d y n ▹ ρ) (sym e))

  walks_tail : (lo hi f : ℕ) (σ : State) (φ : List State) → Walks lo hi f (σ ∷ φ) → Walk lo hi σ φ
  walks_tail lo hi f σ φ w = w.1

  loop_walks : (t : Test) (s : Part) (ℓ a : ℕ) → Placed ℓ (branches t (begins s (ℓ + 1) ℓ) a ∷ table s (ℓ + 1) ℓ a) → Forth s
      → {π : List State} → Loop ℓ a (begins s (ℓ + 1) ℓ) (λ ρ. holds (seen ρ) t) (λ φ. Traces rs s (ℓ + 1) ℓ a φ) π → Walks ℓ (ℓ + (1 + size s)) ℓ π
  loop_walks t s ℓ a p f (stops ρ e) = stops_walks ℓ (ℓ + (1 + size s)) ℓ _ (ρ, e)
  loop_walks t s ℓ a p f (leaves ω ρ l no' e) =
      subst (λ ψ. Walks ℓ (ℓ + (1 + size s)) ℓ ψ) (sym e)
      (walks_append ℓ (ℓ + (1 + size s)) ℓ ω (ℓ ▹ ρ) ((a ▹ ρ) ∷ []) (loop_walks t s ℓ a p f l)
      (omega arith, omega arith, by_steps _ ℓ (ℓ ▹ ρ) (a ▹ ρ) p.0 refl (chosen (holds (seen ρ) t) false _ a ρ no'), tt))
  loop_walks t s ℓ a p f (enters ω ρ φ l yes' b e) =
      subst (λ ψ. Walks ℓ (ℓ + (1 + size s)) ℓ ψ) (sym e)
      (walks_append ℓ (ℓ + (1 + size s)) ℓ ω (ℓ ▹ ρ) ((begins s (ℓ + 1) ℓ ▹ ρ) ∷ φ) (loop_walks t s ℓ a p f l) (
        omega arith,
        omega arith,
        by_steps _ ℓ (ℓ ▹ ρ) (begins s (ℓ + 1) ℓ ▹ ρ) p.0 refl (chosen (holds (seen ρ) t) true _ a ρ yes'),
        walk_wider (ℓ + 1) (ℓ + 1 + size s) ℓ (ℓ + (1 + size s)) (begins s (ℓ + 1) ℓ ▹ ρ) φ (omega arith) (omega arith) (walks_tail _ _ _ (begins s (ℓ + 1) ℓ ▹ ρ) φ (f (ℓ + 1) ℓ a _ p.1 b)),
      ))

  each_has : (n : ℕ) (ρ : List ℤ) (x : ℕ) (v : ℤ) (vs : List ℤ) → In v vs → In (n ▹ set ρ x v) (each n ρ x vs)
  each_has n ρ x v [] m = m
  each_has n ρ x v (w ∷ vs) (inl e) = inl (ap (λ z. n ▹ set ρ x z) e)
  each_has n ρ x v (w ∷ vs) (inr m) = inr (each_has n ρ x v vs m)

  pub walks_of : (s : Part) → Forth s
  walks_of (assign x e) ℓ a b π p h =
      elim h [
        | inl k ↦ stops_walks ℓ (ℓ + 1) ℓ π k
        | inr k ↦ step_walks _ ℓ (ℓ + 1) k.0 _ [] π p.0 (omega arith) (inl refl) tt k.1
      ]
  walks_of (sense x) ℓ a b π p h =
      elim h [
        | inl k ↦ stops_walks ℓ (ℓ + 1) ℓ π k
        | inr k ↦ step_walks _ ℓ (ℓ + 1) k.0 (a ▹ set k.0 x k.1) [] π p.0 (omega arith)
            (each_has a k.0 x k.1 (span (range_at rs x)) (span_has (range_at rs x) k.1 k.2 k.3)) tt k.4
      ]
  walks_of skip ℓ a b π p h =
      elim h [
        | inl k ↦ stops_walks ℓ (ℓ + 1) ℓ π k
        | inr k ↦ step_walks _ ℓ (ℓ + 1) k.0 _ [] π p.0 (omega arith) (inl refl) tt k.1
      ]
  walks_of (if_then t s) ℓ a b π p h =
      elim h [
        | inl k ↦ stops_walks ℓ (ℓ + (1 + size s)) ℓ π k
        | inr h' ↦ elim h' [
          | inl k ↦ step_walks _ ℓ (ℓ + (1 + size s)) k.0 (a ▹ k.0) [] π p.0 (omega arith) (chosen (holds (seen k.0) t) false _ a k.0 k.1) tt k.2
          | inr k ↦ step_walks _ ℓ (ℓ + (1 + size s)) k.0 (begins s (ℓ + 1) a ▹ k.0) k.1 π p.0 (omega arith) (chosen (holds (seen k.0) t) true _ a k.0 k.2)
              (walk_wider (ℓ + 1) (ℓ + 1 + size s) ℓ (ℓ + (1 + size s)) (begins s (ℓ + 1) a ▹ k.0) k.1 (omega arith) (omega arith)
              (walks_tail _ _ _ (begins s (ℓ + 1) a ▹ k.0) k.1 (walks_of s (ℓ + 1) a b _ p.1 k.3))) k.4
        ]
      ]
  walks_of (if_else t s u) ℓ a b π p h =
      elim h [
        | inl k ↦ stops_walks ℓ (ℓ + (1 + (size s + size u))) ℓ π k
        | inr h' ↦ elim h' [
          | inl k ↦ step_walks _ ℓ (ℓ + (1 + (size s + size u))) k.0 (begins s (ℓ + 1) a ▹ k.0) k.1 π p.0 (omega arith)
              (chosen (holds (seen k.0) t) true _ _ k.0 k.2)
              (walk_wider (ℓ + 1) (ℓ + 1 + size s) ℓ (ℓ + (1 + (size s + size u))) (begins s (ℓ + 1) a ▹ k.0) k.1 (omega arith) (omega arith)
              (walks_tail _ _ _ (begins s (ℓ + 1) a ▹ k.0) k.1 (walks_of s (ℓ + 1) a b _ (else_left s u (ℓ + 1) a b p.1) k.3))) k.4
          | inr k ↦ step_walks _ ℓ (ℓ + (1 + (size s + size u))) k.0 (begins u (ℓ + 1 + size s) a ▹ k.0) k.1 π p.0 (omega arith)
              (chosen (holds (seen k.0) t) false _ _ k.0 k.2)
              (walk_wider (ℓ + 1 + size s) (ℓ + 1 + size s + size u) ℓ (ℓ + (1 + (size s + size u))) (begins u (ℓ + 1 + size s) a ▹ k.0) k.1 (omega arith) (omega arith)
              (walks_tail _ _ _ (begins u (ℓ + 1 + size s) a ▹ k.0) k.1 (walks_of u (ℓ + 1 + size s) a b _ (else_right s u (ℓ + 1) a b p.1) k.3))) k.4
        ]
      ]
  walks_of (while t s) ℓ a b π p h = loop_walks t s ℓ a p (walks_of s) h
  walks_of break ℓ a b π p h =
      elim h [
        | inl k ↦ stops_walks ℓ (ℓ + 1) ℓ π k
        | inr k ↦ step_walks _ ℓ (ℓ + 1) k.0 _ [] π p.0 (omega arith) (inl refl) tt k.1
      ]
  walks_of (block s) ℓ a b π p h = walks_of s ℓ a b π p h
  walks_of empty ℓ a b π p h = stops_walks ℓ (ℓ + 0) a π h
  walks_of (list s u) ℓ a b π p h =
      elim h [
        | inl k ↦ walks_wider ℓ (ℓ + size s) ℓ (ℓ + (size s + size u)) _ π (omega arith) (omega arith) (walks_of s ℓ (begins u (ℓ + size s) a) b π (part_left s u ℓ a b p) k)
        | inr k ↦ subst (λ ψ. Walks ℓ (ℓ + (size s + size u)) (begins s ℓ (begins u (ℓ + size s) a)) ψ) (sym k.5)
            (walks_append ℓ (ℓ + (size s + size u)) _ k.0 k.1 k.2
            (walks_wider ℓ (ℓ + size s) ℓ (ℓ + (size s + size u)) _ _ (omega arith) (omega arith) (walks_of s ℓ (begins u (ℓ + size s) a) b _ (part_left s u ℓ a b p) k.3))
            (walk_wider (ℓ + size s) (ℓ + size s + size u) ℓ (ℓ + (size s + size u)) k.1 k.2 (omega arith) (omega arith)
            (walks_tail _ _ _ k.1 k.2 (walks_of u (ℓ + size s) a b _ (part_right s u ℓ a b p) k.4))))
      ]

  -- ---- each path is a trace
  abbrev last : State → List State → State
  last σ [] = σ
  last σ (τ ∷ π) = last τ π

  abbrev init : State → List State → List State
  init σ [] = []
  init σ (τ ∷ π) = σ ∷ init τ π

  joined_is : (σ : State) (ω φ : List State) → σ ∷ (ω ++ φ) ≡ init σ ω ++ (last σ ω ∷ φ)
  joined_is σ [] φ = refl
  joined_is σ (τ ∷ ω) φ = ap (λ π. σ ∷ π) (joined_is τ ω φ)

  whole_is : (σ : State) (ω : List State) → σ ∷ ω ≡ init σ ω ++ (last σ ω ∷ [])
  whole_is σ [] = refl
  whole_is σ (τ ∷ ω) = ap (λ π. σ ∷ π) (whole_is τ ω)

  -- a path cut where it first is outside of the labels from lo' to hi'
  record Cut (lo hi lo' hi' : ℕ) (σ : State) (π : List State) : Type 0 where
    front : List State
    back : List State
    parts : π ≡ front ++ back
    before : Walk lo' hi' σ front
    out : Out lo' hi' (last σ front).label
    low : lo ≤ (last σ front).label
    high : (last σ front).label < hi
    after : Walk lo hi (last σ front) back
    shorter : length back ≤ length π

  cut : (lo hi lo' hi' : ℕ) (σ : State) (π : List State) → Walk lo hi σ π → Walk lo' hi' σ π ⊎ Cut lo hi lo' hi' σ π
  cut lo hi lo' hi' σ [] w = inl tt
  cut lo hi lo' hi' σ (τ ∷ π) w =
      elim (cases_lt σ.label lo') [
        | inl l ↦ inr (record { front = []; back = τ ∷ π; parts = refl; before = tt; out = inl l; low = w.0; high = w.1; after = w; shorter = omega arith })
        | inr l ↦ elim (cases_lt σ.label hi') [
          | inr h ↦ inr (record { front = []; back = τ ∷ π; parts = refl; before = tt; out = inr h; low = w.0; high = w.1; after = w; shorter = omega arith })
          | inl h ↦ elim (cut lo hi lo' hi' τ π w.3) [
            | inl v ↦ inl (l, h, w.2, v)
            | inr c ↦ inr (record { front = τ ∷ c.front; back = c.back; parts = ap (λ φ. τ ∷ φ) c.parts; before = (l, h, w.2, c.before); out = c.out; low = c.low; high = c.high; after = c.after; shorter = let k = c.shorter in omega arith })
          ]
        ]
      ]

  -- where a path within a component can be
  walk_near : (s : Part) (ℓ a b : ℕ) → Placed ℓ (table s ℓ a b) → (σ : State) (ω : List State) → Near ℓ (ℓ + size s) a b σ.label → Walk ℓ (ℓ + size s) σ ω
      → Near ℓ (ℓ + size s) a b (last σ ω).label
  walk_near s ℓ a b p σ [] n w = n
  walk_near s ℓ a b p σ (τ ∷ ω) n w = walk_near s ℓ a b p τ ω (closed s ℓ a b p σ τ w.0 w.1 w.2) w.3

  begins_near : (s : Part) (ℓ a b l : ℕ) → l ≡ begins s ℓ a → Near ℓ (ℓ + size s) a b l
  begins_near s ℓ a b l e = let d = begins_is s ℓ a in grind arith

  -- a path that may go no further than a component's own labels is a path within it
  within : (s : Part) (ℓ a b lo hi : ℕ) → Placed ℓ (table s ℓ a b) → (σ : State) (π : List State) → σ.label ≡ begins s ℓ a
      → Out lo hi a → Out lo hi b → Walk lo hi σ π → Walk ℓ (ℓ + size s) σ π
  within s ℓ a b lo hi p σ π e oa ob w =
      elim (cut lo hi ℓ (ℓ + size s) σ π w) [
        | inl v ↦ v
        | inr c ↦
            let n = walk_near s ℓ a b p σ c.front (begins_near s ℓ a b σ.label e) c.before in
            let o = c.out in
            let l = c.low in
            let h = c.high in
            absurd (grind arith)
      ]

  out_ends : (lo hi n : ℕ) (τ : State) (π : List State) → τ.label ≡ n → Out lo hi n → Walk lo hi τ π → π ≡ []
  out_ends lo hi n τ [] e o w = refl
  out_ends lo hi n τ (υ ∷ π) e o w = let l = w.0 in let h = w.1 in absurd (grind arith)

  state_at : (σ : State) (ℓ : ℕ) → σ.label ≡ ℓ → σ ≡ (ℓ ▹ σ.values)
  state_at σ ℓ e = ap (λ l. l ▹ σ.values) e

  stops_at : (σ : State) (ℓ : ℕ) → σ.label ≡ ℓ → Stops ℓ (σ ∷ [])
  stops_at σ ℓ e = (σ.values, ap (λ τ. τ ∷ []) (state_at σ ℓ e))

  two : (σ σ' τ τ' : State) (π π' : List State) → σ ≡ σ' → τ ≡ τ' → π ≡ π' → σ ∷ τ ∷ π ≡ σ' ∷ τ' ∷ π'
  two σ σ' τ τ' π π' e f g = cc

  labelled : (σ τ : State) → σ ≡ τ → σ.label ≡ τ.label
  labelled σ τ e = ap (λ (υ : State). υ.label) e

  abbrev Back : Part → Type 0
  Back s = (ℓ a b : ℕ) (σ : State) (π : List State) → Placed ℓ (table s ℓ a b) → Out ℓ (ℓ + size s) a → Out ℓ (ℓ + size s) b
      → σ.label ≡ begins s ℓ a → Walk ℓ (ℓ + size s) σ π → Traces rs s ℓ a b (σ ∷ π)

  each_only : (τ : State) (n : ℕ) (ρ : List ℤ) (x : ℕ) (vs : List ℤ) → In τ (each n ρ x vs) → (v : ℤ) × In v vs × (τ ≡ (n ▹ set ρ x v))
  each_only τ n ρ x [] m = absurd m
  each_only τ n ρ x (v ∷ vs) (inl e) = (v, inl refl, e)
  each_only τ n ρ x (v ∷ vs) (inr m) = let k = each_only τ n ρ x vs m in (k.0, inr k.1, k.2)

  taken : (h : Bool) (c : Bool) (y n : ℕ) (ρ : List ℤ) (τ : State) → h ≡ c → In τ ((cond h y n ▹ ρ) ∷ []) → τ ≡ (cond c y n ▹ ρ)
  taken h c y n ρ τ e m = only τ _ m ∙ ap (λ d. cond d y n ▹ ρ) e

  module _ (t : Test) (s : Part) (ℓ a : ℕ) (p : Placed ℓ (branches t (begins s (ℓ + 1) ℓ) a ∷ table s (ℓ + 1) ℓ a)) (oa : Out ℓ (ℓ + (1 + size s)) a) (ih : Back s) where
    abbrev Turns : List State → Type 0
    Turns π = Loop ℓ a (begins s (ℓ + 1) ℓ) (λ ρ. holds (seen ρ) t) (λ φ. Traces rs s (ℓ + 1) ℓ a φ) π

    -- a trace of the body from where the loop entered it
    turned : (ω : List State) (σ τ : State) (φ : List State) → σ.label ≡ ℓ → Turns (ω ++ (σ ∷ [])) → holds (seen σ.values) t ≡ true
        → τ ≡ (begins s (ℓ + 1) ℓ ▹ σ.values) → Walk (ℓ + 1) (ℓ + 1 + size s) τ φ → Turns (ω ++ (σ ∷ τ ∷ φ))
    turned ω σ τ φ e l h f w =
        enters ω σ.values φ (subst (λ υ. Turns (ω ++ (υ ∷ []))) (state_at σ ℓ e) l) h
        (subst (λ υ. Traces rs s (ℓ + 1) ℓ a (υ ∷ φ)) f (ih (ℓ + 1) ℓ a τ φ p.1 (inl (omega arith)) (grind arith) (labelled τ _ f) w))
        (ap (λ ψ. ω ++ ψ) (two σ _ τ _ φ φ (state_at σ ℓ e) f refl))

    left : (ω : List State) (σ τ : State) (φ : List State) → σ.label ≡ ℓ → Turns (ω ++ (σ ∷ [])) → holds (seen σ.values) t ≡ false
        → τ ≡ (a ▹ σ.values) → φ ≡ [] → Turns (ω ++ (σ ∷ τ ∷ φ))
    left ω σ τ φ e l h f g =
        leaves ω σ.values (subst (λ υ. Turns (ω ++ (υ ∷ []))) (state_at σ ℓ e) l) h
        (ap (λ ψ. ω ++ ψ) (two σ _ τ _ φ [] (state_at σ ℓ e) f g))

    regroup : (ω : List State) (σ τ : State) (front back φ : List State) → φ ≡ front ++ back
        → (ω ++ (σ ∷ init τ front)) ++ (last τ front ∷ back) ≡ ω ++ (σ ∷ τ ∷ φ)
    regroup ω σ τ front back φ e =
        append_assoc ω (σ ∷ init τ front) (last τ front ∷ back) ∙ ap (λ ψ. ω ++ (σ ∷ ψ)) (sym (joined_is τ front back) ∙ ap (λ ψ. τ ∷ ψ) (sym e))

    regroup_end : (ω : List State) (σ τ : State) (front : List State) → ω ++ (σ ∷ τ ∷ front) ≡ (ω ++ (σ ∷ init τ front)) ++ (last τ front ∷ [])
    regroup_end ω σ τ front = ap (λ ψ. ω ++ (σ ∷ ψ)) (whole_is τ front) ∙ sym (append_assoc ω (σ ∷ init τ front) (last τ front ∷ []))

    loop_of : (n : ℕ) (ω : List State) (σ : State) (π : List State) → length π ≤ n → σ.label ≡ ℓ → Turns (ω ++ (σ ∷ [])) → Walk ℓ (ℓ + (1 + size s)) σ π → Turns (ω ++ (σ ∷ π))
    loop_of n ω σ [] k e l w = l
    loop_of zero ω σ (τ ∷ φ) k e l w = absurd (omega arith)
    loop_of (suc n) ω σ (τ ∷ φ) k e l w =
        let m = steps_by _ ℓ σ τ p.0 e w.2 in
        elim (cases_Bool (holds (seen σ.values) t)) [
          | inr h ↦ let f = taken _ false (begins s (ℓ + 1) ℓ) a σ.values τ h m in
              left ω σ τ φ e l h f (out_ends ℓ (ℓ + (1 + size s)) a τ φ (labelled τ _ f) oa w.3)
          | inl h ↦ let f = taken _ true (begins s (ℓ + 1) ℓ) a σ.values τ h m in
              elim (cut ℓ (ℓ + (1 + size s)) (ℓ + 1) (ℓ + 1 + size s) τ φ w.3) [
                | inl v ↦ turned ω σ τ φ e l h f v
                | inr c ↦
                    let q = walk_near s (ℓ + 1) ℓ a p.1 τ c.front (begins_near s (ℓ + 1) ℓ a τ.label (labelled τ _ f)) c.before in
                    let o = c.out in
                    let g : (last τ c.front).label ≡ ℓ = (let x = c.low in let y = c.high in grind arith) in
                    subst Turns (regroup ω σ τ c.front c.back φ c.parts)
                    (loop_of n (ω ++ (σ ∷ init τ c.front)) (last τ c.front) c.back (let x = c.shorter in omega arith) g
                    (subst Turns (regroup_end ω σ τ c.front) (turned ω σ τ c.front e l h f c.before)) c.after)
              ]
        ]

  pub traces_of : (s : Part) → Back s
  traces_of (assign x e) ℓ a b σ [] p oa ob f w = inl (stops_at σ ℓ f)
  traces_of (assign x e) ℓ a b σ (τ ∷ π) p oa ob f w =
      let g = only τ _ (steps_by _ ℓ σ τ p.0 f w.2) in
      inr (σ.values, two σ _ τ _ π [] (state_at σ ℓ f) g (out_ends ℓ (ℓ + 1) a τ π (labelled τ _ g) oa w.3))
  traces_of (sense x) ℓ a b σ [] p oa ob f w = inl (stops_at σ ℓ f)
  traces_of (sense x) ℓ a b σ (τ ∷ π) p oa ob f w =
      let k = each_only τ a σ.values x (span (range_at rs x)) (steps_by _ ℓ σ τ p.0 f w.2) in
      let v = span_only (range_at rs x) k.0 k.1 in
      inr (σ.values, k.0, v.0, v.1, two σ _ τ _ π [] (state_at σ ℓ f) k.2 (out_ends ℓ (ℓ + 1) a τ π (labelled τ _ k.2) oa w.3))
  traces_of skip ℓ a b σ [] p oa ob f w = inl (stops_at σ ℓ f)
  traces_of skip ℓ a b σ (τ ∷ π) p oa ob f w =
      let g = only τ _ (steps_by _ ℓ σ τ p.0 f w.2) in
      inr (σ.values, two σ _ τ _ π [] (state_at σ ℓ f) g (out_ends ℓ (ℓ + 1) a τ π (labelled τ _ g) oa w.3))
  traces_of (if_then t s) ℓ a b σ [] p oa ob f w = inl (stops_at σ ℓ f)
  traces_of (if_then t s) ℓ a b σ (τ ∷ π) p oa ob f w =
      let m = steps_by _ ℓ σ τ p.0 f w.2 in
      elim (cases_Bool (holds (seen σ.values) t)) [
        | inr h ↦ let g = taken _ false (begins s (ℓ + 1) a) a σ.values τ h m in
            inr (inl (σ.values, h, two σ _ τ _ π [] (state_at σ ℓ f) g (out_ends ℓ (ℓ + (1 + size s)) a τ π (labelled τ _ g) oa w.3)))
        | inl h ↦ let g = taken _ true (begins s (ℓ + 1) a) a σ.values τ h m in
            let v = within s (ℓ + 1) a b ℓ (ℓ + (1 + size s)) p.1 τ π (labelled τ _ g) oa ob w.3 in
            inr (inr (
              σ.values,
              π,
              h,
              subst (λ υ. Traces rs s (ℓ + 1) a b (υ ∷ π)) g (traces_of s (ℓ + 1) a b τ π p.1 (grind arith) (grind arith) (labelled τ _ g) v),
              two σ _ τ _ π π (state_at σ ℓ f) g refl,
            ))
      ]
  traces_of (if_else t s u) ℓ a b σ [] p oa ob f w = inl (stops_at σ ℓ f)
  traces_of (if_else t s u) ℓ a b σ (τ ∷ π) p oa ob f w =
      let m = steps_by _ ℓ σ τ p.0 f w.2 in
      let d = begins s (ℓ + 1) a in
      let k = begins u (ℓ + 1 + size s) a in
      let q = else_left s u (ℓ + 1) a b p.1 in
      let r = else_right s u (ℓ + 1) a b p.1 in
      elim (cases_Bool (holds (seen σ.values) t)) [
        | inl h ↦ let g = taken _ true d k σ.values τ h m in
            let v = within s (ℓ + 1) a b ℓ (ℓ + (1 + (size s + size u))) q τ π (labelled τ _ g) oa ob w.3 in
            inr (inl (
              σ.values,
              π,
              h,
              subst (λ υ. Traces rs s (ℓ + 1) a b (υ ∷ π)) g (traces_of s (ℓ + 1) a b τ π q (grind arith) (grind arith) (labelled τ _ g) v),
              two σ _ τ _ π π (state_at σ ℓ f) g refl,
            ))
        | inr h ↦ let g = taken _ false d k σ.values τ h m in
            let v = within u (ℓ + 1 + size s) a b ℓ (ℓ + (1 + (size s + size u))) r τ π (labelled τ _ g) oa ob w.3 in
            inr (inr (
              σ.values,
              π,
              h,
              subst (λ υ. Traces rs u (ℓ + 1 + size s) a b (υ ∷ π)) g (traces_of u (ℓ + 1 + size s) a b τ π r (grind arith) (grind arith) (labelled τ _ g) v),
              two σ _ τ _ π π (state_at σ ℓ f) g refl,
            ))
      ]
  traces_of (while t s) ℓ a b σ π p oa ob f w =
      loop_of t s ℓ a p oa (traces_of s) (length π) [] σ π (omega arith) f (stops σ.values (ap (λ τ. τ ∷ []) (state_at σ ℓ f))) w
  traces_of break ℓ a b σ [] p oa ob f w = inl (stops_at σ ℓ f)
  traces_of break ℓ a b σ (τ ∷ π) p oa ob f w =
      let g = only τ _ (steps_by _ ℓ σ τ p.0 f w.2) in
      inr (σ.values, two σ _ τ _ π [] (state_at σ ℓ f) g (out_ends ℓ (ℓ + 1) b τ π (labelled τ _ g) ob w.3))
  traces_of (block s) ℓ a b σ π p oa ob f w = traces_of s ℓ a b σ π p oa ob f w
  traces_of empty ℓ a b σ [] p oa ob f w = stops_at σ a f
  traces_of empty ℓ a b σ (τ ∷ π) p oa ob f w = let l = w.0 in let h = w.1 in absurd (omega arith)
  traces_of (list s u) ℓ a b σ π p oa ob f w =
      let c = begins u (ℓ + size s) a in
      let d = begins_is u (ℓ + size s) a in
      let q = part_left s u ℓ a b p in
      let r = part_right s u ℓ a b p in
      let oc : Out ℓ (ℓ + size s) c = grind arith in
      let obs : Out ℓ (ℓ + size s) b = grind arith in
      let oau : Out (ℓ + size s) (ℓ + size s + size u) a = grind arith in
      let obu : Out (ℓ + size s) (ℓ + size s + size u) b = grind arith in
      elim (cut ℓ (ℓ + (size s + size u)) ℓ (ℓ + size s) σ π w) [
        | inl v ↦ inl (traces_of s ℓ c b σ π q oc obs f v)
        | inr k ↦
            let n = walk_near s ℓ c b q σ k.front (begins_near s ℓ c b σ.label f) k.before in
            let o = k.out in
            let g : (last σ k.front).label ≡ c = (let x = k.low in let y = k.high in grind arith) in
            let v = within u (ℓ + size s) a b ℓ (ℓ + (size s + size u)) r (last σ k.front) k.back g oa ob k.after in
            inr (
              init σ k.front,
              last σ k.front,
              k.back,
              subst (λ ψ. Traces rs s ℓ c b ψ) (whole_is σ k.front) (traces_of s ℓ c b σ k.front q oc obs f k.before),
              traces_of u (ℓ + size s) a b (last σ k.front) k.back r oau obu g v,
              ap (λ ψ. σ ∷ ψ) k.parts ∙ joined_is σ k.front k.back,
            )
      ]
