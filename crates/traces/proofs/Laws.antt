-- The laws of the cell that a sound table is, and its runs: the traces of the program. Assumes nothing.
use Rattle.std.proofs.Common.{◌≡◌, ℕ, zero, suc, ◌+◌, ◌/◌, ◌%◌, ◌^◌, ◌<◌, ◌≤◌, true, false, cond, ◌&&◌, eqb, leb, List, [], ◌∷◌, map, length, set, ℤ, pos, ◌+ℤ◌, Some, None, Option, sym, refl, ap, ◌∙◌, subst, inl, inr, arith}
use Rattle.std.proofs.lemmas.Bool.{and_parts, leb-true, eqb-true, cases_Bool, cond-true, cond-false, cases_lt}
use Rattle.model.specs.Cells.{In, at, Limited}
use Rattle.text.specs.Expressions.{holds}
use Rattle.traces.specs.declared.range.Range.{Range}
use Rattle.traces.specs.Programs.{size, begins, Tree, ranges}
use Rattle.traces.specs.Traces.{State, ◌▹◌, seen, range_at, Prefix, exit, Traces}
use Rattle.traces.specs.Tables.{Instruction, assigns, senses, goes, branches, table_of, outcomes, following, next_states, Path, Paths, each, span, upward, above}
use Rattle.traces.specs.Codes.{code, codes, unpacked, state_of, is_state, start_codes, settings, next_codes, leads_to, lead_to, sound}
use Rattle.traces.proofs.Spans.{span_only}
use Rattle.traces.proofs.Packing.{Fits, setting_fits, set_fits, stored_fits, fits_limited, narrow, state_of_code, is_state_code, state_fits, state_label}
use Rattle.traces.proofs.Begins.{start_only, start_length, at_end}
use Rattle.traces.proofs.Walks.{Walk, Placed, begins_is, length_table, walks_of, traces_of, outcomes_lead}

-- what soundness says
pub record Sound (rs : List Range) (tbl : List Instruction) : Type 0 where
  pub six : length rs ≡ 6
  pub few : settings rs ≤ 65536
  pub short : length tbl ≤ 63
  pub leads : lead_to (length tbl) tbl ≡ true

pub is_sound : (rs : List Range) (tbl : List Instruction) → sound rs tbl ≡ true → Sound rs tbl
is_sound rs tbl e =
    let p = and_parts (eqb (length rs) 6) (leb (settings rs) 65536 && (leb (length tbl) 63 && lead_to (length tbl) tbl)) e in
    let q = and_parts (leb (settings rs) 65536) (leb (length tbl) 63 && lead_to (length tbl) tbl) p.1 in
    let r = and_parts (leb (length tbl) 63) (lead_to (length tbl) tbl) q.1 in
    record { six = eqb-true (length rs) 6 p.0; few = leb-true (settings rs) 65536 q.0; short = leb-true (length tbl) 63 r.0; leads = r.1 }

each_length : (n : ℕ) (ρ : List ℤ) (x : ℕ) (vs : List ℤ) → length (each n ρ x vs) ≡ length vs
each_length n ρ x [] = refl
each_length n ρ x (v ∷ vs) = ap suc (each_length n ρ x vs)

upward_length : (z : ℤ) (n : ℕ) → length (upward z n) ≡ n
upward_length z zero = refl
upward_length z (suc n) = ap suc (upward_length (z +ℤ pos 1) n)

pub codes_length : (rs : List Range) (π : List State) → length (codes rs π) ≡ length π
codes_length rs [] = refl
codes_length rs (σ ∷ π) = ap suc (codes_length rs π)

pub sense_length : (rs : List Range) (x n : ℕ) (ρ : List ℤ) → length (each n ρ x (span (range_at rs x))) ≡ suc (above (range_at rs x).low (range_at rs x).high)
sense_length rs x n ρ = each_length n ρ x (span (range_at rs x)) ∙ upward_length (range_at rs x).low (suc (above (range_at rs x).low (range_at rs x).high))

outcomes_few : (rs : List Range) (i : Instruction) (ρ : List ℤ) → length (outcomes rs i ρ) ≤ 64
outcomes_few rs (assigns x e n) ρ = omega arith
outcomes_few rs (senses x n) ρ = let e = sense_length rs x n ρ in let h = narrow (range_at rs x) in omega arith
outcomes_few rs (goes n) ρ = omega arith
outcomes_few rs (branches t y n) ρ = omega arith

following_few : (rs : List Range) (o : Option Instruction) (ρ : List ℤ) → length (following rs o ρ) ≤ 64
following_few rs None ρ = omega arith
following_few rs (Some i) ρ = outcomes_few rs i ρ

pub nexts_few : (rs : List Range) (tbl : List Instruction) (x : ℕ) → length (next_codes rs tbl x) ≤ 64
nexts_few rs tbl x =
    elim (is_state rs (length tbl) x) as (λ b. length (cond b (codes rs (next_states rs tbl (state_of rs x))) []) ≤ 64) [
      | true ↦ (let e = codes_length rs (next_states rs tbl (state_of rs x)) in let h = following_few rs (at tbl (x / 2 ^ 36)) (unpacked rs (x % 2 ^ 36)) in omega arith)
      | false ↦ omega arith
    ]

pub nexts_none : (rs : List Range) (tbl : List Instruction) (x : ℕ) → is_state rs (length tbl) x ≡ false → next_codes rs tbl x ≡ []
nexts_none rs tbl x e = cond-false _ _ _ e

pub nexts_are : (rs : List Range) (tbl : List Instruction) (x : ℕ) → is_state rs (length tbl) x ≡ true → next_codes rs tbl x ≡ codes rs (next_states rs tbl (state_of rs x))
nexts_are rs tbl x e = cond-true _ _ _ e

-- a code list has the code of each state, and no other
codes_has : (rs : List Range) (τ : State) (π : List State) → In τ π → In (code rs τ) (codes rs π)
codes_has rs τ [] m = m
codes_has rs τ (σ ∷ π) (inl e) = inl (ap (code rs) e)
codes_has rs τ (σ ∷ π) (inr m) = inr (codes_has rs τ π m)

codes_only : (rs : List Range) (y : ℕ) (π : List State) → In y (codes rs π) → (τ : State) × In τ π × (y ≡ code rs τ)
codes_only rs y [] m = absurd m
codes_only rs y (σ ∷ π) (inl e) = (σ, inl refl, e)
codes_only rs y (σ ∷ π) (inr m) = let k = codes_only rs y π m in (k.0, inr k.1, k.2)

-- steps keep values in range
each_fits : (rs : List Range) (n : ℕ) (ρ : List ℤ) (x : ℕ) (vs : List ℤ) (τ : State) → Fits rs ρ → ((v : ℤ) → In v vs → Fits rs (set ρ x v)) → In τ (each n ρ x vs) → Fits rs τ.values
each_fits rs n ρ x [] τ f g m = absurd m
each_fits rs n ρ x (v ∷ vs) τ f g (inl e) = subst (λ (σ : State). Fits rs σ.values) (sym e) (g v (inl refl))
each_fits rs n ρ x (v ∷ vs) τ f g (inr m) = each_fits rs n ρ x vs τ f (λ w k. g w (inr k)) m

one_fits : (rs : List Range) (σ τ : State) → Fits rs σ.values → In τ (σ ∷ []) → Fits rs τ.values
one_fits rs σ τ f (inl e) = subst (λ (υ : State). Fits rs υ.values) (sym e) f
one_fits rs σ τ f (inr n) = absurd n

outcomes_fit : (rs : List Range) (i : Instruction) (ρ : List ℤ) (τ : State) → Fits rs ρ → In τ (outcomes rs i ρ) → Fits rs τ.values
outcomes_fit rs (assigns x e n) ρ τ f m = one_fits rs _ τ (stored_fits rs ρ x _ f) m
outcomes_fit rs (senses x n) ρ τ f m = each_fits rs n ρ x (span (range_at rs x)) τ f (λ v k. let s = span_only (range_at rs x) v k in set_fits rs ρ x v f s.0 s.1) m
outcomes_fit rs (goes n) ρ τ f m = one_fits rs (n ▹ ρ) τ f m
outcomes_fit rs (branches t y n) ρ τ f m = one_fits rs (cond (holds (seen ρ) t) y n ▹ ρ) τ f m

-- and lead to labels up to the exit
leads_label : (rs : List Range) (n : ℕ) (i : Instruction) (ρ : List ℤ) (τ : State) → leads_to n i ≡ true → In τ (outcomes rs i ρ) → τ.label ≤ n
leads_label rs n (assigns x e m) ρ τ l k = let h = leb-true m n l in let g = outcomes_lead rs (assigns x e m) ρ τ k in omega arith
leads_label rs n (senses x m) ρ τ l k = let h = leb-true m n l in let g = outcomes_lead rs (senses x m) ρ τ k in omega arith
leads_label rs n (goes m) ρ τ l k = let h = leb-true m n l in let g = outcomes_lead rs (goes m) ρ τ k in omega arith
leads_label rs n (branches t y m) ρ τ l k =
    let p = and_parts (leb y n) (leb m n) l in
    let h = leb-true y n p.0 in
    let h' = leb-true m n p.1 in
    let g = outcomes_lead rs (branches t y m) ρ τ k in
    grind arith

at_leads : (n : ℕ) (tbl : List Instruction) (ℓ : ℕ) (i : Instruction) → lead_to n tbl ≡ true → at tbl ℓ ≡ Some i → leads_to n i ≡ true
at_leads n [] ℓ i h e = absurd (let w : ◌≡◌ {A = ℕ} 0 1 = cc in omega arith)
at_leads n (j ∷ tbl) zero i h e = let p = and_parts (leads_to n j) (lead_to n tbl) h in let f : j ≡ i = cc in subst (λ k. leads_to n k ≡ true) f p.0
at_leads n (j ∷ tbl) (suc ℓ) i h e = let p = and_parts (leads_to n j) (lead_to n tbl) h in at_leads n tbl ℓ i p.1 e

-- a state that steps
record Steps (rs : List Range) (tbl : List Instruction) (σ τ : State) : Type 0 where
  inside : σ.label < length tbl
  fits : Fits rs τ.values
  label : τ.label ≤ length tbl

steps : (rs : List Range) (tbl : List Instruction) (σ τ : State) → lead_to (length tbl) tbl ≡ true → Fits rs σ.values → In τ (next_states rs tbl σ) → Steps rs tbl σ τ
steps rs tbl σ τ h f m = go (at tbl σ.label) refl m
  where
    go : (o : Option Instruction) → at tbl σ.label ≡ o → In τ (following rs o σ.values) → Steps rs tbl σ τ
    go None e k = absurd k
    go (Some i) e k = record {
      inside = elim (cases_lt σ.label (length tbl)) [ inl l ↦ l | inr l ↦ absurd (let x = at_end tbl σ.label l in let w : ◌≡◌ {A = ℕ} 0 1 = cc in omega arith) ];
      fits = outcomes_fit rs i σ.values τ f k;
      label = leads_label rs (length tbl) i σ.values τ (at_leads (length tbl) tbl σ.label i h e) k;
    }

module _ (rs : List Range) (tbl : List Instruction) (s : Sound rs tbl) where
  pub starts_few : length (start_codes rs) ≤ 65536
  starts_few = let e = start_length rs in let h = s.few in omega arith

  pub starts_are_states : (x : ℕ) → In x (start_codes rs) → is_state rs (length tbl) x ≡ true
  starts_are_states x m =
      let k = start_only rs x m in
      let e : x ≡ code rs (0 ▹ k.0) = (let z = k.2 in omega arith) in
      rw e (is_state_code rs s.six (length tbl) (0 ▹ k.0) (setting_fits rs k.0 k.1) (omega arith))

  nexts_go : (x y : ℕ) → is_state rs (length tbl) x ≡ true → In y (next_codes rs tbl x) → (τ : State) × In τ (next_states rs tbl (state_of rs x)) × (y ≡ code rs τ)
  nexts_go x y e m = codes_only rs y (next_states rs tbl (state_of rs x)) (subst (λ zs. In y zs) (nexts_are rs tbl x e) m)

  pub nexts_are_states : (x y : ℕ) → In y (next_codes rs tbl x) → is_state rs (length tbl) y ≡ true
  nexts_are_states x y m =
      elim (cases_Bool (is_state rs (length tbl) x)) [
        | inr e ↦ absurd (subst (λ zs. In y zs) (nexts_none rs tbl x e) m)
        | inl e ↦
            let k = nexts_go x y e m in
            let t = steps rs tbl (state_of rs x) k.0 s.leads (state_fits rs s.six (length tbl) x e) k.1 in
            rw k.2 (is_state_code rs s.six (length tbl) k.0 t.fits t.label)
      ]

  pub next_fits : (x : ℕ) (τ : State) → is_state rs (length tbl) x ≡ true → In τ (next_states rs tbl (state_of rs x)) → Fits rs τ.values
  next_fits x τ e m = (steps rs tbl (state_of rs x) τ s.leads (state_fits rs s.six (length tbl) x e) m).fits

  pub labels_limited : (x : ℕ) → is_state rs (length tbl) x ≡ true → x / 2 ^ 36 < 64
  labels_limited x e = let h = state_label rs s.six (length tbl) x e in let k = s.short in omega arith

  pub values_limited : (x : ℕ) → is_state rs (length tbl) x ≡ true → Limited (unpacked rs (x % 2 ^ 36))
  values_limited x e = fits_limited rs _ (state_fits rs s.six (length tbl) x e)

  -- codes follow codes as states follow states
  abbrev pub CodesPath : ℕ → List ℕ → Type 0
  CodesPath x [] = Unit {0}
  CodesPath x (y ∷ ys) = In y (next_codes rs tbl x) × CodesPath y ys

  pub states_path : (σ : State) (π : List State) → Fits rs σ.values → σ.label ≤ length tbl → Walk rs (at tbl) 0 (length tbl) σ π → CodesPath (code rs σ) (codes rs π)
  states_path σ [] f l w = tt
  states_path σ (τ ∷ π) f l w =
      let t = steps rs tbl σ τ s.leads f w.2 in
      let e = is_state_code rs s.six (length tbl) σ f l in
      let g = nexts_are rs tbl (code rs σ) e in
      let h = state_of_code rs s.six σ f in (
        subst (λ zs. In (code rs τ) zs) (sym (g ∙ ap (λ υ. codes rs (next_states rs tbl υ)) h)) (codes_has rs τ (next_states rs tbl σ) w.2),
        states_path τ π t.fits t.label w.3,
      )

  -- the codes of states that follow one another stand for these states
  pub states_told : (σ : State) (π : List State) → Fits rs σ.values → σ.label ≤ length tbl → Walk rs (at tbl) 0 (length tbl) σ π → map (state_of rs) (codes rs (σ ∷ π)) ≡ σ ∷ π
  states_told σ [] f l w = let e = state_of_code rs s.six σ f in λ i. e i ∷ []
  states_told σ (τ ∷ π) f l w =
      let t = steps rs tbl σ τ s.leads f w.2 in
      let e = state_of_code rs s.six σ f in
      let h = states_told τ π t.fits t.label w.3 in
      λ i. e i ∷ h i

  pub path_states : (σ : State) (ys : List ℕ) → Fits rs σ.values → σ.label ≤ length tbl → CodesPath (code rs σ) ys → (π : List State) × (ys ≡ codes rs π) × Walk rs (at tbl) 0 (length tbl) σ π
  path_states σ [] f l p = ([], refl, tt)
  path_states σ (y ∷ ys) f l p =
      let e = is_state_code rs s.six (length tbl) σ f l in
      let h = state_of_code rs s.six σ f in
      let k = nexts_go (code rs σ) y e p.0 in
      let m = subst (λ υ. In k.0 (next_states rs tbl υ)) h k.1 in
      let t = steps rs tbl σ k.0 s.leads f m in
      let i = path_states k.0 ys t.fits t.label (subst (λ z. CodesPath z ys) k.2 p.1) in
      (k.0 ∷ i.0, cons_is y (code rs k.0) ys (codes rs i.0) k.2 i.1, (omega arith, t.inside, m, i.2))
    where
      cons_is : (x y : ℕ) (xs ys : List ℕ) → x ≡ y → xs ≡ ys → x ∷ xs ≡ y ∷ ys
      cons_is x y xs ys e f = cc

-- ---- the table of a tree
placed_by : (N : ℕ → Option Instruction) (rs : List Range) (tbl : List Instruction) (ℓ : ℕ) → ((i : ℕ) → N (ℓ + i) ≡ at tbl i) → Placed rs N ℓ tbl
placed_by N rs [] ℓ h = tt
placed_by N rs (x ∷ tbl) ℓ h = (
  (let e : ℓ + 0 ≡ ℓ = omega arith in subst (λ k. N k ≡ Some x) e (h 0)),
  placed_by N rs tbl (ℓ + 1) (λ i. let e : ℓ + suc i ≡ ℓ + 1 + i = omega arith in subst (λ k. N k ≡ at tbl i) e (h (suc i))),
)

placed : (rs : List Range) (tbl : List Instruction) → Placed rs (at tbl) 0 tbl
placed rs tbl = placed_by (at tbl) rs tbl 0 (λ i. ap (at tbl) (omega arith))

pub table_length : (t : Tree) → length (table_of t) ≡ exit t
table_length t = length_table t.body 0 (exit t) (exit t)

-- a program begins at label 0, an empty one too
pub begins_zero : (t : Tree) → begins t.body 0 (exit t) ≡ 0
begins_zero t = let d = begins_is t.body 0 (exit t) in grind arith

walk_at : (rs : List Range) (tbl : List Instruction) (hi hi' : ℕ) (σ : State) (π : List State) → hi ≡ hi' → Walk rs (at tbl) 0 hi σ π → Walk rs (at tbl) 0 hi' σ π
walk_at rs tbl hi hi' σ π e w = subst (λ h. Walk rs (at tbl) 0 h σ π) e w

-- a trace of a tree is a path of steps from label 0
pub trace_path : (t : Tree) (σ : State) (π : List State) → Traces (ranges t) t.body 0 (exit t) (exit t) (σ ∷ π)
    → (σ.label ≡ 0) × Walk (ranges t) (at (table_of t)) 0 (length (table_of t)) σ π
trace_path t σ π h =
    let w = walks_of (ranges t) (at (table_of t)) t.body 0 (exit t) (exit t) (σ ∷ π) (placed (ranges t) (table_of t)) h in
    let e = begins_zero t in
    let f = table_length t in
    (w.0 ∙ e, walk_at (ranges t) (table_of t) _ _ σ π (omega arith) w.1)

pub path_trace : (t : Tree) (σ : State) (π : List State) → σ.label ≡ 0 → Walk (ranges t) (at (table_of t)) 0 (length (table_of t)) σ π
    → Traces (ranges t) t.body 0 (exit t) (exit t) (σ ∷ π)
path_trace t σ π z w =
    let e = begins_zero t in
    let f = table_length t in
    traces_of (ranges t) (at (table_of t)) t.body 0 (exit t) (exit t) σ π (placed (ranges t) (table_of t)) (inr (omega arith)) (inr (omega arith)) (z ∙ sym e)
    (walk_at (ranges t) (table_of t) _ (0 + size t.body) σ π (omega arith) w)

-- ---- a list of states is a prefix trace exactly when it is a path of steps from a start
path_walk : (rs : List Range) (tbl : List Instruction) (σ : State) (π : List State) → Path rs tbl σ π → Walk rs (at tbl) 0 (length tbl) σ π
path_walk rs tbl σ [] p = tt
path_walk rs tbl σ (τ ∷ π) p = (omega arith, inside_of (at tbl σ.label) refl p.0, p.0, path_walk rs tbl τ π p.1)
  where
    inside_of : (o : Option Instruction) → at tbl σ.label ≡ o → In τ (following rs o σ.values) → σ.label < length tbl
    inside_of None e k = absurd k
    inside_of (Some i) e k = elim (cases_lt σ.label (length tbl)) [ inl l ↦ l | inr l ↦ absurd (let x = at_end tbl σ.label l in let w : ◌≡◌ {A = ℕ} 0 1 = cc in omega arith) ]

walk_path : (rs : List Range) (tbl : List Instruction) (σ : State) (π : List State) → Walk rs (at tbl) 0 (length tbl) σ π → Path rs tbl σ π
walk_path rs tbl σ [] w = tt
walk_path rs tbl σ (τ ∷ π) w = (w.2, walk_path rs tbl τ π w.3)

pub prefix_paths : (t : Tree) (π : List State) → Prefix t π → Paths t π
prefix_paths t [] h = h.1
prefix_paths t (σ ∷ π) h = let w = trace_path t σ π h.0 in (w.0, h.1, walk_path (ranges t) (table_of t) σ π w.1)

pub paths_prefix : (t : Tree) (π : List State) → Paths t π → Prefix t π
paths_prefix t [] h = absurd h
paths_prefix t (σ ∷ π) h = (path_trace t σ π h.0 (path_walk (ranges t) (table_of t) σ π h.2), h.1)
