-- States of a program, and what its statements do to them. Assumes nothing.
use Rattle.std.proofs.Common.{◌≡◌, ℕ, zero, suc, ◌/◌, ◌%◌, ◌^◌, ◌<◌, ◌≤◌, true, cond, leb, List, [], ◌∷◌, length, get_or, set, ℤ, pos, ◌+ℤ◌, vec_items, Some, None, Option, MatchOption, IfSome, Bool, Bor, false, sym, refl, ap, ◌∙◌, inl, inr, arith, w16, to_z, of_z}
use Rattle.std.proofs.lemmas.Bool.{and_parts, and_left, and_from, lt-leb, le-leb, cond-true, cond-false, cases_Bool}
use Rattle.std.proofs.lemmas.Int.{ints}
use Rattle.std.proofs.lemmas.Option.{none-some}
use Rattle.std.specs.Slice.{IsItemAt}
use Rattle.model.specs.Cells.{at, In}
use Rattle.text.specs.declared.node.ArithNode.{ArithNode}
use Rattle.text.specs.declared.node.TestNode.{TestNode}
use Rattle.traces.specs.declared.range.Range.{Range}
use Rattle.traces.specs.Traces.{State, ◌▹◌, range_at, kept, stored}
use Rattle.traces.proofs.Packing.{kept_fits}
use Rattle.machine.proofs.Digits.{back}
use Rattle.traces.specs.Tables.{above, following, each, upward, span, outcomes, next_states}
use Rattle.traces.specs.Codes.{in_range, unpacked, state_of, is_state, code, codes, next_codes}
use Rattle.traces.proofs.Begins.{at_end}
use Rattle.traces.proofs.Laws.{sense_length, nexts_none, nexts_are, codes_length}
use Rattle.machine.specs.declared.statement.Statement.{Statement}
use Rattle.machine.specs.declared.statement.Statement.TheVariants.{Set, Sense, Go, Branch}
use Rattle.machine.specs.Views.{view, views, statement_stands, all_stand}
use Rattle.machine.specs.declared.program.Program.{Program}
use Rattle.machine.specs.Trees.{ariths_of, tests_of}
use Rattle.machine.specs.Cells.{values_in, instructions, viewed, stands_in, state_in, ways_of}

module _ (ns : List ArithNode) (ts : List TestNode) where
  pub views_length : (ss : List Statement) → length (views ns ts ss) ≡ length ss
  views_length [] = refl
  views_length (s ∷ ss) = ap suc (views_length ss)

  pub views_at : (ss : List Statement) (i : ℕ) (d : Statement) → i < length ss → at (views ns ts ss) i ≡ Some (view ns ts (get_or ss i d))
  views_at [] i d h = absurd (omega arith)
  views_at (s ∷ ss) zero d h = refl
  views_at (s ∷ ss) (suc i) d h = views_at ss i d (omega arith)

  pub stand_at : (ss : List Statement) (i : ℕ) (d : Statement) → all_stand ns ts ss ≡ true → i < length ss → statement_stands ns ts (get_or ss i d) ≡ true
  stand_at [] i d e h = absurd (omega arith)
  stand_at (s ∷ ss) zero d e h = (and_parts (statement_stands ns ts s) (all_stand ns ts ss) e).0
  stand_at (s ∷ ss) (suc i) d e h = stand_at ss i d (and_parts (statement_stands ns ts s) (all_stand ns ts ss) e).1 (omega arith)

-- ---- the state of a code
pub no_label : (rs : List Range) (n x : ℕ) → n < x / 2 ^ 36 → None ≡ cond (is_state rs n x) (Some (state_of rs x)) None
no_label rs n x h = sym (cond-false (is_state rs n x) (Some (state_of rs x)) None (and_left (leb (x / 2 ^ 36) n) (in_range rs (x % 2 ^ 36)) (lt-leb (x / 2 ^ 36) n h)))

pub has_values : (rs : List Range) (n x : ℕ) (vs : List ℤ) → x / 2 ^ 36 ≤ n → Some vs ≡ values_in rs (x % 2 ^ 36)
    → Some ((x / 2 ^ 36) ▹ vs) ≡ cond (is_state rs n x) (Some (state_of rs x)) None
has_values rs n x vs h e =
    elim (cases_Bool (in_range rs (x % 2 ^ 36))) [
      | inr f ↦ let s = cond-false (in_range rs (x % 2 ^ 36)) (Some (unpacked rs (x % 2 ^ 36))) None f in cc
      | inl t ↦
          let s = cond-true (in_range rs (x % 2 ^ 36)) (Some (unpacked rs (x % 2 ^ 36))) None t in
          let v : vs ≡ unpacked rs (x % 2 ^ 36) = cc in
          ap (λ us. Some ((x / 2 ^ 36) ▹ us)) v ∙ sym (cond-true (is_state rs n x) (Some (state_of rs x)) None (and_from (leb (x / 2 ^ 36) n) (in_range rs (x % 2 ^ 36)) (le-leb (x / 2 ^ 36) n h) t))
    ]

-- ---- the instruction at a label
module _ (p : Program) (ss : List Statement) (l n : ℕ) (read : ss ≡ vec_items p.statements) (same : l ≡ n) where
  pub none_at : length ss ≤ l → at (instructions p) n ≡ None
  none_at h =
      let v = views_length (ariths_of p.expressions) (tests_of p.expressions) (vec_items p.statements) in
      let e = ap length read in
      at_end (instructions p) n (omega arith)

  pub some_at : (s : Statement) → l < length ss → s ≡ get_or ss l s → (at (instructions p) n ≡ Some (viewed p s)) × (stands_in p s ≡ true)
  some_at s h is =
      let e = ap length read in
      let k : get_or (vec_items p.statements) n s ≡ s = sym (is ∙ ap (λ us. get_or us l s) read ∙ ap (λ i. get_or (vec_items p.statements) i s) same) in (
        views_at (ariths_of p.expressions) (tests_of p.expressions) (vec_items p.statements) n s (omega arith) ∙ ap (λ t. Some (viewed p t)) k,
        sym (ap (stands_in p) k) ∙ stand_at (ariths_of p.expressions) (tests_of p.expressions) (vec_items p.statements) n s p.whole (omega arith),
      )

-- ---- next states
pub sense_at : (n : ℕ) (ρ : List ℤ) (x : ℕ) (z : ℤ) (m p : ℕ) → p < m → at (each n ρ x (upward z m)) p ≡ Some (n ▹ set ρ x (z +ℤ pos p))
sense_at n ρ x z zero p h = absurd (omega arith)
sense_at n ρ x z (suc m) zero h = ap (λ v. Some (n ▹ set ρ x v)) (omega (arith, ints))
sense_at n ρ x z (suc m) (suc p) h = sense_at n ρ x (z +ℤ pos 1) m p (omega arith) ∙ ap (λ v. Some (n ▹ set ρ x v)) (omega (arith, ints))

-- the sense at a place of the range's values
pub sense_there : (rs : List Range) (n : ℕ) (ρ : List ℤ) (x p : ℕ) (r : Range) → r ≡ range_at rs x → p ≤ above r.low r.high → at (each n ρ x (span (range_at rs x))) p ≡ Some (n ▹ set ρ x (r.low +ℤ pos p))
sense_there rs n ρ x p r e h = sym (ap (λ q. at (each n ρ x (span q)) p) e) ∙ sense_at n ρ x r.low (suc (above r.low r.high)) p (omega arith)

pub outcomes_length : (rs : List Range) (ns : List ArithNode) (ts : List TestNode) (s : Statement) (ρ : List ℤ) → length (outcomes rs (view ns ts s) ρ) ≡ ways_of rs s
outcomes_length rs ns ts (Set x i n) ρ = refl
outcomes_length rs ns ts (Sense x n) ρ = sense_length rs (Rattle.text.specs.Words.register_index x) n ρ
outcomes_length rs ns ts (Go n) ρ = refl
outcomes_length rs ns ts (Branch i y n) ρ = refl

-- as many as the statement at the label has
pub wide_at : (p : Program) (σ : State) (s : Statement) → at (instructions p) σ.label ≡ Some (viewed p s) → length (next_states p.ranges (instructions p) σ) ≡ ways_of p.ranges s
wide_at p σ s e = ap (λ o. length (following p.ranges o σ.values)) e ∙ outcomes_length p.ranges (ariths_of p.expressions) (tests_of p.expressions) s σ.values

-- ---- codes of next states
pub in_at : {A : Type 0} (xs : List A) (p : ℕ) (x : A) → at xs p ≡ Some x → In x xs
in_at [] p x e = cc
in_at (y ∷ xs) zero x e = inl (let f : x ≡ y = cc in f)
in_at (y ∷ xs) (suc p) x e = inr (in_at xs p x e)

pub codes_some : (rs : List Range) (π : List State) (p : ℕ) (τ : State) → at π p ≡ Some τ → at (codes rs π) p ≡ Some (code rs τ)
codes_some rs [] p τ e = cc
codes_some rs (σ ∷ π) zero τ e = let f : σ ≡ τ = cc in ap (λ υ. Some (code rs υ)) f
codes_some rs (σ ∷ π) (suc p) τ e = codes_some rs π p τ e

pub codes_none : (rs : List Range) (π : List State) (p : ℕ) → at π p ≡ None → at (codes rs π) p ≡ None
codes_none rs [] p e = refl
codes_none rs (σ ∷ π) zero e = cc
codes_none rs (σ ∷ π) (suc p) e = codes_none rs π p e

-- a code with a state is a state, and that is its state
pub is_some : (rs : List Range) (n x : ℕ) (σ : State) → Some σ ≡ cond (is_state rs n x) (Some (state_of rs x)) None → (is_state rs n x ≡ true) × (σ ≡ state_of rs x)
is_some rs n x σ e =
    elim (cases_Bool (is_state rs n x)) [
      | inl t ↦ (t, (let s = cond-true (is_state rs n x) (Some (state_of rs x)) None t in let f : σ ≡ state_of rs x = cc in f))
      | inr f ↦ let s = cond-false (is_state rs n x) (Some (state_of rs x)) None f in cc
    ]

pub is_none : (rs : List Range) (n x : ℕ) → None ≡ cond (is_state rs n x) (Some (state_of rs x)) None → is_state rs n x ≡ false
is_none rs n x e =
    elim (cases_Bool (is_state rs n x)) [
      | inl t ↦ absurd (none-some _ (e ∙ cond-true (is_state rs n x) (Some (state_of rs x)) None t))
      | inr f ↦ f
    ]

-- a code has as many next codes as its state has next states, and none without a state
pub counted : (p : Program) (x r : ℕ) (o : Option State) (Q : State → Type 0) → o ≡ state_in p x → MatchOption o (r ≡ 0) Q → ((σ : State) → Q σ → r ≡ length (next_states p.ranges (instructions p) σ)) → r ≡ length (next_codes p.ranges (instructions p) x)
counted p x r None Q e h k = h ∙ sym (ap length (nexts_none p.ranges (instructions p) x (is_none p.ranges (length (instructions p)) x e)))
counted p x r (Some σ) Q e h k =
    let s = is_some p.ranges (length (instructions p)) x σ e in
    k σ h ∙ ap (λ τ. length (next_states p.ranges (instructions p) τ)) s.1
    ∙ sym (codes_length p.ranges (next_states p.ranges (instructions p) (state_of p.ranges x)))
    ∙ sym (ap length (nexts_are p.ranges (instructions p) x s.0))

-- what a set leaves in the register
pub set_is : (rs : List Range) (ρ : List ℤ) (n x : ℕ) (r : Range) (k z : ℤ) → r ≡ range_at rs x → k ≡ kept r z → (n ▹ set ρ x (to_z w16 (of_z w16 k))) ≡ (n ▹ stored rs ρ x z)
set_is rs ρ n x r k z q g =
    let b = kept_fits r z in
    let v : to_z w16 (of_z w16 k) ≡ kept r z = ap (λ u. to_z w16 (of_z w16 u)) g ∙ back r (kept r z) b.0 b.1 in
    ap (λ u. n ▹ set ρ x u) (v ∙ ap (λ u. kept u z) q)

-- ---- the item at a place, where the place is below the list's length
pub then_at : {A : Type 0} (xs : List A) (p : ℕ) (b : Bool) (o : Option A) (F : A → Type 0) → Rattle.std.specs.Option.is_some o ≡ b → IfSome o F → (b ≡ true → (x : A) → F x → at xs p ≡ Some x) → (b ≡ false → length xs ≤ p) → o ≡ at xs p
then_at xs p b None F e f k n = sym (at_end xs p (n (sym e)))
then_at xs p b (Some x) F e f k n = sym (k (sym e) x f)

-- what the statement at a label leads to, found there or not
pub found_ways : (p : Program) (σ : State) (ss : List Statement) (l r : ℕ) (o : Option (Bor Statement)) (F : Bor Statement → Type 0) → ss ≡ vec_items p.statements → l ≡ σ.label
    → IsItemAt ss l o → MatchOption o (r ≡ 0) F → ((s : Bor Statement) → F s → r ≡ ways_of p.ranges s.now) → r ≡ length (next_states p.ranges (instructions p) σ)
found_ways p σ ss l r None F e g i m k =
    m ∙ sym (ap (λ o. length (following p.ranges o σ.values)) (none_at p ss l σ.label e g i.3))
found_ways p σ ss l r (Some s) F e g i m k =
    k s m ∙ sym (wide_at p σ s.now (some_at p ss l σ.label e g s.now i.3.0 i.1).0)
