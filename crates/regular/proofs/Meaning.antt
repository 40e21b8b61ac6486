-- The automaton's states permit what the words permit: the meaning of a sheet as a watch. Assumes nothing.
use Rattle.std.proofs.Common.{◌≡◌, ℕ, zero, suc, true, eqb, List, [], ◌∷◌, ◌++◌, length, get_or, replicate, Some, None, Option, sym, refl, ap, ◌∙◌, subst, inl, inr, append_assoc, arith}
use Rattle.std.proofs.lemmas.Bool.{eqb-true, cases_Bool, eqb-false, cond-true, cond-false}
use Rattle.model.specs.declared.moment.Moment.{Moment}
use Rattle.model.specs.Watches.{WatchMeaning}
use Rattle.regular.specs.declared.positions.Positions.{Positions}
use Rattle.regular.specs.declared.positions.Positions.TheVariants.{Start, After}
use Rattle.regular.specs.Words.{Regex, size, Word, holding, InTurn, Continues}
use Rattle.regular.specs.Sets.{Has, keep}
use Rattle.regular.specs.Automaton.{follow_sets, nexts, state_of, step, allows}
use Rattle.regular.proofs.Paths.{First, Follow, Leads, Within, first_within, follow_within, to_path, from_path, some_word, ending, through, suffix}
use Rattle.regular.proofs.Members.{has_zero, gather_to, gather_from, keep_to, keep_from, keep_some, firsts_to, firsts_from, follows_to, follows_new}

-- j can come next
abbrev pub Comes : Regex → Positions → ℕ → Type 0
Comes e Start j = First e 0 j
Comes e (After s) j = (q : ℕ) × Has s q × Follow e 0 q j

zeros : (n p j : ℕ) → Has (get_or (replicate n 0) p 0) j → ⊥
zeros zero p j h = has_zero j h
zeros (suc n) zero j h = has_zero j h
zeros (suc n) (suc p) j h = zeros n p j h

zeros_length : (n : ℕ) → length (replicate {A = ℕ} n 0) ≡ n
zeros_length zero = refl
zeros_length (suc n) = ap suc (zeros_length n)

nexts_to : (e : Regex) (s : Positions) (j : ℕ) → Has (nexts e s) j → Comes e s j
nexts_to e Start j h = firsts_to e 0 j h
nexts_to e (After s) j h =
    let g = gather_to (follow_sets e) s (size e) j h in
    elim (follows_to e 0 (replicate (size e) 0) g.0 j g.3) [
      | inl x ↦ absurd (zeros (size e) g.0 j x)
      | inr x ↦ (g.0, g.2, x)
    ]

nexts_from : (e : Regex) (s : Positions) (j : ℕ) → Comes e s j → Has (nexts e s) j
nexts_from e Start j h = firsts_from e 0 j h
nexts_from e (After s) j h =
    let w = follow_within e 0 h.0 j h.2 in
    gather_from (follow_sets e) s (size e) j h.0 (omega arith) h.1 (follows_new e 0 (replicate (size e) 0) h.0 j (omega (arith, zeros_length (size e))) h.2)

pub comes_within : (e : Regex) (s : Positions) (j : ℕ) → Comes e s j → Within e 0 j
comes_within e Start j h = first_within e 0 j h
comes_within e (After s) j h = (follow_within e 0 h.0 j h.2).1

-- the set that a step keeps
abbrev pub kept : Regex → Positions → Moment → ℕ
kept e s m = keep (λ p. holding e p m) (nexts e s) (size e)

pub kept_to : (e : Regex) (s : Positions) (m : Moment) (j : ℕ) → Has (kept e s m) j → Comes e s j × (holding e j m ≡ true)
kept_to e s m j h =
    let k = keep_to (λ p. holding e p m) (nexts e s) (size e) j h in
    (nexts_to e s j k.1, k.2)

pub kept_from : (e : Regex) (s : Positions) (m : Moment) (j : ℕ) → Comes e s j → holding e j m ≡ true → Has (kept e s m) j
kept_from e s m j h t =
    let w = comes_within e s j h in
    keep_from (λ p. holding e p m) (nexts e s) (size e) j (omega arith) (nexts_from e s j h) t

pub state_some : (x : ℕ) (t : Positions) → state_of x ≡ Some t → (t ≡ After x) × (x ≡ 0 → ⊥)
state_some x t h =
    elim (cases_Bool (eqb x 0)) [
      | inl e ↦ let n : ◌≡◌ {A = Option Positions} None (Some t) = sym (cond-true (eqb x 0) None (Some (After x)) e) ∙ h in let z : ◌≡◌ {A = ℕ} 0 1 = cc in absurd (omega arith)
      | inr e ↦ let n : ◌≡◌ {A = Option Positions} (Some (After x)) (Some t) = sym (cond-false (eqb x 0) None (Some (After x)) e) ∙ h in (cc, eqb-false x 0 e)
    ]

state_none : (x : ℕ) → state_of x ≡ None → x ≡ 0
state_none x h =
    elim (cases_Bool (eqb x 0)) [
      | inl e ↦ eqb-true x 0 e
      | inr e ↦ let n : ◌≡◌ {A = Option Positions} (Some (After x)) None = sym (cond-false (eqb x 0) None (Some (After x)) e) ∙ h in let z : ◌≡◌ {A = ℕ} 0 1 = cc in absurd (omega arith)
    ]

-- where a permitted list begins with m, some kept assertion has the rest behind it
begins : (e : Regex) (s : Positions) (m : Moment) (ms : List Moment) → allows e s (m ∷ ms) → (j : ℕ) × Has (kept e s m) j × Continues e j ms
begins e Start m ms ([], v, word, turn) = absurd turn
begins e Start m ms (p ∷ w, v, word, turn) = (p, kept_from e Start m p (to_path e 0 (p ∷ (w ++ v)) word).0 turn.0, ([], w, v, word, turn.1))
begins e (After s) m ms (inl h) = let z : ◌≡◌ {A = ℕ} 0 1 = cc in absurd (omega arith)
begins e (After s) m ms (inr (q, h, (u, [], v, word, turn))) = absurd turn
begins e (After s) m ms (inr (q, h, (u, j ∷ w, v, word, turn))) =
    (j, kept_from e (After s) m j (q, h, (suffix e 0 u q (j ∷ (w ++ v)) word).0) turn.0, (u ++ q ∷ [], w, v, subst (Word e 0) (sym (append_assoc u (q ∷ []) (j ∷ (w ++ v)))) word, turn.1))

-- some kept assertion with what is to follow, where the state after m permits the rest
abbrev GoesOn : Regex → Positions → Moment → List Moment → Type 0
GoesOn e s m ms = (j : ℕ) × Has (kept e s m) j × ((w : List ℕ) × (v : List ℕ) × Leads e 0 j (w ++ v) × InTurn (holding e) w ms)

goes_on : (e : Regex) (s : Positions) (m : Moment) (ms : List Moment) → (kept e s m ≡ 0 → ⊥) → allows e (After (kept e s m)) ms → GoesOn e s m ms
goes_on e s m ms h (inl is) =
    let k = keep_some (λ p. holding e p m) (nexts e s) (size e) h in
    let c = kept_to e s m k.0 k.1 in
    let v = ending e 0 k.0 (comes_within e s k.0 c.0) in
    (k.0, k.1, ([], v.0, v.1, subst (InTurn (holding e) []) (sym is) tt))
goes_on e s m ms h (inr (j, k, (u, w, v, word, turn))) = (j, k, (w, v, suffix e 0 u j (w ++ v) word, turn))

continued : (e : Regex) (s : Positions) (m : Moment) (ms : List Moment) → GoesOn e s m ms → allows e s (m ∷ ms)
continued e Start m ms (j, k, (w, v, leads, turn)) =
    let c = kept_to e Start m j k in
    (j ∷ w, v, from_path e 0 (j ∷ (w ++ v)) (c.0, leads), (c.1, turn))
continued e (After s) m ms (j, k, (w, v, leads, turn)) =
    let c = kept_to e (After s) m j k in
    let q = c.0.0 in
    let t = through e 0 q (follow_within e 0 q j c.0.2).0 in
    inr (q, c.0.1, (t.0, j ∷ w, v, t.1 (j ∷ (w ++ v)) (c.0.2, leads), (c.1, turn)))

pub goes : (e : Regex) (s t : Positions) (m : Moment) → step e s m ≡ Some t → (ms : List Moment) → (allows e t ms → allows e s (m ∷ ms)) × (allows e s (m ∷ ms) → allows e t ms)
goes e s t m h ms =
    let k = state_some (kept e s m) t h in
    (λ a. continued e s m ms (goes_on e s m ms k.1 (subst (λ (x : Positions). allows e x ms) k.0 a)), λ a. subst (λ (x : Positions). allows e x ms) (sym k.0) (inr (begins e s m ms a)))

pub stops : (e : Regex) (s : Positions) (m : Moment) → step e s m ≡ None → (ms : List Moment) → allows e s (m ∷ ms) → ⊥
stops e s m h ms a =
    let b = begins e s m ms a in
    has_zero b.0 (subst (λ (x : ℕ). Has x b.0) (state_none (kept e s m) h) b.1)

pub nothing : (e : Regex) (s : Positions) → allows e s []
nothing e Start = let w = some_word e 0 in ([], w.0, w.1, tt)
nothing e (After s) = inl refl

-- the meaning of a sheet as a watch
abbrev pub meaning : Regex → WatchMeaning Positions
meaning e = record { first = Start; permits = allows e; step = step e; nothing = nothing e; goes = goes e; stops = stops e }
