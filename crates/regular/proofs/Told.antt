-- Each state that the automaton comes to is the set of assertions that can be the last. Assumes nothing.
use Rattle.std.proofs.Common.{◌≡◌, ℕ, Bool, true, ◌⊎◌, List, [], ◌∷◌, ◌++◌, Some, None, Option, sym, refl, ap, ◌∙◌, subst, inl, inr, append_assoc, append-nil, arith}
use Rattle.model.specs.declared.moment.Moment.{Moment}
use Rattle.regular.specs.declared.positions.Positions.{Positions}
use Rattle.regular.specs.declared.positions.Positions.TheVariants.{Start, After}
use Rattle.regular.specs.Words.{Regex, Word, holding, InTurn, LastOf}
use Rattle.regular.specs.Sets.{Has}
use Rattle.regular.specs.Automaton.{step, allows, Steps, Tells, FollowsWords}
use Rattle.regular.proofs.Paths.{Follow, Last, Path, Leads, to_path, from_path, ending, suffix}
use Rattle.regular.proofs.Meaning.{Comes, kept, kept_to, kept_from, comes_within, state_some, goes, stops, nothing}

-- another path may come behind a place of a path
path_swap : (F : ℕ → ℕ → Type 0) (L : ℕ → Type 0) (i : ℕ) (u : List ℕ) (p : ℕ) (v x : List ℕ) → Path F L i (u ++ p ∷ v) → Path F L p x → Path F L i (u ++ p ∷ x)
path_swap F L i [] p v x h k = (h.0, k)
path_swap F L i (j ∷ u) p v x h k = (h.0, path_swap F L j u p v x h.1 k)

swap_word : (e : Regex) (n : ℕ) (u : List ℕ) (p : ℕ) (v x : List ℕ) → Word e n (u ++ p ∷ v) → Leads e n p x → Word e n (u ++ p ∷ x)
swap_word e n [] p v x h k = from_path e n (p ∷ x) ((to_path e n (p ∷ v) h).0, k)
swap_word e n (i ∷ u) p v x h k =
    let s = to_path e n (i ∷ (u ++ p ∷ v)) h in
    from_path e n (i ∷ (u ++ p ∷ x)) (s.0, path_swap (Follow e n) (Last e n) i u p v x s.1 k)

turn_join : (h : ℕ → Moment → Bool) (a : List ℕ) (ms : List Moment) (q : ℕ) (m : Moment) → InTurn h a ms → h q m ≡ true → InTurn h (a ++ q ∷ []) (ms ++ m ∷ [])
turn_join h [] [] q m t k = (k, tt)
turn_join h [] (x ∷ ms) q m t k = absurd t
turn_join h (p ∷ a) [] q m t k = absurd t
turn_join h (p ∷ a) (x ∷ ms) q m t k = (t.0, turn_join h a ms q m t.1 k)

turn_split : (h : ℕ → Moment → Bool) (u : List ℕ) (ms : List Moment) (q : ℕ) (m : Moment) → InTurn h (u ++ q ∷ []) (ms ++ m ∷ []) → InTurn h u ms × (h q m ≡ true)
turn_split h [] [] q m t = (tt, t.0)
turn_split h [] (x ∷ []) q m t = absurd t.1
turn_split h [] (x ∷ y ∷ ms) q m t = absurd t.1
turn_split h (p ∷ []) [] q m t = absurd t.1
turn_split h (p ∷ r ∷ u) [] q m t = absurd t.1
turn_split h (p ∷ u) (x ∷ ms) q m t = let r = turn_split h u ms q m t.1 in ((t.0, r.0), r.1)

-- a list is empty or has a last element
ends : (u : List ℕ) → (u ≡ []) ⊎ ((x : List ℕ) × (p : ℕ) × (u ≡ x ++ p ∷ []))
ends [] = inl refl
ends (i ∷ u) =
    elim (ends u) [
      | inl h ↦ inr ([], i, ap (λ l. i ∷ l) h)
      | inr h ↦ inr (i ∷ h.0, h.1, ap (λ l. i ∷ l) h.2)
    ]

turn_empty : (h : ℕ → Moment → Bool) (u : List ℕ) → InTurn h u [] → u ≡ []
turn_empty h [] t = refl
turn_empty h (p ∷ u) t = absurd t

turn_none : (h : ℕ → Moment → Bool) (ms : List Moment) → InTurn h [] ms → ms ≡ []
turn_none h [] t = refl
turn_none h (m ∷ ms) t = absurd t

-- what a step keeps can be the last
kept_last : (e : Regex) (s : Positions) (ms : List Moment) (m : Moment) (q : ℕ) → Tells e ms s → Has (kept e s m) q → LastOf e (ms ++ m ∷ []) q
kept_last e Start ms m q t h =
    let c = kept_to e Start m q h in
    let v = ending e 0 q (comes_within e Start q c.0) in
    ([], v.0, from_path e 0 (q ∷ v.0) (c.0, v.1), subst (λ (x : List Moment). InTurn (holding e) (q ∷ []) (x ++ m ∷ [])) (sym t) (c.1, tt))
kept_last e (After s) ms m q t h =
    let c = kept_to e (After s) m q h in
    let p = c.0.0 in
    let l = (t.1 p).0 c.0.1 in
    let v = ending e 0 q (comes_within e (After s) q c.0) in
    let word = swap_word e 0 l.0 p l.1 (q ∷ v.0) l.2 (c.0.2, v.1) in
    (l.0 ++ p ∷ [], v.0, subst (Word e 0) (sym (append_assoc l.0 (p ∷ []) (q ∷ v.0))) word, turn_join (holding e) (l.0 ++ p ∷ []) ms q m l.3 c.1)

-- what can be the last comes next
last_comes : (e : Regex) (s : Positions) (ms : List Moment) (q : ℕ) (u v : List ℕ) → Tells e ms s → Word e 0 (u ++ q ∷ v) → InTurn (holding e) u ms → Comes e s q
last_comes e Start ms q u v t word turn =
    let z = turn_empty (holding e) u (subst (InTurn (holding e) u) t turn) in
    (to_path e 0 (q ∷ v) (subst (λ (x : List ℕ). Word e 0 (x ++ q ∷ v)) z word)).0
last_comes e (After s) ms q u v t word turn =
    elim (ends u) [
      | inl z ↦ absurd (t.0 (turn_none (holding e) ms (subst (λ (x : List ℕ). InTurn (holding e) x ms) z turn)))
      | inr (x, p, is) ↦
          let w = subst (Word e 0) (ap (λ l. l ++ q ∷ v) is ∙ append_assoc x (p ∷ []) (q ∷ v)) word in
          (p, (t.1 p).1 (x, q ∷ v, w, subst (λ (l : List ℕ). InTurn (holding e) l ms) is turn), (suffix e 0 x p (q ∷ v) w).0)
    ]

last_kept : (e : Regex) (s : Positions) (ms : List Moment) (m : Moment) (q : ℕ) → Tells e ms s → LastOf e (ms ++ m ∷ []) q → Has (kept e s m) q
last_kept e s ms m q t (u, v, word, turn) =
    let r = turn_split (holding e) u ms q m turn in
    kept_from e s m q (last_comes e s ms q u v t word r.0) r.1

not_empty : (ms : List Moment) (m : Moment) → ms ++ m ∷ [] ≡ [] → ⊥
not_empty [] m h = let z : ◌≡◌ {A = ℕ} 0 1 = cc in omega arith
not_empty (x ∷ ms) m h = let z : ◌≡◌ {A = ℕ} 0 1 = cc in omega arith

-- one more moment
told_more : (e : Regex) (s t : Positions) (ms : List Moment) (m : Moment) → Tells e ms s → step e s m ≡ Some t → Tells e (ms ++ m ∷ []) t
told_more e s t ms m h k =
    let g = state_some (kept e s m) t k in
    subst (Tells e (ms ++ m ∷ [])) (sym g.0) (not_empty ms m, λ q. (kept_last e s ms m q h, last_kept e s ms m q h))

told_from : (e : Regex) (ns : List Moment) (s t : Positions) (ms : List Moment) → Tells e ms s → Steps e s ns t → Tells e (ms ++ ns) t
told_from e [] s t ms h k = subst (λ (x : List Moment). Tells e x t) (sym (append-nil ms)) (subst (Tells e ms) k h)
told_from e (m ∷ ns) s t ms h k = subst (λ (x : List Moment). Tells e x t) (append_assoc ms (m ∷ []) ns) (told_from e ns k.0 t (ms ++ m ∷ []) (told_more e s k.0 ms m h k.1) k.2)

some_or_none : (o : Option Positions) → (o ≡ None) ⊎ ((t : Positions) × (o ≡ Some t))
some_or_none None = inl refl
some_or_none (Some t) = inr (t, refl)

goes_through : (e : Regex) (ms : List Moment) (s : Positions) → allows e s ms → (t : Positions) × Steps e s ms t
goes_through e [] s a = (s, refl)
goes_through e (m ∷ ms) s a =
    elim (some_or_none (step e s m)) [
      | inl h ↦ absurd (stops e s m h ms a)
      | inr h ↦
          let r = goes_through e ms h.0 ((goes e s h.0 m h.1 ms).1 a) in
          (r.0, (h.0, h.1, r.1))
    ]

came_through : (e : Regex) (ms : List Moment) (s t : Positions) → Steps e s ms t → allows e s ms
came_through e [] s t k = nothing e s
came_through e (m ∷ ms) s t k = (goes e s k.0 m k.1 ms).0 (came_through e ms k.0 t k.2)

pub follows_words : (e : Regex) → FollowsWords e
follows_words e = record {
  permitted = λ ms. (goes_through e ms Start, came_through e ms Start);
  told = λ ms t k. told_from e ms Start t [] refl k;
}
