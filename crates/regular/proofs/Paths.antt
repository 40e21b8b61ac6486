-- A word of an expression is a path of its position automaton, and each beginning of a path goes on to a word. Assumes nothing.
use Rattle.std.proofs.Common.{◌≡◌, ℕ, ◌+◌, ◌<◌, ◌≤◌, true, ◌⊎◌, List, [], ◌∷◌, ◌++◌, sym, refl, ap, ◌∙◌, subst, inl, inr, append_assoc, append-nil, arith}
use Rattle.std.proofs.lemmas.Bool.{and_parts, and_from, or_cases, or_left, or_right, cases_lt, false≢true}
use Rattle.regular.specs.Words.{Assertion, Regex, empty, one, sequence, alternative, star, plus, size, Word, Repeated, none, more}
use Rattle.regular.specs.Automaton.{nullable}

-- i is a place that a word can begin with
abbrev pub First : Regex → ℕ → ℕ → Type 0
First empty n i = ⊥
First (one a) n i = i ≡ n
First (sequence e f) n i = First e n i ⊎ ((nullable e ≡ true) × First f (n + size e) i)
First (alternative e f) n i = First e n i ⊎ First f (n + size e) i
First (star e) n i = First e n i
First (plus e) n i = First e n i

-- i is a place that a word can end with
abbrev pub Last : Regex → ℕ → ℕ → Type 0
Last empty n i = ⊥
Last (one a) n i = i ≡ n
Last (sequence e f) n i = ((nullable f ≡ true) × Last e n i) ⊎ Last f (n + size e) i
Last (alternative e f) n i = Last e n i ⊎ Last f (n + size e) i
Last (star e) n i = Last e n i
Last (plus e) n i = Last e n i

-- j can stand right behind i
abbrev pub Follow : Regex → ℕ → ℕ → ℕ → Type 0
Follow empty n i j = ⊥
Follow (one a) n i j = ⊥
Follow (sequence e f) n i j = Follow e n i j ⊎ (Follow f (n + size e) i j ⊎ (Last e n i × First f (n + size e) j))
Follow (alternative e f) n i j = Follow e n i j ⊎ Follow f (n + size e) i j
Follow (star e) n i j = Follow e n i j ⊎ (Last e n i × First e n j)
Follow (plus e) n i j = Follow e n i j ⊎ (Last e n i × First e n j)

-- the list leads on from i, each place behind the one before, and passes the end test
abbrev pub Path : (ℕ → ℕ → Type 0) → (ℕ → Type 0) → ℕ → List ℕ → Type 0
Path F L i [] = L i
Path F L i (j ∷ js) = F i j × Path F L j js

abbrev pub Leads : Regex → ℕ → ℕ → List ℕ → Type 0
Leads e n = Path (Follow e n) (Last e n)

-- a word, as the automaton has it
abbrev pub Starts : Regex → ℕ → List ℕ → Type 0
Starts e n [] = nullable e ≡ true
Starts e n (i ∷ w) = First e n i × Leads e n i w

-- the places of an expression
pub record Within (e : Regex) (n i : ℕ) : Type 0 where
  pub low : n ≤ i
  pub high : i < n + size e

left_within : (e f g : Regex) (n i : ℕ) → size g ≡ size e + size f → Within e n i → Within g n i
left_within e f g n i s w = record { low = w.low; high = omega arith }

right_within : (e f g : Regex) (n i : ℕ) → size g ≡ size e + size f → Within f (n + size e) i → Within g n i
right_within e f g n i s w = record { low = omega arith; high = omega arith }

one_within : (n i : ℕ) (e : Regex) → size e ≡ 1 → i ≡ n → Within e n i
one_within n i e s h = record { low = omega arith; high = omega arith }

same_within : (e g : Regex) (n i : ℕ) → size g ≡ size e → Within e n i → Within g n i
same_within e g n i s w = record { low = w.low; high = omega arith }

pub first_within : (e : Regex) (n i : ℕ) → First e n i → Within e n i
first_within empty n i h = absurd h
first_within (one a) n i h = one_within n i (one a) refl h
first_within (sequence e f) n i (inl h) = left_within e f (sequence e f) n i refl (first_within e n i h)
first_within (sequence e f) n i (inr h) = right_within e f (sequence e f) n i refl (first_within f (n + size e) i h.1)
first_within (alternative e f) n i (inl h) = left_within e f (alternative e f) n i refl (first_within e n i h)
first_within (alternative e f) n i (inr h) = right_within e f (alternative e f) n i refl (first_within f (n + size e) i h)
first_within (star e) n i h = same_within e (star e) n i refl (first_within e n i h)
first_within (plus e) n i h = same_within e (plus e) n i refl (first_within e n i h)

pub last_within : (e : Regex) (n i : ℕ) → Last e n i → Within e n i
last_within empty n i h = absurd h
last_within (one a) n i h = one_within n i (one a) refl h
last_within (sequence e f) n i (inl h) = left_within e f (sequence e f) n i refl (last_within e n i h.1)
last_within (sequence e f) n i (inr h) = right_within e f (sequence e f) n i refl (last_within f (n + size e) i h)
last_within (alternative e f) n i (inl h) = left_within e f (alternative e f) n i refl (last_within e n i h)
last_within (alternative e f) n i (inr h) = right_within e f (alternative e f) n i refl (last_within f (n + size e) i h)
last_within (star e) n i h = same_within e (star e) n i refl (last_within e n i h)
last_within (plus e) n i h = same_within e (plus e) n i refl (last_within e n i h)

abbrev Both : Regex → ℕ → ℕ → ℕ → Type 0
Both e n i j = Within e n i × Within e n j

left_both : (e f g : Regex) (n i j : ℕ) → size g ≡ size e + size f → Both e n i j → Both g n i j
left_both e f g n i j s b = (left_within e f g n i s b.0, left_within e f g n j s b.1)

right_both : (e f g : Regex) (n i j : ℕ) → size g ≡ size e + size f → Both f (n + size e) i j → Both g n i j
right_both e f g n i j s b = (right_within e f g n i s b.0, right_within e f g n j s b.1)

same_both : (e g : Regex) (n i j : ℕ) → size g ≡ size e → Both e n i j → Both g n i j
same_both e g n i j s b = (same_within e g n i s b.0, same_within e g n j s b.1)

pub follow_within : (e : Regex) (n i j : ℕ) → Follow e n i j → Within e n i × Within e n j
follow_within empty n i j h = absurd h
follow_within (one a) n i j h = absurd h
follow_within (sequence e f) n i j (inl h) = left_both e f (sequence e f) n i j refl (follow_within e n i j h)
follow_within (sequence e f) n i j (inr (inl h)) = right_both e f (sequence e f) n i j refl (follow_within f (n + size e) i j h)
follow_within (sequence e f) n i j (inr (inr h)) = (left_within e f (sequence e f) n i refl (last_within e n i h.0), right_within e f (sequence e f) n j refl (first_within f (n + size e) j h.1))
follow_within (alternative e f) n i j (inl h) = left_both e f (alternative e f) n i j refl (follow_within e n i j h)
follow_within (alternative e f) n i j (inr h) = right_both e f (alternative e f) n i j refl (follow_within f (n + size e) i j h)
follow_within (star e) n i j (inl h) = same_both e (star e) n i j refl (follow_within e n i j h)
follow_within (star e) n i j (inr h) = same_both e (star e) n i j refl (last_within e n i h.0, first_within e n j h.1)
follow_within (plus e) n i j (inl h) = same_both e (plus e) n i j refl (follow_within e n i j h)
follow_within (plus e) n i j (inr h) = same_both e (plus e) n i j refl (last_within e n i h.0, first_within e n j h.1)

-- a place of the one part is none of the other
apart : (e f : Regex) (n i : ℕ) → Within e n i → Within f (n + size e) i → ⊥
apart e f n i w v = omega arith

module _ (F G : ℕ → ℕ → Type 0) (L M : ℕ → Type 0) where
  pub path_map : ((i j : ℕ) → F i j → G i j) → ((i : ℕ) → L i → M i) → (i : ℕ) (w : List ℕ) → Path F L i w → Path G M i w
  path_map fg lm i [] p = lm i p
  path_map fg lm i (j ∷ w) p = (fg i j p.0, path_map fg lm j w p.1)

  pub path_join : ((i j : ℕ) → F i j → G i j) → (i : ℕ) (u : List ℕ) (j : ℕ) (v : List ℕ) → ((k : ℕ) → L k → G k j) → Path F L i u → Path G M j v → Path G M i (u ++ j ∷ v)
  path_join fg i [] j v g p q = (g i p, q)
  path_join fg i (k ∷ u) j v g p q = (fg i k p.0, path_join fg k u j v g p.1 q)

  -- the whole path, where what comes behind is nothing
  path_end : ((i j : ℕ) → F i j → G i j) → ((i : ℕ) → L i → M i) → (i : ℕ) (w : List ℕ) → Path F L i w → Path G M i (w ++ [])
  path_end fg lm i w p = subst (Path G M i) (sym (append-nil w)) (path_map fg lm i w p)

module _ (F : ℕ → ℕ → Type 0) (L : ℕ → Type 0) where
  pub path_suffix : (i : ℕ) (u : List ℕ) (q : ℕ) (v : List ℕ) → Path F L i (u ++ q ∷ v) → Path F L q v
  path_suffix i [] q v p = p.1
  path_suffix i (k ∷ u) q v p = path_suffix k u q v p.1

-- what leads on in the first part leads on in a sequence, with a word of the second part behind it
seq_path : (e f : Regex) (n i : ℕ) (u v : List ℕ) → Leads e n i u → Starts f (n + size e) v → Leads (sequence e f) n i (u ++ v)
seq_path e f n i u [] p s = path_end (Follow e n) (Follow (sequence e f) n) (Last e n) (Last (sequence e f) n) (λ _ _ x. inl x) (λ _ l. inl (s, l)) i u p
seq_path e f n i u (j ∷ v) p s = path_join (Follow e n) (Follow (sequence e f) n) (Last e n) (Last (sequence e f) n) (λ _ _ x. inl x) i u j v (λ k l. inr (inr (l, s.0))) p (path_map (Follow f (n + size e)) (Follow (sequence e f) n) (Last f (n + size e)) (Last (sequence e f) n) (λ _ _ x. inr (inl x)) (λ _ l. inr l) j v s.1)

join_sequence : (e f : Regex) (n : ℕ) (u v : List ℕ) → Starts e n u → Starts f (n + size e) v → Starts (sequence e f) n (u ++ v)
join_sequence e f n [] [] p s = and_from (nullable e) (nullable f) p s
join_sequence e f n [] (j ∷ v) p s = (inr (p, s.0), path_map (Follow f (n + size e)) (Follow (sequence e f) n) (Last f (n + size e)) (Last (sequence e f) n) (λ _ _ x. inr (inl x)) (λ _ l. inr l) j v s.1)
join_sequence e f n (i ∷ u) v p s = (inl p.0, seq_path e f n i u v p.1 s)

star_path : (e : Regex) (n i : ℕ) (u v : List ℕ) → Leads e n i u → Starts (star e) n v → Leads (star e) n i (u ++ v)
star_path e n i u [] p s = path_end (Follow e n) (Follow (star e) n) (Last e n) (Last e n) (λ _ _ x. inl x) (λ _ l. l) i u p
star_path e n i u (j ∷ v) p s = path_join (Follow e n) (Follow (star e) n) (Last e n) (Last e n) (λ _ _ x. inl x) i u j v (λ k l. inr (l, s.0)) p s.1

join_star : (e : Regex) (n : ℕ) (u v : List ℕ) → Starts e n u → Starts (star e) n v → Starts (star e) n (u ++ v)
join_star e n [] v p s = s
join_star e n (i ∷ u) v p s = (p.0, star_path e n i u v p.1 s)

join_plus : (e : Regex) (n : ℕ) (u v : List ℕ) → Starts e n u → Starts (star e) n v → Starts (plus e) n (u ++ v)
join_plus e n [] [] p s = p
join_plus e n [] (j ∷ v) p s = s
join_plus e n (i ∷ u) v p s = (p.0, star_path e n i u v p.1 s)

join_alternative : (e f : Regex) (n : ℕ) (w : List ℕ) → Starts e n w ⊎ Starts f (n + size e) w → Starts (alternative e f) n w
join_alternative e f n [] (inl s) = or_left (nullable e) (nullable f) s
join_alternative e f n [] (inr s) = or_right (nullable e) (nullable f) s
join_alternative e f n (i ∷ w) (inl s) = (inl s.0, path_map (Follow e n) (Follow (alternative e f) n) (Last e n) (Last (alternative e f) n) (λ _ _ x. inl x) (λ _ l. inl l) i w s.1)
join_alternative e f n (i ∷ w) (inr s) = (inr s.0, path_map (Follow f (n + size e)) (Follow (alternative e f) n) (Last f (n + size e)) (Last (alternative e f) n) (λ _ _ x. inr x) (λ _ l. inr l) i w s.1)

repeated_starts : (e : Regex) (n : ℕ) → ((w : List ℕ) → Word e n w → Starts e n w) → (w : List ℕ) → Repeated (Word e n) w → Starts (star e) n w
repeated_starts e n t w (none w' is) = subst (Starts (star e) n) (sym is) refl
repeated_starts e n t w (more w' u v is p r) = subst (Starts (star e) n) (sym is) (join_star e n u v (t u p) (repeated_starts e n t v r))

-- each word is one of the automaton's
pub to_path : (e : Regex) (n : ℕ) (w : List ℕ) → Word e n w → Starts e n w
to_path empty n w h = subst (Starts empty n) (sym h) refl
to_path (one a) n w h = subst (Starts (one a) n) (sym h) (refl, refl)
to_path (sequence e f) n w h = subst (Starts (sequence e f) n) (sym h.2) (join_sequence e f n h.0 h.1 (to_path e n h.0 h.3) (to_path f (n + size e) h.1 h.4))
to_path (alternative e f) n w (inl h) = join_alternative e f n w (inl (to_path e n w h))
to_path (alternative e f) n w (inr h) = join_alternative e f n w (inr (to_path f (n + size e) w h))
to_path (star e) n w h = repeated_starts e n (to_path e n) w h
to_path (plus e) n w h = subst (Starts (plus e) n) (sym h.2) (join_plus e n h.0 h.1 (to_path e n h.0 h.3) (repeated_starts e n (to_path e n) h.1 h.4))

-- the empty list is a word where the automaton says so
pub nullable_word : (e : Regex) (n : ℕ) → nullable e ≡ true → Word e n []
nullable_word empty n h = refl
nullable_word (one a) n h = absurd (false≢true h)
nullable_word (sequence e f) n h =
    let p = and_parts (nullable e) (nullable f) h in
    ([], [], refl, nullable_word e n p.0, nullable_word f (n + size e) p.1)
nullable_word (alternative e f) n h = elim (or_cases (nullable e) (nullable f) h) [ inl x ↦ inl (nullable_word e n x) | inr x ↦ inr (nullable_word f (n + size e) x) ]
nullable_word (star e) n h = none [] refl
nullable_word (plus e) n h = ([], [], refl, nullable_word e n h, none [] refl)

-- in the second part of a sequence a path stays there
seq_right : (e f : Regex) (n q : ℕ) (v : List ℕ) → Within f (n + size e) q → Leads (sequence e f) n q v → Leads f (n + size e) q v
seq_right e f n q [] w p = elim p [ inl l ↦ absurd (apart e f n q (last_within e n q l.1) w) | inr l ↦ l ]
seq_right e f n q (j ∷ v) w p =
    elim p.0 [
      | inl x ↦ absurd (apart e f n q (follow_within e n q j x).0 w)
      | inr y ↦ elim y [
        | inl x ↦ (x, seq_right e f n j v (follow_within f (n + size e) q j x).1 p.1)
        | inr x ↦ absurd (apart e f n q (last_within e n q x.0) w)
      ]
    ]

-- what a path in the first part of a sequence comes to: the end of that part, and then a word of the second
abbrev pub Cut : Regex → Regex → ℕ → ℕ → List ℕ → Type 0
Cut e f n q v = (v1 : List ℕ) × (v2 : List ℕ) × (v ≡ v1 ++ v2) × Leads e n q v1 × Starts f (n + size e) v2

seq_left : (e f : Regex) (n q : ℕ) (v : List ℕ) → Within e n q → Leads (sequence e f) n q v → Cut e f n q v
seq_left e f n q [] w p = elim p [ inl l ↦ ([], [], refl, l.1, l.0) | inr l ↦ absurd (apart e f n q w (last_within f (n + size e) q l)) ]
seq_left e f n q (j ∷ v) w p =
    elim p.0 [
      | inl x ↦
          let c = seq_left e f n j v (follow_within e n q j x).1 p.1 in
          (j ∷ c.0, c.1, ap (λ l. j ∷ l) c.2, (x, c.3), c.4)
      | inr y ↦ elim y [
        | inl x ↦ absurd (apart e f n q w (follow_within f (n + size e) q j x).0)
        | inr x ↦ ([], j ∷ v, refl, x.0, (x.1, seq_right e f n j v (first_within f (n + size e) j x.1) p.1))
      ]
    ]

alt_left : (e f : Regex) (n q : ℕ) (v : List ℕ) → Within e n q → Leads (alternative e f) n q v → Leads e n q v
alt_left e f n q [] w p = elim p [ inl l ↦ l | inr l ↦ absurd (apart e f n q w (last_within f (n + size e) q l)) ]
alt_left e f n q (j ∷ v) w p =
    elim p.0 [
      | inl x ↦ (x, alt_left e f n j v (follow_within e n q j x).1 p.1)
      | inr x ↦ absurd (apart e f n q w (follow_within f (n + size e) q j x).0)
    ]

alt_right : (e f : Regex) (n q : ℕ) (v : List ℕ) → Within f (n + size e) q → Leads (alternative e f) n q v → Leads f (n + size e) q v
alt_right e f n q [] w p = elim p [ inl l ↦ absurd (apart e f n q (last_within e n q l) w) | inr l ↦ l ]
alt_right e f n q (j ∷ v) w p =
    elim p.0 [
      | inl x ↦ absurd (apart e f n q (follow_within e n q j x).0 w)
      | inr x ↦ (x, alt_right e f n j v (follow_within f (n + size e) q j x).1 p.1)
    ]

-- what a path in a repetition comes to: the end of one turn, and then more turns
abbrev pub Turns : Regex → ℕ → ℕ → List ℕ → Type 0
Turns e n q v = (v1 : List ℕ) × (v2 : List ℕ) × (v ≡ v1 ++ v2) × Leads e n q v1 × Repeated (Starts e n) v2

star_turns : (e : Regex) (n q : ℕ) (v : List ℕ) → Leads (star e) n q v → Turns e n q v
star_turns e n q [] p = ([], [], refl, p, none [] refl)
star_turns e n q (j ∷ v) p =
    let c = star_turns e n j v p.1 in
    elim p.0 [
      | inl x ↦ (j ∷ c.0, c.1, ap (λ l. j ∷ l) c.2, (x, c.3), c.4)
      | inr x ↦ ([], j ∷ v, refl, x.0, more (j ∷ v) (j ∷ c.0) c.1 (ap (λ l. j ∷ l) c.2) (x.1, c.3) c.4)
    ]

repeated_map : (A B : List ℕ → Type 0) → ((w : List ℕ) → A w → B w) → (w : List ℕ) → Repeated A w → Repeated B w
repeated_map A B f w (none w' is) = none w is
repeated_map A B f w (more w' u v is p r) = more w u v is (f u p) (repeated_map A B f v r)

-- each of the automaton's words is a word
pub from_path : (e : Regex) (n : ℕ) (w : List ℕ) → Starts e n w → Word e n w
from_path e n [] s = nullable_word e n s
from_path empty n (i ∷ w) s = absurd s.0
from_path (one a) n (i ∷ []) s = ap (λ k. k ∷ []) s.0
from_path (one a) n (i ∷ j ∷ w) s = absurd s.1.0
from_path (sequence e f) n (i ∷ w) s =
    elim s.0 [
      | inl x ↦
          let c = seq_left e f n i w (first_within e n i x) s.1 in
          (i ∷ c.0, c.1, ap (λ l. i ∷ l) c.2, from_path e n (i ∷ c.0) (x, c.3), from_path f (n + size e) c.1 c.4)
      | inr x ↦ ([], i ∷ w, refl, nullable_word e n x.0, from_path f (n + size e) (i ∷ w) (x.1, seq_right e f n i w (first_within f (n + size e) i x.1) s.1))
    ]
from_path (alternative e f) n (i ∷ w) s =
    elim s.0 [
      | inl x ↦ inl (from_path e n (i ∷ w) (x, alt_left e f n i w (first_within e n i x) s.1))
      | inr x ↦ inr (from_path f (n + size e) (i ∷ w) (x, alt_right e f n i w (first_within f (n + size e) i x) s.1))
    ]
from_path (star e) n (i ∷ w) s =
    let c = star_turns e n i w s.1 in
    more (i ∷ w) (i ∷ c.0) c.1 (ap (λ l. i ∷ l) c.2) (from_path e n (i ∷ c.0) (s.0, c.3)) (repeated_map (Starts e n) (Word e n) (from_path e n) c.1 c.4)
from_path (plus e) n (i ∷ w) s =
    let c = star_turns e n i w s.1 in
    (i ∷ c.0, c.1, ap (λ l. i ∷ l) c.2, from_path e n (i ∷ c.0) (s.0, c.3), repeated_map (Starts e n) (Word e n) (from_path e n) c.1 c.4)

-- every expression has a word
pub some_word : (e : Regex) (n : ℕ) → (w : List ℕ) × Word e n w
some_word empty n = ([], refl)
some_word (one a) n = (n ∷ [], refl)
some_word (sequence e f) n =
    let x = some_word e n in
    let y = some_word f (n + size e) in
    (x.0 ++ y.0, (x.0, y.0, refl, x.1, y.1))
some_word (alternative e f) n = let x = some_word e n in (x.0, inl x.1)
some_word (star e) n = ([], none [] refl)
some_word (plus e) n = let x = some_word e n in (x.0 ++ [], (x.0, [], refl, x.1, none [] refl))

in_left : (e f g : Regex) (n q : ℕ) → size g ≡ size e + size f → Within g n q → q < n + size e → Within e n q
in_left e f g n q s w h = record { low = w.low; high = h }

in_right : (e f g : Regex) (n q : ℕ) → size g ≡ size e + size f → Within g n q → n + size e ≤ q → Within f (n + size e) q
in_right e f g n q s w h = record { low = h; high = omega arith }

-- from each place an end can be reached
pub ending : (e : Regex) (n q : ℕ) → Within e n q → (v : List ℕ) × Leads e n q v
ending empty n q w = absurd (omega arith)
ending (one a) n q w = ([], omega arith)
ending (sequence e f) n q w =
    elim (cases_lt q (n + size e)) [
      | inl h ↦
          let x = ending e n q (in_left e f (sequence e f) n q refl w h) in
          let y = some_word f (n + size e) in
          (x.0 ++ y.0, seq_path e f n q x.0 y.0 x.1 (to_path f (n + size e) y.0 y.1))
      | inr h ↦
          let x = ending f (n + size e) q (in_right e f (sequence e f) n q refl w h) in
          (x.0, path_map (Follow f (n + size e)) (Follow (sequence e f) n) (Last f (n + size e)) (Last (sequence e f) n) (λ _ _ y. inr (inl y)) (λ _ l. inr l) q x.0 x.1)
    ]
ending (alternative e f) n q w =
    elim (cases_lt q (n + size e)) [
      | inl h ↦
          let x = ending e n q (in_left e f (alternative e f) n q refl w h) in
          (x.0, path_map (Follow e n) (Follow (alternative e f) n) (Last e n) (Last (alternative e f) n) (λ _ _ y. inl y) (λ _ l. inl l) q x.0 x.1)
      | inr h ↦
          let x = ending f (n + size e) q (in_right e f (alternative e f) n q refl w h) in
          (x.0, path_map (Follow f (n + size e)) (Follow (alternative e f) n) (Last f (n + size e)) (Last (alternative e f) n) (λ _ _ y. inr y) (λ _ l. inr l) q x.0 x.1)
    ]
ending (star e) n q w =
    let x = ending e n q (same_within (star e) e n q refl w) in
    (x.0, path_map (Follow e n) (Follow (star e) n) (Last e n) (Last e n) (λ _ _ y. inl y) (λ _ l. l) q x.0 x.1)
ending (plus e) n q w =
    let x = ending e n q (same_within (plus e) e n q refl w) in
    (x.0, path_map (Follow e n) (Follow (plus e) n) (Last e n) (Last e n) (λ _ _ y. inl y) (λ _ l. l) q x.0 x.1)

regroup : (u : List ℕ) (q : ℕ) (v v1 v2 : List ℕ) → v ≡ v1 ++ v2 → u ++ q ∷ v ≡ (u ++ q ∷ v1) ++ v2
regroup u q v v1 v2 is = ap (λ l. u ++ q ∷ l) is ∙ sym (append_assoc u (q ∷ v1) v2)

one_through : (a : Assertion) (n q : ℕ) → q ≡ n → (v : List ℕ) → Leads (one a) n q v → Word (one a) n (q ∷ v)
one_through a n q h [] p = ap (λ k. k ∷ []) h
one_through a n q h (j ∷ v) p = absurd p.0

-- each place can be reached: some beginning makes a word of every path from there
pub through : (e : Regex) (n q : ℕ) → Within e n q → (u : List ℕ) × ((v : List ℕ) → Leads e n q v → Word e n (u ++ q ∷ v))
through empty n q w = absurd (omega arith)
through (one a) n q w = ([], one_through a n q (omega arith))
through (sequence e f) n q w =
    elim (cases_lt q (n + size e)) [
      | inl h ↦
          let k = in_left e f (sequence e f) n q refl w h in
          let x = through e n q k in
          (x.0, λ v p. let c = seq_left e f n q v k p in (x.0 ++ q ∷ c.0, c.1, regroup x.0 q v c.0 c.1 c.2, x.1 c.0 c.3, from_path f (n + size e) c.1 c.4))
      | inr h ↦
          let k = in_right e f (sequence e f) n q refl w h in
          let x = through f (n + size e) q k in
          let y = some_word e n in
          (y.0 ++ x.0, λ v p. (y.0, x.0 ++ q ∷ v, append_assoc y.0 x.0 (q ∷ v), y.1, x.1 v (seq_right e f n q v k p)))
    ]
through (alternative e f) n q w =
    elim (cases_lt q (n + size e)) [
      | inl h ↦
          let k = in_left e f (alternative e f) n q refl w h in
          let x = through e n q k in
          (x.0, λ v p. inl (x.1 v (alt_left e f n q v k p)))
      | inr h ↦
          let k = in_right e f (alternative e f) n q refl w h in
          let x = through f (n + size e) q k in
          (x.0, λ v p. inr (x.1 v (alt_right e f n q v k p)))
    ]
through (star e) n q w =
    let x = through e n q (same_within (star e) e n q refl w) in
    (x.0, λ v p. let c = star_turns e n q v p in more (x.0 ++ q ∷ v) (x.0 ++ q ∷ c.0) c.1 (regroup x.0 q v c.0 c.1 c.2) (x.1 c.0 c.3) (repeated_map (Starts e n) (Word e n) (from_path e n) c.1 c.4))
through (plus e) n q w =
    let x = through e n q (same_within (plus e) e n q refl w) in
    (x.0, λ v p. let c = star_turns e n q v p in (x.0 ++ q ∷ c.0, c.1, regroup x.0 q v c.0 c.1 c.2, x.1 c.0 c.3, repeated_map (Starts e n) (Word e n) (from_path e n) c.1 c.4))

-- what stands behind a place of a word leads on from there
pub suffix : (e : Regex) (n : ℕ) (u : List ℕ) (q : ℕ) (v : List ℕ) → Word e n (u ++ q ∷ v) → Leads e n q v
suffix e n [] q v h = (to_path e n (q ∷ v) h).1
suffix e n (i ∷ u) q v h = path_suffix (Follow e n) (Last e n) i u q v (to_path e n (i ∷ (u ++ q ∷ v)) h).1
