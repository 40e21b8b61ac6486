-- Codes are met level by level: by the number of steps of a shortest run. Assumes nothing.
use Rattle.std.proofs.Common.{◌≡◌, ℕ, zero, suc, ◌+◌, ◌<◌, ◌≤◌, ◌⊎◌, List, [], ◌∷◌, ◌++◌, length, Some, None, Option, sym, refl, ap, ◌∙◌, subst, inl, inr, ⊎_elim, arith}
use Rattle.std.proofs.lemmas.List.{length_push}
use Rattle.std.proofs.lemmas.Bool.{cases_lt}
use Rattle.model.specs.Cells.{CellMeaning, In, at}
use Rattle.model.specs.Entries.{Entry}
use Rattle.model.specs.Runs.{Path, last}
use Rattle.levels.specs.Law.{Distinct}
use Rattle.levels.proofs.Lists.{some_injective, some_none, at_below, below_at}
use Rattle.store.specs.Entries.{keys}
use Rattle.store.proofs.Walks.{place_in}
use Rattle.survey.specs.Order.{Met, visit, walked}
use Rattle.survey.specs.Reach.{RunTo, Levelled}
use Rattle.survey.proofs.Meeting.{at_keys, begins_long, begins_at, gather_at, path_push}
use Rattle.survey.proofs.Walking.{walked_step, walked_begins, walked_still, walked_sound, starts_met, nexts_met, key_at}

-- the same thing at two places of different things
one_place : (xs : List ℕ) (p q x : ℕ) → Distinct xs → at xs p ≡ Some x → at xs q ≡ Some x → p ≡ q
one_place [] p q x d h k = absurd (some_none (sym h))
one_place (y ∷ ys) zero zero x d h k = refl
one_place (y ∷ ys) zero (suc q) x d h k = absurd (d.0 (subst (λ z. In z ys) (sym (some_injective h)) (place_in x ys q k)))
one_place (y ∷ ys) (suc p) zero x d h k = absurd (d.0 (subst (λ z. In z ys) (sym (some_injective k)) (place_in x ys p h)))
one_place (y ∷ ys) (suc p) (suc q) x d h k = ap suc (one_place ys p q x d.1 h k)

-- the entry of a key at a place
entry_at : (es : Met) (p x : ℕ) → at (keys es) p ≡ Some x → (e : Entry ℕ) × (at es p ≡ Some e) × (e.key ≡ x)
entry_at [] p x h = absurd (some_none (sym h))
entry_at (e ∷ es) zero x h = (e, refl, some_injective h)
entry_at (e ∷ es) (suc p) x h = entry_at es p x h

module _ (c : CellMeaning) where
  -- code x is reached in j steps
  abbrev After : ℕ → ℕ → Type 0
  After zero x = In x c.starts
  After (suc j) x = (z : ℕ) × After j z × In x (c.nexts z)

  along : (j z : ℕ) (zs : List ℕ) → After j z → Path c z zs → After (length zs + j) (last z zs)
  along j z [] a p = subst (λ k. After k z) (let e : j ≡ 0 + j = omega arith in e) a
  along j z (y ∷ ys) a p = subst (λ k. After k (last y ys)) (let e : length ys + suc j ≡ suc (length ys) + j = omega arith in e) (along (suc j) y ys (z, a, p.0) p.1)

  -- a run has one state more than steps
  steps_of : (ys : List ℕ) (y : ℕ) → RunTo c ys y → (j : ℕ) × After j y × (length ys ≡ suc j)
  steps_of [] y r = absurd r
  steps_of (z ∷ zs) y r =
      (length zs, subst (After (length zs)) r.1 (subst (λ k. After k (last z zs)) (let e : length zs + 0 ≡ length zs = omega arith in e) (along 0 z zs r.0.0 r.0.1)), refl)

  last_push : (x y : ℕ) (zs : List ℕ) → last x (zs ++ (y ∷ [])) ≡ y
  last_push x y [] = refl
  last_push x y (z ∷ zs) = last_push z y zs

  run_push : (xs : List ℕ) (x y : ℕ) → RunTo c xs x → In y (c.nexts x) → (zs : List ℕ) × RunTo c zs y × (length zs ≡ suc (length xs))
  run_push [] x y r h = absurd r
  run_push (w ∷ ws) x y r h = (
    w ∷ (ws ++ (y ∷ [])),
    ((r.0.0, path_push c w y ws r.0.1 (subst (λ z. In y (c.nexts z)) (sym r.1) h)), last_push w y ws),
    let l = length_push ws y in omega arith,
  )

  run_of : (j x : ℕ) → After j x → (xs : List ℕ) × RunTo c xs x × (length xs ≡ suc j)
  run_of zero x a = (x ∷ [], ((a, tt), refl), refl)
  run_of (suc j) x a =
      let r = run_of j a.0 a.1 in
      let s = run_push r.0 a.0 x r.1 a.2 in
      (s.0, s.1, s.2 ∙ ap suc r.2)

  -- where a code at a place came from: it is a start, or one of the next codes of the code at place f, and its place
  -- lies beyond the codes that were met before that one was gone through
  Born : ℕ → ℕ → Entry ℕ → Type 0
  Born i q e =
      (In e.key c.starts × (q < length (walked c zero)))
      ⊎ ((f : ℕ) × (f < i) × (length (walked c f) ≤ q) × (w : Entry ℕ) × (at (walked c i) f ≡ Some w) × In e.key (c.nexts w.key))

  born_visit : (i q : ℕ) (e : Entry ℕ) (o : Option (Entry ℕ)) → at (walked c i) i ≡ o → at (visit c i (walked c i) o) q ≡ Some e
      → (at (walked c i) q ≡ Some e) ⊎ ((length (walked c i) ≤ q) × (w : Entry ℕ) × (at (walked c i) i ≡ Some w) × In e.key (c.nexts w.key))
  born_visit i q e None k h = inl h
  born_visit i q e (Some w) k h = ⊎_elim inl (λ n. inr (n.0, w, k, n.1)) (gather_at (λ _. i) (c.nexts w.key) (walked c i) q e h)

  born_on : (i q : ℕ) (e : Entry ℕ) → Born i q e → Born (suc i) q e
  unfolding Born
  born_on i q e (inl b) = inl b
  born_on i q e (inr b) = let l = b.1 in inr (b.0, omega arith, b.2, b.3, begins_at (walked c i) (walked c (suc i)) b.0 b.3 (walked_step c i) b.4, b.5)

  born : (i q : ℕ) (e : Entry ℕ) → at (walked c i) q ≡ Some e → Born i q e
  unfolding Born
  born zero q e h = ⊎_elim (λ o. absurd (some_none (sym o))) (λ n. inl (n.1, below_at (walked c zero) q e h)) (gather_at length c.starts [] q e h)
  born (suc i) q e h =
      ⊎_elim (λ o. born_on i q e (born i q e o))
      (λ n. inr (i, omega arith, n.0, n.1, begins_at (walked c i) (walked c (suc i)) i n.1 (walked_step c i) n.2, n.3))
      (born_visit i q e (at (walked c i) i) refl h)

  -- a place that is gone through was there when its turn came
  there : (i k : ℕ) → k < i → k < length (walked c i) → k < length (walked c k)
  there i k h l =
      elim (cases_lt k (length (walked c k))) [
        | inl a ↦ a
        | inr a ↦ let s = ap length (walked_still c k i (omega arith) a) in absurd (omega arith)
      ]

  -- place p comes before that of code z, if z has one
  abbrev Before : ℕ → ℕ → ℕ → Type 0
  Before i p z = (r : ℕ) (d : Entry ℕ) → at (walked c i) r ≡ Some d → d.key ≡ z → p ≤ r

  -- it cannot where z was met among fewer codes
  met_late : (i p z q : ℕ) → Before i p z → q ≤ i → length (walked c q) ≤ p → In z (keys (walked c q)) → ⊥
  met_late i p z q before h l m =
      let s = key_at (walked c q) z m in
      let b = below_at (walked c q) s.0 s.1 s.2 in
      let t = before s.0 s.1 (begins_at (walked c q) (walked c i) s.0 s.1 (walked_begins c q i h) s.2) (sym s.3) in
      omega arith

  -- the next codes of a code that is gone through are met in its turn
  met_next : (i r z : ℕ) (d : Entry ℕ) → r < i → at (walked c i) r ≡ Some d → In z (c.nexts d.key) → In z (keys (walked c (suc r)))
  met_next i r z d h k m =
      let low = there i r h (below_at (walked c i) r d k) in
      let l = begins_long (walked c r) (walked c (suc r)) (walked_step c r) in
      let b = at_below (walked c (suc r)) r (omega arith) in
      let same : b.0 ≡ d = some_injective (sym (begins_at (walked c (suc r)) (walked c i) r b.0 (walked_begins c (suc r) i (omega arith)) b.1) ∙ k) in
      nexts_met c (suc r) r d (omega arith) (b.1 ∙ ap Some same) z m

  before_next : (i f p v z : ℕ) → Before i p z → In z (c.nexts v) → f < i → length (walked c f) ≤ p → Before i f v
  before_next i f p v z before m h l r d k e =
      elim (cases_lt r f) [
        | inl low ↦
            let b = begins_long (walked c (suc r)) (walked c f) (walked_begins c (suc r) f (omega arith)) in
            absurd (met_late i p z (suc r) before (omega arith) (omega arith) (met_next i r z d (omega arith) k (subst (λ x. In z (c.nexts x)) (sym e) m)))
        | inr high ↦ high
      ]

  -- a code at such a place is reached in no more steps than z
  sooner : (i j z p : ℕ) (e : Entry ℕ) → After j z → at (walked c i) p ≡ Some e → Before i p z → (k : ℕ) × (k ≤ j) × After k e.key
  unfolding Born
  sooner i zero z p e a h before =
      ⊎_elim (λ b. (0, omega arith, b.0))
      (λ b. let l = begins_long (walked c zero) (walked c b.0) (walked_begins c zero b.0 (omega arith)) in let m = b.2 in
      absurd (met_late i p z zero before (omega arith) (omega arith) (starts_met c zero z a)))
      (born i p e h)
  sooner i (suc j) z p e a h before =
      ⊎_elim (λ b. (0, omega arith, b.0))
      (λ b. let r = sooner i j a.0 b.0 b.3 a.1 b.4 (before_next i b.0 p a.0 z before a.2 b.1 b.2) in
      let l = r.1 in
      (suc r.0, omega arith, (b.3.key, r.2, b.5)))
      (born i p e h)

  -- the codes met stand level by level
  pub walked_levelled : (i : ℕ) → Levelled c (walked c i)
  walked_levelled i p q x y l hx hy ys r =
      let s = steps_of ys y r in
      let e = entry_at (walked c i) p x hx in
      let k = sooner i s.0 y p e.0 s.1 e.1 (λ t d m n.
      let o = one_place (keys (walked c i)) t q y (walked_sound c i).apart (at_keys (walked c i) t d m ∙ ap Some n) hy in omega arith) in
      let w = run_of k.0 x (subst (After k.0) e.2 k.2) in
      let a = k.1 in let b = s.2 in let d = w.2 in
      (w.0, w.1, omega arith)
