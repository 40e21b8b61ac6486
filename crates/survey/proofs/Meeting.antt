-- Meeting codes one after the other: what stays, and what is added. Assumes nothing.
use Rattle.std.proofs.Common.{◌≡◌, ℕ, zero, suc, ◌≤◌, true, false, ◌⊎◌, List, [], ◌∷◌, ◌++◌, length, take, Some, sym, refl, ap, ◌∙◌, subst, inl, inr, ⊎_elim, arith}
use Rattle.std.proofs.lemmas.List.{append-nil, append_assoc, length-append, map-append, take-append-le}
use Rattle.std.proofs.lemmas.Bool.{cases_Bool, cond-true, cond-false, both_ways}
use Rattle.model.specs.Cells.{CellMeaning, In, at}
use Rattle.model.specs.Entries.{Entry}
use Rattle.model.specs.Keys.{code_key}
use Rattle.model.specs.Runs.{Run, Path, last}
use Rattle.levels.specs.Law.{Distinct}
use Rattle.levels.proofs.Lists.{some_injective, some_none, push, in_push, in_push_new, distinct_push, at_push, at_push_old}
use Rattle.store.specs.Entries.{keys, known}
use Rattle.store.proofs.Laws.{known_in, in_known}
use Rattle.survey.specs.Order.{Met, meet, gather}
use Rattle.survey.specs.Reach.{Reachable, Origin, Sound}

known_not : (es : Met) (x : ℕ) → known code_key es x ≡ false → In x (keys es) → ⊥
known_not es x t h = both_ways (known code_key es x) t (in_known code_key es x h)

pub meet_known : (es : Met) (x f : ℕ) → known code_key es x ≡ true → meet es x f ≡ es
meet_known es x f t = cond-true (known code_key es x) _ _ t

pub meet_new : (es : Met) (x f : ℕ) → known code_key es x ≡ false → meet es x f ≡ push es (record { key = x; from = f })
meet_new es x f t = cond-false (known code_key es x) _ _ t

keys_push : (es : Met) (e : Entry ℕ) → keys (push es e) ≡ push (keys es) e.key
keys_push es e = map-append (λ d. d.key) es (e ∷ [])

pub at_keys : (es : Met) (p : ℕ) (e : Entry ℕ) → at es p ≡ Some e → at (keys es) p ≡ Some e.key
at_keys [] p e h = absurd (some_none (sym h))
at_keys (d ∷ ds) zero e h = ap (λ (r : Entry ℕ). Some r.key) (some_injective h)
at_keys (d ∷ ds) (suc p) e h = at_keys ds p e h

-- the second begins with the first
abbrev pub Begins : Met → Met → Type 0
Begins es fs = (zs : Met) × (fs ≡ es ++ zs)

pub begins_itself : (es : Met) → Begins es es
begins_itself es = ([], sym (append-nil es))

pub begins_trans : (es fs gs : Met) → Begins es fs → Begins fs gs → Begins es gs
begins_trans es fs gs p q = (p.0 ++ q.0, q.1 ∙ ap (λ l. l ++ q.0) p.1 ∙ append_assoc es p.0 q.0)

pub begins_long : (es fs : Met) → Begins es fs → length es ≤ length fs
begins_long es fs p = let a = ap length p.1 in let b = length-append es p.0 in omega arith

pub begins_take : (n : ℕ) (es fs : Met) → Begins es fs → n ≤ length es → take n fs ≡ take n es
begins_take n es fs p h = ap (take n) p.1 ∙ take-append-le n es p.0 h

at_append : {A : Type 0} (xs ys : List A) (p : ℕ) (x : A) → at xs p ≡ Some x → at (xs ++ ys) p ≡ Some x
at_append [] ys p x e = absurd (some_none (sym e))
at_append (z ∷ zs) ys zero x e = e
at_append (z ∷ zs) ys (suc p) x e = at_append zs ys p x e

pub begins_at : (es fs : Met) (p : ℕ) (e : Entry ℕ) → Begins es fs → at es p ≡ Some e → at fs p ≡ Some e
begins_at es fs p e b h = ap (λ l. at l p) b.1 ∙ at_append es b.0 p e h

in_append : {A : Type 0} (x : A) (xs ys : List A) → In x xs → In x (xs ++ ys)
in_append x [] ys h = absurd h
in_append x (z ∷ zs) ys (inl e) = inl e
in_append x (z ∷ zs) ys (inr h) = inr (in_append x zs ys h)

pub begins_in : (x : ℕ) (es fs : Met) → Begins es fs → In x (keys es) → In x (keys fs)
begins_in x es fs b h = subst (λ l. In x l) (sym (ap keys b.1 ∙ map-append (λ d. d.key) es b.0)) (in_append x (keys es) (keys b.0) h)

pub meet_begins : (es : Met) (x f : ℕ) → Begins es (meet es x f)
meet_begins es x f =
    elim (cases_Bool (known code_key es x)) [
      | inl t ↦ ([], meet_known es x f t ∙ sym (append-nil es))
      | inr t ↦ (record { key = x; from = f } ∷ [], meet_new es x f t)
    ]

pub meet_in : (es : Met) (x f : ℕ) → In x (keys (meet es x f))
meet_in es x f =
    elim (cases_Bool (known code_key es x)) [
      | inl t ↦ subst (λ l. In x (keys l)) (sym (meet_known es x f t)) (known_in code_key es x t)
      | inr t ↦ subst (λ l. In x (keys l)) (sym (meet_new es x f t)) (subst (λ l. In x l) (sym (keys_push es (record { key = x; from = f }))) (in_push_new x (keys es)))
    ]

pub gather_begins : (g : Met → ℕ) (ys : List ℕ) (es : Met) → Begins es (gather g ys es)
gather_begins g [] es = begins_itself es
gather_begins g (y ∷ ys) es = begins_trans es (meet es y (g es)) (gather g ys (meet es y (g es))) (meet_begins es y (g es)) (gather_begins g ys (meet es y (g es)))

pub gather_in : (g : Met → ℕ) (ys : List ℕ) (es : Met) (y : ℕ) → In y ys → In y (keys (gather g ys es))
gather_in g [] es y h = absurd h
gather_in g (z ∷ ys) es y (inl e) =
    subst (λ x. In x (keys (gather g (z ∷ ys) es))) (sym e) (begins_in z (meet es z (g es)) (gather g (z ∷ ys) es) (gather_begins g ys (meet es z (g es))) (meet_in es z (g es)))
gather_in g (z ∷ ys) es y (inr h) = gather_in g ys (meet es z (g es)) y h

meet_at : (es : Met) (x f q : ℕ) (e : Entry ℕ) → at (meet es x f) q ≡ Some e → (at es q ≡ Some e) ⊎ ((length es ≤ q) × (e.key ≡ x))
meet_at es x f q e h =
    elim (cases_Bool (known code_key es x)) [
      | inl t ↦ inl (ap (λ l. at l q) (sym (meet_known es x f t)) ∙ h)
      | inr t ↦
          ⊎_elim inl (λ o. let i = o.0 in inr (omega arith, ap (λ (d : Entry ℕ). d.key) o.1))
          (at_push es (record { key = x; from = f }) q e (ap (λ l. at l q) (sym (meet_new es x f t)) ∙ h))
    ]

-- what stands at a place stood there before, or is one of the codes gone through
pub gather_at : (g : Met → ℕ) (ys : List ℕ) (es : Met) (q : ℕ) (e : Entry ℕ) → at (gather g ys es) q ≡ Some e → (at es q ≡ Some e) ⊎ ((length es ≤ q) × In e.key ys)
gather_at g [] es q e h = inl h
gather_at g (y ∷ ys) es q e h =
    ⊎_elim (λ o. ⊎_elim inl (λ n. inr (n.0, inl n.1)) (meet_at es y (g es) q e o))
    (λ o. let l = begins_long es (meet es y (g es)) (meet_begins es y (g es)) in let m = o.0 in inr (omega arith, inr o.1))
    (gather_at g ys (meet es y (g es)) q e h)

-- one code more at the end of the list
pub gather_push : (g : Met → ℕ) (ys : List ℕ) (y : ℕ) (es : Met) → gather g (ys ++ (y ∷ [])) es ≡ meet (gather g ys es) y (g (gather g ys es))
gather_push g [] y es = refl
gather_push g (z ∷ ys) y es = gather_push g ys y (meet es z (g es))

pub gather_append : (g : Met → ℕ) (xs ys : List ℕ) (es : Met) → gather g (xs ++ ys) es ≡ gather g ys (gather g xs es)
gather_append g [] ys es = refl
gather_append g (x ∷ xs) ys es = gather_append g xs ys (meet es x (g es))

module _ (c : CellMeaning) where
  pub path_push : (x y : ℕ) (zs : List ℕ) → Path c x zs → In y (c.nexts (last x zs)) → Path c x (zs ++ (y ∷ []))
  path_push x y [] p h = (h, tt)
  path_push x y (z ∷ zs) p h = (p.0, path_push z y zs p.1 h)

  -- a path to one of its codes
  path_to : (x z : ℕ) (ys : List ℕ) → Path c x ys → In z (x ∷ ys) → (ws : List ℕ) × Path c x ws × (last x ws ≡ z)
  path_to x z ys p (inl e) = ([], tt, sym e)
  path_to x z [] p (inr h) = absurd h
  path_to x z (y ∷ ys) p (inr h) = let q = path_to y z ys p.1 h in (y ∷ q.0, (p.0, q.1), q.2)

  pub reachable_start : (x : ℕ) → In x c.starts → Reachable c x
  reachable_start x h = (x ∷ [], (h, tt), inl refl)

  pub reachable_next : (x y : ℕ) → Reachable c x → In y (c.nexts x) → Reachable c y
  reachable_next x y r h = go r.0 r.1 r.2
    where
      go : (xs : List ℕ) → Run c xs → In x xs → Reachable c y
      go [] p q = absurd q
      go (z ∷ zs) p q =
          let w = path_to z x zs p.1 q in
          (z ∷ (w.0 ++ (y ∷ [])), (p.0, path_push z y w.0 w.1 (subst (λ v. In y (c.nexts v)) (sym w.2) h)), inr (in_push_new y w.0))

  -- what holds of the starts and passes on to next codes holds of every reachable code
  pub reachable_all : (P : ℕ → Type 0) → ((x : ℕ) → In x c.starts → P x) → ((x y : ℕ) → P x → In y (c.nexts x) → P y) → (x : ℕ) → Reachable c x → P x
  reachable_all P first next x r = go r.0 r.1 r.2
    where
      along : (z : ℕ) (ys : List ℕ) → P z → Path c z ys → In x (z ∷ ys) → P x
      along z ys p q (inl e) = subst P (sym e) p
      along z [] p q (inr h) = absurd h
      along z (y ∷ ys) p q (inr h) = along y ys (next z y p q.0) q.1 h

      go : (xs : List ℕ) → Run c xs → In x xs → P x
      go [] p q = absurd q
      go (z ∷ zs) p q = along z zs (first z p.0) p.1 q

  origin_push : (es : Met) (d : Entry ℕ) (p : ℕ) (e : Entry ℕ) → Origin c es p e → Origin c (push es d) p e
  origin_push es d p e (inl h) = inl h
  origin_push es d p e (inr h) = inr (h.0, h.1, ap (λ l. at l e.from) (keys_push es d) ∙ at_push_old (keys es) d.key e.from h.1 h.2, h.3)

  pub sound_none : Sound c []
  sound_none = record { apart = tt; reached = λ x h. absurd h; origin = λ p e h. absurd (some_none (sym h)) }

  sound_push : (es : Met) (e : Entry ℕ) → Sound c es → (In e.key (keys es) → ⊥) → Reachable c e.key → Origin c es (length es) e → Sound c (push es e)
  sound_push es e s new r o =
      record {
        apart = subst Distinct (sym (keys_push es e)) (distinct_push e.key (keys es) s.apart new);
        reached = λ x h. ⊎_elim (s.reached x) (λ q. subst (Reachable c) (sym q) r) (in_push x e.key (keys es) (subst (λ l. In x l) (keys_push es e) h));
        origin = λ p d h.
            ⊎_elim (λ q. origin_push es e p d (s.origin p d q))
            (λ q. subst (λ (z : Entry ℕ). Origin c (push es e) p z) (sym q.1) (subst (λ z. Origin c (push es e) z e) (sym q.0) (origin_push es e (length es) e o)))
            (at_push es e p d h);
      }

  sound_meet : (es : Met) (x f : ℕ) → Sound c es → Reachable c x → Origin c es (length es) (record { key = x; from = f }) → Sound c (meet es x f)
  sound_meet es x f s r o =
      elim (cases_Bool (known code_key es x)) [
        | inl t ↦ subst (Sound c) (sym (meet_known es x f t)) s
        | inr t ↦ subst (Sound c) (sym (meet_new es x f t)) (sound_push es (record { key = x; from = f }) s (known_not es x t) r o)
      ]

  -- codes that are reachable, and whose origin is as told by whatever begins with the codes met before
  pub sound_gather : (g : Met → ℕ) (ys : List ℕ) (es : Met) → Sound c es → ((y : ℕ) → In y ys → Reachable c y)
      → ((y : ℕ) (ds : Met) → In y ys → Begins es ds → Origin c ds (length ds) (record { key = y; from = g ds })) → Sound c (gather g ys es)
  sound_gather g [] es s r o = s
  sound_gather g (y ∷ ys) es s r o =
      sound_gather g ys (meet es y (g es)) (sound_meet es y (g es) s (r y (inl refl)) (o y es (inl refl) (begins_itself es))) (λ z h. r z (inr h))
      (λ z ds h b. o z ds (inr h) (begins_trans es (meet es y (g es)) ds (meet_begins es y (g es)) b))
