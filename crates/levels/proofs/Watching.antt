-- Runs and configurations with one more code, and which runs a watch permits. Assumes nothing.
use Rattle.std.proofs.Common.{◌≡◌, ℕ, Bool, ◌⊎◌, List, [], ◌∷◌, Some, None, Option, sym, refl, ap, ◌∙◌, subst, inl, inr}
use Rattle.std.specs.Option.{option_map}
use Rattle.model.specs.Cells.{CellMeaning, In}
use Rattle.model.specs.Runs.{Path, Run, moment, moments_from, Permitted, last, Reaches, Has}
use Rattle.model.specs.Watches.{WatchMeaning}
use Rattle.model.specs.declared.configuration.Configuration.{Configuration}
use Rattle.levels.specs.Units.{onward}
use Rattle.levels.proofs.Lists.{push, some_injective, some_none}

abbrev configuration : {S : Type 0} → ℕ → ℕ → S → Configuration S
configuration x y t = record { first = x; last = y; state = t }

-- an option is none, or some
pub cases_option : {A : Type 0} (o : Option A) → (o ≡ None) ⊎ ((x : A) × (o ≡ Some x))
cases_option None = inl refl
cases_option (Some x) = inr (x, refl)

mapped_some : {A B : Type 0} (f : A → B) (o : Option A) (b : B) → option_map f o ≡ Some b → (x : A) × (o ≡ Some x) × (f x ≡ b)
mapped_some f None b e = absurd (some_none (sym e))
mapped_some f (Some x) b e = (x, refl, some_injective e)

module _ {S : Type 0} (c : CellMeaning) (w : WatchMeaning S) where
  pub permits_from_reaches : (x : ℕ) (s : S) (ys : List ℕ) (t : S) → Reaches c w x s ys t → w.permits s (moments_from c x ys)
  permits_from_reaches x s [] t r = w.nothing s
  permits_from_reaches x s (y ∷ ys) t r =
      (w.goes s r.0 (moment c x y) r.1 (moments_from c x ys)).0 (permits_from_reaches x r.0 ys t r.2)

  pub reaches_from_permits : (x : ℕ) (s : S) (ys : List ℕ) → w.permits s (moments_from c x ys) → (t : S) × Reaches c w x s ys t
  reaches_from_permits x s [] p = (s, refl)
  reaches_from_permits x s (y ∷ ys) p =
      elim (cases_option (w.step s (moment c x y))) [
        | inl e ↦ absurd (w.stops s (moment c x y) e (moments_from c x ys) p)
        | inr u ↦
            let q = (w.goes s u.0 (moment c x y) u.1 (moments_from c x ys)).1 p in
            let r = reaches_from_permits x u.0 ys q in
            (r.0, (u.0, u.1, r.1))
      ]

  reaches_push : (x y : ℕ) (s : S) (ys : List ℕ) (t u : S) → Reaches c w x s ys t → w.step t (moment c x y) ≡ Some u → Reaches c w x s (push ys y) u
  reaches_push x y s [] t u r e = (u, subst (λ (a : S). w.step a (moment c x y) ≡ Some u) (sym r) e, refl)
  reaches_push x y s (z ∷ zs) t u r e = (r.0, r.1, reaches_push x y r.0 zs t u r.2 e)

  reaches_pop : (x y : ℕ) (s : S) (ys : List ℕ) (u : S) → Reaches c w x s (push ys y) u → (t : S) × Reaches c w x s ys t × (w.step t (moment c x y) ≡ Some u)
  reaches_pop x y s [] u r = (s, refl, r.1 ∙ ap {B = Option S} (λ a. Some a) r.2)
  reaches_pop x y s (z ∷ zs) u r =
      let t = reaches_pop x y r.0 zs u r.2 in
      (t.0, (r.0, r.1, t.1), t.2)

  reaches_one : (x : ℕ) (s : S) (ys : List ℕ) (t u : S) → Reaches c w x s ys t → Reaches c w x s ys u → t ≡ u
  reaches_one x s [] t u p q = sym p ∙ q
  reaches_one x s (y ∷ ys) t u p q =
      reaches_one x p.0 ys t u p.2
      (subst (λ (a : S). Reaches c w x a ys u) (some_injective (sym q.1 ∙ p.1)) q.2)

  path_push : (x y : ℕ) (xs : List ℕ) → Path c x xs → In y (c.nexts (last x xs)) → Path c x (push xs y)
  path_push x y [] p h = (h, tt)
  path_push x y (z ∷ zs) p h = (p.0, path_push z y zs p.1 h)

  path_pop : (x y : ℕ) (xs : List ℕ) → Path c x (push xs y) → Path c x xs × In y (c.nexts (last x xs))
  path_pop x y [] p = (tt, p.0)
  path_pop x y (z ∷ zs) p = let q = path_pop z y zs p.1 in ((p.0, q.0), q.1)

  last_push : (x y : ℕ) (xs : List ℕ) → last x (push xs y) ≡ y
  last_push x y [] = refl
  last_push x y (z ∷ zs) = last_push z y zs

  -- the configuration after code y, where the watch comes to state t
  abbrev pub moved : Configuration S → ℕ → S → Configuration S
  moved k y t = record { first = k.first; last = y; state = t }

  -- code y does not make a run with configuration k unpermitted, and brings the watch to state t
  abbrev pub Steps : Configuration S → ℕ → S → Type 0
  Steps k y t = w.step k.state (moment c k.first y) ≡ Some t

  -- a run with a configuration
  abbrev pub RunOf : List ℕ → Configuration S → Type 0
  RunOf xs k = Run c xs × Has c w xs k

  pub permitted_from_has : (xs : List ℕ) (k : Configuration S) → Has c w xs k → Permitted c w xs
  permitted_from_has [] k h = absurd h
  permitted_from_has (x ∷ xs) k h = permits_from_reaches x w.first (x ∷ xs) k.state h.2

  pub has_from_permitted : (xs : List ℕ) → Run c xs → Permitted c w xs → (k : Configuration S) × Has c w xs k
  has_from_permitted [] r p = absurd r
  has_from_permitted (x ∷ xs) r p =
      let t = reaches_from_permits x w.first (x ∷ xs) p in
      (record { first = x; last = last x xs; state = t.0 }, (refl, refl, t.1))

  -- a run with one more of the next codes of its last
  pub run_push : (xs : List ℕ) (k : Configuration S) (y : ℕ) → RunOf xs k → In y (c.nexts k.last) → Run c (push xs y)
  run_push [] k y r h = absurd r.0
  run_push (x ∷ xs) k y r h = (r.0.0, path_push x y xs r.0.1 (subst (λ (a : ℕ). In y (c.nexts a)) r.1.1 h))

  pub has_push : (xs : List ℕ) (k : Configuration S) (y : ℕ) (t : S) → Has c w xs k → Steps k y t → Has c w (push xs y) (moved k y t)
  has_push [] k y t h e = absurd h
  has_push (x ∷ xs) k y t h e = (
    h.0,
    sym (last_push x y xs),
    reaches_push x y w.first (x ∷ xs) k.state t h.2 (subst (λ (a : ℕ). w.step k.state (moment c a y) ≡ Some t) h.0 e),
  )

  pub has_one : (x : ℕ) (t : S) → w.step w.first (moment c x x) ≡ Some t → Has c w (x ∷ []) (record { first = x; last = x; state = t })
  has_one x t e = (refl, refl, (t, e, refl))

  -- a run of one state that has a configuration
  pub one_has : (x : ℕ) (k : Configuration S) → Has c w (x ∷ []) k → (t : S) × (w.step w.first (moment c x x) ≡ Some t) × (record { first = x; last = x; state = t } ≡ k)
  one_has x k h =
      let r = h.2 in
      (k.state, r.1 ∙ ap {B = Option S} (λ a. Some a) r.2, λ i. record { first = sym h.0 i; last = sym h.1 i; state = k.state })

  -- what a longer run has without its last code
  pub run_pop : (x y : ℕ) (xs : List ℕ) → Run c (x ∷ push xs y) → Run c (x ∷ xs)
  run_pop x y xs r = (r.0, (path_pop x y xs r.1).0)

  pub next_pop : (x y : ℕ) (xs : List ℕ) (k : Configuration S) → Run c (x ∷ push xs y) → Has c w (x ∷ xs) k → In y (c.nexts k.last)
  next_pop x y xs k r h = subst (λ (a : ℕ). In y (c.nexts a)) (sym h.1) (path_pop x y xs r.1).1

  pub has_pop : (x y : ℕ) (xs : List ℕ) (l : Configuration S) → Has c w (x ∷ push xs y) l
      → (k : Configuration S) × Has c w (x ∷ xs) k × (t : S) × Steps k y t × (moved k y t ≡ l)
  has_pop x y xs l h =
      let q = reaches_pop x y w.first (x ∷ xs) l.state h.2 in
      let e = h.1 ∙ last_push x y xs in (
        record { first = x; last = last x xs; state = q.0 },
        (refl, refl, q.1),
        l.state,
        q.2,
        λ i. record { first = sym h.0 i; last = sym e i; state = l.state },
      )

  -- a run is unpermitted after a code at which the watch has no state
  pub unpermitted_push : (xs : List ℕ) (k : Configuration S) (y : ℕ) → Has c w xs k → w.step k.state (moment c k.first y) ≡ None → Permitted c w (push xs y) → ⊥
  unpermitted_push [] k y h e p = absurd h
  unpermitted_push (x ∷ xs) k y h e p =
      let r = reaches_from_permits x w.first (x ∷ push xs y) p in
      let q = reaches_pop x y w.first (x ∷ xs) r.0 r.1 in
      let s = reaches_one x w.first (x ∷ xs) q.0 k.state q.1 h.2 in
      let f : w.step k.state (moment c k.first y) ≡ Some r.0 =
      subst (λ (a : ℕ). w.step k.state (moment c a y) ≡ Some r.0) (sym h.0)
      (subst (λ (a : S). w.step a (moment c x y) ≡ Some r.0) s q.2) in
      some_none (sym f ∙ e)

  -- a configuration onward from another is that one moved
  pub onward_moved : (same : Configuration S → Configuration S → Bool) (n : ℕ) (x : ℕ) (s : S) (y : ℕ) (l : Configuration S) → onward c w same n x s y ≡ Some l
      → (t : S) × (w.step s (moment c x y) ≡ Some t) × (record { first = x; last = y; state = t } ≡ l)
  onward_moved same n x s y l e = mapped_some (λ (t : S). configuration x y t) (w.step s (moment c x y)) l e

  pub moved_onward : (same : Configuration S → Configuration S → Bool) (n : ℕ) (x : ℕ) (s : S) (y : ℕ) (t : S) → w.step s (moment c x y) ≡ Some t
      → onward c w same n x s y ≡ Some (record { first = x; last = y; state = t })
  moved_onward same n x s y t e = ap (λ (o : Option S). option_map (λ (t : S). configuration x y t) o) e
