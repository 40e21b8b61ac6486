-- Lists of different things, the element at a place, and the last element. Assumes nothing.
use Rattle.std.proofs.Common.{◌≡◌, ℕ, zero, suc, ◌<◌, ◌≤◌, ◌⊎◌, List, [], ◌∷◌, ◌++◌, length, Some, None, sym, refl, ap, ◌∙◌, subst, inl, inr, ⊎_elim, le_of_suc-le-suc, not-suc-le-zero, arith}
use Rattle.model.specs.Cells.{In, at}
use Rattle.model.specs.Entries.{Entry}
use Rattle.model.specs.declared.configuration.Configuration.{Configuration}
use Rattle.levels.specs.Law.{Distinct}

-- what is stored: configurations, and the place that each was reached from
abbrev pub Entries : Type 0 → Type 0
Entries S = List (Entry (Configuration S))

pub some_injective : {A : Type 0} {x y : A} → Some x ≡ Some y → x ≡ y
some_injective e = cc

pub some_none : {A : Type 0} {x : A} → Some x ≡ None → ⊥
some_none e = let z : ◌≡◌ {A = ℕ} 0 1 = cc in omega arith

module _ {A : Type 0} where
  -- one more at the end
  abbrev pub push : List A → A → List A
  push xs y = xs ++ (y ∷ [])

  pub length_push : (xs : List A) (y : A) → length (push xs y) ≡ suc (length xs)
  length_push [] y = refl
  length_push (x ∷ xs) y = ap suc (length_push xs y)

  -- a list is empty, or has a last element
  pub ends : (xs : List A) → (xs ≡ []) ⊎ ((zs : List A) × (y : A) × (xs ≡ push zs y))
  ends [] = inl refl
  ends (x ∷ xs) = inr (⊎_elim (λ e. ([], x, ap (λ (r : List A). x ∷ r) e)) (λ t. (x ∷ t.0, t.1, ap (λ (r : List A). x ∷ r) t.2)) (ends xs))

  pub in_push_new : (y : A) (xs : List A) → In y (push xs y)
  in_push_new y [] = inl refl
  in_push_new y (z ∷ zs) = inr (in_push_new y zs)

  pub in_push : (x y : A) (xs : List A) → In x (push xs y) → In x xs ⊎ (x ≡ y)
  in_push x y [] (inl e) = inr e
  in_push x y [] (inr h) = absurd h
  in_push x y (z ∷ zs) (inl e) = inl (inl e)
  in_push x y (z ∷ zs) (inr h) = ⊎_elim (λ t. inl (inr t)) (λ t. inr t) (in_push x y zs h)

  pub distinct_push : (y : A) (xs : List A) → Distinct xs → (In y xs → ⊥) → Distinct (push xs y)
  distinct_push y [] d h = (λ t. t, tt)
  distinct_push y (x ∷ xs) d h =
      (λ t. ⊎_elim (λ p. d.0 p) (λ e. h (inl (sym e))) (in_push x y xs t), distinct_push y xs d.1 (λ t. h (inr t)))

  -- the list without one occurrence
  without : (x : A) (ys : List A) → In x ys → List A
  without x [] h = absurd h
  without x (y ∷ ys) (inl e) = ys
  without x (y ∷ ys) (inr h) = y ∷ without x ys h

  length_without : (x : A) (ys : List A) (h : In x ys) → length ys ≡ suc (length (without x ys h))
  unfolding without
  length_without x [] h = absurd h
  length_without x (y ∷ ys) (inl e) = refl
  length_without x (y ∷ ys) (inr h) = ap suc (length_without x ys h)

  in_without : (x z : A) (ys : List A) (h : In x ys) → In z ys → (z ≡ x) ⊎ In z (without x ys h)
  unfolding without
  in_without x z [] h t = absurd h
  in_without x z (y ∷ ys) (inl e) (inl f) = inl (f ∙ sym e)
  in_without x z (y ∷ ys) (inl e) (inr t) = inr t
  in_without x z (y ∷ ys) (inr h) (inl f) = inr (inl f)
  in_without x z (y ∷ ys) (inr h) (inr t) = ⊎_elim (λ e. inl e) (λ s. inr (inr s)) (in_without x z ys h t)

  -- different things that are all in a list are no more than it has
  pub pigeons : (xs ys : List A) → Distinct xs → ((x : A) → In x xs → In x ys) → length xs ≤ length ys
  pigeons [] ys d f = omega arith
  pigeons (x ∷ xs) ys d f =
      let h : In x ys = f x (inl refl) in
      let r = pigeons xs (without x ys h) d.1
      (λ z t. ⊎_elim (λ e. absurd (d.0 (subst (λ (a : A). In a xs) e t))) (λ s. s) (in_without x z ys h (f z (inr t)))) in
      let q = length_without x ys h in
      omega arith

  -- a place below the length has an element
  pub at_below : (xs : List A) (p : ℕ) → p < length xs → (x : A) × (at xs p ≡ Some x)
  at_below [] p h = absurd (not-suc-le-zero h)
  at_below (x ∷ xs) zero h = (x, refl)
  at_below (x ∷ xs) (suc p) h = at_below xs p (le_of_suc-le-suc h)

  pub below_at : (xs : List A) (p : ℕ) (x : A) → at xs p ≡ Some x → p < length xs
  below_at [] p x e = absurd (some_none (sym e))
  below_at (y ∷ ys) zero x e = omega arith
  below_at (y ∷ ys) (suc p) x e = let r = below_at ys p x e in omega arith

  pub at_push_old : (xs : List A) (y : A) (p : ℕ) (x : A) → at xs p ≡ Some x → at (push xs y) p ≡ Some x
  at_push_old [] y p x e = absurd (some_none (sym e))
  at_push_old (z ∷ zs) y zero x e = e
  at_push_old (z ∷ zs) y (suc p) x e = at_push_old zs y p x e

  pub at_push : (xs : List A) (y : A) (p : ℕ) (x : A) → at (push xs y) p ≡ Some x → (at xs p ≡ Some x) ⊎ ((p ≡ length xs) × (x ≡ y))
  at_push [] y zero x e = inr (refl, sym (some_injective e))
  at_push [] y (suc p) x e = absurd (some_none (sym e))
  at_push (z ∷ zs) y zero x e = inl e
  at_push (z ∷ zs) y (suc p) x e = ⊎_elim (λ t. inl t) (λ t. inr (ap suc t.0, t.1)) (at_push zs y p x e)
