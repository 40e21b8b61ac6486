-- What a change at one place of a list leaves. Assumes nothing.
use Rattle.std.proofs.Common.{◌≡◌, ℕ, zero, suc, ◌<◌, List, [], ◌∷◌, ◌++◌, map, length, get_or, drop, set, refl, ap, arith}
use Rattle.store.specs.Chains.{pick}
use Rattle.store.specs.Steps.{amend}

module _ {A : Type 0} where
  pub set_amend : (f : A → A) (xs : List A) (i : ℕ) (d : A) → set xs i (f (get_or xs i d)) ≡ amend f xs i
  set_amend f [] i d = refl
  set_amend f (x ∷ xs) zero d = refl
  set_amend f (x ∷ xs) (suc i) d = ap (λ l. x ∷ l) (set_amend f xs i d)

  pub put_amend : (y : A) (xs : List A) (i : ℕ) → set xs i y ≡ amend (λ _. y) xs i
  put_amend y [] i = refl
  put_amend y (x ∷ xs) zero = refl
  put_amend y (x ∷ xs) (suc i) = ap (λ l. x ∷ l) (put_amend y xs i)

  pub length_amend : (f : A → A) (xs : List A) (i : ℕ) → length (amend f xs i) ≡ length xs
  length_amend f [] i = refl
  length_amend f (x ∷ xs) zero = refl
  length_amend f (x ∷ xs) (suc i) = ap suc (length_amend f xs i)

  -- a change in the front of a list leaves the rest
  pub amend_front : (f : A → A) (xs ys : List A) (i : ℕ) → i < length xs → amend f (xs ++ ys) i ≡ amend f xs i ++ ys
  amend_front f [] ys i h = absurd (omega arith)
  amend_front f (x ∷ xs) ys zero h = refl
  amend_front f (x ∷ xs) ys (suc i) h = ap (λ l. x ∷ l) (amend_front f xs ys i (omega arith))

  pub drop_amend : (f : A → A) (n : ℕ) (xs : List A) (i : ℕ) → i < n → drop n (amend f xs i) ≡ drop n xs
  drop_amend f zero xs i h = absurd (omega arith)
  drop_amend f (suc n) [] i h = refl
  drop_amend f (suc n) (x ∷ xs) zero h = refl
  drop_amend f (suc n) (x ∷ xs) (suc i) h = drop_amend f n xs i (omega arith)

  pub map_amend : {B : Type 0} (p : A → B) (f : A → A) → ((x : A) → p (f x) ≡ p x) → (xs : List A) (i : ℕ) → map p (amend f xs i) ≡ map p xs
  map_amend p f h [] i = refl
  map_amend p f h (x ∷ xs) zero = ap (λ y. y ∷ map p xs) (h x)
  map_amend p f h (x ∷ xs) (suc i) = ap (λ l. p x ∷ l) (map_amend p f h xs i)

  -- what f does not change is the same at every place
  pub pick_kept : (p : A → ℕ) (f : A → A) → ((x : A) → p (f x) ≡ p x) → (xs : List A) (i j : ℕ) → pick p (amend f xs i) j ≡ pick p xs j
  pick_kept p f h [] i j = refl
  pick_kept p f h (x ∷ xs) zero zero = h x
  pick_kept p f h (x ∷ xs) zero (suc j) = refl
  pick_kept p f h (x ∷ xs) (suc i) zero = refl
  pick_kept p f h (x ∷ xs) (suc i) (suc j) = pick_kept p f h xs i j

  pub pick_here : (p : A → ℕ) (f : A → A) (v : ℕ) → ((x : A) → p (f x) ≡ v) → (xs : List A) (i : ℕ) → i < length xs → pick p (amend f xs i) i ≡ v
  pick_here p f v h [] i l = absurd (omega arith)
  pick_here p f v h (x ∷ xs) zero l = h x
  pick_here p f v h (x ∷ xs) (suc i) l = pick_here p f v h xs i (omega arith)

  pub pick_other : (p : A → ℕ) (f : A → A) (xs : List A) (i j : ℕ) → (j ≡ i → ⊥) → pick p (amend f xs i) j ≡ pick p xs j
  pick_other p f [] i j h = refl
  pick_other p f (x ∷ xs) zero zero h = absurd (h refl)
  pick_other p f (x ∷ xs) zero (suc j) h = refl
  pick_other p f (x ∷ xs) (suc i) zero h = refl
  pick_other p f (x ∷ xs) (suc i) (suc j) h = pick_other p f xs i j (λ e. h (ap suc e))

  -- a read of an element gives what is picked there
  pub pick_read : (p : A → ℕ) (xs : List A) (i : ℕ) (d : A) → i < length xs → p (get_or xs i d) ≡ pick p xs i
  pick_read p [] i d l = absurd (omega arith)
  pick_read p (x ∷ xs) zero d l = refl
  pick_read p (x ∷ xs) (suc i) d l = pick_read p xs i d (omega arith)

  pub pick_below : (p : A → ℕ) (m : ℕ) → 0 < m → ((x : A) → p x < m) → (xs : List A) (i : ℕ) → pick p xs i < m
  pick_below p m z h [] i = z
  pick_below p m z h (x ∷ xs) zero = h x
  pick_below p m z h (x ∷ xs) (suc i) = pick_below p m z h xs i
