-- Reading gives the answer that the words deserve, and no other is deserved. Assumes nothing.
use mathlib.Core.Path.{◌≡◌, refl, sym, ap, subst, ◌∙◌}
use mathlib.Core.Bool.{true, false}
use mathlib.Core.Logic.{◌⊎◌, inl, inr}
use mathlib.Core.List.{List, [], ◌∷◌, ◌++◌}
use Prim.Native.Nat.{ℕ}
use native.Mathlib.Omega.{arith}
use borrow.Author.Tests.{clash}
use Rattle.grammar.specs.Grammars.{Grammar, Step, stuck, takes, Text, Begins}
use Rattle.grammar.specs.Answers.{feed, leaves, Charge, fine, charged, Causes, Answer, good, fault, reading, Passes, Faulted, Deserved, Faulty, Deserves, ReadingStandsByTable, lawful, Closable, ReadingStands}
use Rattle.grammar.proofs.Steps.{clash_step, unfed, fed, left_out, may_leave, reading_takes, reading_charged, reading_stuck, reading_ended, reading_good}
use Rattle.grammar.proofs.Closing.{bool_cases, kept, payable}

pub clash_charge : {M C : Type 0} {m : M} {c : C} → fine m ≡ charged c → ⊥
clash_charge e = let z : ◌≡◌ {A = ℕ} 0 1 = cc in omega arith

module _ {I W R M C : Type 0} (g : Grammar I W R) (f : Causes I W R M C) where
  -- no text goes on, where what is owed after the first word has none
  none_more : (k : List I) (j : List I) (w : W) {r : R} → feed g k w ≡ takes r j → (u : List W) → (Text g j u → ⊥) → Text g k (w ∷ u) → ⊥
  none_more k j w {r} e u bad t = let s = fed g t in let q = sym s.2 ∙ e in let same : s.1 ≡ j = cc in bad (subst (λ x. Text g x u) same s.3)

  faulty_more : (k j : List I) (w : W) {r : R} → feed g k w ≡ takes r j → (u : List W) (n : M) (i : List I) (c : C) (v : List W) → Faulty g f j u n i c v → Faulty g f k (w ∷ u) n i c v
  faulty_more k j w e u n i c [] h = (h.0, none_more k j w e u h.1)
  faulty_more k j w e u n i c (x ∷ v) (inl h) = inl (h.0, λ b. none_more k j w e ((u ++ x ∷ []) ++ b.0) (λ t. h.1 (b.0, t)) b.1)
  faulty_more k j w e u n i c (x ∷ v) (inr h) = inr (h.0, h.1, h.2, h.3, (h.4.0, unfed g k e h.4.1))

  faulty_less : (k j : List I) (w : W) {r : R} → feed g k w ≡ takes r j → (u : List W) (n : M) (i : List I) (c : C) (v : List W) → Faulty g f k (w ∷ u) n i c v → Begins g j u → Faulty g f j u n i c v
  faulty_less k j w e u n i c [] h b = (h.0, λ t. h.1 (unfed g k e t))
  faulty_less k j w e u n i c (x ∷ v) (inl h) b = inl (h.0, λ t. h.1 (t.0, unfed g k e t.1))
  faulty_less k j w {r} e u n i c (x ∷ v) (inr h) b = let s = fed g h.4.1 in let q = sym s.2 ∙ e in let same : s.1 ≡ j = cc in inr (h.0, h.1, h.2, h.3, (h.4.0, subst (λ y. Text g y ((u ++ x ∷ []) ++ h.4.0)) same s.3))

  -- one word more in front
  deserves_more : (k j : List I) (w : W) (r : R) (m n : M) (ws : List W) → feed g k w ≡ takes r j → f.charge m r w j ≡ fine n → (a : Answer W M C) → Deserves g f n j ws a → Deserves g f m k (w ∷ ws) a
  deserves_more k j w r m n ws e h (good p) d = (unfed g k e d.0, d.1, (r, n, j, e, h, d.2))
  deserves_more k j w r m n ws e h (fault c v) d = (w ∷ d.0, d.1, d.2, ap (λ x. w ∷ x) d.3, (d.4.0, unfed g k e d.4.1), (r, n, j, e, h, d.5), faulty_more k j w e d.0 d.1 d.2 c v d.6)

  module _ (l : Closable g) where
    -- reading gives the answer that the words deserve
    pub meant : (ws : List W) (m : M) (k : List I) → lawful l.last k ≡ true → Deserves g f m k ws (reading g f ws m k)
    meant [] m k h = go (bool_cases (leaves g k))
      where
        go : (leaves g k ≡ true) ⊎ (leaves g k ≡ false) → Deserves g f m k [] (reading g f [] m k)
        go (inl t) = subst (Deserves g f m k []) (sym (reading_good g f m k t)) (left_out g k t, k, (refl, refl))
        go (inr t) = subst (Deserves g f m k []) (sym (reading_ended g f m k t)) ([], m, k, refl, payable g l k h, (refl, refl), (refl, λ x. clash (sym t ∙ may_leave g x)))
    meant (w ∷ ws) m k h = go (feed g k w) refl (λ n j x. meant ws n j x)
      where
        later : (r : R) (j : List I) → feed g k w ≡ takes r j → (s : Charge M C) → f.charge m r w j ≡ s → ((n : M) (j : List I) → lawful l.last j ≡ true → Deserves g f n j ws (reading g f ws n j)) → Deserves g f m k (w ∷ ws) (reading g f (w ∷ ws) m k)
        later r j e (fine n) es below = subst (Deserves g f m k (w ∷ ws)) (sym (reading_takes g f w ws m n k j r e es)) (deserves_more k j w r m n ws e es _ (below n j (kept g l k w h e)))
        later r j e (charged c) es below = let p = payable g l j (kept g l k w h e) in subst (Deserves g f m k (w ∷ ws)) (sym (reading_charged g f w ws m k j r c e es)) ([], m, k, refl, payable g l k h, (refl, refl), inr (r, j, e, es, (p.0, unfed g k e p.1)))

        go : (s : Step I R) → feed g k w ≡ s → ((n : M) (j : List I) → lawful l.last j ≡ true → Deserves g f n j ws (reading g f ws n j)) → Deserves g f m k (w ∷ ws) (reading g f (w ∷ ws) m k)
        go stuck e below = subst (Deserves g f m k (w ∷ ws)) (sym (reading_stuck g f w ws m k e)) ([], m, k, refl, payable g l k h, (refl, refl), inl (refl, λ b. clash_step (sym e ∙ (fed g b.1).2)))
        go (takes r j) e below = later r j e (f.charge m r w j) refl below

    only_good : (ws : List W) (m : M) (k : List I) (n : M) (j : List I) → Text g k ws → Passes g f m k ws n j → good n ≡ reading g f ws m k
    only_good [] m k n j t p = ap good (sym p.0) ∙ sym (reading_good g f m k (may_leave g t))
    only_good (w ∷ ws) m k n j t p = let s = fed g t in let q = sym s.2 ∙ p.3 in let same : s.1 ≡ p.2 = cc in only_good ws p.1 p.2 n j (subst (λ x. Text g x ws) same s.3) p.5 ∙ sym (reading_takes g f w ws m p.1 k p.2 p.0 p.3 p.4)

    only_here : (m : M) (k : List I) (c : C) (v : List W) → lawful l.last k ≡ true → Faulty g f k [] m k c v → fault c v ≡ reading g f v m k
    only_here m k c [] h x = go (bool_cases (leaves g k))
      where
        go : (leaves g k ≡ true) ⊎ (leaves g k ≡ false) → fault c [] ≡ reading g f [] m k
        go (inl t) = absurd (x.1 (left_out g k t))
        go (inr t) = ap (λ y. fault y []) x.0 ∙ sym (reading_ended g f m k t)
    only_here m k c (w ∷ v) h (inl x) = go (feed g k w) refl
      where
        go : (s : Step I R) → feed g k w ≡ s → fault c (w ∷ v) ≡ reading g f (w ∷ v) m k
        go stuck e = ap (λ y. fault y (w ∷ v)) x.0 ∙ sym (reading_stuck g f w v m k e)
        go (takes r j) e = let p = payable g l j (kept g l k w h e) in absurd (x.1 (p.0, unfed g k e p.1))
    only_here m k c (w ∷ v) h (inr x) = sym (reading_charged g f w v m k x.1 x.0 c x.2 x.3)

    only_fault : (u : List W) (m : M) (k : List I) (n : M) (j : List I) (c : C) (v : List W) → lawful l.last k ≡ true → Begins g k u → Passes g f m k u n j → Faulty g f k u n j c v → fault c v ≡ reading g f (u ++ v) m k
    only_fault [] m k n j c v h b p x = only_here m k c v h (subst (λ y. Faulty g f k [] y k c v) (sym p.0) (subst (λ y. Faulty g f k [] n y c v) (sym p.1) x))
    only_fault (w ∷ u) m k n j c v h b p x =
        let s = fed g b.1 in
        let q = sym s.2 ∙ p.3 in
        let same : s.1 ≡ p.2 = cc in
        let begins : Begins g p.2 u = (b.0, subst (λ y. Text g y (u ++ b.0)) same s.3) in
        only_fault u p.1 p.2 n j c v (kept g l k w h p.3) begins p.5 (faulty_less k p.2 w p.3 u n j c v x begins) ∙ sym (reading_takes g f w (u ++ v) m p.1 k p.2 p.0 p.3 p.4)

    -- and no other answer is deserved
    pub only : (ws : List W) (m : M) (k : List I) → lawful l.last k ≡ true → (a : Answer W M C) → Deserves g f m k ws a → a ≡ reading g f ws m k
    only ws m k h (good n) d = only_good ws m k n d.1 d.0 d.2
    only ws m k h (fault c v) d = only_fault d.0 m k d.1 d.2 c v h d.4 d.5 d.6 ∙ ap (λ x. reading g f x m k) (sym d.3)

pub by_table : (I W R M C : Type 0) → ReadingStandsByTable I W R M C
by_table I W R M C g f l k h ws m = (meant g f l ws m k h, only g f l ws m k h)

module _ {I W R M C : Type 0} (g : Grammar I W R) (f : Causes I W R M C) (T U : List W → Type 0) (there : (ws : List W) → T ws → U ws) (back : (ws : List W) → U ws → T ws) where
  faulted_so : (u : List W) (n : M) (j : List I) (c : C) (v : List W) → Faulted g f T u n j c v → Faulted g f U u n j c v
  faulted_so u n j c [] h = (h.0, λ t. h.1 (back u t))
  faulted_so u n j c (w ∷ v) (inl h) = inl (h.0, λ b. h.1 (b.0, back _ b.1))
  faulted_so u n j c (w ∷ v) (inr h) = inr (h.0, h.1, h.2, h.3, (h.4.0, there _ h.4.1))

  deserved_so : (m : M) (k : List I) (ws : List W) (a : Answer W M C) → Deserved g f T m k ws a → Deserved g f U m k ws a
  deserved_so m k ws (good n) d = (there ws d.0, d.1, d.2)
  deserved_so m k ws (fault c v) d = (d.0, d.1, d.2, d.3, (d.4.0, there _ d.4.1), d.5, faulted_so d.0 d.1 d.2 c v d.6)

pub reading_stands : (I W R M C : Type 0) → ReadingStands I W R M C
reading_stands I W R M C g f l k h T s ws m = (
  deserved_so g f (Text g k) T (λ x. (s x).1) (λ x. (s x).0) m k ws _ (meant g f l ws m k h),
  λ a d. only g f l ws m k h a (deserved_so g f T (Text g k) (λ x. (s x).0) (λ x. (s x).1) m k ws a d),
)
