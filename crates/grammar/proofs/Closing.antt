-- Where every item can be closed, whatever is owed can be paid off. Assumes nothing.
use mathlib.Core.Path.{◌≡◌, refl, sym, ap, subst, ◌∙◌}
use mathlib.Core.Bool.{Bool, true, false, cond}
use mathlib.Core.Logic.{◌⊎◌, inl, inr}
use mathlib.Core.List.{List, [], ◌∷◌, ◌++◌, append-nil}
use borrow.Author.Tests.{clash}
use Rattle.grammar.specs.Grammars.{Rule, Grammar, Step, stuck, takes, find, Quiet, Reads, nothing, without, Text}
use Rattle.grammar.specs.Answers.{next, feed, In, Drains, inner, lawful, all_owe, Shut, Closable}
use Rattle.grammar.proofs.Steps.{clash_step, unfed}

pub bool_cases : (b : Bool) → (b ≡ true) ⊎ (b ≡ false)
bool_cases true = inl refl
bool_cases false = inr refl

cond_both : (a b : Bool) → cond a b false ≡ true → (a ≡ true) × (b ≡ true)
cond_both true b e = (refl, e)
cond_both false b e = absurd (clash e)

cond_neither : (a b : Bool) → cond a false b ≡ true → (a ≡ false) × (b ≡ true)
cond_neither true b e = absurd (clash e)
cond_neither false b e = (refl, e)

-- what a line owes, where each line owes such items only
pub owed : {I W R : Type 0} (p : List I → Bool) (rs : List (Rule I W R)) → all_owe p rs ≡ true → (w : W) {r : R} {js : List I} → find rs w ≡ takes r js → p js ≡ true
owed p [] h w e = absurd (clash_step e)
owed p (x ∷ rs) h w {r} {js} e = go (x.fits w) e (λ t. owed p rs (cond_both _ _ h).1 w t)
  where
    go : (b : Bool) → cond b (takes x.role x.owes) (find rs w) ≡ takes r js → (find rs w ≡ takes r js → p js ≡ true) → p js ≡ true
    go true e below = let same : x.owes ≡ js = cc in ap p (sym same) ∙ (cond_both _ _ h).0
    go false e below = below e

pub shut_at : {I W R : Type 0} (rs : List (Rule I W R)) (ws : List W) (w : W) → Shut rs ws → In w ws → find rs w ≡ stuck
shut_at rs [] w s i = absurd i
shut_at rs (x ∷ ws) w s (inl e) = ap (find rs) e ∙ s.0
shut_at rs (x ∷ ws) w s (inr i) = shut_at rs ws w s.1 i

module _ {I : Type 0} (last : I → Bool) where
  pub lawful_tail : (i : I) (k : List I) → lawful last (i ∷ k) ≡ true → lawful last k ≡ true
  lawful_tail i [] e = refl
  lawful_tail i (j ∷ k) e = (cond_neither (last i) _ e).1

  -- a stack under items none of which repeats to the end
  pub inner_over : (js k : List I) → inner last js ≡ true → lawful last k ≡ true → lawful last (js ++ k) ≡ true
  inner_over [] k h e = e
  inner_over (j ∷ []) [] h e = refl
  inner_over (j ∷ []) (i ∷ k) h e = ap (λ b. cond b false (lawful last (i ∷ k))) (cond_neither (last j) _ h).0 ∙ e
  inner_over (j ∷ i ∷ js) k h e = let p = cond_neither (last j) _ h in ap (λ b. cond b false (lawful last (i ∷ js ++ k))) p.0 ∙ inner_over (i ∷ js) k p.1 e

module _ {I W R : Type 0} (g : Grammar I W R) (l : Closable g) where
  -- no word of the list is fed but to a lawful stack
  pub kept : (k : List I) (w : W) {r : R} {j : List I} → lawful l.last k ≡ true → feed g k w ≡ takes r j → lawful l.last j ≡ true
  kept [] w h e = absurd (clash_step e)
  kept (i ∷ k) w {r} {j} h e = go (find (g.rules i) w) (g.may i) refl e (λ x. kept k w (lawful_tail l.last i k h) x)
    where
      lowest : (k : List I) → lawful l.last (i ∷ k) ≡ true → l.last i ≡ true → k ≡ []
      lowest [] h t = refl
      lowest (x ∷ k) h t = absurd (clash (sym (cond_neither (l.last i) _ h).0 ∙ t))

      taken : {q : R} {js : List I} → find (g.rules i) w ≡ takes q js → (l.last i ≡ true) ⊎ (l.last i ≡ false) → lawful l.last (js ++ k) ≡ true
      taken {q} {js} f (inl t) = subst (λ x. lawful l.last (js ++ x) ≡ true) (sym (lowest k h t)) (subst (λ x. lawful l.last x ≡ true) (sym (append-nil js)) (owed (lawful l.last) (g.rules i) (l.owe_lawful i t) w f))
      taken {q} {js} f (inr t) = inner_over l.last js k (owed (inner l.last) (g.rules i) (l.owe_inner i t) w f) (lawful_tail l.last i k h)

      go : (s : Step I R) (b : Bool) → find (g.rules i) w ≡ s → next s b k (feed g k w) ≡ takes r j → (feed g k w ≡ takes r j → lawful l.last j ≡ true) → lawful l.last j ≡ true
      go (takes q js) b es e below = let same : js ++ k ≡ j = cc in subst (λ x. lawful l.last x ≡ true) same (taken es (bool_cases (l.last i)))
      go stuck true es e below = below e
      go stuck false es e below = absurd (clash_step e)

  abbrev Starts : List W → Type 0
  Starts [] = Unit {0}
  Starts (w ∷ ws) = In w l.starters

  drained : (k : List I) (ws v : List W) (j : List I) → Drains g k ws j → Reads g j v [] → Reads g k (ws ++ v) []
  drained k [] v j d t = subst (λ x. Reads g x v []) (sym d) t
  drained k (w ∷ ws) v j d t = unfed g k d.2 (drained d.1 ws v j d.3 t)

  -- an item that does not repeat to the end, on a stack that can be paid off
  covered : (i : I) (k : List I) → l.last i ≡ false → (v : List W) × Starts v × Reads g k v [] → (v : List W) × Starts v × Reads g (i ∷ k) v []
  covered i k f s = go (bool_cases (g.may i))
    where
      quiet : (v : List W) → Starts v → g.may i ≡ true → Quiet (g.rules i) v
      quiet [] q h = tt
      quiet (w ∷ v) q h = shut_at (g.rules i) l.starters w (l.shut i f h) q

      go : (g.may i ≡ true) ⊎ (g.may i ≡ false) → (v : List W) × Starts v × Reads g (i ∷ k) v []
      go (inl h) = (s.0, s.1, without h (quiet s.0 s.1 h) s.2)
      go (inr h) = let c = l.closes i f h in ((c.0 ∷ c.1) ++ s.0, c.2, drained (i ∷ k) (c.0 ∷ c.1) s.0 k (c.3 k) s.2)

  closing : (k : List I) → lawful l.last k ≡ true → (v : List W) × Starts v × Reads g k v []
  closing [] h = ([], tt, nothing)
  closing (i ∷ []) h = go (bool_cases (l.last i))
    where
      go : (l.last i ≡ true) ⊎ (l.last i ≡ false) → (v : List W) × Starts v × Reads g (i ∷ []) v []
      go (inl t) = ([], tt, without (l.last_may i t) tt nothing)
      go (inr f) = covered i [] f ([], tt, nothing)
  closing (i ∷ j ∷ k) h = let p = cond_neither (l.last i) _ h in covered i (j ∷ k) p.0 (closing (j ∷ k) p.1)

  -- some text begins with no word at all
  pub payable : (k : List I) → lawful l.last k ≡ true → (v : List W) × Text g k v
  payable k h = let c = closing k h in (c.0, c.2)
