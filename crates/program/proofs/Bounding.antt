-- How the table reads the numbers of a declaration. Assumes nothing.
use Rattle.std.proofs.Common.{◌≡◌, Result, Ok, Err, MatchResult, ℕ, ◌<◌, ◌≤◌, Bool, false, ltb, List, [], ◌∷◌, true, inl, inr, ℤ, pos, ◌-ℤ◌, ◌≤ℤ◌, sym, refl, ap, ◌∙◌, subst, arith, lit≤, w16, to_z, of_z, le-ltb, lt-ltb}
use Rattle.grammar.specs.Grammars.{Quiet}
use Rattle.grammar.specs.Answers.{fine, charged, fault}
use Rattle.model.specs.declared.refusal.Cause.TheVariants.{Number as Numbered}
use Rattle.text.specs.declared.word.Token.TheVariants.{Number, Minus}
use Rattle.text.specs.declared.word.Word.{Word}
use Rattle.text.specs.Words.{at, amount}
use Rattle.text.specs.Table.{bounds, negates, Item, bound, bare_bound, rules_of, line}
use Rattle.text.specs.Charges.{Memo, charge, when, deep, negating, bounding, signed, open_in}
use Rattle.text.specs.Reading.{reads}
use Rattle.text.proofs.Tests.{is_token}
use Rattle.text.proofs.Going.{takes_word, charges_word, refuses, not_deep}
use Rattle.traces.specs.Proper.{proper}
use Rattle.std.proofs.lemmas.Int.{ints}
use Rattle.grammar.proofs.Trees.{find_later}
use Rattle.text.specs.declared.reading.Fault.{Fault}
use Rattle.text.specs.Reading.{FaultAt, Unlike}
use Rattle.syntax.specs.Phrases.{plainly, negated}
use Rattle.program.specs.Headers.{shifted, BoundRead, BoundStopped, NumberRead, NumberStopped}

module _ (w : Word) (ws : List Word) (n : ℕ) (e : w.token ≡ Number n) where
  number_fine : (m : Memo) (k : List Item) → n ≤ 1000 → open_in k ≤ 16 → charge m bounds w k ≡ fine (bounding m n)
  number_fine m k h d = ap (λ t. when (ltb 1000 (amount t)) Numbered (deep k (bounding m (amount t)))) e ∙ ap (λ b. when b Numbered (deep k (bounding m n))) (le-ltb 1000 n h) ∙ not_deep k (bounding m n) d

  number_large : (m : Memo) (k : List Item) → 1000 < n → charge m bounds w k ≡ charged Numbered
  number_large m k h = ap (λ t. when (ltb 1000 (amount t)) Numbered (deep k (bounding m (amount t)))) e ∙ ap (λ b. when b Numbered (deep k (bounding m n))) (lt-ltb 1000 n h)

  bounded : (m : Memo) → m.negative ≡ false → bounding m n ≡ shifted m (pos n)
  bounded m p = ap (λ b. shifted m (signed b n)) p

  plain_read : (z : ℤ) → n ≤ 1000 → z ≡ pos n → BoundRead (w ∷ ws) z ws
  plain_read z h q = subst (λ y. BoundRead (w ∷ ws) y ws) (sym q) (record {
    derives = plainly e;
    floor = omega (arith, ints);
    ceiling = omega (arith, ints);
    goes = λ m k p d. takes_word bound (Number n) bounds [] w e (λ _. refl) ws m (shifted m (pos n)) k (number_fine m k h d ∙ ap fine (bounded m p));
  })

  plain_large : (end : ℕ) (f : Fault) → 1000 < n → f.cause ≡ Numbered → f.place ≡ w.place → BoundStopped end (w ∷ ws) f
  plain_large end f h c l = record { words = w ∷ ws; place_is = l; stops = λ m k p d. charges_word bound (Number n) bounds [] w e (λ _. refl) ws m k Numbered (number_large m k h) ∙ ap (λ x. fault x (w ∷ ws)) (sym c) }

-- - and a number
module _ (v : Word) (vs : List Word) (f : v.token ≡ Minus) where
  minus_goes : (m : Memo) (k : List Item) → open_in k ≤ 16 → reads (v ∷ vs) m (bound ∷ k) ≡ reads vs (negating m) (bare_bound ∷ k)
  minus_goes m k d = takes_word bound Minus negates (bare_bound ∷ []) v f (λ _. refl) vs m (negating m) k (not_deep (bare_bound ∷ k) (negating m) (omega arith))

  minus_read : (w : Word) (ws : List Word) (n : ℕ) (z : ℤ) → w.token ≡ Number n → vs ≡ w ∷ ws → n ≤ 1000 → z ≡ pos 0 -ℤ pos n → BoundRead (v ∷ vs) z ws
  minus_read w ws n z e s h q = subst (λ y. BoundRead (v ∷ vs) y ws) (sym q) (subst (λ us. BoundRead (v ∷ us) (pos 0 -ℤ pos n) ws) (sym s) (record {
    derives = negated f e;
    floor = omega (arith, ints);
    ceiling = omega (arith, ints);
    goes = λ m k p d. subst (λ us. reads (v ∷ us) m (bound ∷ k) ≡ reads us (negating m) (bare_bound ∷ k)) s (minus_goes m k d)
        ∙ takes_word bare_bound (Number n) bounds [] w e (λ _. refl) ws (negating m) (shifted m (pos 0 -ℤ pos n)) k (number_fine w ws n e (negating m) k h d);
  }))

  minus_large : (w : Word) (ws : List Word) (n end : ℕ) (g : Fault) → w.token ≡ Number n → vs ≡ w ∷ ws → 1000 < n → g.cause ≡ Numbered → g.place ≡ w.place → BoundStopped end (v ∷ vs) g
  minus_large w ws n end g e s h c l = record {
    words = w ∷ ws;
    place_is = l;
    stops = λ m k p d. minus_goes m k d ∙ ap (λ us. reads us (negating m) (bare_bound ∷ k)) s ∙ charges_word bare_bound (Number n) bounds [] w e (λ _. refl) ws (negating m) k Numbered (number_large w ws n e (negating m) k h) ∙ ap (λ x. fault x (w ∷ ws)) (sym c);
  }

  minus_none : (end : ℕ) (g : Fault) → Quiet (rules_of bare_bound) vs → FaultAt end vs g → BoundStopped end (v ∷ vs) g
  minus_none end g q a = record { words = vs; place_is = a.place_is; stops = λ m k p d. minus_goes m k d ∙ refuses bare_bound refl vs q (negating m) k ∙ ap (λ x. fault x vs) (sym a.cause_is) }

bound_none : (ws : List Word) (end : ℕ) (g : Fault) → Quiet (rules_of bound) ws → FaultAt end ws g → BoundStopped end ws g
bound_none ws end g q a = record { words = ws; place_is = a.place_is; stops = λ m k p d. refuses bound refl ws q m k ∙ ap (λ x. fault x ws) (sym a.cause_is) }

quiet_bare : (ws : List Word) → Unlike (Number 0) ws → Quiet (rules_of bare_bound) ws
quiet_bare [] u = tt
quiet_bare (w ∷ ws) u = find_later (line (at (Number 0)) bounds []) [] w u

quiet_bound : (ws : List Word) → Unlike (Number 0) ws → Unlike Minus ws → Quiet (rules_of bound) ws
quiet_bound [] u v = tt
quiet_bound (w ∷ ws) u v = find_later (line (at (Number 0)) bounds []) (line (at Minus) negates (bare_bound ∷ []) ∷ []) w u ∙ find_later (line (at Minus) negates (bare_bound ∷ [])) [] w v

-- ---- what the readers answer
pub onward : {X E : Type 0} {P P' : X → Type 0} {Q Q' : E → Type 0} (r : Result X E) → MatchResult r P Q → ((x : X) → P x → P' x) → ((e : E) → Q e → Q' e) → MatchResult r P' Q'
onward (Ok x) h f g = f x h
onward (Err e) h f g = g e h

pub bound_plain : (ws : List Word) (z : ℤ) (rest : List Word) → NumberRead ws z rest → BoundRead ws z rest
bound_plain ws z rest x = subst (λ u. BoundRead u z rest) (sym x.words) (plain_read x.word rest x.number x.token z x.few x.value)

pub bound_plainly_stopped : (end : ℕ) (ws : List Word) (f : Fault) → Unlike Minus ws → NumberStopped end ws f → BoundStopped end ws f
bound_plainly_stopped end ws f v (inl x) = subst (λ u. BoundStopped end u f) (sym x.words) (plain_large x.word x.rest x.number x.token end f x.many x.cause_is x.place_is)
bound_plainly_stopped end ws f v (inr x) = bound_none ws end f (quiet_bound ws x.1 v) x.0

pub bound_negated : {ws : List Word} {w : Word} {vs rest : List Word} {n z : ℤ} → (ws ≡ w ∷ vs) × (at Minus w ≡ true) → NumberRead vs n rest → (n ≤ℤ pos 1000 → pos 0 ≤ℤ n → z ≡ pos 0 -ℤ n) → BoundRead ws z rest
bound_negated {w = w} {vs = vs} {rest = rest} {z = z} s x e = subst (λ u. BoundRead u z rest) (sym s.0)
    (minus_read w vs (is_token w.token Minus (lit≤ tt) refl s.1) x.word rest x.number z x.token x.words x.few (e (rw x.value (omega (arith, ints, x.few))) (rw x.value (omega (arith, ints))) ∙ ap (λ y. pos 0 -ℤ y) x.value))

pub bound_negated_stopped : {end : ℕ} {ws : List Word} {w : Word} {vs : List Word} {f : Fault} → (ws ≡ w ∷ vs) × (at Minus w ≡ true) → NumberStopped end vs f → BoundStopped end ws f
bound_negated_stopped {end} {w = w} {vs = vs} {f = f} s (inl x) = subst (λ u. BoundStopped end u f) (sym s.0)
    (minus_large w vs (is_token w.token Minus (lit≤ tt) refl s.1) x.word x.rest x.number end f x.token x.words x.many x.cause_is x.place_is)
bound_negated_stopped {end} {w = w} {vs = vs} {f = f} s (inr x) = subst (λ u. BoundStopped end u f) (sym s.0)
    (minus_none w vs (is_token w.token Minus (lit≤ tt) refl s.1) end f (quiet_bare vs x.1) x.0)

-- a number of a declaration is the same in 16 bits
pub same : {ws : List Word} {z : ℤ} {rest : List Word} → BoundRead ws z rest → to_z w16 (of_z w16 z) ≡ z
same {z = z} b = let f = b.floor in let c = b.ceiling in omega (arith, ints)

pub proper_same : {ws₁ ws₂ ws₃ ws₄ ws₅ : List Word} {z₁ z₂ z₃ z₄ : ℤ} {t : Bool} → BoundRead ws₁ z₁ ws₂ → BoundRead ws₂ z₂ ws₃ → BoundRead ws₃ z₃ ws₄ → BoundRead ws₄ z₄ ws₅
    → proper (to_z w16 (of_z w16 z₁)) (to_z w16 (of_z w16 z₂)) (to_z w16 (of_z w16 z₃)) (to_z w16 (of_z w16 z₄)) ≡ t → proper z₁ z₂ z₃ z₄ ≡ t
proper_same {z₁ = z₁} {z₂ = z₂} {z₃ = z₃} {z₄ = z₄} {t = t} a b c d e =
    subst (λ x. proper x z₂ z₃ z₄ ≡ t) (same a) (subst (λ x. proper (to_z w16 (of_z w16 z₁)) x z₃ z₄ ≡ t) (same b) (subst (λ x. proper (to_z w16 (of_z w16 z₁)) (to_z w16 (of_z w16 z₂)) x z₄ ≡ t) (same c)
    (subst (λ x. proper (to_z w16 (of_z w16 z₁)) (to_z w16 (of_z w16 z₂)) (to_z w16 (of_z w16 z₃)) x ≡ t) (same d) e)))
