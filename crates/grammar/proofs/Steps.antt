-- One word of reading at a time. Assumes nothing.
use mathlib.Core.Path.{◌≡◌, refl, sym, ap, subst, ◌∙◌}
use mathlib.Core.Bool.{Bool, true, false, cond, ◌&&◌}
use mathlib.Core.List.{List, [], ◌∷◌, ◌++◌}
use Prim.Native.Nat.{ℕ}
use native.Mathlib.Omega.{arith}
use borrow.Author.Tests.{clash}
use Rattle.grammar.specs.Grammars.{Grammar, Step, stuck, takes, find, Quiet, Reads, nothing, took, without}
use Rattle.grammar.specs.Answers.{next, feed, leaves, fine, charged, Causes, good, fault, charging, stepping, reading}

pub clash_step : {I R : Type 0} {r : R} {k : List I} → stuck ≡ takes r k → ⊥
clash_step e = let z : ◌≡◌ {A = ℕ} 0 1 = cc in omega arith

both_true : (a b : Bool) → (a && b) ≡ true → (a ≡ true) × (b ≡ true)
both_true true b e = (refl, e)
both_true false b e = absurd (clash e)

module _ {I W R : Type 0} (g : Grammar I W R) where
  -- what pays off js and then k pays off both
  pub joins : {js k : List I} {ws mid rest : List W} → Reads g js ws mid → Reads g k mid rest → Reads g (js ++ k) ws rest
  joins nothing b = b
  joins (took e a c) b = took e a (joins c b)
  joins (without e q c) b = without e q (joins c b)

  pub splits : (js : List I) {k : List I} {ws rest : List W} → Reads g (js ++ k) ws rest → (mid : List W) × Reads g js ws mid × Reads g k mid rest
  splits [] {ws = ws} d = (ws, nothing, d)
  splits (j ∷ js) (took e a c) = let s = splits js c in (s.0, took e a s.1, s.2)
  splits (j ∷ js) (without e q c) = let s = splits js c in (s.0, without e q s.1, s.2)

  -- a word that is fed begins a text as what is owed then goes on
  pub unfed : (k : List I) {r : R} {j : List I} {w : W} {ws rest : List W} → feed g k w ≡ takes r j → Reads g j ws rest → Reads g k (w ∷ ws) rest
  unfed [] e d = absurd (clash_step e)
  unfed (i ∷ k) {r} {j} {w} {ws} {rest} e d = go (find (g.rules i) w) (g.may i) refl refl e (λ h. unfed k h d)
    where
      go : (s : Step I R) (b : Bool) → find (g.rules i) w ≡ s → g.may i ≡ b → next s b k (feed g k w) ≡ takes r j → (feed g k w ≡ takes r j → Reads g k (w ∷ ws) rest) → Reads g (i ∷ k) (w ∷ ws) rest
      go (takes q js) b es eb e below = let same : js ++ k ≡ j = cc in let s = splits js (subst (λ x. Reads g x ws rest) (sym same) d) in took es s.1 s.2
      go stuck true es eb e below = without eb es (below e)
      go stuck false es eb e below = absurd (clash_step e)

  fed_at : {k : List I} {x y : List W} → Reads g k x y → (w : W) (ws : List W) → x ≡ w ∷ ws → y ≡ [] → (r : R) × (j : List I) × (feed g k w ≡ takes r j) × Reads g j ws []
  fed_at nothing w ws e e' = let z : ◌≡◌ {A = ℕ} 0 1 = cc in absurd (omega arith)
  fed_at (took {i = i} {k = k} {js = js} {r = r} {w = v} {ws = vs} h a b) w ws e e' =
      let ew : v ≡ w = cc in
      let es : vs ≡ ws = cc in
      (r, js ++ k, ap (λ x. next (find (g.rules i) x) (g.may i) k (feed g k x)) (sym ew) ∙ ap (λ x. next x (g.may i) k (feed g k v)) h, subst (λ x. Reads g (js ++ k) x []) es (subst (λ y. Reads g (js ++ k) vs y) e' (joins a b)))
  fed_at (without {i = i} {k = k} h q b) w ws e e' =
      let s = fed_at b w ws e e' in
      let quiet : find (g.rules i) w ≡ stuck = subst (λ x. Quiet (g.rules i) x) e q in
      (s.0, s.1, ap (λ x. next x (g.may i) k (feed g k w)) quiet ∙ ap (λ x. next stuck x k (feed g k w)) h ∙ s.2, s.3)

  pub fed : {k : List I} {w : W} {ws : List W} → Reads g k (w ∷ ws) [] → (r : R) × (j : List I) × (feed g k w ≡ takes r j) × Reads g j ws []
  fed d = fed_at d _ _ refl refl

  -- what may be left out is a text with no word, and nothing else is
  pub left_out : (k : List I) → leaves g k ≡ true → Reads g k [] []
  left_out [] e = nothing
  left_out (i ∷ k) e = let p = both_true (g.may i) (leaves g k) e in without p.0 tt (left_out k p.1)

  left_at : {k : List I} {x y : List W} → Reads g k x y → x ≡ [] → leaves g k ≡ true
  left_at nothing e = refl
  left_at (took h a b) e = let z : ◌≡◌ {A = ℕ} 0 1 = cc in absurd (omega arith)
  left_at (without {i = i} {k = k} h q b) e = ap (λ x. x && leaves g k) h ∙ left_at b e

  pub may_leave : {k : List I} → Reads g k [] [] → leaves g k ≡ true
  may_leave d = left_at d refl

  -- an item that may be left out, where no line of it fits, takes no part
  pub feed_without : (i : I) (k : List I) (w : W) → g.may i ≡ true → find (g.rules i) w ≡ stuck → feed g (i ∷ k) w ≡ feed g k w
  feed_without i k w h q = ap (λ x. next x (g.may i) k (feed g k w)) q ∙ ap (λ x. next stuck x k (feed g k w)) h

  pub feed_takes : (i : I) (k : List I) (w : W) (r : R) (js : List I) → find (g.rules i) w ≡ takes r js → feed g (i ∷ k) w ≡ takes r (js ++ k)
  feed_takes i k w r js q = ap (λ x. next x (g.may i) k (feed g k w)) q

  pub feed_stuck : (i : I) (k : List I) (w : W) → g.may i ≡ false → find (g.rules i) w ≡ stuck → feed g (i ∷ k) w ≡ stuck
  feed_stuck i k w h q = ap (λ x. next x (g.may i) k (feed g k w)) q ∙ ap (λ x. next stuck x k (feed g k w)) h

-- reading, one word at a time
module _ {I W R M C : Type 0} (g : Grammar I W R) (f : Causes I W R M C) where
  pub reading_takes : (w : W) (ws : List W) (m n : M) (k j : List I) (r : R) → feed g k w ≡ takes r j → f.charge m r w j ≡ fine n → reading g f (w ∷ ws) m k ≡ reading g f ws n j
  unfolding reading
  reading_takes w ws m n k j r e h = ap (stepping f w ws (reading g f ws) m) e ∙ ap (charging (w ∷ ws) (λ n. reading g f ws n j)) h

  pub reading_charged : (w : W) (ws : List W) (m : M) (k j : List I) (r : R) (c : C) → feed g k w ≡ takes r j → f.charge m r w j ≡ charged c → reading g f (w ∷ ws) m k ≡ fault c (w ∷ ws)
  unfolding reading
  reading_charged w ws m k j r c e h = ap (stepping f w ws (reading g f ws) m) e ∙ ap (charging (w ∷ ws) (λ n. reading g f ws n j)) h

  pub reading_stuck : (w : W) (ws : List W) (m : M) (k : List I) → feed g k w ≡ stuck → reading g f (w ∷ ws) m k ≡ fault (f.wrong w) (w ∷ ws)
  unfolding reading
  reading_stuck w ws m k e = ap (stepping f w ws (reading g f ws) m) e

  pub reading_ended : (m : M) (k : List I) → leaves g k ≡ false → reading g f [] m k ≡ fault f.ended []
  unfolding reading
  reading_ended m k e = ap (λ b. cond b (good m) (fault f.ended [])) e

  pub reading_good : (m : M) (k : List I) → leaves g k ≡ true → reading g f [] m k ≡ good m
  unfolding reading
  reading_good m k e = ap (λ b. cond b (good m) (fault f.ended [])) e

  pub reading_without : (ws : List W) (m : M) (i : I) (k : List I) → g.may i ≡ true → Quiet (g.rules i) ws → reading g f ws m (i ∷ k) ≡ reading g f ws m k
  unfolding reading
  reading_without [] m i k h q = ap (λ b. cond (b && leaves g k) (good m) (fault f.ended [])) h
  reading_without (w ∷ ws) m i k h q = ap (stepping f w ws (reading g f ws) m) (feed_without g i k w h q)
