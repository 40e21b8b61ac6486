-- What the readers of `rest` and of a whole sheet have read. Assumes nothing.
use Rattle.std.proofs.Common.{◌≡◌, ℕ, suc, ◌<◌, List, [], ◌∷◌, length, vec_len, sym, refl, ap, ◌∙◌, subst, inr, arith}
use Rattle.grammar.specs.Answers.{fault, good}
use Rattle.grammar.proofs.Steps.{reading_good}
use Rattle.model.specs.declared.refusal.Cause.TheVariants.{Many}
use Rattle.text.specs.declared.expressions.Expressions.{Expressions}
use Rattle.text.specs.declared.reading.Fault.{Fault}
use Rattle.text.specs.declared.word.Token.TheVariants.{Rest}
use Rattle.text.specs.declared.reading.Limits.{Limits}
use Rattle.text.specs.declared.word.Word.{Word}
use Rattle.text.specs.declared.word.Scope.{Scope}
use Rattle.text.specs.Table.{unit, repeats, expression, table}
use Rattle.text.specs.Charges.{Memo, causes, with_parts}
use Rattle.text.specs.Reading.{reads, cause_of, FaultAt}
use Rattle.regular.specs.Words.{one, star, with_rest}
use Rattle.sheet.specs.declared.tree.Node.TheVariants.{Star, Sequence}
use Rattle.sheet.specs.declared.tree.Leaf.TheVariants.{Anything}
use Rattle.sheet.specs.declared.draft.Draft.{Draft}
use Rattle.sheet.specs.Flat.{any}
use Rattle.sheet.specs.Texts.{NoItem, Derives, choice, strict, rested}
use Rattle.sheet.specs.Drafts.{Pushed, Asserted, Grown}
use Rattle.sheet.specs.Owed.{Now, noted, RowStops, Stopped, NoRoom, RowRead, RestRead, RestStops, WholeRead, WholeStops}
use Rattle.sheet.proofs.Going.{noted_here, as_counted, part_goes, part_stops, nothing_owed, end_good, end_stops}
use Rattle.sheet.proofs.Drafted.{same_ariths, same_tests, grown_star, grown_sequence}
use Rattle.sheet.proofs.Items.{stopped_by, stopped_on}
use Rattle.sheet.proofs.Rows.{ended}

-- the assertion that `rest` repeats
grown_anything : (x y : Draft) (i : ℕ) → Asserted x y Anything i → Grown x y (one any) i
grown_anything x y i a = record {
  index = let p = a.at_end in omega arith;
  nodes = a.nodes;
  node_count = let p = a.node_count in omega arith;
  added = Anything ∷ [];
  leaves = a.leaves;
  leaf_count = let p = a.leaf_count in omega arith;
  stand = (refl, tt);
  more_ariths = [];
  ariths = same_ariths x y a.tests;
  more_tests = [];
  tests = same_tests x y a.tests;
}

module _ (x : Draft) (w : Word) (e : w.token ≡ Rest) (ws : List Word) where
  pub rest_many : (end : ℕ) (f : Fault) → NoRoom x w.place f → Stopped (RestStops x (w ∷ ws)) end f
  rest_many end f n = stopped_by (RestStops x (w ∷ ws)) end f Many (w ∷ ws) n.cause_is n.place_is (λ m h. part_stops expression Rest [] (λ p. refl) x 16 w e ws n.full m [] (expression ∷ []) h)

  module _ (few : vec_len x.leaves < 60) where
    rest_first : (m : Memo) → Now x 16 m (expression ∷ []) → reads (w ∷ ws) m (expression ∷ []) ≡ reads ws (with_parts m (suc m.parts)) []
    rest_first m h = part_goes expression Rest [] (λ p. refl) x 16 w e ws few m [] (expression ∷ []) h (omega arith)

    pub rest_more : (v : Word) (vs : List Word) → ws ≡ v ∷ vs → (end : ℕ) (f : Fault) → FaultAt end ws f → Stopped (RestStops x (w ∷ ws)) end f
    rest_more v vs is end f a = stopped_by (RestStops x (w ∷ ws)) end f (cause_of ws) ws a.cause_is a.place_is (λ m h. rest_first m h ∙ ap (λ (u : List Word). reads u (with_parts m (suc m.parts)) []) is ∙ nothing_owed v vs (with_parts m (suc m.parts)) ∙ ap (λ (u : List Word). fault (cause_of u) u) (sym is))

    pub rest_read : ws ≡ [] → (i j k h : ℕ) (a b y : Draft) → Asserted x a Anything j → Pushed a b (Star j) k → Pushed b y (Sequence i k) h → RestRead x i (w ∷ ws) ws y
    rest_read is i j k h a b y p q r = record {
      ended = is;
      goes = λ m n.
          rest_first m n
          ∙ ap (λ (u : List Word). reads u (with_parts m (suc m.parts)) []) is
          ∙ reading_good table causes (with_parts m (suc m.parts)) [] refl
          ∙ ap good (as_counted (with_parts m (suc m.parts)) y.tests.counted (vec_len y.leaves) y.signs (n.counted ∙ sym (ap (λ (t : Expressions). t.counted) (r.tests ∙ q.tests ∙ p.tests))) (ap suc n.parts ∙ sym (r.leaf_count ∙ q.leaf_count ∙ p.leaf_count)) (n.signs ∙ sym (r.signs ∙ q.signs ∙ p.signs)));
      index = h;
      grows = λ d t g. grown_sequence d x b y t (star (one any)) i k h g (grown_star x a b (one any) j k (grown_anything x a j p) q) r;
    }

-- what is so with the limits of a whole text
pub from_new : {l : Limits} {s : Scope} {end : ℕ} → l ≡ record { scope = s; end = end; left = 16 } → (P : ℕ → ℕ → Type 0) → P l.left l.end → P 16 end
from_new e P h = subst (λ (l : Limits). P l.left l.end) e h

-- a whole sheet
module _ (x y : Draft) (ws : List Word) (i : ℕ) (rest : List Word) (r : RowRead choice x 16 ws y i rest) where
  whole_first : (m : Memo) → Now x 16 m (expression ∷ []) → reads ws m (unit ∷ repeats ∷ expression ∷ []) ≡ reads rest (noted m y) (expression ∷ [])
  whole_first m h = r.goes m [] expression (inr refl) h

  pub whole_strict : rest ≡ [] → WholeRead x ws y
  whole_strict is = record {
    tree = r.tree;
    derives = strict (subst (λ (u : List Word). Derives choice ws r.tree u) is r.derives);
    goes = λ m h. whole_first m h ∙ ap (λ (u : List Word). reads u (noted m y) (expression ∷ [])) is ∙ end_good (noted m y);
    index = i;
    grown = r.grown.0;
  }

  pub whole_rested : (w : Word) (vs : List Word) (z : Draft) → rest ≡ w ∷ vs → w.token ≡ Rest → RestRead y i (w ∷ vs) vs z → WholeRead x ws z
  whole_rested w vs z is e t = record {
    tree = with_rest r.tree;
    derives = rested (subst (λ (u : List Word). Derives choice ws r.tree u) (is ∙ ap (λ (u : List Word). w ∷ u) t.ended) r.derives) e;
    goes = λ m h. whole_first m h ∙ ap (λ (u : List Word). reads u (noted m y) (expression ∷ [])) is ∙ t.goes (noted m y) (noted_here y 16 m (expression ∷ []) h);
    index = t.index;
    grown = t.grows x r.tree r.grown.0;
  }

  pub whole_rest_stopped : (w : Word) (vs : List Word) → rest ≡ w ∷ vs → (end : ℕ) (f : Fault) → Stopped (RestStops y (w ∷ vs)) end f → Stopped (WholeStops x ws) end f
  whole_rest_stopped w vs is end f s = stopped_on end f (λ c v t m h. whole_first m h ∙ ap (λ (u : List Word). reads u (noted m y) (expression ∷ [])) is ∙ t (noted m y) (noted_here y 16 m (expression ∷ []) h)) s

  pub whole_more : (w : Word) (vs : List Word) → rest ≡ w ∷ vs → (w.token ≡ Rest → ⊥) → (end : ℕ) (f : Fault) → FaultAt end rest f → Stopped (WholeStops x ws) end f
  whole_more w vs is n end f a =
      let z = ended r.derives in
      let none = subst NoItem is z.0 in
      let free = subst (Rattle.text.specs.Derivations.Free (Rattle.text.specs.declared.word.Token.TheVariants.Bar ∷ [])) is z.1 in
      stopped_by (WholeStops x ws) end f (cause_of rest) rest a.cause_is a.place_is (λ m h. whole_first m h ∙ ap (λ (u : List Word). reads u (noted m y) (expression ∷ [])) is ∙ end_stops w vs n none free (noted m y) ∙ ap (λ (u : List Word). fault (cause_of u) u) (sym is))

pub whole_stopped : (x : Draft) (ws : List Word) (end : ℕ) (f : Fault) → Stopped (RowStops x 16 ws) end f → Stopped (WholeStops x ws) end f
whole_stopped x ws end f s = stopped_on end f (λ c v t m h. t m [] expression (inr refl) h) s

pub first_word : (ws : List Word) → (length ws ≡ 0 → ⊥) → (w : Word) × (vs : List Word) × (ws ≡ w ∷ vs)
first_word [] h = absurd (h refl)
first_word (w ∷ ws) h = (w, ws, refl)
