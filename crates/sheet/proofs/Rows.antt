-- What the readers of items, rows and alternatives have read, put together from their parts. Assumes nothing.
use Rattle.std.proofs.Common.{◌≡◌, ℕ, suc, ◌<◌, ◌≤◌, true, List, [], ◌∷◌, length, vec_len, sym, refl, ap, ◌∙◌, ◌⊎◌, subst, inl, inr, arith, lit≤}
use Rattle.grammar.specs.Answers.{fault}
use Rattle.model.specs.declared.refusal.Cause.TheVariants.{Many, Deep}
use Rattle.text.specs.declared.expressions.Expressions.{Expressions}
use Rattle.text.specs.declared.reading.Fault.{Fault}
use Rattle.text.specs.declared.word.Token.TheVariants.{OpenParen, CloseParen, Plus, Bar, Star}
use Rattle.text.specs.declared.word.Word.{Word}
use Rattle.text.specs.Expressions.{Test}
use Rattle.text.specs.Derivations.{Free, Condition, condition}
use Rattle.text.specs.LabelSets.{LabelSet, MoreLabels, no_comma, comma, Labels, question, numbers}
use Rattle.text.proofs.Conditions.{tests_shorter}
use Rattle.text.specs.Table.{Item, unit, repeats, group}
use Rattle.text.specs.Charges.{Memo, open_in}
use Rattle.text.specs.declared.reading.Limits.{Limits}
use Rattle.text.specs.Words.{at}
use Rattle.text.specs.Reading.{reads, cause_of, FaultAt, Skipped, Unlike, Deeper, TooDeep}
use Rattle.text.proofs.Tests.{is_token, kinds_differ}
use Rattle.text.proofs.Going.{refuses, leaves_out}
use Rattle.regular.specs.Words.{Regex, sequence, alternative, star, plus}
use Rattle.sheet.specs.declared.tree.Node.{Node}
use Rattle.sheet.specs.declared.tree.Node.TheVariants.{Sequence, Alternative, Star as StarNode, Plus as PlusNode}
use Rattle.sheet.specs.declared.draft.Draft.{Draft}
use Rattle.sheet.specs.Texts.{NoItem, Part, Derives, is_empty, asserted, item, repeated, row, onto, choice, or_else, in_parens, not_repeated, starred, plussed, in_a_row, row_ends, next_in_row, chosen, no_bar, barred}
use Rattle.sheet.specs.Drafts.{SameParts, Pushed, Drawn}
use Rattle.sheet.specs.Owed.{Now, noted, Stops, Tail, RowStops, TailGoes, TailStops, Stopped, UnitRead, RepeatsRead, RepeatsStop, RepeatSign, Noded, TooMany, ItemRead, ItemBegins, NextItem, RowRead, NextRow}
use Rattle.sheet.proofs.Tabled.{quiet_repeats}
use Rattle.sheet.proofs.Going.{tail_loop, noted_here, sign_goes, sign_stops, quiet_unit, open_goes, open_deep, close_goes, close_stops, loop_item}
use Rattle.sheet.proofs.Drafted.{drawn_star, drawn_plus, drawn_sequence, drawn_alternative, grown_signed}
use Rattle.sheet.proofs.Items.{stopped_by, stopped_on}

-- `*` and `+`
-- what a node for a sign counts
noded_counted : {x y : Draft} {node : Node} {j : ℕ} (n : Noded x y node j) → y.tests.counted ≡ x.tests.counted
noded_counted n = ap (λ (t : Expressions). t.counted) (n.pushed.tests ∙ n.same.tests)

noded_parts : {x y : Draft} {node : Node} {j : ℕ} (n : Noded x y node j) → vec_len y.leaves ≡ vec_len x.leaves
noded_parts n = n.pushed.leaf_count ∙ n.same.leaf_count

noded_signs : {x y : Draft} {node : Node} {j : ℕ} (n : Noded x y node j) → y.signs ≡ suc x.signs
noded_signs n = n.pushed.signs ∙ n.counted

noded_few : {x y : Draft} {node : Node} {j : ℕ} (n : Noded x y node j) → x.signs < 256
noded_few n = let a = n.between.few.1 in let b = n.counted in omega arith

star_first : (x y : Draft) (w : Word) (ws : List Word) (node : Node) (j : ℕ) → w.token ≡ Star → Noded x y node j → (left : ℕ) (m : Memo) (k : List Item) → Now x left m k → reads (w ∷ ws) m (repeats ∷ k) ≡ reads ws (noted m y) (repeats ∷ k)
star_first x y w ws node j e n left m k h = sign_goes repeats Star (repeats ∷ []) (λ p. refl) x left w e ws y (noded_few n) (noded_counted n) (noded_parts n) (noded_signs n) m k k h (let q = h.nested in omega arith)

plus_first : (x y : Draft) (w : Word) (ws : List Word) (node : Node) (j : ℕ) → w.token ≡ Plus → Noded x y node j → (left : ℕ) (m : Memo) (k : List Item) → Now x left m k → reads (w ∷ ws) m (repeats ∷ k) ≡ reads ws (noted m y) (repeats ∷ k)
plus_first x y w ws node j e n left m k h = sign_goes repeats Plus (repeats ∷ []) (λ p. refl) x left w e ws y (noded_few n) (noded_counted n) (noded_parts n) (noded_signs n) m k k h (let q = h.nested in omega arith)

-- turns of the loop over the signs behind an item: from ws with an item at index i to rest with one at index j
pub record Repeating (x : Draft) (i : ℕ) (ws : List Word) (y : Draft) (j : ℕ) (rest : List Word) : Type 0 where
  pub goes : (left : ℕ) (m : Memo) (k : List Item) → Now x left m k → reads ws m (repeats ∷ k) ≡ reads rest (noted m y) (repeats ∷ k)
  pub grows : (d : Draft) (e : Regex) → Drawn d x e i → (g : Regex) × Drawn d y g j × ((f : Regex) (r : List Word) → Derives (repeated g) rest f r → Derives (repeated e) ws f r)

repeating_star : (x y : Draft) (i j : ℕ) (w : Word) (ws : List Word) → w.token ≡ Star → Noded x y (StarNode i) j → Repeating x i (w ∷ ws) y j ws
repeating_star x y i j w ws e n = record {
  goes = λ left m k h. star_first x y w ws (StarNode i) j e n left m k h;
  grows = λ d t g. (star t, drawn_star d x n.between y t i j g n.same n.counted n.pushed, λ f r q. starred e q);
}

repeating_plus : (x y : Draft) (i j : ℕ) (w : Word) (ws : List Word) → w.token ≡ Plus → Noded x y (PlusNode i) j → Repeating x i (w ∷ ws) y j ws
repeating_plus x y i j w ws e n = record {
  goes = λ left m k h. plus_first x y w ws (PlusNode i) j e n left m k h;
  grows = λ d t g. (plus t, drawn_plus d x n.between y t i j g n.same n.counted n.pushed, λ f r q. plussed e q);
}

repeating_sign : (x y : Draft) (i j : ℕ) (ws : List Word) (node : Node) (w : Word) (rest : List Word) → RepeatSign i ws node w rest → Noded x y node j → Repeating x i ws y j rest
repeating_sign x y i j ws node w rest s n =
    subst (λ (v : List Word). Repeating x i v y j rest) (sym s.words)
    (elim s.sign [
      | inl a ↦ repeating_star x y i j w rest a.0 (subst (λ (o : Node). Noded x y o j) a.1 n)
      | inr a ↦ repeating_plus x y i j w rest a.0 (subst (λ (o : Node). Noded x y o j) a.1 n)
    ])

pub repeating_more : (x : Draft) (i : ℕ) (ws : List Word) (y : Draft) (j : ℕ) (mid : List Word) (z : Draft) (h : ℕ) (node : Node) (w : Word) (rest : List Word) → Repeating x i ws y j mid → RepeatSign j mid node w rest → Noded y z node h → Repeating x i ws z h rest
repeating_more x i ws y j mid z h node w rest r s n =
    let t = repeating_sign y z j h mid node w rest s n in
    record {
      goes = λ left m k a. r.goes left m k a ∙ t.goes left (noted m y) k (noted_here y left m k a);
      grows = λ d e g. let u = r.grows d e g in let v = t.grows d u.0 u.1 in (v.0, v.1, λ f q p. u.2 f q (v.2 f q p));
    }

pub repeats_read : (x : Draft) (i : ℕ) (ws : List Word) (y : Draft) (j : ℕ) (rest : List Word) → Repeating x i ws y j rest → Free (Star ∷ Plus ∷ []) rest → RepeatsRead x ws i y j rest
repeats_read x i ws y j rest r f = record {
  goes = λ left m k h. r.goes left m k h ∙ leaves_out repeats refl rest (quiet_repeats rest f) (noted m y) k;
  grows = λ d e g. let u = r.grows d e g in (u.0, u.2 u.0 rest (not_repeated f), u.1);
}

sign_many : (x : Draft) (w : Word) (ws : List Word) → (w.token ≡ Star) ⊎ (w.token ≡ Plus) → 256 ≤ x.signs → (left : ℕ) (m : Memo) (k : List Item) → Now x left m k → reads (w ∷ ws) m (repeats ∷ k) ≡ fault Many (w ∷ ws)
sign_many x w ws (inl e) l left m k h = sign_stops repeats Star (repeats ∷ []) (λ p. refl) x left w e ws l m k k h
sign_many x w ws (inr e) l left m k h = sign_stops repeats Plus (repeats ∷ []) (λ p. refl) x left w e ws l m k k h

pub repeats_many : (x : Draft) (i : ℕ) (ws : List Word) (y : Draft) (j : ℕ) (mid : List Word) (node : Node) (w : Word) (rest : List Word) (end : ℕ) (f : Fault) → Repeating x i ws y j mid → RepeatSign j mid node w rest → TooMany y w.place f → Stopped (RepeatsStop x ws) end f
repeats_many x i ws y j mid node w rest end f r s n =
    let e : (w.token ≡ Star) ⊎ (w.token ≡ Plus) = elim s.sign [ inl a ↦ inl a.0 | inr a ↦ inr a.0 ] in
    stopped_by (RepeatsStop x ws) end f Many (w ∷ rest) n.cause_is n.place_is (λ left m k h. r.goes left m k h ∙ ap (λ (v : List Word). reads v (noted m y) (repeats ∷ k)) s.words ∙ sign_many y w rest e n.full left (noted m y) k (noted_here y left m k h))

-- an item with the `*` and `+` behind it
pub item_read : (x y z : Draft) (left : ℕ) (ws mid : List Word) (i j : ℕ) (rest : List Word) → UnitRead x left ws y i mid → RepeatsRead y mid i z j rest → ItemRead x left ws z j rest
item_read x y z left ws mid i j rest u r =
    let g = r.grows x u.tree u.grown in
    record {
      bare = u.tree;
      behind = mid;
      tree = g.0;
      derives = u.derives;
      repeating = g.1;
      goes = λ m k h. u.goes m (repeats ∷ k) (record { counted = h.counted; parts = h.parts; signs = h.signs; scoped = h.scoped; nested = let n = h.nested in omega arith }) ∙ r.goes left (noted m y) k (noted_here y left m k h);
      grown = g.2;
    }

pub item_unit_stopped : (x : Draft) (left : ℕ) (ws : List Word) (end : ℕ) (f : Fault) → Stopped (Stops x left (unit ∷ []) ws) end f → Stopped (Stops x left (unit ∷ repeats ∷ []) ws) end f
item_unit_stopped x left ws end f s = stopped_on end f (λ c v t m k h. t m (repeats ∷ k) (record { counted = h.counted; parts = h.parts; signs = h.signs; scoped = h.scoped; nested = let n = h.nested in omega arith })) s

pub item_repeats_stopped : (x y : Draft) (left : ℕ) (ws mid : List Word) (i end : ℕ) (f : Fault) → UnitRead x left ws y i mid → Stopped (RepeatsStop y mid) end f → Stopped (Stops x left (unit ∷ repeats ∷ []) ws) end f
item_repeats_stopped x y left ws mid i end f u s = stopped_on end f (λ c v t m k h. u.goes m (repeats ∷ k) (record { counted = h.counted; parts = h.parts; signs = h.signs; scoped = h.scoped; nested = let n = h.nested in omega arith }) ∙ t left (noted m y) k (noted_here y left m k h)) s

-- one more item in a row
same_noted : (m : Memo) (y z : Draft) → z.tests ≡ y.tests → vec_len z.leaves ≡ vec_len y.leaves → z.signs ≡ y.signs → noted m y ≡ noted m z
same_noted m y z a b c =
    let f : ℕ → ℕ → ℕ → Memo = λ n p q. Rattle.text.specs.Charges.with_signs (Rattle.text.specs.Charges.with_parts (Rattle.text.specs.Charges.counting m n) p) q in
    ap (λ (t : Expressions). f t.counted (vec_len y.leaves) y.signs) (sym a) ∙ ap (λ (p : ℕ). f z.tests.counted p y.signs) (sym b) ∙ ap (f z.tests.counted (vec_len z.leaves)) (sym c)

pub next_item : (x y z : Draft) (left i : ℕ) (ws : List Word) (j h : ℕ) (rest : List Word) → ItemRead x left ws y j rest → Pushed y z (Sequence i j) h → NextItem x left i ws z h rest
next_item x y z left i ws j h rest r p = record {
  bare = r.bare;
  behind = r.behind;
  tree = r.tree;
  derives = r.derives;
  repeating = r.repeating;
  goes = λ m k a. r.goes m k a ∙ ap (λ (n : Memo). reads rest n k) (same_noted m y z p.tests p.leaf_count p.signs);
  grows = λ d e g. drawn_sequence d x y z e r.tree i j h g r.grown p;
}

-- turns of the loop over a row: from ws with a row at index i to rest with a row at index j
pub record Rowing (left : ℕ) (x : Draft) (i : ℕ) (ws : List Word) (y : Draft) (j : ℕ) (rest : List Word) : Type 0 where
  pub goes : TailGoes x left ws rest y
  pub grows : (d : Draft) (e : Regex) → Drawn d x e i → (g : Regex) × Drawn d y g j × ((f : Regex) (r : List Word) → Derives (onto g) rest f r → Derives (onto e) ws f r)

item_at : (z : Item) → Tail z → (ws : List Word) → ItemBegins ws → (m : Memo) (k : List Item) → reads ws m (z ∷ k) ≡ reads ws m (unit ∷ repeats ∷ z ∷ k)
item_at z t ws b m k = ap (λ (v : List Word). reads v m (z ∷ k)) b.is ∙ loop_item z (tail_loop z t) b.word b.behind b.begins m k ∙ ap (λ (v : List Word). reads v m (unit ∷ repeats ∷ z ∷ k)) (sym b.is)

pub rowing_more : (left : ℕ) (x : Draft) (i : ℕ) (ws : List Word) (y : Draft) (j : ℕ) (mid : List Word) (z : Draft) (h : ℕ) (rest : List Word) → Rowing left x i ws y j mid → ItemBegins mid → NextItem y left j mid z h rest → Rowing left x i ws z h rest
rowing_more left x i ws y j mid z h rest r b n = record {
  goes = λ m k t a q. r.goes m k t a q ∙ item_at t a mid b (noted m y) k ∙ n.goes (noted m y) (t ∷ k) (noted_here y left m (t ∷ k) q);
  grows = λ d e g. let u = r.grows d e g in (sequence u.0 n.tree, n.grows d u.0 u.1, λ f s q. u.2 f s (next_in_row n.derives n.repeating q));
}

pub row_read : (left : ℕ) (x : Draft) (ws : List Word) (y : Draft) (i : ℕ) (mid : List Word) (z : Draft) (j : ℕ) (rest : List Word) → ItemRead x left ws y i mid → Rowing left y i mid z j rest → NoItem rest → RowRead row x left ws z j rest
row_read left x ws y i mid z j rest r w e =
    let u = w.grows x r.tree r.grown in
    record {
      tree = u.0;
      derives = in_a_row r.derives r.repeating (u.2 u.0 rest (row_ends e));
      goes = λ m k t a h. r.goes m (t ∷ k) h ∙ w.goes (noted m y) k t a (noted_here y left m (t ∷ k) h);
      grown = u.1;
    }

pub row_first_stopped : (x : Draft) (left : ℕ) (ws : List Word) (end : ℕ) (f : Fault) → Stopped (Stops x left (unit ∷ repeats ∷ []) ws) end f → Stopped (RowStops x left ws) end f
row_first_stopped x left ws end f s = stopped_on end f (λ c v t m k z a h. t m (z ∷ k) h) s

pub row_stopped : (left : ℕ) (x : Draft) (ws : List Word) (y : Draft) (i : ℕ) (mid : List Word) (z : Draft) (j : ℕ) (rest : List Word) (end : ℕ) (f : Fault) → ItemRead x left ws y i mid → Rowing left y i mid z j rest → ItemBegins rest → Stopped (Stops z left (unit ∷ repeats ∷ []) rest) end f → Stopped (RowStops x left ws) end f
row_stopped left x ws y i mid z j rest end f r w b s = stopped_on end f (λ c v t m k q a h. r.goes m (q ∷ k) h ∙ w.goes (noted m y) k q a (noted_here y left m (q ∷ k) h) ∙ item_at q a rest b (noted m z) k ∙ t (noted m z) (q ∷ k) (noted_here z left m (q ∷ k) h)) s

-- `|`
module _ (x y : Draft) (left : ℕ) (w : Word) (e : w.token ≡ Bar) (ws : List Word) (s : SameParts x y) (q : y.signs ≡ suc x.signs) where
  bar_first : (m : Memo) (k : List Item) (z : Item) → Tail z → Now x left m (z ∷ k) → reads (w ∷ ws) m (z ∷ k) ≡ reads ws (noted m y) (unit ∷ repeats ∷ z ∷ k)
  bar_first m k z t h = sign_goes z Bar (unit ∷ repeats ∷ z ∷ []) (tail_loop z t).at_bar x left w e ws y (let a = y.few.1 in omega arith) (ap (λ (u : Expressions). u.counted) s.tests) s.leaf_count q m k (z ∷ k) h (let n = h.nested in omega arith)

  pub next_row : (i : ℕ) (u v : Draft) (j h : ℕ) (rest : List Word) → RowRead row y left ws u j rest → Pushed u v (Alternative i j) h → NextRow x left i (w ∷ ws) ws v h rest
  next_row i u v j h rest r p = record {
    tree = r.tree;
    derives = r.derives;
    goes = λ m k z t a. bar_first m k z t a ∙ r.goes (noted m y) k z t (noted_here y left m (z ∷ k) a) ∙ ap (λ (n : Memo). reads rest n (z ∷ k)) (same_noted m u v p.tests p.leaf_count p.signs);
    grows = λ d t g. drawn_alternative d y u v t r.tree i j h (grown_signed d x y t i g s q) r.grown p;
  }

  pub next_row_stopped : (end : ℕ) (f : Fault) → Stopped (RowStops y left ws) end f → Stopped (TailStops x left (w ∷ ws)) end f
  next_row_stopped end f r = stopped_on end f (λ c v t m k z a h. bar_first m k z a h ∙ t (noted m y) k z a (noted_here y left m (z ∷ k) h)) r

pub next_row_many : (x : Draft) (left : ℕ) (w : Word) → w.token ≡ Bar → (ws : List Word) (end : ℕ) (f : Fault) → TooMany x w.place f → Stopped (TailStops x left (w ∷ ws)) end f
next_row_many x left w e ws end f n = stopped_by (TailStops x left (w ∷ ws)) end f Many (w ∷ ws) n.cause_is n.place_is (λ m k z t h. sign_stops z Bar (unit ∷ repeats ∷ z ∷ []) (tail_loop z t).at_bar x left w e ws n.full m k (z ∷ k) h)

-- turns of the loop over alternatives
pub record Choosing (left : ℕ) (x : Draft) (i : ℕ) (ws : List Word) (y : Draft) (j : ℕ) (rest : List Word) : Type 0 where
  pub goes : TailGoes x left ws rest y
  pub grows : (d : Draft) (e : Regex) → Drawn d x e i → (g : Regex) × Drawn d y g j × ((f : Regex) (r : List Word) → Derives (or_else g) rest f r → Derives (or_else e) ws f r)

pub choosing_more : (left : ℕ) (x : Draft) (i : ℕ) (ws : List Word) (y : Draft) (j : ℕ) (mid : List Word) (w : Word) (vs : List Word) (z : Draft) (h : ℕ) (rest : List Word) → Choosing left x i ws y j mid → mid ≡ w ∷ vs → w.token ≡ Bar → NextRow y left j (w ∷ vs) vs z h rest → Choosing left x i ws z h rest
choosing_more left x i ws y j mid w vs z h rest r e b n = record {
  goes = λ m k t a q. r.goes m k t a q ∙ ap (λ (u : List Word). reads u (noted m y) (t ∷ k)) e ∙ n.goes (noted m y) k t a (noted_here y left m (t ∷ k) q);
  grows = λ d t g. let u = r.grows d t g in (alternative u.0 n.tree, n.grows d u.0 u.1, λ f s q. u.2 f s (subst (λ (v : List Word). Derives (or_else u.0) v f s) (sym e) (barred b n.derives q)));
}

pub choice_read : (left : ℕ) (x : Draft) (ws : List Word) (y : Draft) (i : ℕ) (mid : List Word) (z : Draft) (j : ℕ) (rest : List Word) → RowRead row x left ws y i mid → Choosing left y i mid z j rest → Free (Bar ∷ []) rest → RowRead choice x left ws z j rest
choice_read left x ws y i mid z j rest r w e =
    let u = w.grows x r.tree r.grown in
    record {
      tree = u.0;
      derives = chosen r.derives (u.2 u.0 rest (no_bar e));
      goes = λ m k t a h. r.goes m k t a h ∙ w.goes (noted m y) k t a (noted_here y left m (t ∷ k) h);
      grown = u.1;
    }

pub choice_stopped : (left : ℕ) (x : Draft) (ws : List Word) (y : Draft) (i : ℕ) (mid : List Word) (z : Draft) (j : ℕ) (rest : List Word) (w : Word) (vs : List Word) (end : ℕ) (f : Fault) → RowRead row x left ws y i mid → Choosing left y i mid z j rest → rest ≡ w ∷ vs → Stopped (TailStops z left (w ∷ vs)) end f → Stopped (RowStops x left ws) end f
choice_stopped left x ws y i mid z j rest w vs end f r c e s = stopped_on end f (λ o v t m k q a h. r.goes m k q a h ∙ c.goes (noted m y) k q a (noted_here y left m (q ∷ k) h) ∙ ap (λ (u : List Word). reads u (noted m z) (q ∷ k)) e ∙ t (noted m z) k q a (noted_here z left m (q ∷ k) h)) s

-- how a row and alternatives end: where no item follows a row, none follows the alternatives behind it
abbrev Ended : Part → List Word → List Word → Type 0
Ended item ws rest = Unit {0}
Ended (repeated e) ws rest = Unit {0}
Ended row ws rest = NoItem rest
Ended (onto e) ws rest = NoItem rest
Ended choice ws rest = NoItem rest × Free (Bar ∷ []) rest
Ended (or_else e) ws rest = (NoItem ws → NoItem rest) × Free (Bar ∷ []) rest

pub ended : {p : Part} {ws : List Word} {e : Regex} {rest : List Word} → Derives p ws e rest → Ended p ws rest
ended (is_empty e) = tt
ended (in_parens e d h) = tt
ended (asserted l e h b g) = tt
ended (not_repeated f) = tt
ended (starred e d) = tt
ended (plussed e d) = tt
ended (in_a_row d f g) = ended g
ended (row_ends f) = f
ended (next_in_row d f g) = ended g
ended (chosen d f) = ((ended f).0 (ended d), (ended f).1)
ended (no_bar f) = (λ h. h, f)
ended (barred e d f) = (λ _. (ended f).0 (ended d), (ended f).1)

-- a group
module _ (x : Draft) (limits within : Limits) (w : Word) (e : w.token ≡ OpenParen) (ws : List Word) (l : Deeper limits within) where
  inner : (m : Memo) (k : List Item) → Now x limits.left m k → Now x within.left m (group ∷ k)
  inner m k h = record { counted = h.counted; parts = h.parts; signs = h.signs; scoped = h.scoped; nested = let n = h.nested in let d = l.left in omega arith }

  group_first : (m : Memo) (k : List Item) → Now x limits.left m k → reads (w ∷ ws) m (unit ∷ k) ≡ reads ws m (unit ∷ repeats ∷ group ∷ k)
  group_first m k h = open_goes w e ws m k (let n = h.nested in let d = l.left in omega arith)

  pub group_read : (y : Draft) (i : ℕ) (mid rest : List Word) → RowRead choice x within.left ws y i mid → Skipped CloseParen mid rest → UnitRead x limits.left (w ∷ ws) y i rest
  group_read y i mid rest r s = record {
    tree = r.tree;
    derives = in_parens e (subst (λ (v : List Word). Derives choice ws r.tree v) s.1 r.derives) (is_token s.0.token CloseParen (lit≤ tt) refl s.2);
    goes = λ m k h. group_first m k h ∙ r.goes m k group (inl refl) (inner m k h) ∙ close_goes mid rest s (noted m y) k (let n = h.nested in omega arith);
    grown = r.grown;
  }

  pub group_inner_stopped : (f : Fault) → Stopped (RowStops x within.left ws) within.end f → Stopped (Stops x limits.left (unit ∷ []) (w ∷ ws)) limits.end f
  group_inner_stopped f s = subst (λ (end : ℕ). Stopped (Stops x limits.left (unit ∷ []) (w ∷ ws)) end f) l.end (stopped_on within.end f (λ c v t m k h. group_first m k h ∙ t m k group (inl refl) (inner m k h)) s)

  pub group_open : (y : Draft) (i : ℕ) (mid : List Word) (end : ℕ) (f : Fault) → RowRead choice x within.left ws y i mid → Unlike CloseParen mid → FaultAt end mid f → Stopped (Stops x limits.left (unit ∷ []) (w ∷ ws)) end f
  group_open y i mid end f r u a =
      let z = ended r.derives in
      stopped_by (Stops x limits.left (unit ∷ []) (w ∷ ws)) end f (cause_of mid) mid a.cause_is a.place_is (λ m k h. group_first m k h ∙ r.goes m k group (inl refl) (inner m k h) ∙ close_stops mid u z.0 z.1 (noted m y) k)

pub group_deep : (x : Draft) (limits : Limits) (w : Word) → w.token ≡ OpenParen → (ws : List Word) (end : ℕ) (f : Fault) → TooDeep limits w f → Stopped (Stops x limits.left (unit ∷ []) (w ∷ ws)) end f
group_deep x limits w e ws end f d = stopped_by (Stops x limits.left (unit ∷ []) (w ∷ ws)) end f Deep (w ∷ ws) d.cause_is d.place_is (λ m k h. open_deep w e ws m k (let n = h.nested in let l = d.none_left in omega arith))

pub unit_refused : (x : Draft) (left : ℕ) (ws : List Word) (end : ℕ) (f : Fault) → NoItem ws → FaultAt end ws f → Stopped (Stops x left (unit ∷ []) ws) end f
unit_refused x left ws end f q a = stopped_by (Stops x left (unit ∷ []) ws) end f (cause_of ws) ws a.cause_is a.place_is (λ m k h. refuses unit refl ws (quiet_unit ws q) m k)

pub unit_at : {x z : Draft} {left j : ℕ} {rest : List Word} (us vs : List Word) → us ≡ vs → UnitRead x left vs z j rest → UnitRead x left us z j rest
unit_at {x} {z} {left} {j} {rest} us vs e r = subst (λ (ws : List Word). UnitRead x left ws z j rest) (sym e) r

-- words are used up
more_labels_shorter : {ws rest : List Word} {ns : List ℕ} → MoreLabels ws ns rest → length rest ≤ length ws
more_labels_shorter (no_comma f) = omega arith
more_labels_shorter (comma e h d) = let p = more_labels_shorter d in omega arith

labels_shorter : {ws rest : List Word} {s : LabelSet} → Labels ws s rest → length rest < length ws
labels_shorter (question e) = omega arith
labels_shorter (numbers e d) = let p = more_labels_shorter d in omega arith

condition_shorter : {ws rest : List Word} {t : Test} → Condition ws t rest → length rest < length ws
condition_shorter (condition d f) = let p = tests_shorter d in let q = tests_shorter f in omega arith

abbrev Shorter : Part → List Word → List Word → Type 0
Shorter item ws rest = length rest < length ws
Shorter (repeated e) ws rest = length rest ≤ length ws
Shorter row ws rest = length rest < length ws
Shorter (onto e) ws rest = length rest ≤ length ws
Shorter choice ws rest = length rest < length ws
Shorter (or_else e) ws rest = length rest ≤ length ws

pub shorter : {p : Part} {ws : List Word} {e : Regex} {rest : List Word} → Derives p ws e rest → Shorter p ws rest
shorter (is_empty e) = omega arith
shorter (in_parens e d h) = let p = shorter d in omega arith
shorter (asserted l e h b g) = let p = labels_shorter l in let q = condition_shorter b in omega arith
shorter (not_repeated f) = omega arith
shorter (starred e d) = let p = shorter d in omega arith
shorter (plussed e d) = let p = shorter d in omega arith
shorter (in_a_row d f g) = let p = shorter d in let q = shorter f in let r = shorter g in omega arith
shorter (row_ends f) = omega arith
shorter (next_in_row d f g) = let p = shorter d in let q = shorter f in let r = shorter g in omega arith
shorter (chosen d f) = let p = shorter d in let q = shorter f in omega arith
shorter (no_bar f) = omega arith
shorter (barred e d f) = let p = shorter d in let q = shorter f in omega arith

-- no `|` follows
pub free_bar : (ws : List Word) → Unlike Bar ws → Free (Bar ∷ []) ws
free_bar [] u = tt
free_bar (w ∷ ws) u = (kinds_differ w.token Bar u, tt)

pub is_bar : (w : Word) → at Bar w ≡ true → w.token ≡ Bar
is_bar w e = is_token w.token Bar (lit≤ tt) refl e
