-- What the readers of an assertion and of a sign have read. Assumes nothing.
use Rattle.std.proofs.Common.{◌≡◌, ℕ, suc, ◌<◌, List, [], ◌∷◌, ◌++◌, vec_items, vec_len, sym, refl, ap, ◌∙◌, subst, arith, lit≤}
use Rattle.model.specs.declared.refusal.Cause.{Cause}
use Rattle.model.specs.declared.refusal.Cause.TheVariants.{Many, Number as Numbered}
use Rattle.text.specs.declared.expressions.Expressions.{Expressions}
use Rattle.text.specs.declared.reading.Fault.{Fault}
use Rattle.text.specs.declared.word.Token.TheVariants.{Number, Empty, OpenBracket, CloseBracket, Colon, Question}
use Rattle.text.specs.declared.word.Word.{Word}
use Rattle.text.specs.declared.word.Scope.{Scope}
use Rattle.text.specs.declared.word.Scope.TheVariants.{Every}
use Rattle.text.specs.Nodes.{TestAt}
use Rattle.text.specs.Derivations.{Condition}
use Rattle.text.specs.LabelSets.{every, these, MoreLabels, Labels as Labelling, question, numbers}
use Rattle.text.specs.Table.{Item, bracketed, unit, more_labels, colon, one_test, joined}
use Rattle.text.specs.Charges.{Memo, counting, with_parts, with_signs}
use Rattle.text.specs.Reading.{reads, place_of, cause_of, FaultAt, Skipped, Unlike, Goes as GoesText}
use Rattle.text.specs.Outcomes.{TestRead, Stopped as TestStopped}
use Rattle.text.proofs.Tests.{is_token}
use Rattle.text.proofs.Going.{sign_goes, sign_stops}
use Rattle.regular.specs.Words.{empty, one}
use Rattle.regular.specs.Sets.{with}
use Rattle.sheet.specs.declared.tree.Node.TheVariants.{One, Empty as EmptyNode}
use Rattle.sheet.specs.declared.tree.Labels.{Labels}
use Rattle.sheet.specs.declared.tree.Labels.TheVariants.{All, Among}
use Rattle.sheet.specs.declared.tree.Leaf.{Leaf}
use Rattle.sheet.specs.declared.tree.Leaf.TheVariants.{Given}
use Rattle.sheet.specs.declared.draft.Draft.{Draft}
use Rattle.sheet.specs.Parts.{labels_of}
use Rattle.sheet.specs.Texts.{marked, is_empty, asserted}
use Rattle.sheet.specs.Drafts.{Asserted, Grown, Drawn}
use Rattle.labels.specs.LabelBits.{LabelStops, NoLabel, MoreRead}
use Rattle.sheet.specs.Owed.{Here, Now, noted, Stops, Stopped, Bracketed, TestedRead, TestedStops, UnitRead, Noded, TooMany, NoRoom}
use Rattle.sheet.proofs.Going.{sign_goes as sign_goes_at, sign_stops as sign_stops_at, part_goes, part_stops, number_goes, number_large, number_many}
use Rattle.sheet.proofs.Drafted.{grown_empty}

pub stopped_by : (S : Cause → List Word → Type 0) (end : ℕ) (f : Fault) (c : Cause) (v : List Word) → f.cause ≡ c → f.place ≡ place_of end v → S c v → Stopped S end f
stopped_by S end f c v e p s = record { words = v; place_is = p; stops = subst (λ (x : Cause). S x v) (sym e) s }

-- the same fault, where reading more comes to it too
pub stopped_on : {S T : Cause → List Word → Type 0} (end : ℕ) (f : Fault) → ((c : Cause) (v : List Word) → S c v → T c v) → Stopped S end f → Stopped T end f
stopped_on end f h s = record { words = s.words; place_is = s.place_is; stops = h f.cause s.words s.stops }

-- the words are given by their first
pub stopped_at : (S : List Word → Cause → List Word → Type 0) (end : ℕ) (f : Fault) (ws vs : List Word) → ws ≡ vs → Stopped (S vs) end f → Stopped (S ws) end f
stopped_at S end f ws vs e s = subst (λ (x : List Word). Stopped (S x) end f) (sym e) s

-- [ B ]
pub bracketed_read : {s : Scope} {left left' : ℕ} {ws inner mid rest : List Word} {x y : Expressions} {i : ℕ} (o d : Word) (r : TestRead (one_test ∷ joined ∷ []) Condition s left' inner x y i mid) → ws ≡ o ∷ inner → o.token ≡ OpenBracket → mid ≡ d ∷ rest → d.token ≡ CloseBracket → GoesText x.counted s left (bracketed ∷ []) (o ∷ inner) rest y.counted → TestRead (bracketed ∷ []) Bracketed s left ws x y i rest
bracketed_read {s} {left} {left'} {ws} {inner} {mid} {rest} {x} {y} o d r e h k g p = record {
  tree = r.tree;
  derives = (o, d, inner, e, h, subst (λ (z : List Word). Condition inner r.tree z) k r.derives, g);
  goes = subst (λ (z : List Word). GoesText x.counted s left (bracketed ∷ []) z rest y.counted) (sym e) p;
  stands = r.stands;
  last = r.last;
  added = r.added;
  ariths = r.ariths;
  added_tests = r.added_tests;
  tests = r.tests;
  count = r.count;
  node_count = r.node_count;
  counted = r.counted;
}

-- an assertion of which the labels have been read
module _ (x z y : Draft) (ls : Labels) (left : ℕ) (ws mid rest : List Word) (i j : ℕ)
    (s : Skipped Colon ws mid) (r : TestRead (bracketed ∷ []) Bracketed Every left mid x.tests z.tests j rest)
    (sn : vec_items z.nodes ≡ vec_items x.nodes) (nn : vec_len z.nodes ≡ vec_len x.nodes) (sl : vec_items z.leaves ≡ vec_items x.leaves) (nl : vec_len z.leaves ≡ vec_len x.leaves) (ns : z.signs ≡ x.signs)
    (a : Asserted z y (Given ls j) i) where
  tested_goes : (m : Memo) (k : List Item) → Here x.tests.counted (suc (vec_len x.leaves)) x.signs left m k → reads ws m (colon ∷ bracketed ∷ k) ≡ reads rest (noted m y) k
  tested_goes m k h =
      sign_goes colon Colon refl ws mid s m (bracketed ∷ k) (let q = h.nested in omega arith)
      ∙ r.goes m k (record { counted = h.counted; scoped = h.scoped; nested = h.nested })
      ∙ ap (λ (p : ℕ). reads rest (with_signs (with_parts (counting m z.tests.counted) p) m.signs) k) (h.parts ∙ ap suc (sym nl) ∙ sym a.leaf_count)
      ∙ ap (λ (p : ℕ). reads rest (with_signs (with_parts (counting m z.tests.counted) (vec_len y.leaves)) p) k) (h.signs ∙ sym ns ∙ sym a.signs)
      ∙ ap (λ (t : Expressions). reads rest (with_signs (with_parts (counting m t.counted) (vec_len y.leaves)) y.signs) k) (sym a.tests)

  tested_grown : Grown x y (one (record { labels = labels_of ls; test = r.tree })) i
  tested_grown = record {
    index = let p = a.at_end in omega arith;
    nodes = a.nodes ∙ ap (λ (l : List _). l ++ One (vec_len z.leaves) ∷ []) sn ∙ ap (λ (k : ℕ). vec_items x.nodes ++ One k ∷ []) nl;
    node_count = let p = a.node_count in omega arith;
    added = Given ls j ∷ [];
    leaves = a.leaves ∙ ap (λ (l : List Leaf). l ++ Given ls j ∷ []) sl;
    leaf_count = let p = a.leaf_count in omega arith;
    stand = ((refl, subst (λ (t : Expressions). TestAt (vec_items t.ariths) (vec_items t.tests) j r.tree) (sym a.tests) r.stands), tt);
    more_ariths = r.added;
    ariths = ap (λ (t : Expressions). vec_items t.ariths) a.tests ∙ r.ariths;
    more_tests = r.added_tests;
    tests = ap (λ (t : Expressions). vec_items t.tests) a.tests ∙ r.tests;
  }

  pub tested_read : TestedRead x ls left ws y i rest
  tested_read = record {
    test = r.tree;
    sign = s.0;
    inside = mid;
    is = s.1;
    is_colon = is_token s.0.token Colon (lit≤ tt) refl s.2;
    derives = r.derives;
    goes = tested_goes;
    grown = (tested_grown, let p = a.node_count in let q = a.leaf_count in let t = a.signs in omega arith);
  }

pub tested_refused : (x : Draft) (left end : ℕ) (ws : List Word) (f : Fault) → Unlike Colon ws → FaultAt end ws f → Stopped (TestedStops x left ws) end f
tested_refused x left end ws f u h = stopped_by (TestedStops x left ws) end f (cause_of ws) ws h.cause_is h.place_is (λ m k _. sign_stops colon Colon refl refl ws u m (bracketed ∷ k))

pub tested_stopped : (x : Draft) (left end : ℕ) (ws mid : List Word) (f : Fault) → Skipped Colon ws mid → TestStopped (bracketed ∷ []) Every left end x.tests.counted mid f → Stopped (TestedStops x left ws) end f
tested_stopped x left end ws mid f s t = record {
  words = t.words;
  place_is = t.place_is;
  stops = λ m k h. sign_goes colon Colon refl ws mid s m (bracketed ∷ k) (let q = h.nested in omega arith) ∙ t.stops m k (record { counted = h.counted; scoped = h.scoped; nested = h.nested });
}

-- the memo of an assertion whose first word has been counted
counted_part : (x : Draft) (left : ℕ) (m : Memo) (k : List Item) → Now x left m k → Here x.tests.counted (suc (vec_len x.leaves)) x.signs left (with_parts m (suc m.parts)) k
counted_part x left m k h = record { counted = h.counted; parts = ap suc h.parts; signs = h.signs; scoped = h.scoped; nested = h.nested }

-- an assertion for all labels
module _ (x : Draft) (left : ℕ) (w : Word) (e : w.token ≡ Question) (ws : List Word) (few : vec_len x.leaves < 60) where
  question_first : (m : Memo) (k : List Item) → Now x left m k → reads (w ∷ ws) m (unit ∷ k) ≡ reads ws (with_parts m (suc m.parts)) (colon ∷ bracketed ∷ k)
  question_first m k h = part_goes unit Question (colon ∷ bracketed ∷ []) (λ p. refl) x left w e ws few m k k h (let q = h.nested in omega arith)

  pub question_read : (y : Draft) (i : ℕ) (rest : List Word) → TestedRead x All left ws y i rest → UnitRead x left (w ∷ ws) y i rest
  question_read y i rest t =
      let b = t.derives in
      record {
        tree = one (record { labels = marked every; test = t.test });
        derives = asserted (subst (λ (z : List Word). Labelling (w ∷ ws) every z) (t.is ∙ ap (λ (z : List Word). t.sign ∷ z) b.3) (question e)) t.is_colon b.4 b.5 b.6;
        goes = λ m k h. question_first m k h ∙ t.goes (with_parts m (suc m.parts)) k (counted_part x left m k h);
        grown = t.grown;
      }

  pub question_stopped : (end : ℕ) (f : Fault) → Stopped (TestedStops x left ws) end f → Stopped (Stops x left (unit ∷ []) (w ∷ ws)) end f
  question_stopped end f s = stopped_on end f (λ c v t m k h. question_first m k h ∙ t (with_parts m (suc m.parts)) k (counted_part x left m k h)) s

pub question_many : (x : Draft) (left : ℕ) (w : Word) → w.token ≡ Question → (ws : List Word) (end : ℕ) (f : Fault) → NoRoom x w.place f → Stopped (Stops x left (unit ∷ []) (w ∷ ws)) end f
question_many x left w e ws end f n = stopped_by (Stops x left (unit ∷ []) (w ∷ ws)) end f Many (w ∷ ws) n.cause_is n.place_is (λ m k h. part_stops unit Question (colon ∷ bracketed ∷ []) (λ p. refl) x left w e ws n.full m k k h)

-- an assertion for some labels
module _ (x : Draft) (left v : ℕ) (w : Word) (e : w.token ≡ Number v) (ws : List Word) (small : v < 64) (few : vec_len x.leaves < 60) where
  number_first : (m : Memo) (k : List Item) → Now x left m k → reads (w ∷ ws) m (unit ∷ k) ≡ reads ws (with_parts m (suc m.parts)) (more_labels ∷ colon ∷ bracketed ∷ k)
  number_first m k h = number_goes v x left w e ws small few m k k h (let q = h.nested in omega arith)

  pub number_read : (mid : List Word) (set : ℕ) → MoreRead (with 0 v) ws set mid → (y : Draft) (i : ℕ) (rest : List Word) → TestedRead x (Among set) left mid y i rest → UnitRead x left (w ∷ ws) y i rest
  number_read mid set l y i rest t =
      let b = t.derives in
      let es : labels_of (Among set) ≡ marked (these (v ∷ l.labels)) = ap (λ (s : ℕ). labels_of (Among s)) l.is in
      record {
        tree = one (record { labels = marked (these (v ∷ l.labels)); test = t.test });
        derives = asserted (numbers e (subst (λ (z : List Word). MoreLabels ws l.labels z) (t.is ∙ ap (λ (z : List Word). t.sign ∷ z) b.3) l.derives)) t.is_colon b.4 b.5 b.6;
        goes = λ m k h. number_first m k h ∙ l.over (with_parts m (suc m.parts)) (colon ∷ bracketed ∷ k) (let q = h.nested in omega arith) ∙ t.goes (with_parts m (suc m.parts)) k (counted_part x left m k h);
        grown = subst (λ (q : _). Drawn x y (one (record { labels = q; test = t.test })) i) es t.grown;
      }

  pub number_labels_stopped : (end : ℕ) (f : Fault) → LabelStops (more_labels ∷ []) end ws f → Stopped (Stops x left (unit ∷ []) (w ∷ ws)) end f
  number_labels_stopped end f s = record { words = s.words; place_is = s.place_is; stops = λ m k h. number_first m k h ∙ s.stops (with_parts m (suc m.parts)) (colon ∷ bracketed ∷ k) (let q = h.nested in omega arith) }

  pub number_stopped : (mid : List Word) (set : ℕ) → MoreRead (with 0 v) ws set mid → (end : ℕ) (f : Fault) → Stopped (TestedStops x left mid) end f → Stopped (Stops x left (unit ∷ []) (w ∷ ws)) end f
  number_stopped mid set l end f s = stopped_on end f (λ c u t m k h. number_first m k h ∙ l.over (with_parts m (suc m.parts)) (colon ∷ bracketed ∷ k) (let q = h.nested in omega arith) ∙ t (with_parts m (suc m.parts)) k (counted_part x left m k h)) s

pub number_too_large : (x : Draft) (left v : ℕ) (w : Word) → w.token ≡ Number v → (ws : List Word) (end : ℕ) (f : Fault) → NoLabel v w f → Stopped (Stops x left (unit ∷ []) (w ∷ ws)) end f
number_too_large x left v w e ws end f n = stopped_by (Stops x left (unit ∷ []) (w ∷ ws)) end f Numbered (w ∷ ws) n.cause_is n.place_is (λ m k h. number_large v x left w e ws n.large m k)

pub number_too_many : (x : Draft) (left v : ℕ) (w : Word) → w.token ≡ Number v → (ws : List Word) → v < 64 → (end : ℕ) (f : Fault) → NoRoom x w.place f → Stopped (Stops x left (unit ∷ []) (w ∷ ws)) end f
number_too_many x left v w e ws s end f n = stopped_by (Stops x left (unit ∷ []) (w ∷ ws)) end f Many (w ∷ ws) n.cause_is n.place_is (λ m k h. number_many v x left w e ws s n.full m k k h)

-- the empty sequence
pub empty_many : (x : Draft) (left : ℕ) (w : Word) → w.token ≡ Empty → (ws : List Word) (end : ℕ) (f : Fault) → TooMany x w.place f → Stopped (Stops x left (unit ∷ []) (w ∷ ws)) end f
empty_many x left w e ws end f n = stopped_by (Stops x left (unit ∷ []) (w ∷ ws)) end f Many (w ∷ ws) n.cause_is n.place_is (λ m k h. sign_stops_at unit Empty [] (λ p. refl) x left w e ws n.full m k k h)

pub empty_read : (x z : Draft) (left : ℕ) (w : Word) → w.token ≡ Empty → (ws : List Word) (i : ℕ) → Noded x z EmptyNode i → UnitRead x left (w ∷ ws) z i ws
empty_read x z left w e ws i n =
    let s = n.same in
    let p = n.pushed in
    record {
      tree = empty;
      derives = is_empty e;
      goes = λ m k h. sign_goes_at unit Empty [] (λ p. refl) x left w e ws z (let c = n.between.few.1 in let q = n.counted in omega arith) (ap (λ (t : Expressions). t.counted) (p.tests ∙ s.tests)) (p.leaf_count ∙ s.leaf_count) (p.signs ∙ n.counted) m k k h (let q = h.nested in omega arith);
      grown = grown_empty x n.between z i s n.counted p;
    }
