-- Boolean expressions that have been read, put together from their parts. Assumes nothing.
use Rattle.std.proofs.Common.{◌≡◌, ℕ, suc, ◌+◌, ◌<◌, ◌≤◌, List, [], ◌∷◌, ◌++◌, length, Some, vec_items, vec_len, sym, refl, ap, ◌∙◌, subst, append_assoc, append-nil, arith, lit≤}
use Rattle.model.specs.Cells.{at as at_place}
use Rattle.model.specs.declared.refusal.Cause.TheVariants.{Many}
use Rattle.grammar.specs.Grammars.{find, takes, Quiet}
use Rattle.grammar.proofs.Trees.{find_later}
use Rattle.text.specs.declared.boolean.Compare.{Compare}
use Rattle.text.specs.declared.boolean.Compare.TheVariants.{Less as LessCompare, AtMost as AtMostCompare, Equal as EqualCompare}
use Rattle.text.specs.declared.boolean.Link.{Link}
use Rattle.text.specs.declared.boolean.Link.TheVariants.{And as AndLink, Or as OrLink, Nand as NandLink}
use Rattle.text.specs.declared.expressions.Expressions.{Expressions}
use Rattle.text.specs.declared.node.ArithNode.{ArithNode}
use Rattle.text.specs.declared.node.TestNode.{TestNode}
use Rattle.text.specs.declared.node.TestNode.TheVariants.{Always}
use Rattle.text.specs.declared.reading.Fault.{Fault}
use Rattle.text.specs.declared.word.Word.{Word}
use Rattle.text.specs.declared.word.Token.TheVariants.{True, OpenBracket, CloseBracket, Less, AtMost, Equal, And, Or, Nand}
use Rattle.text.specs.declared.word.Scope.{Scope}
use Rattle.text.specs.Words.{at}
use Rattle.text.specs.Expressions.{Arith, Test, always}
use Rattle.text.specs.Nodes.{nodes, ArithAt, TestAt}
use Rattle.text.specs.Table.{Item, operand, more, one_test, joined, comparison, counted, rules_of, line}
use Rattle.text.specs.Charges.{Memo, counting}
use Rattle.text.specs.Derivations.{Sum, Tests, one_of, onto_test, is_true, is_less, is_at_most, is_equal, in_brackets, no_more_tests, ands, ors, nands, Condition, condition, Free, TestPart, sum}
use Rattle.text.specs.Reading.{reads, Here, Goes, Stops, cause_of, FaultAt}
use Rattle.text.specs.Pools.{SameNodes, TestPushed}
use Rattle.text.specs.Outcomes.{ArithRead, TestRead, Stopped}
use Rattle.text.specs.Links.{compare_token, compare_node, compare_tree, link_token, link_node, link_tree, Linked}
use Rattle.text.proofs.Tests.{other_kind}
use Rattle.text.proofs.Derived.{quiet_joined}
use Rattle.text.proofs.Going.{leaves_out, refuses, counted_goes, counted_many, test_as_sum}
use Rattle.text.proofs.Stands.{at_last, vec_long, arith_more, test_more}
use Rattle.text.proofs.Parts.{stops_by, shorter}

-- `true` has been read
pub truth_goes : (n : ℕ) (s : Scope) (left : ℕ) (w : Word) (ws : List Word) → w.token ≡ True → n < 256 → Goes n s left (one_test ∷ []) (w ∷ ws) ws (suc n)
truth_goes n s left w ws e l m k h = counted_goes n s left one_test True [] w e (λ k. refl) (λ p. refl) l ws m k h

pub truth_many : (n : ℕ) (s : Scope) (left : ℕ) (w : Word) (ws : List Word) → w.token ≡ True → 256 ≤ n → Stops n s left (one_test ∷ []) (w ∷ ws) Many (w ∷ ws)
truth_many n s left w ws e l m k h = counted_many n s left one_test True [] w e (λ k. refl) (λ p. refl) l ws m k h

pub truth_read : (s : Scope) (left : ℕ) (w : Word) (ws : List Word) (x x₁ y : Expressions) (i : ℕ) → w.token ≡ True → SameNodes x x₁ × (x₁.counted ≡ suc x.counted) → TestPushed x₁ y Always i → TestRead (one_test ∷ []) (Tests one_of) s left (w ∷ ws) x y i ws
truth_read s left w ws x x₁ y i e c q = record {
  tree = always;
  derives = is_true e;
  goes = subst (Goes x.counted s left (one_test ∷ []) (w ∷ ws) ws) (sym (q.counted ∙ c.1)) (truth_goes x.counted s left w ws e (let b = x₁.few in let d = c.1 in omega arith));
  stands = ap (λ ts. at_place ts i) q.tests ∙ ap (at_place (vec_items x₁.tests ++ Always ∷ [])) (q.at_end ∙ vec_long x₁.tests) ∙ at_last (vec_items x₁.tests) Always;
  last = let a = q.at_end in let b = q.test_count in omega arith;
  added = [];
  ariths = q.ariths ∙ c.0.ariths ∙ sym (append-nil _);
  added_tests = Always ∷ [];
  tests = q.tests ∙ ap (λ v. v ++ Always ∷ []) c.0.tests;
  count = 1;
  node_count = let a = q.arith_count in let b = q.test_count in let d = c.0.arith_count in let f = c.0.test_count in omega arith;
  counted = let a = q.counted in let b = c.1 in omega arith;
}

-- Two sums that are compared.
module _ (s : Scope) (left : ℕ) where
  abbrev Behind : List Item → List Item
  Behind k = comparison ∷ operand ∷ more ∷ k

  under : {n n' : ℕ} {m : Memo} {k j : List Item} → Rattle.text.specs.Charges.open_in j ≡ Rattle.text.specs.Charges.open_in k → Here n s left m k → Here n' s left (counting m n') j
  under e h = record { counted = refl; scoped = h.scoped; nested = let a = h.nested in omega arith }

  same_place : {n : ℕ} {m : Memo} {k j : List Item} → Rattle.text.specs.Charges.open_in j ≡ Rattle.text.specs.Charges.open_in k → Here n s left m k → Here n s left m j
  same_place e h = record { counted = h.counted; scoped = h.scoped; nested = let a = h.nested in omega arith }

  -- after the first sum
  first_sum : (ws mid : List Word) (n n' : ℕ) → Free (True ∷ OpenBracket ∷ []) ws → Goes n s left (operand ∷ more ∷ []) ws mid n' → (m : Memo) (k : List Item) → Here n s left m k → reads ws m (one_test ∷ k) ≡ reads mid (counting m n') (Behind k)
  first_sum ws mid n n' f g m k h = test_as_sum ws f m k ∙ g m (Behind k) (same_place (omega arith) h)

  pub compare_stopped_first : (end n : ℕ) (ws : List Word) (f : Fault) → Free (True ∷ OpenBracket ∷ []) ws → Stopped (operand ∷ more ∷ []) s left end n ws f → Stopped (one_test ∷ []) s left end n ws f
  compare_stopped_first end n ws f fr g = record { words = g.words; place_is = g.place_is; stops = λ m k h. test_as_sum ws fr m k ∙ g.stops m (Behind k) (same_place (omega arith) h) }

  quiet_compare : (ws : List Word) → Free (Less ∷ AtMost ∷ Equal ∷ []) ws → Quiet (rules_of comparison) ws
  quiet_compare [] f = tt
  quiet_compare (w ∷ ws) f = find_later (line (at Less) counted []) (line (at AtMost) counted [] ∷ line (at Equal) counted [] ∷ []) w (other_kind w.token Less (lit≤ tt) refl f.0) ∙ find_later (line (at AtMost) counted []) (line (at Equal) counted [] ∷ []) w (other_kind w.token AtMost (lit≤ tt) refl f.1.0) ∙ find_later (line (at Equal) counted []) [] w (other_kind w.token Equal (lit≤ tt) refl f.1.1.0)

  pub compare_refused : (end : ℕ) (ws mid : List Word) (x y : Expressions) (i : ℕ) (f : Fault) → Free (True ∷ OpenBracket ∷ []) ws → ArithRead (operand ∷ more ∷ []) Sum s left ws x y i mid → FaultAt end mid f × Free (Less ∷ AtMost ∷ Equal ∷ []) mid → Stopped (one_test ∷ []) s left end x.counted ws f
  compare_refused end ws mid x y i f fr r g = stops_by f (cause_of mid) mid g.0.cause_is g.0.place_is (λ m k h. first_sum ws mid x.counted y.counted fr r.goes m k h ∙ refuses comparison refl mid (quiet_compare mid g.1) (counting m y.counted) (operand ∷ more ∷ k))

  compare_found : (j : Compare) (p : ℕ) → find (rules_of comparison) (record { token = compare_token j; place = p }) ≡ takes counted []
  compare_found LessCompare p = refl
  compare_found AtMostCompare p = refl
  compare_found EqualCompare p = refl

  pub compare_many : (end : ℕ) (ws mid : List Word) (x y : Expressions) (i : ℕ) (j : Compare) (w : Word) (vs : List Word) (f : Fault) → Free (True ∷ OpenBracket ∷ []) ws → ArithRead (operand ∷ more ∷ []) Sum s left ws x y i mid → mid ≡ w ∷ vs → w.token ≡ compare_token j → 256 ≤ y.counted → f.cause ≡ Many → f.place ≡ w.place → Stopped (one_test ∷ []) s left end x.counted ws f
  compare_many end ws mid x y i j w vs f fr r e tok l c p = stops_by f Many (w ∷ vs) c p (λ m k h. first_sum ws mid x.counted y.counted fr r.goes m k h ∙ ap (λ v. reads v (counting m y.counted) (Behind k)) e ∙ counted_many y.counted s left comparison (compare_token j) [] w tok (λ k. refl) (compare_found j) l vs (counting m y.counted) (operand ∷ more ∷ k) (under (omega arith) h))

  -- after the comparison
  second_sum : (ws mid : List Word) (x y y₁ : Expressions) (i : ℕ) (j : Compare) (w : Word) (vs : List Word) → Free (True ∷ OpenBracket ∷ []) ws → ArithRead (operand ∷ more ∷ []) Sum s left ws x y i mid → mid ≡ w ∷ vs → w.token ≡ compare_token j → y₁.counted ≡ suc y.counted → (m : Memo) (k : List Item) → Here x.counted s left m k → reads ws m (one_test ∷ k) ≡ reads vs (counting m y₁.counted) (operand ∷ more ∷ k)
  second_sum ws mid x y y₁ i j w vs fr r e tok c m k h = first_sum ws mid x.counted y.counted fr r.goes m k h ∙ ap (λ v. reads v (counting m y.counted) (Behind k)) e ∙ counted_goes y.counted s left comparison (compare_token j) [] w tok (λ k. refl) (compare_found j) (let b = y₁.few in omega arith) vs (counting m y.counted) (operand ∷ more ∷ k) (under (omega arith) h) ∙ ap (λ v. reads vs (counting m v) (operand ∷ more ∷ k)) (sym c)

  pub compare_stopped : (end : ℕ) (ws mid : List Word) (x y y₁ : Expressions) (i : ℕ) (j : Compare) (w : Word) (vs : List Word) (f : Fault) → Free (True ∷ OpenBracket ∷ []) ws → ArithRead (operand ∷ more ∷ []) Sum s left ws x y i mid → mid ≡ w ∷ vs → w.token ≡ compare_token j → y₁.counted ≡ suc y.counted → Stopped (operand ∷ more ∷ []) s left end y₁.counted vs f → Stopped (one_test ∷ []) s left end x.counted ws f
  compare_stopped end ws mid x y y₁ i j w vs f fr r e tok c g = record { words = g.words; place_is = g.place_is; stops = λ m k h. second_sum ws mid x y y₁ i j w vs fr r e tok c m k h ∙ g.stops (counting m y₁.counted) k (under refl h) }

  compare_derives : (j : Compare) {ws vs rest : List Word} {w : Word} {a b : Arith} → Sum ws a (w ∷ vs) → w.token ≡ compare_token j → Sum vs b rest → Tests one_of ws (compare_tree j a b) rest
  compare_derives LessCompare p e q = is_less p e q
  compare_derives AtMostCompare p e q = is_at_most p e q
  compare_derives EqualCompare p e q = is_equal p e q

  compare_stands : (j : Compare) (ns : List ArithNode) (ts : List TestNode) (p l i : ℕ) (a b : Arith) → at_place ts p ≡ Some (compare_node j l i) → ArithAt ns l a → ArithAt ns i b → TestAt ns ts p (compare_tree j a b)
  compare_stands LessCompare ns ts p l i a b e ha hb = (l, i, e, ha, hb)
  compare_stands AtMostCompare ns ts p l i a b e ha hb = (l, i, e, ha, hb)
  compare_stands EqualCompare ns ts p l i a b e ha hb = (l, i, e, ha, hb)

  pub compare_read : (ws mid : List Word) (x y y₁ z z₁ : Expressions) (l i p : ℕ) (j : Compare) (w : Word) (vs rest : List Word) (node : TestNode) → Free (True ∷ OpenBracket ∷ []) ws → ArithRead (operand ∷ more ∷ []) Sum s left ws x y l mid → mid ≡ w ∷ vs → w.token ≡ compare_token j → SameNodes y y₁ × (y₁.counted ≡ suc y.counted) → ArithRead (operand ∷ more ∷ []) Sum s left vs y₁ z i rest → node ≡ compare_node j l i → TestPushed z z₁ node p → TestRead (one_test ∷ []) (Tests one_of) s left ws x z₁ p rest
  compare_read ws mid x y y₁ z z₁ l i p j w vs rest node fr r e tok c r₂ same q = record {
    tree = compare_tree j r.tree r₂.tree;
    derives = compare_derives j (subst (λ v. Sum ws r.tree v) e r.derives) tok r₂.derives;
    goes = λ m k h. second_sum ws mid x y y₁ l j w vs fr r e tok c.1 m k h ∙ r₂.goes (counting m y₁.counted) k (under refl h) ∙ ap (λ v. reads rest (counting m v) k) (sym q.counted);
    stands = compare_stands j (vec_items z₁.ariths) (vec_items z₁.tests) p l i r.tree r₂.tree there (subst (λ ns. ArithAt ns l r.tree) (sym (q.ariths ∙ grown)) (arith_more (vec_items y.ariths) r₂.added l r.tree r.stands)) (subst (λ ns. ArithAt ns i r₂.tree) (sym q.ariths) r₂.stands);
    last = let a = q.at_end in let b = q.test_count in omega arith;
    added = r.added ++ r₂.added;
    ariths = q.ariths ∙ grown ∙ ap (λ v. v ++ r₂.added) r.ariths ∙ append_assoc (vec_items x.ariths) r.added r₂.added;
    added_tests = node ∷ [];
    tests = q.tests ∙ ap (λ v. v ++ node ∷ []) (r₂.tests ∙ c.0.tests ∙ r.tests);
    count = nodes r.tree + suc (nodes r₂.tree);
    node_count = let a1 = q.arith_count in let a2 = q.test_count in let a3 = r₂.arith_count in let a4 = r₂.test_count in let a5 = c.0.arith_count in let a6 = c.0.test_count in let a7 = r.arith_count in let a8 = r.test_count in omega arith;
    counted = let a1 = q.counted in let a2 = r₂.counted in let a3 = c.1 in let a4 = r.counted in omega arith;
  }
    where
      grown : vec_items z.ariths ≡ vec_items y.ariths ++ r₂.added
      grown = r₂.ariths ∙ ap (λ v. v ++ r₂.added) c.0.ariths

      there : at_place (vec_items z₁.tests) p ≡ Some (compare_node j l i)
      there = ap (λ ts. at_place ts p) q.tests ∙ ap (at_place (vec_items z.tests ++ node ∷ [])) (q.at_end ∙ vec_long z.tests) ∙ at_last (vec_items z.tests) node ∙ ap Some same

-- a fault at the words, where they are given by their first, and what was read there
pub read_at : {js : List Item} {D : List Word → Test → List Word → Type 0} {s : Scope} {left : ℕ} {ws vs rest : List Word} {x y : Expressions} {i : ℕ} → ws ≡ vs → TestRead js D s left vs x y i rest → TestRead js D s left ws x y i rest
read_at {js} {D} {s} {left} {rest = rest} {x = x} {y = y} {i = i} e r = subst (λ v. TestRead js D s left v x y i rest) (sym e) r

-- a condition in brackets is a test
pub group_read : {s : Scope} {left left' : ℕ} {ws vs mid rest : List Word} {x y : Expressions} {i : ℕ} → (r : TestRead (one_test ∷ joined ∷ []) Condition s left' vs x y i mid) → Tests one_of ws r.tree rest → Goes x.counted s left (one_test ∷ []) ws rest y.counted → TestRead (one_test ∷ []) (Tests one_of) s left ws x y i rest
group_read r d g = record { tree = r.tree; derives = d; goes = g; stands = r.stands; last = r.last; added = r.added; ariths = r.ariths; added_tests = r.added_tests; tests = r.tests; count = r.count; node_count = r.node_count; counted = r.counted }

pub grouped : {o c : Word} {ws mid rest : List Word} {t : Test} → o.token ≡ OpenBracket → Condition ws t mid → mid ≡ c ∷ rest → c.token ≡ CloseBracket → Tests one_of (o ∷ ws) t rest
grouped e (condition {mid = m} {s = s} {t = t} d f) h k = in_brackets e d (subst (λ y. Tests (onto_test s) m t y) h f) k

-- an operator that goes on with a test, and the test behind it
link_found : (j : Link) (p : ℕ) → find (rules_of joined) (record { token = link_token j; place = p }) ≡ takes counted (one_test ∷ joined ∷ [])
link_found AndLink p = refl
link_found OrLink p = refl
link_found NandLink p = refl

pub link_many : (j : Link) (n : ℕ) (s : Scope) (left : ℕ) (w : Word) (ws : List Word) → w.token ≡ link_token j → 256 ≤ n → Stops n s left (joined ∷ []) (w ∷ ws) Many (w ∷ ws)
link_many j n s left w ws e l m k h = counted_many n s left joined (link_token j) (one_test ∷ joined ∷ []) w e (λ k. omega arith) (link_found j) l ws m k h

link_goes : (j : Link) (n : ℕ) (s : Scope) (left : ℕ) (w : Word) (ws : List Word) → w.token ≡ link_token j → n < 256 → (m : Memo) (k : List Item) → Here n s left m k → reads (w ∷ ws) m (joined ∷ k) ≡ reads ws (counting m (suc n)) (one_test ∷ joined ∷ k)
link_goes j n s left w ws e l m k h = counted_goes n s left joined (link_token j) (one_test ∷ joined ∷ []) w e (λ k. omega arith) (link_found j) l ws m k h

under_joined : {n n' : ℕ} {s : Scope} {left : ℕ} {m : Memo} {k : List Item} → Here n s left m k → Here n' s left (counting m n') (joined ∷ k)
under_joined h = record { counted = refl; scoped = h.scoped; nested = let e = h.nested in omega arith }

pub link_stopped : (j : Link) (s : Scope) (left end : ℕ) (w : Word) (ws : List Word) (x y : Expressions) (f : Fault) → w.token ≡ link_token j → y.counted ≡ suc x.counted → Stopped (one_test ∷ []) s left end y.counted ws f → Stopped (joined ∷ []) s left end x.counted (w ∷ ws) f
link_stopped j s left end w ws x y f e c g = record {
  words = g.words;
  place_is = g.place_is;
  stops = λ m k h. link_goes j x.counted s left w ws e (let b = y.few in omega arith) m k h ∙ ap (λ v. reads ws (counting m v) (one_test ∷ joined ∷ k)) (sym c) ∙ g.stops (counting m y.counted) (joined ∷ k) (under_joined h);
}

link_stands : (j : Link) (ns : List ArithNode) (ts : List TestNode) (p l i : ℕ) (a b : Test) → at_place ts p ≡ Some (link_node j l i) → l < p → i < p → TestAt ns ts l a → TestAt ns ts i b → TestAt ns ts p (link_tree j a b)
link_stands AndLink ns ts p l i a b e o q ha hb = (l, i, e, o, q, ha, hb)
link_stands OrLink ns ts p l i a b e o q ha hb = (l, i, e, o, q, ha, hb)
link_stands NandLink ns ts p l i a b e o q ha hb = (l, i, e, o, q, ha, hb)

pub link_read : (j : Link) (l : ℕ) (s : Scope) (left : ℕ) (w : Word) (ws rest : List Word) (x x₁ y z : Expressions) (i p : ℕ) (node : TestNode) → w.token ≡ link_token j → SameNodes x x₁ × (x₁.counted ≡ suc x.counted) → TestRead (one_test ∷ []) (Tests one_of) s left ws x₁ y i rest → node ≡ link_node j l i → TestPushed y z node p → Linked l j s left (w ∷ ws) x z p rest
link_read j l s left w ws rest x x₁ y z i p node e c r same q = record {
  behind = w;
  right_words = ws;
  words = refl;
  right = r.tree;
  derives = r.derives;
  goes = λ m k h. link_goes j x.counted s left w ws e (let b = x₁.few in let d = c.1 in omega arith) m k h ∙ ap (λ v. reads ws (counting m v) (one_test ∷ joined ∷ k)) (sym c.1) ∙ r.goes (counting m x₁.counted) (joined ∷ k) (under_joined h) ∙ ap (λ v. reads rest (counting m v) (joined ∷ k)) (sym q.counted);
  stands = λ a h e'. link_stands j (vec_items z.ariths) (vec_items z.tests) p l i a r.tree there (before e') (let f = r.last in let g = q.at_end in omega arith) (subst (λ ns. TestAt ns (vec_items z.tests) l a) (sym alla) (subst (λ ts. TestAt (vec_items x.ariths ++ r.added) ts l a) (sym all) (test_more (vec_items x.ariths) r.added (vec_items x.tests) (r.added_tests ++ node ∷ []) l a h))) (subst (λ ns. TestAt ns (vec_items z.tests) i r.tree) (sym (q.ariths ∙ sym (append-nil _))) (subst (λ ts. TestAt (vec_items y.ariths ++ []) ts i r.tree) (sym q.tests) (test_more (vec_items y.ariths) [] (vec_items y.tests) (node ∷ []) i r.tree r.stands)));
  last = let f = r.last in let g = q.at_end in let b = q.test_count in omega arith;
  added = r.added;
  ariths = alla;
  added_tests = r.added_tests ++ node ∷ [];
  tests = all;
  count = suc r.count;
  node_count = let b = r.node_count in let d = c.0.arith_count in let d2 = c.0.test_count in let f = q.arith_count in let f2 = q.test_count in omega arith;
  counted = let b = r.counted in let d = c.1 in let f = q.counted in omega arith;
}
  where
    alla : vec_items z.ariths ≡ vec_items x.ariths ++ r.added
    alla = q.ariths ∙ r.ariths ∙ ap (λ v. v ++ r.added) c.0.ariths

    inner : vec_items y.tests ≡ vec_items x.tests ++ r.added_tests
    inner = r.tests ∙ ap (λ v. v ++ r.added_tests) c.0.tests

    all : vec_items z.tests ≡ vec_items x.tests ++ (r.added_tests ++ node ∷ [])
    all = q.tests ∙ ap (λ v. v ++ node ∷ []) inner ∙ append_assoc (vec_items x.tests) r.added_tests (node ∷ [])

    there : at_place (vec_items z.tests) p ≡ Some (link_node j l i)
    there = ap (λ ts. at_place ts p) q.tests ∙ ap (at_place (vec_items y.tests ++ node ∷ [])) (q.at_end ∙ vec_long y.tests) ∙ at_last (vec_items y.tests) node ∙ ap Some same

    longer : length (vec_items x.tests) ≤ length (vec_items y.tests)
    longer = let b = ap length inner in let d = lib.ListN.length-append (vec_items x.tests) r.added_tests in omega arith

    before : suc l ≡ vec_len x.tests → l < p
    before e' = let a = q.at_end in let b = vec_long y.tests in let d = vec_long x.tests in let f = longer in omega arith

-- what the turns of a loop have added: from place i₁ of the room x to place i of the room y
pub record Turned (s : Scope) (left : ℕ) (x : Expressions) (i₁ : ℕ) (mid₁ : List Word) (y : Expressions) (i : ℕ) (mid : List Word) : Type 0 where
  pub tree : Test → Test
  pub extends : (a c : Test) (rest : List Word) → Tests (onto_test (tree a)) mid c rest → Tests (onto_test a) mid₁ c rest
  pub goes : (m : Memo) (k : List Item) → Here x.counted s left m k → reads mid₁ m (joined ∷ k) ≡ reads mid (counting m y.counted) (joined ∷ k)
  pub stands : (a : Test) → TestAt (vec_items x.ariths) (vec_items x.tests) i₁ a → suc i₁ ≡ vec_len x.tests → TestAt (vec_items y.ariths) (vec_items y.tests) i (tree a)
  pub last : suc i₁ ≡ vec_len x.tests → suc i ≡ vec_len y.tests
  pub added : List ArithNode
  pub ariths : vec_items y.ariths ≡ vec_items x.ariths ++ added
  pub added_tests : List TestNode
  pub tests : vec_items y.tests ≡ vec_items x.tests ++ added_tests
  pub count : ℕ
  pub node_count : vec_len y.ariths + vec_len y.tests ≡ vec_len x.ariths + vec_len x.tests + count
  pub counted : y.counted ≡ x.counted + count

same_count : (m : Memo) (n : ℕ) → m.counter ≡ n → m ≡ counting m n
same_count m n e = ap (counting m) e

pub turned_none : (s : Scope) (left : ℕ) (x : Expressions) (i : ℕ) (mid : List Word) → Turned s left x i mid x i mid
turned_none s left x i mid = record {
  tree = λ a. a;
  extends = λ a c rest d. d;
  goes = λ m k h. ap (λ y. reads mid y (joined ∷ k)) (same_count m x.counted h.counted);
  stands = λ a h e. h;
  last = λ e. e;
  added = [];
  ariths = sym (append-nil _);
  added_tests = [];
  tests = sym (append-nil _);
  count = 0;
  node_count = omega arith;
  counted = omega arith;
}

links_tree : (j : Link) (a b c : Test) {w : Word} {ws mid rest : List Word} → w.token ≡ link_token j → Tests one_of ws b mid → Tests (onto_test (link_tree j a b)) mid c rest → Tests (onto_test a) (w ∷ ws) c rest
links_tree AndLink a b c e d f = ands e d f
links_tree OrLink a b c e d f = ors e d f
links_tree NandLink a b c e d f = nands e d f

pub turned_more : (s : Scope) (left : ℕ) (x : Expressions) (i₁ : ℕ) (mid₁ : List Word) (y : Expressions) (i : ℕ) (mid : List Word) (z : Expressions) (j : ℕ) (rest : List Word) (op : Link) (w : Word) (ws : List Word) → Turned s left x i₁ mid₁ y i mid → mid ≡ w ∷ ws → w.token ≡ link_token op → Linked i op s left (w ∷ ws) y z j rest → Turned s left x i₁ mid₁ z j rest
turned_more s left x i₁ mid₁ y i mid z j rest op w ws t e tok g = record {
  tree = λ a. link_tree op (t.tree a) g.right;
  extends = λ a c r d. t.extends a c r (subst (λ v. Tests (onto_test (t.tree a)) v c r) (sym e) (links_tree op (t.tree a) g.right c tok (subst (λ v. Tests one_of v g.right rest) (sym (tail_is g.words)) g.derives) d));
  goes = λ m k h. t.goes m k h ∙ ap (λ v. reads v (counting m y.counted) (joined ∷ k)) e ∙ g.goes (counting m y.counted) k (record { counted = refl; scoped = h.scoped; nested = h.nested });
  stands = λ a h l. g.stands (t.tree a) (t.stands a h l) (t.last l);
  last = λ l. g.last;
  added = t.added ++ g.added;
  ariths = g.ariths ∙ ap (λ v. v ++ g.added) t.ariths ∙ append_assoc (vec_items x.ariths) t.added g.added;
  added_tests = t.added_tests ++ g.added_tests;
  tests = g.tests ∙ ap (λ v. v ++ g.added_tests) t.tests ∙ append_assoc (vec_items x.tests) t.added_tests g.added_tests;
  count = t.count + g.count;
  node_count = let p = t.node_count in let q = g.node_count in omega arith;
  counted = let p = t.counted in let q = g.counted in omega arith;
}
  where
    tail_is : {u : Word} {us : List Word} → w ∷ ws ≡ u ∷ us → ws ≡ us
    tail_is h = cc

-- no operator follows: the condition has been read
pub condition_read : (s : Scope) (left : ℕ) (ws : List Word) (x y z : Expressions) (i j : ℕ) (mid rest : List Word) → TestRead (one_test ∷ []) (Tests one_of) s left ws x y i mid → Turned s left y i mid z j rest → Free (And ∷ Or ∷ Nand ∷ []) rest → TestRead (one_test ∷ joined ∷ []) Condition s left ws x z j rest
condition_read s left ws x y z i j mid rest r t f = record {
  tree = t.tree r.tree;
  derives = condition r.derives (t.extends r.tree (t.tree r.tree) rest (no_more_tests f));
  goes = λ m k h. r.goes m (joined ∷ k) (record { counted = h.counted; scoped = h.scoped; nested = let e = h.nested in omega arith }) ∙ t.goes (counting m y.counted) k (record { counted = refl; scoped = h.scoped; nested = h.nested }) ∙ leaves_out joined refl rest (quiet_joined rest f) (counting m z.counted) k;
  stands = t.stands r.tree r.stands r.last;
  last = t.last r.last;
  added = r.added ++ t.added;
  ariths = t.ariths ∙ ap (λ v. v ++ t.added) r.ariths ∙ append_assoc (vec_items x.ariths) r.added t.added;
  added_tests = r.added_tests ++ t.added_tests;
  tests = t.tests ∙ ap (λ v. v ++ t.added_tests) r.tests ∙ append_assoc (vec_items x.tests) r.added_tests t.added_tests;
  count = r.count + t.count;
  node_count = let p = t.node_count in let q = r.node_count in omega arith;
  counted = let p = t.counted in let q = r.counted in omega arith;
}

-- a fault in a later turn
pub condition_stopped : {s : Scope} {left end : ℕ} {ws : List Word} {x y z : Expressions} {i j : ℕ} {mid rest : List Word} {f : Fault} → TestRead (one_test ∷ []) (Tests one_of) s left ws x y i mid → Turned s left y i mid z j rest → Stopped (joined ∷ []) s left end z.counted rest f → Stopped (one_test ∷ joined ∷ []) s left end x.counted ws f
condition_stopped {s} {left} {end} {ws} {x} {y} {z} r t g = record {
  words = g.words;
  place_is = g.place_is;
  stops = λ m k h. r.goes m (joined ∷ k) (record { counted = h.counted; scoped = h.scoped; nested = let e = h.nested in omega arith }) ∙ t.goes (counting m y.counted) k (record { counted = refl; scoped = h.scoped; nested = h.nested }) ∙ g.stops (counting m z.counted) k (record { counted = refl; scoped = h.scoped; nested = h.nested });
}

-- a fault in the first test
pub condition_stopped_first : {s : Scope} {left end n : ℕ} {ws : List Word} {f : Fault} → Stopped (one_test ∷ []) s left end n ws f → Stopped (one_test ∷ joined ∷ []) s left end n ws f
condition_stopped_first g = record { words = g.words; place_is = g.place_is; stops = λ m k h. g.stops m (joined ∷ k) (record { counted = h.counted; scoped = h.scoped; nested = let e = h.nested in omega arith }) }

-- words are used up
abbrev Shorter : TestPart → List Word → List Word → Type 0
Shorter one_of ws rest = length rest < length ws
Shorter (onto_test t) ws rest = length rest ≤ length ws

sum_shorter : {ws rest : List Word} {a : Arith} → Sum ws a rest → length rest < length ws
sum_shorter (sum d f) = let p = shorter d in let q = shorter f in omega arith

pub tests_shorter : {p : TestPart} {ws : List Word} {t : Test} {rest : List Word} → Tests p ws t rest → Shorter p ws rest
tests_shorter (is_true e) = omega arith
tests_shorter (is_less a e b) = let p = sum_shorter a in let q = sum_shorter b in omega arith
tests_shorter (is_at_most a e b) = let p = sum_shorter a in let q = sum_shorter b in omega arith
tests_shorter (is_equal a e b) = let p = sum_shorter a in let q = sum_shorter b in omega arith
tests_shorter (in_brackets e d f h) = let p = tests_shorter d in let q = tests_shorter f in omega arith
tests_shorter (no_more_tests f) = omega arith
tests_shorter (ands e d f) = let p = tests_shorter d in let q = tests_shorter f in omega arith
tests_shorter (ors e d f) = let p = tests_shorter d in let q = tests_shorter f in omega arith
tests_shorter (nands e d f) = let p = tests_shorter d in let q = tests_shorter f in omega arith
