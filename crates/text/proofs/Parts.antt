-- What has been read, put together from its parts. Assumes nothing.
use Rattle.std.proofs.Common.{◌≡◌, ℕ, suc, ◌+◌, ◌-◌, ◌<◌, ◌≤◌, false, List, [], ◌∷◌, ◌++◌, length, IsErrAnd, Some, Ok, Err, vec_items, vec_len, Result, sym, refl, ap, ◌∙◌, subst, append_assoc, arith, MatchResult}
use Rattle.model.specs.Cells.{at}
use Rattle.model.specs.declared.refusal.Cause.{Cause}
use Rattle.text.specs.declared.expressions.Expressions.{Expressions}
use Rattle.text.specs.declared.node.ArithNode.{ArithNode}
use Rattle.text.specs.declared.reading.Fault.{Fault}
use Rattle.text.specs.declared.reading.Limits.{Limits}
use Rattle.text.specs.declared.word.Word.{Word}
use Rattle.text.specs.declared.word.Scope.{Scope}
use Rattle.text.specs.Expressions.{Arith, current, initial}
use Rattle.text.specs.Nodes.{nodes, ArithAt}
use Rattle.text.specs.Table.{Item, operand, more}
use Rattle.text.specs.Derivations.{Sums, one, onto, Sum}
use Rattle.text.specs.Reading.{reads, Here, Goes, Stops, place_of, cause_of, FaultAt, Deeper}
use Rattle.text.specs.Pools.{SameNodes, ArithPushed}
use Rattle.model.specs.declared.refusal.Cause.TheVariants.{Many}
use Rattle.text.specs.Outcomes.{ArithRead, Stopped, Leafed}
use Rattle.text.specs.declared.node.ArithNode.TheVariants.{Number as NumberNode, Current as CurrentNode, Initial as InitialNode, Plus as PlusNode, Minus as MinusNode}
use Rattle.text.specs.declared.word.Token.TheVariants.{Plus, Minus, Current, Initial}
use Rattle.text.specs.declared.arith.Join.{Join}
use Rattle.text.specs.declared.arith.Join.TheVariants.{Plus as PlusJoin, Minus as MinusJoin}
use Rattle.grammar.specs.Grammars.{find, takes, Quiet}
use Rattle.text.specs.Words.{register_index}
use Rattle.text.specs.Table.{rules_of, operand_register, counted, optional}
use Rattle.text.specs.Charges.{Memo, counting}
use Rattle.text.specs.Derivations.{a_current, an_initial, no_more, adds, subtracts, in_parens, a_number, sum, Free}
use Rattle.text.specs.Joins.{Named, join_token, join_node, join_tree, Joined}
use Rattle.text.proofs.Derived.{quiet_more}
use Rattle.text.proofs.Going.{leaves_out, refuses, counted_goes, counted_many}
use Rattle.text.proofs.Stands.{at_last, vec_long, arith_more}

-- the exit of a `?`: the error is handed on as it is
pub broken : {T E : Type 0} (r : Result T E) (P : T → Type 0) (Q : E → Type 0) (e : E) → IsErrAnd r (λ y. y ≡ e) → Q e → MatchResult r P Q
broken (Ok x) P Q e h q = absurd h
broken (Err y) P Q e h q = subst Q (sym h) q

-- a fault by its cause and its words
pub stops_by : {js : List Item} {s : Scope} {left end n : ℕ} {ws : List Word} (f : Fault) (c : Cause) (v : List Word) → f.cause ≡ c → f.place ≡ place_of end v → Stops n s left js ws c v → Stopped js s left end n ws f
stops_by {js} {s} {left} {end} {n} {ws} f c v e p g = record { words = v; place_is = p; stops = subst (λ x. Stops n s left js ws x v) (sym e) g }

-- a fault at the first of the words
pub stops_here : {js : List Item} {s : Scope} {left end n : ℕ} {w : Word} {ws : List Word} (f : Fault) (c : Cause) → f ≡ record { cause = c; place = w.place } → Stops n s left js (w ∷ ws) c (w ∷ ws) → Stopped js s left end n (w ∷ ws) f
stops_here {w = w} {ws} f c e g = stops_by f c (w ∷ ws) (ap (λ x. x.cause) e) (ap (λ x. x.place) e) g

limits : Scope → ℕ → ℕ → Limits
limits s e l = record { scope = s; end = e; left = l }

-- the limits inside what a word opens
abbrev pub inside : Limits → Limits
inside x = record { scope = x.scope; end = x.end; left = x.left - 1 }

pub inside_is : {x y : Limits} → Deeper x y → y ≡ inside x
unfolding limits
inside_is {x} {y} d = let l : y.left ≡ x.left - 1 = omega (arith, d.left) in ap (λ s. limits s y.end y.left) d.scope ∙ ap (λ e. limits x.scope e y.left) d.end ∙ ap (limits x.scope x.end) l

-- what is so with the limits inside
pub from_inside : {x y : Limits} → Deeper x y → (P : Limits → Type 0) → P y → P (inside x)
from_inside d P h = subst P (inside_is d) h

-- a leaf has been read
pub leaf_read : (node : ArithNode) (a : Arith) (s : Scope) (left : ℕ) (w : Word) (ws : List Word) (x y : Expressions) (i : ℕ) → Sums one (w ∷ ws) a ws → nodes a ≡ 1 → ((ns : List ArithNode) (k : ℕ) → at ns k ≡ Some node → ArithAt ns k a) → Leafed node x y i → Goes x.counted s left (operand ∷ []) (w ∷ ws) ws (suc x.counted) → ArithRead (operand ∷ []) (Sums one) s left (w ∷ ws) x y i ws
leaf_read node a s left w ws x y i d n st l g = record {
  tree = a;
  derives = d;
  goes = subst (Goes x.counted s left (operand ∷ []) (w ∷ ws) ws) (sym l.counted) g;
  stands = subst (λ ns. ArithAt ns i a) (sym l.ariths) (subst (λ k. ArithAt (vec_items x.ariths ++ node ∷ []) k a) (sym (l.at_end ∙ vec_long x.ariths)) (st _ _ (at_last (vec_items x.ariths) node)));
  last = let h = l.at_end in let k = l.arith_count in omega arith;
  added = node ∷ [];
  ariths = l.ariths;
  arith_count = let k = l.arith_count in omega arith;
  counted = let k = l.counted in omega arith;
  tests = l.tests;
  test_count = l.test_count;
}

-- the line of the table that takes a register's word
pub named_found : (w : Word) (node : ArithNode) → Named w.token node → (p : ℕ) → find (rules_of operand) (record { token = w.token; place = p }) ≡ takes operand_register []
named_found w (NumberNode n) h p = absurd h
named_found w (CurrentNode r) h p = ap (λ t. find (rules_of operand) (record { token = t; place = p })) h
named_found w (InitialNode r) h p = ap (λ t. find (rules_of operand) (record { token = t; place = p })) h
named_found w (PlusNode l r) h p = absurd h
named_found w (MinusNode l r) h p = absurd h

pub named_read : (node : ArithNode) (s : Scope) (left : ℕ) (w : Word) (ws : List Word) (x y : Expressions) (i : ℕ) → Named w.token node → Leafed node x y i → Goes x.counted s left (operand ∷ []) (w ∷ ws) ws (suc x.counted) → ArithRead (operand ∷ []) (Sums one) s left (w ∷ ws) x y i ws
named_read (NumberNode n) s left w ws x y i h l g = absurd h
named_read (CurrentNode r) s left w ws x y i h l g = leaf_read (CurrentNode r) (current (register_index r)) s left w ws x y i (a_current h) refl (λ ns k e. (r, e, refl)) l g
named_read (InitialNode r) s left w ws x y i h l g = leaf_read (InitialNode r) (initial (register_index r)) s left w ws x y i (an_initial h) refl (λ ns k e. (r, e, refl)) l g
named_read (PlusNode l' r) s left w ws x y i h l g = absurd h
named_read (MinusNode l' r) s left w ws x y i h l g = absurd h

-- a group has been read: the tree is that of the expression inside
pub group_read : {s : Scope} {left left' : ℕ} {ws vs mid rest : List Word} {x y : Expressions} {i : ℕ} → (r : ArithRead (operand ∷ more ∷ []) Sum s left' vs x y i mid) → Sums one ws r.tree rest → Goes x.counted s left (operand ∷ []) ws rest y.counted → ArithRead (operand ∷ []) (Sums one) s left ws x y i rest
group_read r d g = record { tree = r.tree; derives = d; goes = g; stands = r.stands; last = r.last; added = r.added; ariths = r.ariths; arith_count = r.arith_count; counted = r.counted; tests = r.tests; test_count = r.test_count }

-- an expression in parentheses is an operand
pub grouped : {o c : Word} {ws mid rest : List Word} {a : Arith} → o.token ≡ Rattle.text.specs.declared.word.Token.TheVariants.OpenParen → Sum ws a mid → mid ≡ c ∷ rest → c.token ≡ Rattle.text.specs.declared.word.Token.TheVariants.CloseParen → Sums one (o ∷ ws) a rest
grouped {c = c} {rest = rest} e (sum {mid = m} {a = a} {b = b} d f) h k = in_parens e d (subst (λ y. Sums (onto a) m b y) h f) k

-- a fault at the words, where they are given by their first
pub stopped_at : {js : List Item} {s : Scope} {left end n : ℕ} {ws vs : List Word} {f : Fault} → ws ≡ vs → Stopped js s left end n vs f → Stopped js s left end n ws f
stopped_at {js} {s} {left} {end} {n} {f = f} e g = subst (λ x. Stopped js s left end n x f) (sym e) g

pub read_at : {js : List Item} {D : List Word → Arith → List Word → Type 0} {s : Scope} {left : ℕ} {ws vs rest : List Word} {x y : Expressions} {i : ℕ} → ws ≡ vs → ArithRead js D s left vs x y i rest → ArithRead js D s left ws x y i rest
read_at {js} {D} {s} {left} {rest = rest} {x = x} {y = y} {i = i} e r = subst (λ v. ArithRead js D s left v x y i rest) (sym e) r

-- the fault where an item must stand and no line of it fits
pub refused_at : (i : Item) (s : Scope) (left end n : ℕ) (ws : List Word) (f : Fault) → optional i ≡ false → Quiet (rules_of i) ws → FaultAt end ws f → Stopped (i ∷ []) s left end n ws f
refused_at i s left end n ws f o q h = stops_by f (cause_of ws) ws h.cause_is h.place_is (λ m k _. refuses i o ws q m k)

-- an operator that goes on with an expression, and the operand behind it
join_found : (j : Join) (p : ℕ) → find (rules_of more) (record { token = join_token j; place = p }) ≡ takes counted (operand ∷ more ∷ [])
join_found PlusJoin p = refl
join_found MinusJoin p = refl

pub join_many : (j : Join) (n : ℕ) (s : Scope) (left : ℕ) (w : Word) (ws : List Word) → w.token ≡ join_token j → 256 ≤ n → Stops n s left (more ∷ []) (w ∷ ws) Many (w ∷ ws)
join_many j n s left w ws e l m k h = counted_many n s left more (join_token j) (operand ∷ more ∷ []) w e (λ k. omega arith) (join_found j) l ws m k h

join_goes : (j : Join) (n : ℕ) (s : Scope) (left : ℕ) (w : Word) (ws : List Word) → w.token ≡ join_token j → n < 256 → (m : Memo) (k : List Item) → Here n s left m k → reads (w ∷ ws) m (more ∷ k) ≡ reads ws (counting m (suc n)) (operand ∷ more ∷ k)
join_goes j n s left w ws e l m k h = counted_goes n s left more (join_token j) (operand ∷ more ∷ []) w e (λ k. omega arith) (join_found j) l ws m k h

under_more : {n n' : ℕ} {s : Scope} {left : ℕ} {m : Memo} {k : List Item} → Here n s left m k → Here n' s left (counting m n') (more ∷ k)
under_more h = record { counted = refl; scoped = h.scoped; nested = let e = h.nested in omega arith }

pub join_stopped : (j : Join) (s : Scope) (left end : ℕ) (w : Word) (ws : List Word) (x y : Expressions) (f : Fault) → w.token ≡ join_token j → y.counted ≡ suc x.counted → Stopped (operand ∷ []) s left end y.counted ws f → Stopped (more ∷ []) s left end x.counted (w ∷ ws) f
join_stopped j s left end w ws x y f e c g = record {
  words = g.words;
  place_is = g.place_is;
  stops = λ m k h. join_goes j x.counted s left w ws e (let b = y.few in omega arith) m k h ∙ ap (λ v. reads ws (counting m v) (operand ∷ more ∷ k)) (sym c) ∙ g.stops (counting m y.counted) (more ∷ k) (under_more h);
}

join_stands : (j : Join) (ns : List ArithNode) (p l i : ℕ) (a b : Arith) → at ns p ≡ Some (join_node j l i) → l + nodes b ≤ i → i < p → ArithAt ns l a → ArithAt ns i b → ArithAt ns p (join_tree j a b)
join_stands PlusJoin ns p l i a b e o q ha hb = (l, i, e, (o, q), ha, hb)
join_stands MinusJoin ns p l i a b e o q ha hb = (l, i, e, (o, q), ha, hb)

pub join_read : (j : Join) (l : ℕ) (s : Scope) (left : ℕ) (w : Word) (ws rest : List Word) (x x₁ y z : Expressions) (i p : ℕ) (node : ArithNode) → w.token ≡ join_token j → SameNodes x x₁ × (x₁.counted ≡ suc x.counted) → ArithRead (operand ∷ []) (Sums one) s left ws x₁ y i rest → node ≡ join_node j l i → ArithPushed y z node p → Joined l j s left (w ∷ ws) x z p rest
join_read j l s left w ws rest x x₁ y z i p node e c r same q = record {
  behind = w;
  right_words = ws;
  words = refl;
  right = r.tree;
  derives = r.derives;
  goes = λ m k h. join_goes j x.counted s left w ws e (let b = x₁.few in let d = c.1 in omega arith) m k h ∙ ap (λ v. reads ws (counting m v) (operand ∷ more ∷ k)) (sym c.1) ∙ r.goes (counting m x₁.counted) (more ∷ k) (under_more h) ∙ ap (λ v. reads rest (counting m v) (more ∷ k)) (sym q.counted);
  stands = λ a h e'. subst (λ ns. ArithAt ns p (join_tree j a r.tree)) (sym all) (join_stands j whole p l i a r.tree there (let b = r.arith_count in let d = c.0.arith_count in let f = r.last in omega arith) (let f = r.last in let g = q.at_end in omega arith) (arith_more (vec_items x.ariths) (r.added ++ node ∷ []) l a h) (subst (λ ns. ArithAt ns i r.tree) inner (arith_more (vec_items y.ariths) (node ∷ []) i r.tree r.stands)));
  last = let f = r.last in let g = q.at_end in let b = q.arith_count in omega arith;
  added = r.added ++ node ∷ [];
  ariths = all;
  arith_count = let b = r.arith_count in let d = c.0.arith_count in let f = q.arith_count in omega arith;
  counted = let b = r.counted in let d = c.1 in let f = q.counted in omega arith;
  tests = q.tests ∙ r.tests ∙ c.0.tests;
  test_count = q.test_count ∙ r.test_count ∙ c.0.test_count;
}
  where
    whole : List ArithNode
    whole = vec_items x.ariths ++ (r.added ++ node ∷ [])

    inner : vec_items y.ariths ++ node ∷ [] ≡ vec_items x.ariths ++ (r.added ++ node ∷ [])
    inner = ap (λ v. v ++ node ∷ []) (r.ariths ∙ ap (λ v. v ++ r.added) c.0.ariths) ∙ append_assoc (vec_items x.ariths) r.added (node ∷ [])

    all : vec_items z.ariths ≡ vec_items x.ariths ++ (r.added ++ node ∷ [])
    all = q.ariths ∙ inner

    there : at (vec_items x.ariths ++ (r.added ++ node ∷ [])) p ≡ Some (join_node j l i)
    there = ap (λ ns. at ns p) (sym inner) ∙ ap (λ v. at (vec_items y.ariths ++ node ∷ []) v) (q.at_end ∙ vec_long y.ariths) ∙ at_last (vec_items y.ariths) node ∙ ap Some same

-- what the turns of a loop have added: from place i₁ of the room x to place i of the room y
pub record Turned (s : Scope) (left : ℕ) (x : Expressions) (i₁ : ℕ) (mid₁ : List Word) (y : Expressions) (i : ℕ) (mid : List Word) : Type 0 where
  pub tree : Arith → Arith
  pub extends : (a c : Arith) (rest : List Word) → Sums (onto (tree a)) mid c rest → Sums (onto a) mid₁ c rest
  pub goes : (m : Memo) (k : List Item) → Here x.counted s left m k → reads mid₁ m (more ∷ k) ≡ reads mid (counting m y.counted) (more ∷ k)
  pub stands : (a : Arith) → ArithAt (vec_items x.ariths) i₁ a → suc i₁ ≡ vec_len x.ariths → ArithAt (vec_items y.ariths) i (tree a)
  pub last : suc i₁ ≡ vec_len x.ariths → suc i ≡ vec_len y.ariths
  pub added : List ArithNode
  pub ariths : vec_items y.ariths ≡ vec_items x.ariths ++ added
  pub count : ℕ
  pub node_count : (a : Arith) → nodes (tree a) ≡ nodes a + count
  pub arith_count : vec_len y.ariths ≡ vec_len x.ariths + count
  pub counted : y.counted ≡ x.counted + count
  pub tests : vec_items y.tests ≡ vec_items x.tests
  pub test_count : vec_len y.tests ≡ vec_len x.tests

same_count : (m : Memo) (n : ℕ) → m.counter ≡ n → m ≡ counting m n
same_count m n e = ap (counting m) e

pub turned_none : (s : Scope) (left : ℕ) (x : Expressions) (i : ℕ) (mid : List Word) → Turned s left x i mid x i mid
turned_none s left x i mid = record {
  tree = λ a. a;
  extends = λ a c rest d. d;
  goes = λ m k h. ap (λ y. reads mid y (more ∷ k)) (same_count m x.counted h.counted);
  stands = λ a h e. h;
  last = λ e. e;
  added = [];
  ariths = sym (mathlib.Core.List.append-nil _);
  count = 0;
  node_count = λ a. omega arith;
  arith_count = omega arith;
  counted = omega arith;
  tests = refl;
  test_count = refl;
}

joins_tree : (j : Join) (a b c : Arith) {w : Word} {ws mid rest : List Word} → w.token ≡ join_token j → Sums one ws b mid → Sums (onto (join_tree j a b)) mid c rest → Sums (onto a) (w ∷ ws) c rest
joins_tree PlusJoin a b c e d f = adds e d f
joins_tree MinusJoin a b c e d f = subtracts e d f

joins_nodes : (j : Join) (a b : Arith) → nodes (join_tree j a b) ≡ nodes a + suc (nodes b)
joins_nodes PlusJoin a b = omega arith
joins_nodes MinusJoin a b = omega arith

pub turned_more : (s : Scope) (left : ℕ) (x : Expressions) (i₁ : ℕ) (mid₁ : List Word) (y : Expressions) (i : ℕ) (mid : List Word) (z : Expressions) (j : ℕ) (rest : List Word) (op : Join) (w : Word) (ws : List Word) → Turned s left x i₁ mid₁ y i mid → mid ≡ w ∷ ws → w.token ≡ join_token op → Joined i op s left (w ∷ ws) y z j rest → Turned s left x i₁ mid₁ z j rest
turned_more s left x i₁ mid₁ y i mid z j rest op w ws t e tok g = record {
  tree = λ a. join_tree op (t.tree a) g.right;
  extends = λ a c r d. t.extends a c r (subst (λ v. Sums (onto (t.tree a)) v c r) (sym e) (joins_tree op (t.tree a) g.right c tok (subst (λ v. Sums one v g.right rest) (sym (tail_is g.words)) g.derives) d));
  goes = λ m k h. t.goes m k h ∙ ap (λ v. reads v (counting m y.counted) (more ∷ k)) e ∙ g.goes (counting m y.counted) k (record { counted = refl; scoped = h.scoped; nested = h.nested });
  stands = λ a h l. g.stands (t.tree a) (t.stands a h l) (t.last l);
  last = λ l. g.last;
  added = t.added ++ g.added;
  ariths = g.ariths ∙ ap (λ v. v ++ g.added) t.ariths ∙ append_assoc (vec_items x.ariths) t.added g.added;
  count = t.count + suc (nodes g.right);
  node_count = λ a. let p = joins_nodes op (t.tree a) g.right in let q = t.node_count a in omega arith;
  arith_count = let p = t.arith_count in let q = g.arith_count in omega arith;
  counted = let p = t.counted in let q = g.counted in omega arith;
  tests = g.tests ∙ t.tests;
  test_count = g.test_count ∙ t.test_count;
}
  where
    tail_is : {u : Word} {us : List Word} → w ∷ ws ≡ u ∷ us → ws ≡ us
    tail_is h = cc

-- no operator follows: the expression has been read
pub sum_read : (s : Scope) (left : ℕ) (ws : List Word) (x y z : Expressions) (i j : ℕ) (mid rest : List Word) → ArithRead (operand ∷ []) (Sums one) s left ws x y i mid → Turned s left y i mid z j rest → Free (Plus ∷ Minus ∷ []) rest → ArithRead (operand ∷ more ∷ []) Sum s left ws x z j rest
sum_read s left ws x y z i j mid rest r t f = record {
  tree = t.tree r.tree;
  derives = sum r.derives (t.extends r.tree (t.tree r.tree) rest (no_more f));
  goes = λ m k h. r.goes m (more ∷ k) (record { counted = h.counted; scoped = h.scoped; nested = let e = h.nested in omega arith }) ∙ t.goes (counting m y.counted) k (record { counted = refl; scoped = h.scoped; nested = h.nested }) ∙ leaves_out more refl rest (quiet_more rest f) (counting m z.counted) k;
  stands = t.stands r.tree r.stands r.last;
  last = t.last r.last;
  added = r.added ++ t.added;
  ariths = t.ariths ∙ ap (λ v. v ++ t.added) r.ariths ∙ append_assoc (vec_items x.ariths) r.added t.added;
  arith_count = let p = t.arith_count in let q = r.arith_count in let n = t.node_count r.tree in omega arith;
  counted = let p = t.counted in let q = r.counted in let n = t.node_count r.tree in omega arith;
  tests = t.tests ∙ r.tests;
  test_count = t.test_count ∙ r.test_count;
}

-- a fault in a later turn
pub sum_stopped : {s : Scope} {left end : ℕ} {ws : List Word} {x y z : Expressions} {i j : ℕ} {mid rest : List Word} {f : Fault} → ArithRead (operand ∷ []) (Sums one) s left ws x y i mid → Turned s left y i mid z j rest → Stopped (more ∷ []) s left end z.counted rest f → Stopped (operand ∷ more ∷ []) s left end x.counted ws f
sum_stopped {s} {left} {end} {ws} {x} {y} {z} r t g = record {
  words = g.words;
  place_is = g.place_is;
  stops = λ m k h. r.goes m (more ∷ k) (record { counted = h.counted; scoped = h.scoped; nested = let e = h.nested in omega arith }) ∙ t.goes (counting m y.counted) k (record { counted = refl; scoped = h.scoped; nested = h.nested }) ∙ g.stops (counting m z.counted) k (record { counted = refl; scoped = h.scoped; nested = h.nested });
}

-- a fault in the first operand
pub sum_stopped_first : {s : Scope} {left end n : ℕ} {ws : List Word} {f : Fault} → Stopped (operand ∷ []) s left end n ws f → Stopped (operand ∷ more ∷ []) s left end n ws f
sum_stopped_first g = record { words = g.words; place_is = g.place_is; stops = λ m k h. g.stops m (more ∷ k) (record { counted = h.counted; scoped = h.scoped; nested = let e = h.nested in omega arith }) }

-- words are used up
abbrev Shorter : Rattle.text.specs.Derivations.SumPart → List Word → List Word → Type 0
Shorter one ws rest = length rest < length ws
Shorter (onto a) ws rest = length rest ≤ length ws

pub shorter : {p : Rattle.text.specs.Derivations.SumPart} {ws : List Word} {a : Arith} {rest : List Word} → Sums p ws a rest → Shorter p ws rest
shorter (a_number e) = omega arith
shorter (a_current e) = omega arith
shorter (an_initial e) = omega arith
shorter (in_parens e d f h) = let p = shorter d in let q = shorter f in omega arith
shorter (no_more f) = omega arith
shorter (adds e d f) = let p = shorter d in let q = shorter f in omega arith
shorter (subtracts e d f) = let p = shorter d in let q = shorter f in omega arith
