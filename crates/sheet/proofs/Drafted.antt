-- What has been laid down in a draft, put together from its parts. Assumes nothing.
use Rattle.std.proofs.Common.{◌≡◌, ℕ, suc, ◌+◌, List, [], ◌∷◌, ◌++◌, vec_items, vec_len, sym, refl, ap, ◌∙◌, subst, append_assoc, append-nil, arith}
use Rattle.text.specs.declared.expressions.Expressions.{Expressions}
use Rattle.text.specs.declared.node.ArithNode.{ArithNode}
use Rattle.text.specs.declared.node.TestNode.{TestNode}
use Rattle.text.proofs.Stands.{test_more}
use Rattle.regular.specs.Words.{Regex, empty, sequence, alternative, star, plus, size, Assertion, assertions}
use Rattle.sheet.specs.declared.tree.Node.{Node}
use Rattle.sheet.specs.declared.tree.Node.TheVariants.{Empty, Sequence, Alternative, Star, Plus}
use Rattle.sheet.specs.declared.tree.Leaf.{Leaf}
use Rattle.sheet.specs.declared.tree.Leaf.TheVariants.{Given, Anything}
use Rattle.sheet.specs.declared.draft.Draft.{Draft}
use Rattle.sheet.specs.Flat.{below, laid}
use Rattle.sheet.specs.Drafts.{SameParts, Pushed, Is, Stand, Grown, Slim, Drawn}

is_more : (ns xs : List ArithNode) (ts ys : List TestNode) (l : Leaf) (a : Assertion) → Is ns ts l a → Is (ns ++ xs) (ts ++ ys) l a
is_more ns xs ts ys (Given l i) a h = (h.0, test_more ns xs ts ys i a.test h.1)
is_more ns xs ts ys Anything a h = h

pub stand_more : (ns xs : List ArithNode) (ts ys : List TestNode) (ls : List Leaf) (fs : List Assertion) → Stand ns ts ls fs → Stand (ns ++ xs) (ts ++ ys) ls fs
stand_more ns xs ts ys [] [] h = tt
stand_more ns xs ts ys [] (a ∷ more) h = absurd h
stand_more ns xs ts ys (l ∷ ls) [] h = absurd h
stand_more ns xs ts ys (l ∷ ls) (a ∷ more) h = (is_more ns xs ts ys l a h.0, stand_more ns xs ts ys ls more h.1)

pub stand_join : (ns : List ArithNode) (ts : List TestNode) (ls ms : List Leaf) (fs bs : List Assertion) → Stand ns ts ls fs → Stand ns ts ms bs → Stand ns ts (ls ++ ms) (fs ++ bs)
stand_join ns ts [] ms [] bs h k = k
stand_join ns ts [] ms (a ∷ more) bs h k = absurd h
stand_join ns ts (l ∷ ls) ms [] bs h k = absurd h
stand_join ns ts (l ∷ ls) ms (a ∷ more) bs h k = (h.0, stand_join ns ts ls ms more bs h.1 k)

-- two parts of lists, one behind the other
two_parts : {A : Type 0} (x y z a b : List A) → y ≡ x ++ a → z ≡ y ++ b → z ≡ x ++ (a ++ b)
two_parts x y z a b p q = q ∙ ap (λ l. l ++ b) p ∙ append_assoc x a b

-- the expressions are as they were
module _ (x z : Draft) (e : z.tests ≡ x.tests) where
  pub same_ariths : vec_items z.tests.ariths ≡ vec_items x.tests.ariths ++ []
  same_ariths = ap (λ (t : Expressions). vec_items t.ariths) e ∙ sym (append-nil (vec_items x.tests.ariths))

  pub same_tests : vec_items z.tests.tests ≡ vec_items x.tests.tests ++ []
  same_tests = ap (λ (t : Expressions). vec_items t.tests) e ∙ sym (append-nil (vec_items x.tests.tests))

abbrev stands : Draft → List Leaf → Regex → Type 0
stands y ls e = Stand (vec_items y.tests.ariths) (vec_items y.tests.tests) ls (assertions e)

-- leaves stand where expressions have been added
stands_on : (x y : Draft) (ls : List Leaf) (e : Regex) (ns : List ArithNode) (ts : List TestNode) → vec_items y.tests.ariths ≡ vec_items x.tests.ariths ++ ns → vec_items y.tests.tests ≡ vec_items x.tests.tests ++ ts → stands x ls e → stands y ls e
stands_on x y ls e ns ts a b h =
    let s = stand_more (vec_items x.tests.ariths) ns (vec_items x.tests.tests) ts ls (assertions e) h in
    subst (λ (p : List ArithNode). Stand p (vec_items y.tests.tests) ls (assertions e)) (sym a) (subst (λ (p : List TestNode). Stand (vec_items x.tests.ariths ++ ns) p ls (assertions e)) (sym b) s)

-- the empty sequence
pub grown_empty : (x y z : Draft) (j : ℕ) → SameParts x y → y.signs ≡ suc x.signs → Pushed y z Empty j → Drawn x z empty j
grown_empty x y z j s q p =
    let e = p.tests ∙ s.tests in (
      record {
        index = let a = p.at_end in let b = s.node_count in omega arith;
        nodes = p.nodes ∙ ap (λ (l : List Node). l ++ Empty ∷ []) s.nodes;
        node_count = let a = p.node_count in let b = s.node_count in omega arith;
        added = [];
        leaves = p.leaves ∙ s.leaves ∙ sym (append-nil (vec_items x.leaves));
        leaf_count = let a = p.leaf_count in let b = s.leaf_count in omega arith;
        stand = tt;
        more_ariths = [];
        ariths = same_ariths x z e;
        more_tests = [];
        tests = same_tests x z e;
      },
      let a = p.node_count in let b = s.node_count in let c = p.leaf_count in let d = s.leaf_count in let f = p.signs in omega arith,
    )

-- one more sign is counted behind it
pub grown_signed : (d x y : Draft) (e : Regex) (i : ℕ) → Drawn d x e i → SameParts x y → y.signs ≡ suc x.signs → Drawn d y e i
grown_signed d x y e i (g, l) s q =
    let ta = ap (λ (t : Expressions). vec_items t.ariths) s.tests in
    let tb = ap (λ (t : Expressions). vec_items t.tests) s.tests in (
      record {
        index = g.index;
        nodes = s.nodes ∙ g.nodes;
        node_count = s.node_count ∙ g.node_count;
        added = g.added;
        leaves = s.leaves ∙ g.leaves;
        leaf_count = s.leaf_count ∙ g.leaf_count;
        stand = stands_on x y g.added e [] [] (same_ariths x y s.tests) (same_tests x y s.tests) g.stand;
        more_ariths = g.more_ariths;
        ariths = ta ∙ g.ariths;
        more_tests = g.more_tests;
        tests = tb ∙ g.tests;
      },
      let a = s.node_count in let b = s.leaf_count in omega arith,
    )

-- a node round one part
module _ (make : Regex → Regex) (node : ℕ → Node) (b : (e : Regex) → below (make e) ≡ suc (below e)) (z : (e : Regex) → size (make e) ≡ size e) (as_before : (e : Regex) → assertions (make e) ≡ assertions e) (lay : (e : Regex) (o n : ℕ) → laid (make e) o n ≡ laid e o n ++ node (o + below e) ∷ []) where
  grown_round : (d x y : Draft) (e : Regex) (i j : ℕ) → Grown d x e i → Pushed x y (node i) j → Grown d y (make e) j
  grown_round d x y e i j g p =
      let be = b e in
      let ze = z e in
      record {
        index = let u = p.at_end in let v = g.node_count in omega arith;
        nodes = p.nodes ∙ ap (λ (l : List Node). l ++ node i ∷ []) g.nodes ∙ append_assoc (vec_items d.nodes) (laid e (vec_len d.nodes) (vec_len d.leaves)) (node i ∷ []) ∙ ap (λ (k : ℕ). vec_items d.nodes ++ (laid e (vec_len d.nodes) (vec_len d.leaves) ++ node k ∷ [])) g.index ∙ ap (λ (l : List Node). vec_items d.nodes ++ l) (sym (lay e (vec_len d.nodes) (vec_len d.leaves)));
        node_count = let u = p.node_count in let v = g.node_count in omega arith;
        added = g.added;
        leaves = p.leaves ∙ g.leaves;
        leaf_count = let u = p.leaf_count in let v = g.leaf_count in omega arith;
        stand = subst (λ (l : List Assertion). Stand (vec_items y.tests.ariths) (vec_items y.tests.tests) g.added l) (sym (as_before e)) (stands_on x y g.added e [] [] (same_ariths x y p.tests) (same_tests x y p.tests) g.stand);
        more_ariths = g.more_ariths;
        ariths = ap (λ (t : Expressions). vec_items t.ariths) p.tests ∙ g.ariths;
        more_tests = g.more_tests;
        tests = ap (λ (t : Expressions). vec_items t.tests) p.tests ∙ g.tests;
      }

pub grown_star : (d x y : Draft) (e : Regex) (i j : ℕ) → Grown d x e i → Pushed x y (Star i) j → Grown d y (star e) j
grown_star = grown_round star Star (λ e. refl) (λ e. refl) (λ e. refl) (λ e o n. refl)

pub grown_plus : (d x y : Draft) (e : Regex) (i j : ℕ) → Grown d x e i → Pushed x y (Plus i) j → Grown d y (plus e) j
grown_plus = grown_round plus Plus (λ e. refl) (λ e. refl) (λ e. refl) (λ e o n. refl)

-- a sign and its node
pub slim_sign : (d x y z : Draft) (node : Node) (j : ℕ) → Slim d x → SameParts x y → y.signs ≡ suc x.signs → Pushed y z node j → Slim d z
slim_sign d x y z node j l s q p = let a = p.node_count in let b = s.node_count in let c = p.leaf_count in let e = s.leaf_count in let f = p.signs in omega arith

pub drawn_star : (d x y z : Draft) (e : Regex) (i j : ℕ) → Drawn d x e i → SameParts x y → y.signs ≡ suc x.signs → Pushed y z (Star i) j → Drawn d z (star e) j
drawn_star d x y z e i j g s q p = (grown_star d y z e i j (grown_signed d x y e i g s q).0 p, slim_sign d x y z (Star i) j g.1 s q p)

pub drawn_plus : (d x y z : Draft) (e : Regex) (i j : ℕ) → Drawn d x e i → SameParts x y → y.signs ≡ suc x.signs → Pushed y z (Plus i) j → Drawn d z (plus e) j
drawn_plus d x y z e i j g s q p = (grown_plus d y z e i j (grown_signed d x y e i g s q).0 p, slim_sign d x y z (Plus i) j g.1 s q p)

-- a node over two parts
module _ (make : Regex → Regex → Regex) (node : ℕ → ℕ → Node) (b : (e f : Regex) → below (make e f) ≡ suc (below e) + suc (below f)) (z : (e f : Regex) → size (make e f) ≡ size e + size f) (both : (e f : Regex) → assertions (make e f) ≡ assertions e ++ assertions f) (lay : (e f : Regex) (o n : ℕ) → laid (make e f) o n ≡ laid e o n ++ (laid f (o + suc (below e)) (n + size e) ++ node (o + below e) (o + suc (below e) + below f) ∷ [])) where
  pub grown_two : (d x y u : Draft) (e f : Regex) (i j h : ℕ) → Grown d x e i → Grown x y f j → Pushed y u (node i j) h → Grown d u (make e f) h
  grown_two d x y u e f i j h g k p =
      let be = b e f in
      let ze = z e f in
      let o = vec_len d.nodes in
      let n = vec_len d.leaves in
      let jo : j ≡ o + suc (below e) + below f = k.index ∙ ap (λ (q : ℕ). q + below f) g.node_count in
      let second = ap (λ (q : ℕ). laid f q (vec_len x.leaves)) g.node_count ∙ ap (laid f (o + suc (below e))) g.leaf_count in
      let y_nodes = two_parts (vec_items d.nodes) (vec_items x.nodes) (vec_items y.nodes) (laid e o n) (laid f (o + suc (below e)) (n + size e)) g.nodes (k.nodes ∙ ap (λ (l : List Node). vec_items x.nodes ++ l) second) in
      record {
        index = let v = p.at_end in let w = k.node_count in let t = g.node_count in omega arith;
        nodes = p.nodes ∙ ap (λ (l : List Node). l ++ node i j ∷ []) y_nodes ∙ append_assoc (vec_items d.nodes) (laid e o n ++ laid f (o + suc (below e)) (n + size e)) (node i j ∷ []) ∙ ap (λ (l : List Node). vec_items d.nodes ++ l) (append_assoc (laid e o n) (laid f (o + suc (below e)) (n + size e)) (node i j ∷ []) ∙ ap (λ (q : ℕ). laid e o n ++ (laid f (o + suc (below e)) (n + size e) ++ node q j ∷ [])) g.index ∙ ap (λ (q : ℕ). laid e o n ++ (laid f (o + suc (below e)) (n + size e) ++ node (o + below e) q ∷ [])) jo ∙ sym (lay e f o n));
        node_count = let v = p.node_count in let w = k.node_count in let t = g.node_count in omega arith;
        added = g.added ++ k.added;
        leaves = p.leaves ∙ two_parts (vec_items d.leaves) (vec_items x.leaves) (vec_items y.leaves) g.added k.added g.leaves k.leaves;
        leaf_count = let v = p.leaf_count in let w = k.leaf_count in let t = g.leaf_count in omega arith;
        stand =
            let first = stands_on x y g.added e k.more_ariths k.more_tests k.ariths k.tests g.stand in
            let joined = stand_join (vec_items y.tests.ariths) (vec_items y.tests.tests) g.added k.added (assertions e) (assertions f) first k.stand in
            subst (λ (t : Expressions). Stand (vec_items t.ariths) (vec_items t.tests) (g.added ++ k.added) (assertions (make e f))) (sym p.tests) (subst (λ (l : List Assertion). Stand (vec_items y.tests.ariths) (vec_items y.tests.tests) (g.added ++ k.added) l) (sym (both e f)) joined);
        more_ariths = g.more_ariths ++ k.more_ariths;
        ariths = ap (λ (t : Expressions). vec_items t.ariths) p.tests ∙ two_parts (vec_items d.tests.ariths) (vec_items x.tests.ariths) (vec_items y.tests.ariths) g.more_ariths k.more_ariths g.ariths k.ariths;
        more_tests = g.more_tests ++ k.more_tests;
        tests = ap (λ (t : Expressions). vec_items t.tests) p.tests ∙ two_parts (vec_items d.tests.tests) (vec_items x.tests.tests) (vec_items y.tests.tests) g.more_tests k.more_tests g.tests k.tests;
      }

pub grown_sequence : (d x y u : Draft) (e f : Regex) (i j h : ℕ) → Grown d x e i → Grown x y f j → Pushed y u (Sequence i j) h → Grown d u (sequence e f) h
grown_sequence = grown_two sequence Sequence (λ e f. refl) (λ e f. refl) (λ e f. refl) (λ e f o n. refl)

pub grown_alternative : (d x y u : Draft) (e f : Regex) (i j h : ℕ) → Grown d x e i → Grown x y f j → Pushed y u (Alternative i j) h → Grown d u (alternative e f) h
grown_alternative = grown_two alternative Alternative (λ e f. refl) (λ e f. refl) (λ e f. refl) (λ e f o n. refl)

slim_two : (d x y u : Draft) (node : Node) (h : ℕ) → Slim d x → Slim x y → Pushed y u node h → Slim d u
slim_two d x y u node h g k p = let a = p.node_count in let b = p.leaf_count in let c = p.signs in omega arith

pub drawn_sequence : (d x y u : Draft) (e f : Regex) (i j h : ℕ) → Drawn d x e i → Drawn x y f j → Pushed y u (Sequence i j) h → Drawn d u (sequence e f) h
drawn_sequence d x y u e f i j h g k p = (grown_sequence d x y u e f i j h g.0 k.0 p, slim_two d x y u (Sequence i j) h g.1 k.1 p)

pub drawn_alternative : (d x y u : Draft) (e f : Regex) (i j h : ℕ) → Drawn d x e i → Drawn x y f j → Pushed y u (Alternative i j) h → Drawn d u (alternative e f) h
drawn_alternative d x y u e f i j h g k p = (grown_alternative d x y u e f i j h g.0 k.0 p, slim_two d x y u (Alternative i j) h g.1 k.1 p)
