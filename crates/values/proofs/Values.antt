-- The value of a node, by its kind. Assumes nothing.
use Rattle.std.proofs.Common.{◌≡◌, ℕ, zero, suc, ◌<◌, ◌≤◌, List, [], ◌∷◌, length, get_or, take, ℤ, pos, negsuc, ◌+ℤ◌, ◌-ℤ◌, ◌≤ℤ◌, Some, sym, refl, ap, ◌∙◌, subst, arith, w32, SFits, to_z, of_z}
use borrow.Author.Differences.{ints}
use mir.ValLaws.{to_z-of_z}
use Rattle.std.specs.Int.{saturate_to_bits}
use Rattle.model.specs.Cells.{at}
use Rattle.model.specs.declared.moment.Moment.{Moment}
use Rattle.text.specs.declared.node.ArithNode.{ArithNode}
use Rattle.text.specs.declared.node.ArithNode.TheVariants.{Number as NumberNode, Current as CurrentNode, Initial as InitialNode, Plus as PlusNode, Minus as MinusNode}
use Rattle.text.specs.Words.{register_index}
use Rattle.text.specs.Expressions.{Arith, number, current, initial, plus, minus, register}
use Rattle.text.specs.Nodes.{nodes, ArithAt}
use Rattle.values.specs.Evaluation.{ValueSo}

-- what the code finds at a place stands there
pub at_is : {X : Type 0} (xs : List X) (i : ℕ) (d n : X) → i < length xs → get_or xs i d ≡ n → at xs i ≡ Some n
at_is [] i d n h e = absurd (omega arith)
at_is (x ∷ xs) zero d n h e = ap Some e
at_is (x ∷ xs) (suc i) d n h e = at_is xs i d n (omega arith) e

pub at_none : {X : Type 0} (xs : List X) (i : ℕ) (x : X) → length xs ≤ i → at xs i ≡ Some x → ⊥
at_none [] i x h e = let z : ◌≡◌ {A = ℕ} 0 1 = cc in omega arith
at_none (y ∷ xs) zero x h e = omega arith
at_none (y ∷ xs) (suc i) x h e = at_none xs i x (omega arith) e

-- a tree at a place has no more nodes than there are places up to it
pub nodes_below : (ns : List ArithNode) (i : ℕ) (a : Arith) → ArithAt ns i a → nodes a ≤ suc i
nodes_below ns i (number n) h = omega arith
nodes_below ns i (current r) h = omega arith
nodes_below ns i (initial r) h = omega arith
nodes_below ns i (plus a b) h = let p = nodes_below ns h.0 a h.4 in let q = h.3.0 in let r = h.3.1 in omega (arith, p, q, r)
nodes_below ns i (minus a b) h = let p = nodes_below ns h.0 a h.4 in let q = h.3.0 in let r = h.3.1 in omega (arith, p, q, r)

-- nothing stands past the end
pub value_none : (m : Moment) (ns : List ArithNode) (i : ℕ) (z : ℤ) → length ns ≤ i → ValueSo m ns i z
value_none m ns i z h (number n) e = absurd (at_none ns i _ h e)
value_none m ns i z h (current r) e = absurd (at_none ns i _ h e.1)
value_none m ns i z h (initial r) e = absurd (at_none ns i _ h e.1)
value_none m ns i z h (plus a b) e = absurd (at_none ns i _ h e.2)
value_none m ns i z h (minus a b) e = absurd (at_none ns i _ h e.2)

pub register_at : (vs : List ℤ) (i : ℕ) → i < length vs → register vs i ≡ get_or vs i (pos 0)
register_at [] i h = absurd (omega arith)
register_at (v ∷ vs) zero h = refl
register_at (v ∷ vs) (suc i) h = register_at vs i (omega arith)

-- what stands at a place below n stands among the first n nodes
pub at_take : {X : Type 0} (xs : List X) (n i : ℕ) (x : X) → i < n → at xs i ≡ Some x → at (take n xs) i ≡ Some x
at_take [] n i x h e = let z : ◌≡◌ {A = ℕ} 0 1 = cc in absurd (omega arith)
at_take (y ∷ xs) zero i x h e = absurd (omega arith)
at_take (y ∷ xs) (suc n) zero x h e = e
at_take (y ∷ xs) (suc n) (suc i) x h e = at_take xs n i x (omega arith) e

arith_within : (ns : List ArithNode) (n i : ℕ) (a : Arith) → i < n → ArithAt ns i a → ArithAt (take n ns) i a
arith_within ns n i (number k) w h = at_take ns n i _ w h
arith_within ns n i (current r) w h = (h.0, at_take ns n i _ w h.1, h.2)
arith_within ns n i (initial r) w h = (h.0, at_take ns n i _ w h.1, h.2)
arith_within ns n i (plus a b) w h = (h.0, h.1, at_take ns n i _ w h.2, h.3, arith_within ns n h.0 a (omega (arith, h.3.0, h.3.1)) h.4, arith_within ns n h.1 b (omega (arith, h.3.1)) h.5)
arith_within ns n i (minus a b) w h = (h.0, h.1, at_take ns n i _ w h.2, h.3, arith_within ns n h.0 a (omega (arith, h.3.0, h.3.1)) h.4, arith_within ns n h.1 b (omega (arith, h.3.1)) h.5)

-- within 31 bits nothing is cut off
pub not_cut : (z : ℤ) → negsuc 16777215 ≤ℤ z → z ≤ℤ pos 16777216 → saturate_to_bits 31 z ≡ z
not_cut (pos n) lo hi = grind (arith, ints)
not_cut (negsuc n) lo hi = grind (arith, ints)

-- one place has one node
pub same_node : {X : Type 0} (xs : List X) (i : ℕ) (n o : X) → at xs i ≡ Some n → at xs i ≡ Some o → n ≡ o
same_node xs i n o e f = let h = sym e ∙ f in cc

-- the value z is what the node at place i says of it, by the values of its operands among the nodes before it
abbrev pub Worth : Moment → List ArithNode → ℕ → ArithNode → ℤ → Type 0
Worth m ns i (NumberNode k) z = (z ≡ pos k) × (k < 65536)
Worth m ns i (CurrentNode q) z = (z ≡ register m.values (register_index q)) × (negsuc 65535 ≤ℤ z) × (z ≤ℤ pos 65536)
Worth m ns i (InitialNode q) z = (z ≡ register m.starts (register_index q)) × (negsuc 65535 ≤ℤ z) × (z ≤ℤ pos 65536)
Worth m ns i (PlusNode l r) z = (x : ℤ) × (y : ℤ) × ValueSo m (take i ns) l x × ValueSo m (take i ns) r y × (z ≡ saturate_to_bits 31 (x +ℤ y))
Worth m ns i (MinusNode l r) z = (x : ℤ) × (y : ℤ) × ValueSo m (take i ns) l x × ValueSo m (take i ns) r y × (z ≡ saturate_to_bits 31 (x -ℤ y))

pub worth : (m : Moment) (ns : List ArithNode) (i : ℕ) (n : ArithNode) (z : ℤ) → length ns ≤ 256 → i < length ns → at ns i ≡ Some n → Worth m ns i n z → ValueSo m ns i z
worth m ns i n z few w e g (number k) h =
    let v = subst (λ o. Worth m ns i o z) (same_node ns i n _ e h) g in
    (v.0, omega (arith, ints, v.0), omega (arith, ints, v.0, v.1))
worth m ns i n z few w e g (current r) h =
    let v = subst (λ o. Worth m ns i o z) (same_node ns i n _ e h.1) g in
    (v.0 ∙ ap (register m.values) h.2, omega (arith, ints, v.1), omega (arith, ints, v.2))
worth m ns i n z few w e g (initial r) h =
    let v = subst (λ o. Worth m ns i o z) (same_node ns i n _ e h.1) g in
    (v.0 ∙ ap (register m.starts) h.2, omega (arith, ints, v.1), omega (arith, ints, v.2))
worth m ns i n z few w e g (plus a b) h =
    let v = subst (λ o. Worth m ns i o z) (same_node ns i n _ e h.2) g in
    let p = v.2 a (arith_within ns i h.0 a (omega (arith, h.3.0, h.3.1)) h.4) in
    let s = v.3 b (arith_within ns i h.1 b h.3.1 h.5) in
    let small = nodes_below ns i (plus a b) h in
    let exact = v.4 ∙ not_cut (v.0 +ℤ v.1) (omega (arith, ints, p.1, s.1, small, few, w)) (omega (arith, ints, p.2, s.2, small, few, w)) in
    (exact ∙ (λ k. p.0 k +ℤ s.0 k), omega (arith, ints, exact, p.1, s.1), omega (arith, ints, exact, p.2, s.2))
worth m ns i n z few w e g (minus a b) h =
    let v = subst (λ o. Worth m ns i o z) (same_node ns i n _ e h.2) g in
    let p = v.2 a (arith_within ns i h.0 a (omega (arith, h.3.0, h.3.1)) h.4) in
    let s = v.3 b (arith_within ns i h.1 b h.3.1 h.5) in
    let small = nodes_below ns i (minus a b) h in
    let exact = v.4 ∙ not_cut (v.0 -ℤ v.1) (omega (arith, ints, p.1, s.2, small, few, w)) (omega (arith, ints, p.2, s.1, small, few, w)) in
    (exact ∙ (λ k. p.0 k -ℤ s.0 k), omega (arith, ints, exact, p.1, s.2), omega (arith, ints, exact, p.2, s.1))

-- a value that is handed on through its bits
pub through : (m : Moment) (ns : List ArithNode) (i : ℕ) (z : ℤ) → SFits w32 z → ValueSo m ns i z → ValueSo m ns i (to_z w32 (of_z w32 z))
through m ns i z f v = subst (ValueSo m ns i) (sym (to_z-of_z w32 z f)) v
