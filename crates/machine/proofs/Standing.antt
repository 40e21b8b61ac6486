-- Trees among nodes: the tree that stands at a place is the one that is read there. Assumes nothing.
use Rattle.std.proofs.Common.{◌≡◌, ℕ, zero, suc, ◌+◌, ◌<◌, true, ◌&&◌, ltb, leb, List, Some, None, Option, refl, ap, ◌∙◌, arith}
use Rattle.std.proofs.lemmas.Bool.{and_parts, and_from, leb-true, le-leb, ltb-true, lt-ltb}
use borrow.Author.Tests.{clash}
use Rattle.model.specs.Cells.{at}
use Rattle.text.specs.declared.node.ArithNode.{ArithNode}
use Rattle.text.specs.declared.node.ArithNode.TheVariants.{Number, Current, Initial, Plus, Minus}
use Rattle.text.specs.declared.node.TestNode.{TestNode}
use Rattle.text.specs.declared.node.TestNode.TheVariants.{Always, Less, AtMost, Equal, Both, Either, NotBoth}
use Rattle.text.specs.Nodes.{nodes, Before, ArithAt, TestAt}
use Rattle.text.specs.Expressions.{Arith, number, current, initial, plus, minus, Test, always, less, at_most, equal, both, either, not_both}
use Rattle.machine.specs.Views.{arith_of, arith_by, arith_at, test_of, test_by, test_at, ordered, node_stands, stands_by, arith_stands, test_node_stands, test_stands_by, test_stands}

nodes_pos : (a : Arith) → 0 < nodes a
nodes_pos (number n) = omega arith
nodes_pos (current r) = omega arith
nodes_pos (initial r) = omega arith
nodes_pos (plus a b) = omega arith
nodes_pos (minus a b) = omega arith

module _ (ns : List ArithNode) where
  -- ---- what stands by the test stands by the relation
  stands_node : (d i : ℕ) → ((j : ℕ) → stands_by ns d j ≡ true → ArithAt ns j (arith_by ns d j)) → (o : Option ArithNode) → at ns i ≡ o
      → node_stands (arith_by ns d) (stands_by ns d) i o ≡ true → ArithAt ns i (arith_of (arith_by ns d) o)
  stands_node d i ih None e h = absurd (clash h)
  stands_node d i ih (Some (Number n)) e h = e
  stands_node d i ih (Some (Current r)) e h = (r, e, refl)
  stands_node d i ih (Some (Initial r)) e h = (r, e, refl)
  stands_node d i ih (Some (Plus l r)) e h =
      let p = and_parts (leb (l + nodes (arith_by ns d r)) r) (ltb r i && (stands_by ns d l && stands_by ns d r)) h in
      let q = and_parts (ltb r i) (stands_by ns d l && stands_by ns d r) p.1 in
      let s = and_parts (stands_by ns d l) (stands_by ns d r) q.1 in
      (l, r, e, (leb-true _ _ p.0, ltb-true _ _ q.0), ih l s.0, ih r s.1)
  stands_node d i ih (Some (Minus l r)) e h =
      let p = and_parts (leb (l + nodes (arith_by ns d r)) r) (ltb r i && (stands_by ns d l && stands_by ns d r)) h in
      let q = and_parts (ltb r i) (stands_by ns d l && stands_by ns d r) p.1 in
      let s = and_parts (stands_by ns d l) (stands_by ns d r) q.1 in
      (l, r, e, (leb-true _ _ p.0, ltb-true _ _ q.0), ih l s.0, ih r s.1)

  stands_so : (d i : ℕ) → stands_by ns d i ≡ true → ArithAt ns i (arith_by ns d i)
  stands_so zero i h = absurd (clash h)
  stands_so (suc d) i h = stands_node d i (stands_so d) (at ns i) refl h

  pub arith_here : (i : ℕ) → arith_stands ns i ≡ true → ArithAt ns i (arith_at ns i)
  arith_here i h = stands_so (suc i) i h

  -- ---- and the other way
  record Found (d i : ℕ) (a : Arith) : Type 0 where
    is : arith_by ns d i ≡ a
    stands : stands_by ns d i ≡ true

  joined : (d i l r : ℕ) (b : Arith) → Before i l r (nodes b) → arith_by ns d r ≡ b → stands_by ns d l ≡ true → stands_by ns d r ≡ true → ordered (arith_by ns d) (stands_by ns d) i l r ≡ true
  joined d i l r b h e f g =
      let w : nodes (arith_by ns d r) ≡ nodes b = ap nodes e in
      let x = h.0 in
      and_from _ _ (le-leb (l + nodes (arith_by ns d r)) r (omega arith)) (and_from _ _ (lt-ltb r i h.1) (and_from _ _ f g))

  found : (a : Arith) (d i : ℕ) → i < d → ArithAt ns i a → Found d i a
  found (number n) zero i l h = absurd (omega arith)
  found (number n) (suc d) i l h = record { is = ap (arith_of (arith_by ns d)) h; stands = ap (node_stands (arith_by ns d) (stands_by ns d) i) h }
  found (current r) zero i l h = absurd (omega arith)
  found (current r) (suc d) i l h = record { is = ap (arith_of (arith_by ns d)) h.1 ∙ ap current h.2; stands = ap (node_stands (arith_by ns d) (stands_by ns d) i) h.1 }
  found (initial r) zero i l h = absurd (omega arith)
  found (initial r) (suc d) i l h = record { is = ap (arith_of (arith_by ns d)) h.1 ∙ ap initial h.2; stands = ap (node_stands (arith_by ns d) (stands_by ns d) i) h.1 }
  found (plus a b) zero i l h = absurd (omega arith)
  found (plus a b) (suc d) i l h =
      let x = h.3.0 in
      let y = h.3.1 in
      let n = nodes_pos b in
      let f = found a d h.0 (omega arith) h.4 in
      let g = found b d h.1 (omega arith) h.5 in
      record {
        is = ap (arith_of (arith_by ns d)) h.2 ∙ ap (λ u. plus u (arith_by ns d h.1)) f.is ∙ ap (λ v. plus a v) g.is;
        stands = ap (node_stands (arith_by ns d) (stands_by ns d) i) h.2 ∙ joined d i h.0 h.1 b h.3 g.is f.stands g.stands;
      }
  found (minus a b) zero i l h = absurd (omega arith)
  found (minus a b) (suc d) i l h =
      let x = h.3.0 in
      let y = h.3.1 in
      let n = nodes_pos b in
      let f = found a d h.0 (omega arith) h.4 in
      let g = found b d h.1 (omega arith) h.5 in
      record {
        is = ap (arith_of (arith_by ns d)) h.2 ∙ ap (λ u. minus u (arith_by ns d h.1)) f.is ∙ ap (λ v. minus a v) g.is;
        stands = ap (node_stands (arith_by ns d) (stands_by ns d) i) h.2 ∙ joined d i h.0 h.1 b h.3 g.is f.stands g.stands;
      }

  pub arith_is : (i : ℕ) (a : Arith) → ArithAt ns i a → arith_at ns i ≡ a
  arith_is i a h = (found a (suc i) i (omega arith) h).is

  pub arith_found : (i : ℕ) (a : Arith) → ArithAt ns i a → arith_stands ns i ≡ true
  arith_found i a h = (found a (suc i) i (omega arith) h).stands

  module _ (ts : List TestNode) where
    test_node : (d i : ℕ) → ((j : ℕ) → test_stands_by ns ts d j ≡ true → TestAt ns ts j (test_by ns ts d j)) → (o : Option TestNode) → at ts i ≡ o
        → test_node_stands (arith_stands ns) (test_stands_by ns ts d) i o ≡ true → TestAt ns ts i (test_of (arith_at ns) (test_by ns ts d) o)
    test_node d i ih None e h = absurd (clash h)
    test_node d i ih (Some Always) e h = e
    test_node d i ih (Some (Less l r)) e h = let p = and_parts _ _ h in (l, r, e, arith_here l p.0, arith_here r p.1)
    test_node d i ih (Some (AtMost l r)) e h = let p = and_parts _ _ h in (l, r, e, arith_here l p.0, arith_here r p.1)
    test_node d i ih (Some (Equal l r)) e h = let p = and_parts _ _ h in (l, r, e, arith_here l p.0, arith_here r p.1)
    test_node d i ih (Some (Both l r)) e h =
        let p = and_parts (ltb l i) (ltb r i && (test_stands_by ns ts d l && test_stands_by ns ts d r)) h in
        let q = and_parts (ltb r i) (test_stands_by ns ts d l && test_stands_by ns ts d r) p.1 in
        let s = and_parts (test_stands_by ns ts d l) (test_stands_by ns ts d r) q.1 in
        (l, r, e, ltb-true _ _ p.0, ltb-true _ _ q.0, ih l s.0, ih r s.1)
    test_node d i ih (Some (Either l r)) e h =
        let p = and_parts (ltb l i) (ltb r i && (test_stands_by ns ts d l && test_stands_by ns ts d r)) h in
        let q = and_parts (ltb r i) (test_stands_by ns ts d l && test_stands_by ns ts d r) p.1 in
        let s = and_parts (test_stands_by ns ts d l) (test_stands_by ns ts d r) q.1 in
        (l, r, e, ltb-true _ _ p.0, ltb-true _ _ q.0, ih l s.0, ih r s.1)
    test_node d i ih (Some (NotBoth l r)) e h =
        let p = and_parts (ltb l i) (ltb r i && (test_stands_by ns ts d l && test_stands_by ns ts d r)) h in
        let q = and_parts (ltb r i) (test_stands_by ns ts d l && test_stands_by ns ts d r) p.1 in
        let s = and_parts (test_stands_by ns ts d l) (test_stands_by ns ts d r) q.1 in
        (l, r, e, ltb-true _ _ p.0, ltb-true _ _ q.0, ih l s.0, ih r s.1)

    test_so : (d i : ℕ) → test_stands_by ns ts d i ≡ true → TestAt ns ts i (test_by ns ts d i)
    test_so zero i h = absurd (clash h)
    test_so (suc d) i h = test_node d i (test_so d) (at ts i) refl h

    pub test_here : (i : ℕ) → test_stands ns ts i ≡ true → TestAt ns ts i (test_at ns ts i)
    test_here i h = test_so (suc i) i h

    record FoundTest (d i : ℕ) (t : Test) : Type 0 where
      is : test_by ns ts d i ≡ t
      stands : test_stands_by ns ts d i ≡ true

    compared : (d i l r : ℕ) (n : TestNode) (t : Test) → at ts i ≡ Some n → test_of (arith_at ns) (test_by ns ts d) (Some n) ≡ t
        → test_node_stands (arith_stands ns) (test_stands_by ns ts d) i (Some n) ≡ true → FoundTest (suc d) i t
    compared d i l r n t e f g = record { is = ap (test_of (arith_at ns) (test_by ns ts d)) e ∙ f; stands = ap (test_node_stands (arith_stands ns) (test_stands_by ns ts d) i) e ∙ g }

    two_of : (f : Arith → Arith → Test) (a a' b b' : Arith) → a ≡ a' → b ≡ b' → f a b ≡ f a' b'
    two_of f a a' b b' p q = ap (λ u. f u b) p ∙ ap (λ v. f a' v) q

    two_tests : (f : Test → Test → Test) (a a' b b' : Test) → a ≡ a' → b ≡ b' → f a b ≡ f a' b'
    two_tests f a a' b b' p q = ap (λ u. f u b) p ∙ ap (λ v. f a' v) q

    both_stand : (d i l r : ℕ) → l < i → r < i → test_stands_by ns ts d l ≡ true → test_stands_by ns ts d r ≡ true → (ltb l i && (ltb r i && (test_stands_by ns ts d l && test_stands_by ns ts d r))) ≡ true
    both_stand d i l r x y f g = and_from _ _ (lt-ltb l i x) (and_from _ _ (lt-ltb r i y) (and_from _ _ f g))

    found_test : (t : Test) (d i : ℕ) → i < d → TestAt ns ts i t → FoundTest d i t
    found_test always zero i l h = absurd (omega arith)
    found_test always (suc d) i l h = compared d i 0 0 Always always h refl refl
    found_test (less a b) zero i l h = absurd (omega arith)
    found_test (less a b) (suc d) i l h = compared d i h.0 h.1 (Less h.0 h.1) (less a b) h.2 (two_of less _ a _ b (arith_is h.0 a h.3) (arith_is h.1 b h.4)) (and_from _ _ (arith_found h.0 a h.3) (arith_found h.1 b h.4))
    found_test (at_most a b) zero i l h = absurd (omega arith)
    found_test (at_most a b) (suc d) i l h = compared d i h.0 h.1 (AtMost h.0 h.1) (at_most a b) h.2 (two_of at_most _ a _ b (arith_is h.0 a h.3) (arith_is h.1 b h.4)) (and_from _ _ (arith_found h.0 a h.3) (arith_found h.1 b h.4))
    found_test (equal a b) zero i l h = absurd (omega arith)
    found_test (equal a b) (suc d) i l h = compared d i h.0 h.1 (Equal h.0 h.1) (equal a b) h.2 (two_of equal _ a _ b (arith_is h.0 a h.3) (arith_is h.1 b h.4)) (and_from _ _ (arith_found h.0 a h.3) (arith_found h.1 b h.4))
    found_test (both s t) zero i l h = absurd (omega arith)
    found_test (both s t) (suc d) i l h =
        let x = h.3 in
        let y = h.4 in
        let f = found_test s d h.0 (omega arith) h.5 in
        let g = found_test t d h.1 (omega arith) h.6 in
        compared d i h.0 h.1 (Both h.0 h.1) (both s t) h.2 (two_tests both _ s _ t f.is g.is) (both_stand d i h.0 h.1 x y f.stands g.stands)
    found_test (either s t) zero i l h = absurd (omega arith)
    found_test (either s t) (suc d) i l h =
        let x = h.3 in
        let y = h.4 in
        let f = found_test s d h.0 (omega arith) h.5 in
        let g = found_test t d h.1 (omega arith) h.6 in
        compared d i h.0 h.1 (Either h.0 h.1) (either s t) h.2 (two_tests either _ s _ t f.is g.is) (both_stand d i h.0 h.1 x y f.stands g.stands)
    found_test (not_both s t) zero i l h = absurd (omega arith)
    found_test (not_both s t) (suc d) i l h =
        let x = h.3 in
        let y = h.4 in
        let f = found_test s d h.0 (omega arith) h.5 in
        let g = found_test t d h.1 (omega arith) h.6 in
        compared d i h.0 h.1 (NotBoth h.0 h.1) (not_both s t) h.2 (two_tests not_both _ s _ t f.is g.is) (both_stand d i h.0 h.1 x y f.stands g.stands)

    pub test_is : (i : ℕ) (t : Test) → TestAt ns ts i t → test_at ns ts i ≡ t
    test_is i t h = (found_test t (suc i) i (omega arith) h).is

    pub test_found : (i : ℕ) (t : Test) → TestAt ns ts i t → test_stands ns ts i ≡ true
    test_found i t h = (found_test t (suc i) i (omega arith) h).stands
