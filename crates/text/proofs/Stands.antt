-- What stands at a place goes on standing there when more nodes are added. Assumes nothing.
use Rattle.std.proofs.Common.{◌≡◌, ℕ, zero, suc, List, [], ◌∷◌, ◌++◌, length, Some, vec_items, vec_len, Vec, refl, arith}
use Rattle.model.specs.Cells.{at}
use Rattle.text.specs.declared.node.ArithNode.{ArithNode}
use Rattle.text.specs.declared.node.TestNode.{TestNode}
use Rattle.text.specs.Expressions.{Arith, number, current, initial, plus, minus, Test, always, less, at_most, equal, both, either, not_both}
use Rattle.text.specs.Nodes.{ArithAt, TestAt}

pub at_last : {X : Type 0} (xs : List X) (x : X) → at (xs ++ x ∷ []) (length xs) ≡ Some x
at_last [] x = refl
at_last (y ∷ ys) x = at_last ys x

pub at_more : {X : Type 0} (xs ys : List X) (i : ℕ) (x : X) → at xs i ≡ Some x → at (xs ++ ys) i ≡ Some x
at_more [] ys i x e = let z : ◌≡◌ {A = ℕ} 0 1 = cc in absurd (omega arith)
at_more (y ∷ xs) ys zero x e = e
at_more (y ∷ xs) ys (suc i) x e = at_more xs ys i x e

pub vec_long : {X Z : Type 0} (v : Vec X Z) → vec_len v ≡ length (vec_items v)
vec_long v = v.ok.0

pub arith_more : (ns xs : List ArithNode) (i : ℕ) (a : Arith) → ArithAt ns i a → ArithAt (ns ++ xs) i a
arith_more ns xs i (number n) h = at_more ns xs i _ h
arith_more ns xs i (current r) h = (h.0, at_more ns xs i _ h.1, h.2)
arith_more ns xs i (initial r) h = (h.0, at_more ns xs i _ h.1, h.2)
arith_more ns xs i (plus a b) h = (h.0, h.1, at_more ns xs i _ h.2, h.3, arith_more ns xs h.0 a h.4, arith_more ns xs h.1 b h.5)
arith_more ns xs i (minus a b) h = (h.0, h.1, at_more ns xs i _ h.2, h.3, arith_more ns xs h.0 a h.4, arith_more ns xs h.1 b h.5)

pub test_more : (ns xs : List ArithNode) (ts ys : List TestNode) (i : ℕ) (t : Test) → TestAt ns ts i t → TestAt (ns ++ xs) (ts ++ ys) i t
test_more ns xs ts ys i always h = at_more ts ys i _ h
test_more ns xs ts ys i (less a b) h = (h.0, h.1, at_more ts ys i _ h.2, arith_more ns xs h.0 a h.3, arith_more ns xs h.1 b h.4)
test_more ns xs ts ys i (at_most a b) h = (h.0, h.1, at_more ts ys i _ h.2, arith_more ns xs h.0 a h.3, arith_more ns xs h.1 b h.4)
test_more ns xs ts ys i (equal a b) h = (h.0, h.1, at_more ts ys i _ h.2, arith_more ns xs h.0 a h.3, arith_more ns xs h.1 b h.4)
test_more ns xs ts ys i (both s t) h = (h.0, h.1, at_more ts ys i _ h.2, h.3, h.4, test_more ns xs ts ys h.0 s h.5, test_more ns xs ts ys h.1 t h.6)
test_more ns xs ts ys i (either s t) h = (h.0, h.1, at_more ts ys i _ h.2, h.3, h.4, test_more ns xs ts ys h.0 s h.5, test_more ns xs ts ys h.1 t h.6)
test_more ns xs ts ys i (not_both s t) h = (h.0, h.1, at_more ts ys i _ h.2, h.3, h.4, test_more ns xs ts ys h.0 s h.5, test_more ns xs ts ys h.1 t h.6)
