-- Whether a test holds, by the kind of its node. Assumes nothing.
use Rattle.std.proofs.Common.{◌≡◌, ℕ, ◌<◌, ◌≤◌, Bool, true, false, not, ◌&&◌, ◌||◌, eqb, List, length, take, ℤ, Some, Decides, sym, refl, ap, ◌∙◌, subst, arith, w32, SFits, to_z, of_z, eq-eqb, eqb-true}
use borrow.Author.Differences.{ints}
use lib.Signed.{le_z, lt_z}
use mir.ValLaws.{to_z-of_z}
use Rattle.std.proofs.lemmas.Bool.{and_parts}
use Rattle.model.specs.Cells.{at}
use Rattle.model.specs.declared.moment.Moment.{Moment}
use Rattle.text.specs.declared.node.ArithNode.{ArithNode}
use Rattle.text.specs.declared.node.TestNode.{TestNode}
use Rattle.text.specs.declared.node.TestNode.TheVariants.{Always as AlwaysNode, Less as LessNode, AtMost as AtMostNode, Equal as EqualNode, Both as BothNode, Either as EitherNode, NotBoth as NotBothNode}
use Rattle.text.specs.Expressions.{Test, always, less, at_most, equal, both, either, not_both}
use Rattle.text.specs.Nodes.{TestAt}
use Rattle.values.specs.Evaluation.{ValueSo, HoldsSo}
use Rattle.values.proofs.Values.{at_none, at_take, same_node}

same_answer : (a b : Bool) (P : Type 0) → Decides a P → Decides b P → a ≡ b
same_answer true b P d e = sym (e.1 (d.0 refl))
same_answer false true P d e = d.1 (e.0 refl)
same_answer false false P d e = refl

-- nothing stands past the end
pub holds_none : (m : Moment) (ns : List ArithNode) (ts : List TestNode) (i : ℕ) (z : Bool) → length ts ≤ i → HoldsSo m ns ts i z
holds_none m ns ts i z w always h = absurd (at_none ts i _ w h)
holds_none m ns ts i z w (less a b) h = absurd (at_none ts i _ w h.2)
holds_none m ns ts i z w (at_most a b) h = absurd (at_none ts i _ w h.2)
holds_none m ns ts i z w (equal a b) h = absurd (at_none ts i _ w h.2)
holds_none m ns ts i z w (both a b) h = absurd (at_none ts i _ w h.2)
holds_none m ns ts i z w (either a b) h = absurd (at_none ts i _ w h.2)
holds_none m ns ts i z w (not_both a b) h = absurd (at_none ts i _ w h.2)

test_within : (ns : List ArithNode) (ts : List TestNode) (n i : ℕ) (t : Test) → i < n → TestAt ns ts i t → TestAt ns (take n ts) i t
test_within ns ts n i always w h = at_take ts n i _ w h
test_within ns ts n i (less a b) w h = (h.0, h.1, at_take ts n i _ w h.2, h.3, h.4)
test_within ns ts n i (at_most a b) w h = (h.0, h.1, at_take ts n i _ w h.2, h.3, h.4)
test_within ns ts n i (equal a b) w h = (h.0, h.1, at_take ts n i _ w h.2, h.3, h.4)
test_within ns ts n i (both s t) w h = (h.0, h.1, at_take ts n i _ w h.2, h.3, h.4, test_within ns ts n h.0 s (omega (arith, h.3)) h.5, test_within ns ts n h.1 t (omega (arith, h.4)) h.6)
test_within ns ts n i (either s t) w h = (h.0, h.1, at_take ts n i _ w h.2, h.3, h.4, test_within ns ts n h.0 s (omega (arith, h.3)) h.5, test_within ns ts n h.1 t (omega (arith, h.4)) h.6)
test_within ns ts n i (not_both s t) w h = (h.0, h.1, at_take ts n i _ w h.2, h.3, h.4, test_within ns ts n h.0 s (omega (arith, h.3)) h.5, test_within ns ts n h.1 t (omega (arith, h.4)) h.6)

-- the answer z is what the node at place i says of it, by those of its operands among the tests before it
abbrev pub Told : Moment → List ArithNode → List TestNode → ℕ → TestNode → Bool → Type 0
Told m ns ts i AlwaysNode z = z ≡ true
Told m ns ts i (LessNode l r) z = (x : ℤ) × (y : ℤ) × ValueSo m ns l x × ValueSo m ns r y × (z ≡ lt_z x y)
Told m ns ts i (AtMostNode l r) z = (x : ℤ) × (y : ℤ) × ValueSo m ns l x × ValueSo m ns r y × (z ≡ le_z x y)
Told m ns ts i (EqualNode l r) z = (x : ℤ) × (y : ℤ) × ValueSo m ns l x × ValueSo m ns r y × (z ≡ (le_z x y && le_z y x))
Told m ns ts i (BothNode l r) z = (x : Bool) × (y : Bool) × HoldsSo m ns (take i ts) l x × HoldsSo m ns (take i ts) r y × (z ≡ (x && y))
Told m ns ts i (EitherNode l r) z = (x : Bool) × (y : Bool) × HoldsSo m ns (take i ts) l x × HoldsSo m ns (take i ts) r y × (z ≡ (x || y))
Told m ns ts i (NotBothNode l r) z = (x : Bool) × (y : Bool) × HoldsSo m ns (take i ts) l x × HoldsSo m ns (take i ts) r y × (z ≡ not (x && y))

pub told : (m : Moment) (ns : List ArithNode) (ts : List TestNode) (i : ℕ) (n : TestNode) (z : Bool) → at ts i ≡ Some n → Told m ns ts i n z → HoldsSo m ns ts i z
told m ns ts i n z e g always h = subst (λ o. Told m ns ts i o z) (same_node ts i n _ e h) g
told m ns ts i n z e g (less a b) h = let v = subst (λ o. Told m ns ts i o z) (same_node ts i n _ e h.2) g in let p = v.2 a h.3 in let s = v.3 b h.4 in v.4 ∙ (λ k. lt_z (p.0 k) (s.0 k))
told m ns ts i n z e g (at_most a b) h = let v = subst (λ o. Told m ns ts i o z) (same_node ts i n _ e h.2) g in let p = v.2 a h.3 in let s = v.3 b h.4 in v.4 ∙ (λ k. le_z (p.0 k) (s.0 k))
told m ns ts i n z e g (equal a b) h = let v = subst (λ o. Told m ns ts i o z) (same_node ts i n _ e h.2) g in let p = v.2 a h.3 in let s = v.3 b h.4 in v.4 ∙ (λ k. (le_z (p.0 k) (s.0 k) && le_z (s.0 k) (p.0 k)))
told m ns ts i n z e g (both a b) h = let v = subst (λ o. Told m ns ts i o z) (same_node ts i n _ e h.2) g in let p = v.2 a (test_within ns ts i h.0 a h.3 h.5) in let s = v.3 b (test_within ns ts i h.1 b h.4 h.6) in v.4 ∙ (λ k. (p k && s k))
told m ns ts i n z e g (either a b) h = let v = subst (λ o. Told m ns ts i o z) (same_node ts i n _ e h.2) g in let p = v.2 a (test_within ns ts i h.0 a h.3 h.5) in let s = v.3 b (test_within ns ts i h.1 b h.4 h.6) in v.4 ∙ (λ k. (p k || s k))
told m ns ts i n z e g (not_both a b) h = let v = subst (λ o. Told m ns ts i o z) (same_node ts i n _ e h.2) g in let p = v.2 a (test_within ns ts i h.0 a h.3 h.5) in let s = v.3 b (test_within ns ts i h.1 b h.4 h.6) in v.4 ∙ (λ k. not (p k && s k))

antisym : (x y : ℤ) → (le_z x y && le_z y x) ≡ true → x ≡ y
antisym x y e = let p = and_parts (le_z x y) (le_z y x) e in omega (arith, ints, p.0, p.1)

itself : (x : ℤ) → (le_z x x && le_z x x) ≡ true
itself x = grind (arith, ints)

-- two values that are equal in their bits
pub bits_equal : (x y : ℤ) → SFits w32 x → SFits w32 y → eqb (of_z w32 x) (of_z w32 y) ≡ (le_z x y && le_z y x)
bits_equal x y f g = same_answer _ _ (x ≡ y)
    (λ e. sym (to_z-of_z w32 x f) ∙ ap (to_z w32) (eqb-true _ _ e) ∙ to_z-of_z w32 y g, λ e. eq-eqb _ _ (ap (of_z w32) e))
    (antisym x y, λ e. subst (λ v. (le_z x v && le_z v x) ≡ true) e (itself x))
