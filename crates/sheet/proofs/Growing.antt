-- The tree that stands at an index is the one that grows there. Assumes nothing.
use Rattle.std.proofs.Common.{◌≡◌, ℕ, zero, suc, ◌+◌, ◌<◌, List, [], ◌∷◌, ◌++◌, length, get_or, Some, sym, refl, ap, ◌∙◌, arith}
use Rattle.std.proofs.lemmas.List.{get_or_append_left, get_or_push, length_push}
use Rattle.model.specs.Cells.{at}
use Rattle.text.specs.declared.node.ArithNode.{ArithNode}
use Rattle.text.specs.declared.node.ArithNode.TheVariants.{Number, Current, Initial, Plus, Minus}
use Rattle.text.specs.declared.node.TestNode.{TestNode}
use Rattle.text.specs.declared.node.TestNode.TheVariants.{Always, Less, AtMost, Equal, Both, Either, NotBoth}
use Rattle.text.specs.Expressions.{Arith, number, current, initial, plus, minus, Test, always, less, at_most, equal, both, either, not_both}
use Rattle.text.specs.Nodes.{ArithAt, TestAt}
use Rattle.sheet.specs.Parts.{grown, arith as arith_node, test, test_of}

module _ {N T : Type 0} (build : List T → N → T) (d : T) where
  pub grown_keeps : (xs : List N) (ts : List T) (i : ℕ) → i < length ts → get_or (grown build ts xs) i d ≡ get_or ts i d
  grown_keeps [] ts i h = refl
  grown_keeps (x ∷ xs) ts i h = grown_keeps xs (ts ++ build ts x ∷ []) i (omega (arith, length_push ts (build ts x))) ∙ get_or_append_left ts (build ts x ∷ []) d i h

  -- what grew at index k: the tree of a node by trees that agree with those below k
  pub record Grew (gs : List T) (k : ℕ) (x : N) : Type 0 where
    pub before : List T
    pub same : (j : ℕ) → j < k → get_or before j d ≡ get_or gs j d
    pub is : get_or gs k d ≡ build before x

  pub grown_at : (xs : List N) (ts : List T) (i k : ℕ) (x : N) → k ≡ length ts + i → at xs i ≡ Some x → Grew (grown build ts xs) k x
  grown_at [] ts i k x e h = let z : ◌≡◌ {A = ℕ} 0 1 = cc in absurd (omega arith)
  grown_at (y ∷ xs) ts zero k x e h = record {
    before = ts;
    same = λ j b. sym (grown_keeps (y ∷ xs) ts j (omega arith));
    is = grown_keeps xs (ts ++ build ts y ∷ []) k (omega (arith, length_push ts (build ts y))) ∙ get_or_push ts (build ts y) d k (omega arith) ∙ ap (build ts) (cc);
  }
  grown_at (y ∷ xs) ts (suc i) k x e h = grown_at xs (ts ++ build ts y ∷ []) i k x (omega (arith, length_push ts (build ts y))) h

abbrev ariths : List ArithNode → List Arith
ariths ns = grown arith_node [] ns

at_index : (ns : List ArithNode) (i : ℕ) (x : ArithNode) → at ns i ≡ Some x → Grew arith_node (number 0) (ariths ns) i x
at_index ns i x h = grown_at arith_node (number 0) ns [] i i x (omega arith) h

pub arith_at : (ns : List ArithNode) (i : ℕ) (a : Arith) → ArithAt ns i a → get_or (ariths ns) i (number 0) ≡ a
arith_at ns i (number n) h = (at_index ns i (Number n) h).is
arith_at ns i (current r) h = (at_index ns i (Current h.0) h.1).is ∙ ap current h.2
arith_at ns i (initial r) h = (at_index ns i (Initial h.0) h.1).is ∙ ap initial h.2
arith_at ns i (plus a b) h =
    let g = at_index ns i (Plus h.0 h.1) h.2 in
    let l = g.same h.0 (omega arith) ∙ arith_at ns h.0 a h.4 in
    let r = g.same h.1 (omega arith) ∙ arith_at ns h.1 b h.5 in
    g.is ∙ ap (λ (x : Arith). plus x (get_or g.before h.1 (number 0))) l ∙ ap (plus a) r
arith_at ns i (minus a b) h =
    let g = at_index ns i (Minus h.0 h.1) h.2 in
    let l = g.same h.0 (omega arith) ∙ arith_at ns h.0 a h.4 in
    let r = g.same h.1 (omega arith) ∙ arith_at ns h.1 b h.5 in
    g.is ∙ ap (λ (x : Arith). minus x (get_or g.before h.1 (number 0))) l ∙ ap (minus a) r

module _ (ns : List ArithNode) (ts : List TestNode) where
  at_test : (i : ℕ) (x : TestNode) → at ts i ≡ Some x → Grew (test (ariths ns)) always (grown (test (ariths ns)) [] ts) i x
  at_test i x h = grown_at (test (ariths ns)) always ts [] i i x (omega arith) h

  two : (make : Arith → Arith → Test) (l r : ℕ) (a b : Arith) → ArithAt ns l a → ArithAt ns r b → make (get_or (ariths ns) l (number 0)) (get_or (ariths ns) r (number 0)) ≡ make a b
  two make l r a b p q = ap (λ (x : Arith). make x (get_or (ariths ns) r (number 0))) (arith_at ns l a p) ∙ ap (make a) (arith_at ns r b q)

  pub test_at : (i : ℕ) (t : Test) → TestAt ns ts i t → test_of ns ts i ≡ t
  test_at i always h = (at_test i Always h).is
  test_at i (less a b) h = (at_test i (Less h.0 h.1) h.2).is ∙ two less h.0 h.1 a b h.3 h.4
  test_at i (at_most a b) h = (at_test i (AtMost h.0 h.1) h.2).is ∙ two at_most h.0 h.1 a b h.3 h.4
  test_at i (equal a b) h = (at_test i (Equal h.0 h.1) h.2).is ∙ two equal h.0 h.1 a b h.3 h.4
  test_at i (both s t) h =
      let g = at_test i (Both h.0 h.1) h.2 in
      let l = g.same h.0 h.3 ∙ test_at h.0 s h.5 in
      let r = g.same h.1 h.4 ∙ test_at h.1 t h.6 in
      g.is ∙ ap (λ (x : Test). both x (get_or g.before h.1 always)) l ∙ ap (both s) r
  test_at i (either s t) h =
      let g = at_test i (Either h.0 h.1) h.2 in
      let l = g.same h.0 h.3 ∙ test_at h.0 s h.5 in
      let r = g.same h.1 h.4 ∙ test_at h.1 t h.6 in
      g.is ∙ ap (λ (x : Test). either x (get_or g.before h.1 always)) l ∙ ap (either s) r
  test_at i (not_both s t) h =
      let g = at_test i (NotBoth h.0 h.1) h.2 in
      let l = g.same h.0 h.3 ∙ test_at h.0 s h.5 in
      let r = g.same h.1 h.4 ∙ test_at h.1 t h.6 in
      g.is ∙ ap (λ (x : Test). not_both x (get_or g.before h.1 always)) l ∙ ap (not_both s) r
