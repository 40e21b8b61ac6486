-- Which pure tree stands at a place among nodes. Assumes nothing.
use Rattle.std.specs.Prelude.{◌≡◌, ℕ, suc, ◌+◌, ◌<◌, ◌≤◌, List, Some}
use Rattle.model.specs.Cells.{at}
use Rattle.text.specs.declared.word.Register.{Register}
use Rattle.text.specs.declared.node.ArithNode.{ArithNode}
use Rattle.text.specs.declared.node.ArithNode.TheVariants.{Number, Current, Initial, Plus, Minus}
use Rattle.text.specs.declared.node.TestNode.{TestNode}
use Rattle.text.specs.declared.node.TestNode.TheVariants.{Always, Less, AtMost, Equal, Both, Either, NotBoth}
use Rattle.text.specs.Words.{register_index}
use Rattle.text.specs.Expressions.{Arith, number, current, initial, plus, minus, Test, always, less, at_most, equal, both, either, not_both}

-- how many nodes a tree has
abbrev pub nodes : Arith → ℕ
nodes (number n) = 1
nodes (current r) = 1
nodes (initial r) = 1
nodes (plus a b) = suc (nodes a + nodes b)
nodes (minus a b) = suc (nodes a + nodes b)

-- an operator's operands stand before it, the left one before all nodes of the right one
abbrev pub Before : ℕ → ℕ → ℕ → ℕ → Type 0
Before i l r n = (l + n ≤ r) × (r < i)

-- the tree a stands at place i of the nodes
abbrev pub ArithAt : List ArithNode → ℕ → Arith → Type 0
ArithAt ns i (number n) = at ns i ≡ Some (Number n)
ArithAt ns i (current r) = (q : Register) × (at ns i ≡ Some (Current q)) × (register_index q ≡ r)
ArithAt ns i (initial r) = (q : Register) × (at ns i ≡ Some (Initial q)) × (register_index q ≡ r)
ArithAt ns i (plus a b) = (l : ℕ) × (r : ℕ) × (at ns i ≡ Some (Plus l r)) × Before i l r (nodes b) × ArithAt ns l a × ArithAt ns r b
ArithAt ns i (minus a b) = (l : ℕ) × (r : ℕ) × (at ns i ≡ Some (Minus l r)) × Before i l r (nodes b) × ArithAt ns l a × ArithAt ns r b

-- the tree t stands at place i of the tests, over arithmetic nodes
abbrev pub TestAt : List ArithNode → List TestNode → ℕ → Test → Type 0
TestAt ns ts i always = at ts i ≡ Some Always
TestAt ns ts i (less a b) = (l : ℕ) × (r : ℕ) × (at ts i ≡ Some (Less l r)) × ArithAt ns l a × ArithAt ns r b
TestAt ns ts i (at_most a b) = (l : ℕ) × (r : ℕ) × (at ts i ≡ Some (AtMost l r)) × ArithAt ns l a × ArithAt ns r b
TestAt ns ts i (equal a b) = (l : ℕ) × (r : ℕ) × (at ts i ≡ Some (Equal l r)) × ArithAt ns l a × ArithAt ns r b
TestAt ns ts i (both s t) = (l : ℕ) × (r : ℕ) × (at ts i ≡ Some (Both l r)) × (l < i) × (r < i) × TestAt ns ts l s × TestAt ns ts r t
TestAt ns ts i (either s t) = (l : ℕ) × (r : ℕ) × (at ts i ≡ Some (Either l r)) × (l < i) × (r < i) × TestAt ns ts l s × TestAt ns ts r t
TestAt ns ts i (not_both s t) = (l : ℕ) × (r : ℕ) × (at ts i ≡ Some (NotBoth l r)) × (l < i) × (r < i) × TestAt ns ts l s × TestAt ns ts r t
