-- The value that is computed for a node, and its size. Assumes nothing.
use Rattle.std.specs.Prelude.{◌≡◌, ℕ, ◌*◌, Bool, List, ℤ, pos, neg_ℤ, ◌≤ℤ◌}
use Rattle.model.specs.declared.moment.Moment.{Moment}
use Rattle.text.specs.declared.node.ArithNode.{ArithNode}
use Rattle.text.specs.declared.node.TestNode.{TestNode}
use Rattle.text.specs.Expressions.{Arith, value, Test, holds}
use Rattle.text.specs.Nodes.{nodes, ArithAt, TestAt}

-- for the tree that stands at the place: its value, at most 65,536 in size for each of its nodes
abbrev pub ValueSo : Moment → List ArithNode → ℕ → ℤ → Type 0
ValueSo m ns i r = (a : Arith) → ArithAt ns i a → (r ≡ value m a) × (neg_ℤ (pos (65536 * nodes a)) ≤ℤ r) × (r ≤ℤ pos (65536 * nodes a))

-- for the tree that stands at the place: whether it holds
abbrev pub HoldsSo : Moment → List ArithNode → List TestNode → ℕ → Bool → Type 0
HoldsSo m ns ts i r = (t : Test) → TestAt ns ts i t → r ≡ holds m t
