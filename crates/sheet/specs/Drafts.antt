-- What counting and adding change in a draft, and which expression has been laid down in it. Assumes nothing.
use Rattle.std.specs.Prelude.{◌≡◌, ℕ, suc, ◌+◌, ◌*◌, ◌≤◌, List, [], ◌∷◌, ◌++◌, vec_items, vec_len}
use Rattle.text.specs.declared.node.ArithNode.{ArithNode}
use Rattle.text.specs.declared.node.TestNode.{TestNode}
use Rattle.text.specs.Nodes.{TestAt}
use Rattle.regular.specs.Words.{Regex, size, Assertion, assertions}
use Rattle.sheet.specs.declared.tree.Node.{Node}
use Rattle.sheet.specs.declared.tree.Node.TheVariants.{One}
use Rattle.sheet.specs.declared.tree.Leaf.{Leaf}
use Rattle.sheet.specs.declared.tree.Leaf.TheVariants.{Given, Anything}
use Rattle.sheet.specs.declared.draft.Draft.{Draft}
use Rattle.sheet.specs.Flat.{any, below, laid}
use Rattle.sheet.specs.Parts.{labels_of}

-- only the number of signs may differ
pub record SameParts (x y : Draft) : Type 0 where
  pub nodes : vec_items y.nodes ≡ vec_items x.nodes
  pub node_count : vec_len y.nodes ≡ vec_len x.nodes
  pub leaves : vec_items y.leaves ≡ vec_items x.leaves
  pub leaf_count : vec_len y.leaves ≡ vec_len x.leaves
  pub tests : y.tests ≡ x.tests

-- one more sign is counted
abbrev pub Signed : Draft → Draft → Type 0
Signed x y = SameParts x y × (y.signs ≡ suc x.signs)

-- the node stands at the end, and the rest is as it was
pub record Pushed (x y : Draft) (node : Node) (index : ℕ) : Type 0 where
  pub at_end : index ≡ vec_len x.nodes
  pub nodes : vec_items y.nodes ≡ vec_items x.nodes ++ node ∷ []
  pub node_count : vec_len y.nodes ≡ suc (vec_len x.nodes)
  pub leaves : vec_items y.leaves ≡ vec_items x.leaves
  pub leaf_count : vec_len y.leaves ≡ vec_len x.leaves
  pub tests : y.tests ≡ x.tests
  pub signs : y.signs ≡ x.signs

-- the assertion and its node stand at the ends, and the rest is as it was
pub record Asserted (x y : Draft) (leaf : Leaf) (index : ℕ) : Type 0 where
  pub at_end : index ≡ vec_len x.nodes
  pub nodes : vec_items y.nodes ≡ vec_items x.nodes ++ One (vec_len x.leaves) ∷ []
  pub node_count : vec_len y.nodes ≡ suc (vec_len x.nodes)
  pub leaves : vec_items y.leaves ≡ vec_items x.leaves ++ leaf ∷ []
  pub leaf_count : vec_len y.leaves ≡ suc (vec_len x.leaves)
  pub tests : y.tests ≡ x.tests
  pub signs : y.signs ≡ x.signs

-- the leaf is this assertion, by the nodes of the expressions
abbrev pub Is : List ArithNode → List TestNode → Leaf → Assertion → Type 0
Is ns ts (Given l i) a = (labels_of l ≡ a.labels) × TestAt ns ts i a.test
Is ns ts Anything a = any ≡ a

-- the leaves are these assertions, in turn
abbrev pub Stand : List ArithNode → List TestNode → List Leaf → List Assertion → Type 0
Stand ns ts [] [] = Unit {0}
Stand ns ts [] (a ∷ more) = ⊥
Stand ns ts (l ∷ ls) [] = ⊥
Stand ns ts (l ∷ ls) (a ∷ more) = Is ns ts l a × Stand ns ts ls more

-- from x to y an expression has been laid down, its root at index i, and nothing else has changed
pub record Grown (x y : Draft) (e : Regex) (i : ℕ) : Type 0 where
  pub index : i ≡ vec_len x.nodes + below e
  pub nodes : vec_items y.nodes ≡ vec_items x.nodes ++ laid e (vec_len x.nodes) (vec_len x.leaves)
  pub node_count : vec_len y.nodes ≡ vec_len x.nodes + suc (below e)
  pub added : List Leaf
  pub leaves : vec_items y.leaves ≡ vec_items x.leaves ++ added
  pub leaf_count : vec_len y.leaves ≡ vec_len x.leaves + size e
  pub stand : Stand (vec_items y.tests.ariths) (vec_items y.tests.tests) added (assertions e)
  pub more_ariths : List ArithNode
  pub ariths : vec_items y.tests.ariths ≡ vec_items x.tests.ariths ++ more_ariths
  pub more_tests : List TestNode
  pub tests : vec_items y.tests.tests ≡ vec_items x.tests.tests ++ more_tests

-- room is left for one more node
abbrev pub Slim : Draft → Draft → Type 0
Slim x y = vec_len y.nodes + suc (2 * (vec_len x.leaves + x.signs)) ≤ vec_len x.nodes + 2 * (vec_len y.leaves + y.signs)

abbrev pub Drawn : Draft → Draft → Regex → ℕ → Type 0
Drawn x y e i = Grown x y e i × Slim x y

-- nothing has been read
pub record Fresh (x : Draft) : Type 0 where
  pub no_nodes : vec_len x.nodes ≡ 0
  pub no_leaves : vec_len x.leaves ≡ 0
  pub no_signs : x.signs ≡ 0

-- an expression lies in a draft, and nothing else
pub record LaidDown (y : Draft) (e : Regex) : Type 0 where
  pub nodes : vec_items y.nodes ≡ laid e 0 0
  pub leaf_count : vec_len y.leaves ≡ size e
  pub stand : Stand (vec_items y.tests.ariths) (vec_items y.tests.tests) (vec_items y.leaves) (assertions e)
