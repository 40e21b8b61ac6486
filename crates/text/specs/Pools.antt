-- What counting a word and adding a node change in the room for expressions. Assumes nothing.
use Rattle.std.specs.Prelude.{◌≡◌, ℕ, suc, [], ◌∷◌, ◌++◌, vec_items, vec_len}
use Rattle.text.specs.declared.expressions.Expressions.{Expressions}
use Rattle.text.specs.declared.node.ArithNode.{ArithNode}
use Rattle.text.specs.declared.node.TestNode.{TestNode}

-- the nodes of two rooms are the same
pub record SameNodes (x y : Expressions) : Type 0 where
  pub ariths : vec_items y.ariths ≡ vec_items x.ariths
  pub tests : vec_items y.tests ≡ vec_items x.tests
  pub arith_count : vec_len y.ariths ≡ vec_len x.ariths
  pub test_count : vec_len y.tests ≡ vec_len x.tests

-- one more word is counted
abbrev pub Counted : Expressions → Expressions → Type 0
Counted x y = SameNodes x y × (y.counted ≡ suc x.counted)

-- the node stands at the end of the arithmetic nodes, and the rest is as it was
pub record ArithPushed (x y : Expressions) (node : ArithNode) (place : ℕ) : Type 0 where
  pub at_end : place ≡ vec_len x.ariths
  pub ariths : vec_items y.ariths ≡ vec_items x.ariths ++ node ∷ []
  pub tests : vec_items y.tests ≡ vec_items x.tests
  pub arith_count : vec_len y.ariths ≡ suc (vec_len x.ariths)
  pub test_count : vec_len y.tests ≡ vec_len x.tests
  pub counted : y.counted ≡ x.counted

-- the node stands at the end of the tests, and the rest is as it was
pub record TestPushed (x y : Expressions) (node : TestNode) (place : ℕ) : Type 0 where
  pub at_end : place ≡ vec_len x.tests
  pub tests : vec_items y.tests ≡ vec_items x.tests ++ node ∷ []
  pub ariths : vec_items y.ariths ≡ vec_items x.ariths
  pub arith_count : vec_len y.ariths ≡ vec_len x.ariths
  pub test_count : vec_len y.tests ≡ suc (vec_len x.tests)
  pub counted : y.counted ≡ x.counted
