-- What joins two operands, and what one turn of reading an expression adds. Assumes nothing.
use Rattle.std.specs.Prelude.{◌≡◌, ℕ, suc, ◌+◌, List, ◌∷◌, ◌++◌, vec_items, vec_len}
use Rattle.text.specs.declared.arith.Join.{Join}
use Rattle.text.specs.declared.arith.Join.TheVariants.{Plus as PlusJoin, Minus as MinusJoin}
use Rattle.text.specs.declared.expressions.Expressions.{Expressions}
use Rattle.text.specs.declared.node.ArithNode.{ArithNode}
use Rattle.text.specs.declared.node.ArithNode.TheVariants.{Number as NumberNode, Current as CurrentNode, Initial as InitialNode, Plus as PlusNode, Minus as MinusNode}
use Rattle.text.specs.declared.word.Word.{Word}
use Rattle.text.specs.declared.word.Token.{Token}
use Rattle.text.specs.declared.word.Token.TheVariants.{Current, Initial, Plus, Minus}
use Rattle.text.specs.declared.word.Scope.{Scope}
use Rattle.text.specs.Expressions.{Arith, plus, minus}
use Rattle.text.specs.Nodes.{nodes, ArithAt}
use Rattle.text.specs.Table.{Item, more}
use Rattle.text.specs.Charges.{Memo, counting}
use Rattle.text.specs.Derivations.{Sums, one}
use Rattle.text.specs.Reading.{reads, Here}

-- the node of a register's word
abbrev pub Named : Token → ArithNode → Type 0
Named t (NumberNode n) = ⊥
Named t (CurrentNode r) = t ≡ Current r
Named t (InitialNode r) = t ≡ Initial r
Named t (PlusNode l r) = ⊥
Named t (MinusNode l r) = ⊥

-- the word, the node and the tree of an operator
abbrev pub join_token : Join → Token
join_token PlusJoin = Plus
join_token MinusJoin = Minus

abbrev pub join_node : Join → ℕ → ℕ → ArithNode
join_node PlusJoin l r = PlusNode l r
join_node MinusJoin l r = MinusNode l r

abbrev pub join_tree : Join → Arith → Arith → Arith
join_tree PlusJoin a b = plus a b
join_tree MinusJoin a b = minus a b

-- one turn: the operand behind an operator has been read and joined to the tree at place l
pub record Joined (l : ℕ) (j : Join) (s : Scope) (left : ℕ) (ws : List Word) (x y : Expressions) (i : ℕ) (rest : List Word) : Type 0 where
  pub behind : Word
  pub right_words : List Word
  pub words : ws ≡ behind ∷ right_words
  pub right : Arith
  pub derives : Sums one right_words right rest
  pub goes : (m : Memo) (k : List Item) → Here x.counted s left m k → reads ws m (more ∷ k) ≡ reads rest (counting m y.counted) (more ∷ k)
  pub stands : (a : Arith) → ArithAt (vec_items x.ariths) l a → suc l ≡ vec_len x.ariths → ArithAt (vec_items y.ariths) i (join_tree j a right)
  pub last : suc i ≡ vec_len y.ariths
  pub added : List ArithNode
  pub ariths : vec_items y.ariths ≡ vec_items x.ariths ++ added
  pub arith_count : vec_len y.ariths ≡ vec_len x.ariths + suc (nodes right)
  pub counted : y.counted ≡ x.counted + suc (nodes right)
  pub tests : vec_items y.tests ≡ vec_items x.tests
  pub test_count : vec_len y.tests ≡ vec_len x.tests
