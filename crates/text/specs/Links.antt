-- What compares and joins tests, and what one turn of reading a condition adds. Assumes nothing.
use Rattle.std.specs.Prelude.{◌≡◌, ℕ, suc, ◌+◌, List, ◌∷◌, ◌++◌, vec_items, vec_len}
use Rattle.text.specs.declared.boolean.Compare.{Compare}
use Rattle.text.specs.declared.boolean.Compare.TheVariants.{Less as LessCompare, AtMost as AtMostCompare, Equal as EqualCompare}
use Rattle.text.specs.declared.boolean.Link.{Link}
use Rattle.text.specs.declared.boolean.Link.TheVariants.{And as AndLink, Or as OrLink, Nand as NandLink}
use Rattle.text.specs.declared.expressions.Expressions.{Expressions}
use Rattle.text.specs.declared.node.ArithNode.{ArithNode}
use Rattle.text.specs.declared.node.TestNode.{TestNode}
use Rattle.text.specs.declared.node.TestNode.TheVariants.{Less as LessNode, AtMost as AtMostNode, Equal as EqualNode, Both as BothNode, Either as EitherNode, NotBoth as NotBothNode}
use Rattle.text.specs.declared.word.Word.{Word}
use Rattle.text.specs.declared.word.Token.{Token}
use Rattle.text.specs.declared.word.Token.TheVariants.{Less, AtMost, Equal, And, Or, Nand}
use Rattle.text.specs.declared.word.Scope.{Scope}
use Rattle.text.specs.Expressions.{Arith, Test, less, at_most, equal, both, either, not_both}
use Rattle.text.specs.Nodes.{TestAt}
use Rattle.text.specs.Table.{Item, joined}
use Rattle.text.specs.Charges.{Memo, counting}
use Rattle.text.specs.Derivations.{Tests, one_of}
use Rattle.text.specs.Reading.{reads, Here}

-- the word, the node and the tree of a comparison
abbrev pub compare_token : Compare → Token
compare_token LessCompare = Less
compare_token AtMostCompare = AtMost
compare_token EqualCompare = Equal

abbrev pub compare_node : Compare → ℕ → ℕ → TestNode
compare_node LessCompare l r = LessNode l r
compare_node AtMostCompare l r = AtMostNode l r
compare_node EqualCompare l r = EqualNode l r

abbrev pub compare_tree : Compare → Arith → Arith → Test
compare_tree LessCompare a b = less a b
compare_tree AtMostCompare a b = at_most a b
compare_tree EqualCompare a b = equal a b

-- the word, the node and the tree of an operator that joins tests
abbrev pub link_token : Link → Token
link_token AndLink = And
link_token OrLink = Or
link_token NandLink = Nand

abbrev pub link_node : Link → ℕ → ℕ → TestNode
link_node AndLink l r = BothNode l r
link_node OrLink l r = EitherNode l r
link_node NandLink l r = NotBothNode l r

abbrev pub link_tree : Link → Test → Test → Test
link_tree AndLink s t = both s t
link_tree OrLink s t = either s t
link_tree NandLink s t = not_both s t

-- one turn: the test behind an operator has been read and joined to the tree at place l
pub record Linked (l : ℕ) (j : Link) (s : Scope) (left : ℕ) (ws : List Word) (x y : Expressions) (i : ℕ) (rest : List Word) : Type 0 where
  pub behind : Word
  pub right_words : List Word
  pub words : ws ≡ behind ∷ right_words
  pub right : Test
  pub derives : Tests one_of right_words right rest
  pub goes : (m : Memo) (k : List Item) → Here x.counted s left m k → reads ws m (joined ∷ k) ≡ reads rest (counting m y.counted) (joined ∷ k)
  pub stands : (a : Test) → TestAt (vec_items x.ariths) (vec_items x.tests) l a → suc l ≡ vec_len x.tests → TestAt (vec_items y.ariths) (vec_items y.tests) i (link_tree j a right)
  pub last : suc i ≡ vec_len y.tests
  pub added : List ArithNode
  pub ariths : vec_items y.ariths ≡ vec_items x.ariths ++ added
  pub added_tests : List TestNode
  pub tests : vec_items y.tests ≡ vec_items x.tests ++ added_tests
  pub count : ℕ
  pub node_count : vec_len y.ariths + vec_len y.tests ≡ vec_len x.ariths + vec_len x.tests + count
  pub counted : y.counted ≡ x.counted + count
