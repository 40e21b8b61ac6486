-- What the answers on a text that is to be one boolean expression mean. Assumes nothing.
use Rattle.std.specs.Prelude.{◌≡◌, ℕ, ◌≤◌, ◌⊎◌, List, [], ◌∷◌, length, vec_items}
use Rattle.grammar.specs.Answers.{good, fault, Deserved}
use Rattle.lexing.specs.Lexing.{words}
use Rattle.lexing.specs.Cut.{TooLong}
use Rattle.text.specs.declared.expressions.Expressions.{Expressions}
use Rattle.text.specs.declared.reading.Fault.{Fault}
use Rattle.text.specs.declared.word.Word.{Word}
use Rattle.text.specs.Expressions.{Test}
use Rattle.text.specs.Derivations.{Condition}
use Rattle.text.specs.Nodes.{TestAt}
use Rattle.text.specs.Table.{Item, one_test, joined, table}
use Rattle.text.specs.Charges.{Memo, causes, counting, open_memo}
use Rattle.text.specs.Reading.{place_of}

-- the words are a boolean expression
abbrev pub IsCondition : List Word → Type 0
IsCondition ws = (t : Test) × Condition ws t []

-- what is owed at the start of such a text
abbrev pub condition_start : List Item
condition_start = one_test ∷ joined ∷ []

-- a good text of at most 4,096 bytes, where n words were counted before: its words derive one tree, which stands at the place, and no word is charged
pub record GoodCondition (bs : List ℕ) (n : ℕ) (y : Expressions) (i : ℕ) : Type 0 where
  pub short : length bs ≤ 4096
  pub tree : Test
  pub derives : Condition (words bs) tree []
  pub only : (t : Test) → Condition (words bs) t [] → t ≡ tree
  pub stands : TestAt (vec_items y.ariths) (vec_items y.tests) i tree
  pub memo : Memo
  pub deserved : Deserved table causes IsCondition (counting open_memo n) condition_start (words bs) (good memo)

-- a text whose first fault this is: the words from the faulty one on give the place
pub record FaultyText (bs : List ℕ) (n : ℕ) (f : Fault) : Type 0 where
  pub short : length bs ≤ 4096
  pub rest : List Word
  pub place_is : f.place ≡ place_of (length bs) rest
  pub deserved : Deserved table causes IsCondition (counting open_memo n) condition_start (words bs) (fault f.cause rest)

abbrev pub BadCondition : List ℕ → ℕ → Fault → Type 0
BadCondition bs n f = TooLong bs f ⊎ FaultyText bs n f
