-- What the readers of expressions answer. Assumes nothing.
use Rattle.std.specs.Prelude.{◌≡◌, ℕ, suc, ◌+◌, ◌≤◌, List, [], ◌∷◌, ◌++◌, Result, MatchResult, vec_items, vec_len}
use Rattle.model.specs.declared.refusal.Cause.TheVariants.{Many}
use Rattle.text.specs.declared.expressions.Expressions.{Expressions}
use Rattle.text.specs.declared.node.ArithNode.{ArithNode}
use Rattle.text.specs.declared.node.TestNode.{TestNode}
use Rattle.text.specs.declared.reading.Fault.{Fault}
use Rattle.text.specs.declared.reading.Limits.{Limits}
use Rattle.text.specs.declared.reading.Read.{Read}
use Rattle.text.specs.declared.word.Word.{Word}
use Rattle.text.specs.declared.word.Scope.{Scope}
use Rattle.text.specs.Expressions.{Arith, Test}
use Rattle.text.specs.Nodes.{nodes, ArithAt, TestAt}
use Rattle.text.specs.Table.{Item}
use Rattle.text.specs.Reading.{Goes, Stops, place_of}

-- an arithmetic part has been read: from ws to rest, with its tree at place i of the room y, which was x
pub record ArithRead (js : List Item) (D : List Word → Arith → List Word → Type 0) (s : Scope) (left : ℕ) (ws : List Word) (x y : Expressions) (i : ℕ) (rest : List Word) : Type 0 where
  pub tree : Arith
  -- the words derive the tree
  pub derives : D ws tree rest
  -- reading goes on behind them, with the words counted that the room counts
  pub goes : Goes x.counted s left js ws rest y.counted
  -- the tree stands in the room, its last node at the end
  pub stands : ArithAt (vec_items y.ariths) i tree
  pub last : suc i ≡ vec_len y.ariths
  -- a node for each counted word is added, and nothing else changes
  pub added : List ArithNode
  pub ariths : vec_items y.ariths ≡ vec_items x.ariths ++ added
  pub arith_count : vec_len y.ariths ≡ vec_len x.ariths + nodes tree
  pub counted : y.counted ≡ x.counted + nodes tree
  pub tests : vec_items y.tests ≡ vec_items x.tests
  pub test_count : vec_len y.tests ≡ vec_len x.tests

-- a boolean part has been read: from ws to rest, with its tree at place i of the room y, which was x
pub record TestRead (js : List Item) (D : List Word → Test → List Word → Type 0) (s : Scope) (left : ℕ) (ws : List Word) (x y : Expressions) (i : ℕ) (rest : List Word) : Type 0 where
  pub tree : Test
  pub derives : D ws tree rest
  pub goes : Goes x.counted s left js ws rest y.counted
  pub stands : TestAt (vec_items y.ariths) (vec_items y.tests) i tree
  pub last : suc i ≡ vec_len y.tests
  -- nodes are added behind those that were there, as many as words are counted
  pub added : List ArithNode
  pub ariths : vec_items y.ariths ≡ vec_items x.ariths ++ added
  pub added_tests : List TestNode
  pub tests : vec_items y.tests ≡ vec_items x.tests ++ added_tests
  pub count : ℕ
  pub node_count : vec_len y.ariths + vec_len y.tests ≡ vec_len x.ariths + vec_len x.tests + count
  pub counted : y.counted ≡ x.counted + count

-- a fault has been met: whatever else is owed, reading ws where js are owed comes to it
pub record Stopped (js : List Item) (s : Scope) (left end n : ℕ) (ws : List Word) (f : Fault) : Type 0 where
  -- the words from the faulty one on
  pub words : List Word
  pub place_is : f.place ≡ place_of end words
  pub stops : Stops n s left js ws f.cause words

-- what the reader of an arithmetic part answers
abbrev pub ArithAnswer : List Item → (List Word → Arith → List Word → Type 0) → Limits → List Word → Expressions → Expressions → Result Read Fault → Type 0
ArithAnswer js D l ws x y answer = MatchResult answer (λ r. ArithRead js D l.scope l.left ws x y r.index r.rest.now) (Stopped js l.scope l.left l.end x.counted ws)

-- what the reader of a boolean part answers
abbrev pub TestAnswer : List Item → (List Word → Test → List Word → Type 0) → Limits → List Word → Expressions → Expressions → Result Read Fault → Type 0
TestAnswer js D l ws x y answer = MatchResult answer (λ r. TestRead js D l.scope l.left ws x y r.index r.rest.now) (Stopped js l.scope l.left l.end x.counted ws)

-- a leaf has been added for a word that has been counted
pub record Leafed (node : ArithNode) (x y : Expressions) (i : ℕ) : Type 0 where
  pub few : suc x.counted ≤ 256
  pub at_end : i ≡ vec_len x.ariths
  pub ariths : vec_items y.ariths ≡ vec_items x.ariths ++ node ∷ []
  pub tests : vec_items y.tests ≡ vec_items x.tests
  pub arith_count : vec_len y.ariths ≡ suc (vec_len x.ariths)
  pub test_count : vec_len y.tests ≡ vec_len x.tests
  pub counted : y.counted ≡ suc x.counted

-- 256 words have been counted, and this is one more
pub record TooMany (x : Expressions) (place : ℕ) (f : Fault) : Type 0 where
  pub full : 256 ≤ x.counted
  pub cause_is : f.cause ≡ Many
  pub place_is : f.place ≡ place
