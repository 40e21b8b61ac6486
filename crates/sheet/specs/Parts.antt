-- The parts of a sheet in memory, and the tree that they stand for. Assumes nothing.
use Rattle.std.specs.Prelude.{◌≡◌, ℕ, List, [], ◌∷◌, ◌++◌, map, slice_index_or}
use Rattle.std.specs.List.{AllByRecursion}
use Rattle.text.specs.declared.node.ArithNode.{ArithNode}
use Rattle.text.specs.declared.node.ArithNode.TheVariants.{Number, Current, Initial, Plus, Minus}
use Rattle.text.specs.declared.node.TestNode.{TestNode}
use Rattle.text.specs.declared.node.TestNode.TheVariants.{Always, Less, AtMost, Equal, Both, Either, NotBoth}
use Rattle.text.specs.Words.{register_index}
use Rattle.text.specs.Expressions.{Arith, number, current, initial, plus, minus, Test, always, less, at_most, equal, both, either, not_both}
use Rattle.text.specs.Nodes.{TestAt}
use Rattle.regular.specs.Words.{Regex, Labels, all, among, Assertion, assertions}
use Rattle.regular.specs.Automaton.{firsts, follow_sets}
use Rattle.sheet.specs.declared.tree.Node.{Node}
use Rattle.sheet.specs.declared.tree.Labels.{Labels as Marked}
use Rattle.sheet.specs.declared.tree.Labels.TheVariants.{All as Every, Among}
use Rattle.sheet.specs.declared.tree.Leaf.{Leaf}
use Rattle.sheet.specs.declared.tree.Leaf.TheVariants.{Given, Anything}
use Rattle.sheet.specs.Flat.{any, tree}

-- the trees of nodes one after the other, behind those that stand there, where `build` makes the tree of a node by the trees before it
abbrev pub grown : {N T : Type 0} → (List T → N → T) → List T → List N → List T
grown build ts [] = ts
grown build ts (x ∷ xs) = grown build (ts ++ build ts x ∷ []) xs

-- the tree of an arithmetic node, by the trees before it
abbrev pub arith : List Arith → ArithNode → Arith
arith ts (Number n) = number n
arith ts (Current r) = current (register_index r)
arith ts (Initial r) = initial (register_index r)
arith ts (Plus l r) = plus (slice_index_or ts l (number 0)) (slice_index_or ts r (number 0))
arith ts (Minus l r) = minus (slice_index_or ts l (number 0)) (slice_index_or ts r (number 0))

-- the tree of a boolean node, by the arithmetic trees and the boolean ones before it
abbrev pub test : List Arith → List Test → TestNode → Test
test bs ts Always = always
test bs ts (Less l r) = less (slice_index_or bs l (number 0)) (slice_index_or bs r (number 0))
test bs ts (AtMost l r) = at_most (slice_index_or bs l (number 0)) (slice_index_or bs r (number 0))
test bs ts (Equal l r) = equal (slice_index_or bs l (number 0)) (slice_index_or bs r (number 0))
test bs ts (Both l r) = both (slice_index_or ts l always) (slice_index_or ts r always)
test bs ts (Either l r) = either (slice_index_or ts l always) (slice_index_or ts r always)
test bs ts (NotBoth l r) = not_both (slice_index_or ts l always) (slice_index_or ts r always)

-- the test at an index
abbrev pub test_of : List ArithNode → List TestNode → ℕ → Test
test_of ns ts i = slice_index_or (grown (test (grown arith [] ns)) [] ts) i always

-- the labels of an assertion
abbrev pub labels_of : Marked → Labels
labels_of Every = all
labels_of (Among s) = among s

-- an assertion, by the nodes of the expressions
abbrev pub assertion_of : List ArithNode → List TestNode → Leaf → Assertion
assertion_of ns ts (Given l i) = record { labels = labels_of l; test = test_of ns ts i }
assertion_of ns ts Anything = any

-- the test of an assertion stands at its index
abbrev pub Tested : List ArithNode → List TestNode → Leaf → Type 0
Tested ns ts (Given l i) = (t : Test) × TestAt ns ts i t
Tested ns ts Anything = Unit {0}

-- the tree of a sheet
abbrev pub sheet_tree : List Node → List Leaf → List ArithNode → List TestNode → Regex
sheet_tree xs ls ns ts = tree (map (assertion_of ns ts) ls) xs

-- the parts fit together: with the tree that stands in them goes its position automaton
pub record Standing (xs : List Node) (ls : List Leaf) (ns : List ArithNode) (ts : List TestNode) (first : ℕ) (follow : List ℕ) : Type 0 where
  -- the leaves are the tree's assertions, in text order
  pub listed : assertions (sheet_tree xs ls ns ts) ≡ map (assertion_of ns ts) ls
  -- each has its test
  pub tested : AllByRecursion (Tested ns ts) ls
  pub begins : first ≡ firsts (sheet_tree xs ls ns ts) 0
  pub goes_on : follow ≡ follow_sets (sheet_tree xs ls ns ts)
