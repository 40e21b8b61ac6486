-- Which tree stands in a vector of nodes, and how a tree is laid down there. Assumes nothing.
use Rattle.std.specs.Prelude.{ℕ, suc, ◌+◌, ◌-◌, List, [], ◌∷◌, ◌++◌, length, slice_index_or}
use Rattle.text.specs.Expressions.{always}
use Rattle.regular.specs.Words.{Regex, empty, one, sequence, alternative, star, plus, size, Assertion, all}
use Rattle.sheet.specs.declared.tree.Node.{Node}
use Rattle.sheet.specs.declared.tree.Node.TheVariants.{Empty, One, Sequence, Alternative, Star, Plus}

-- the assertion that holds at every moment
abbrev pub any : Assertion
any = record { labels = all; test = always }

-- the tree of a node: the assertions by their places, the trees before it by their indices
abbrev pub build : List Assertion → List Regex → Node → Regex
build ps ts Empty = empty
build ps ts (One p) = one (slice_index_or ps p any)
build ps ts (Sequence l r) = sequence (slice_index_or ts l empty) (slice_index_or ts r empty)
build ps ts (Alternative l r) = alternative (slice_index_or ts l empty) (slice_index_or ts r empty)
build ps ts (Star i) = star (slice_index_or ts i empty)
build ps ts (Plus i) = plus (slice_index_or ts i empty)

-- the trees of the nodes one after the other, behind those that stand there
abbrev pub grow : List Assertion → List Regex → List Node → List Regex
grow ps ts [] = ts
grow ps ts (x ∷ xs) = grow ps (ts ++ build ps ts x ∷ []) xs

-- the tree of a vector of nodes: that of the last one
abbrev pub tree : List Assertion → List Node → Regex
tree ps xs = slice_index_or (grow ps [] xs) (length xs - 1) empty

-- how many nodes of a tree stand before its root
abbrev pub below : Regex → ℕ
below empty = 0
below (one a) = 0
below (sequence e f) = suc (below e) + suc (below f)
below (alternative e f) = suc (below e) + suc (below f)
below (star e) = suc (below e)
below (plus e) = suc (below e)

-- the nodes of a tree that is laid down behind o nodes and n assertions: the root comes last
abbrev pub laid : Regex → ℕ → ℕ → List Node
laid empty o n = Empty ∷ []
laid (one a) o n = One n ∷ []
laid (sequence e f) o n = laid e o n ++ (laid f (o + suc (below e)) (n + size e) ++ Sequence (o + below e) (o + suc (below e) + below f) ∷ [])
laid (alternative e f) o n = laid e o n ++ (laid f (o + suc (below e)) (n + size e) ++ Alternative (o + below e) (o + suc (below e) + below f) ∷ [])
laid (star e) o n = laid e o n ++ Star (o + below e) ∷ []
laid (plus e) o n = laid e o n ++ Plus (o + below e) ∷ []
