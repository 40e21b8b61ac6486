-- The pure instructions that a program's statements stand for. Assumes nothing.
use Rattle.std.specs.Prelude.{ℕ, zero, suc, ◌+◌, Bool, true, false, ◌&&◌, List, [], ◌∷◌, Some, None, Option, nat_le, nat_lt}
use Rattle.model.specs.Cells.{at}
use Rattle.text.specs.declared.node.ArithNode.{ArithNode}
use Rattle.text.specs.declared.node.ArithNode.TheVariants.{Number, Current, Initial, Plus, Minus}
use Rattle.text.specs.declared.node.TestNode.{TestNode}
use Rattle.text.specs.declared.node.TestNode.TheVariants.{Always, Less, AtMost, Equal, Both, Either, NotBoth}
use Rattle.text.specs.Words.{register_index}
use Rattle.text.specs.Nodes.{nodes}
use Rattle.text.specs.Expressions.{Arith, number, current, initial, plus, minus, Test, always, less, at_most, equal, both, either, not_both}
use Rattle.traces.specs.Tables.{Instruction, assigns, senses, goes, branches}
use Rattle.machine.specs.declared.statement.Statement.{Statement}
use Rattle.machine.specs.declared.statement.Statement.TheVariants.{Set, Sense, Go, Branch}

-- the tree of a node, from the trees of its operands
abbrev pub arith_of : (ℕ → Arith) → Option ArithNode → Arith
arith_of f None = number 0
arith_of f (Some (Number n)) = number n
arith_of f (Some (Current r)) = current (register_index r)
arith_of f (Some (Initial r)) = initial (register_index r)
arith_of f (Some (Plus l r)) = plus (f l) (f r)
arith_of f (Some (Minus l r)) = minus (f l) (f r)

-- the tree at a place among the nodes, of at most so many levels
abbrev pub arith_by : List ArithNode → ℕ → ℕ → Arith
arith_by ns zero i = number 0
arith_by ns (suc d) i = arith_of (arith_by ns d) (at ns i)

-- the tree at a place: operands stand before their operator
abbrev pub arith_at : List ArithNode → ℕ → Arith
arith_at ns i = arith_by ns (suc i) i

abbrev pub test_of : (ℕ → Arith) → (ℕ → Test) → Option TestNode → Test
test_of f g None = always
test_of f g (Some Always) = always
test_of f g (Some (Less l r)) = less (f l) (f r)
test_of f g (Some (AtMost l r)) = at_most (f l) (f r)
test_of f g (Some (Equal l r)) = equal (f l) (f r)
test_of f g (Some (Both l r)) = both (g l) (g r)
test_of f g (Some (Either l r)) = either (g l) (g r)
test_of f g (Some (NotBoth l r)) = not_both (g l) (g r)

abbrev pub test_by : List ArithNode → List TestNode → ℕ → ℕ → Test
test_by ns ts zero i = always
test_by ns ts (suc d) i = test_of (arith_at ns) (test_by ns ts d) (at ts i)

abbrev pub test_at : List ArithNode → List TestNode → ℕ → Test
test_at ns ts i = test_by ns ts (suc i) i

-- the operands of the node at place i stand before it, the left one before all nodes of the right one, and stand themselves
abbrev pub ordered : (ℕ → Arith) → (ℕ → Bool) → ℕ → ℕ → ℕ → Bool
ordered f g i l r = nat_le (l + nodes (f r)) r && (nat_lt r i && (g l && g r))

abbrev pub node_stands : (ℕ → Arith) → (ℕ → Bool) → ℕ → Option ArithNode → Bool
node_stands f g i None = false
node_stands f g i (Some (Number n)) = true
node_stands f g i (Some (Current r)) = true
node_stands f g i (Some (Initial r)) = true
node_stands f g i (Some (Plus l r)) = ordered f g i l r
node_stands f g i (Some (Minus l r)) = ordered f g i l r

-- a whole tree stands at a place
abbrev pub stands_by : List ArithNode → ℕ → ℕ → Bool
stands_by ns zero i = false
stands_by ns (suc d) i = node_stands (arith_by ns d) (stands_by ns d) i (at ns i)

abbrev pub arith_stands : List ArithNode → ℕ → Bool
arith_stands ns i = stands_by ns (suc i) i

abbrev pub test_node_stands : (ℕ → Bool) → (ℕ → Bool) → ℕ → Option TestNode → Bool
test_node_stands f g i None = false
test_node_stands f g i (Some Always) = true
test_node_stands f g i (Some (Less l r)) = f l && f r
test_node_stands f g i (Some (AtMost l r)) = f l && f r
test_node_stands f g i (Some (Equal l r)) = f l && f r
test_node_stands f g i (Some (Both l r)) = nat_lt l i && (nat_lt r i && (g l && g r))
test_node_stands f g i (Some (Either l r)) = nat_lt l i && (nat_lt r i && (g l && g r))
test_node_stands f g i (Some (NotBoth l r)) = nat_lt l i && (nat_lt r i && (g l && g r))

abbrev pub test_stands_by : List ArithNode → List TestNode → ℕ → ℕ → Bool
test_stands_by ns ts zero i = false
test_stands_by ns ts (suc d) i = test_node_stands (arith_stands ns) (test_stands_by ns ts d) i (at ts i)

abbrev pub test_stands : List ArithNode → List TestNode → ℕ → Bool
test_stands ns ts i = test_stands_by ns ts (suc i) i

-- the instruction that a statement stands for
abbrev pub view : List ArithNode → List TestNode → Statement → Instruction
view ns ts (Set x i n) = assigns (register_index x) (arith_at ns i) n
view ns ts (Sense x n) = senses (register_index x) n
view ns ts (Go n) = goes n
view ns ts (Branch i y n) = branches (test_at ns ts i) y n

abbrev pub views : List ArithNode → List TestNode → List Statement → List Instruction
views ns ts [] = []
views ns ts (s ∷ ss) = view ns ts s ∷ views ns ts ss

-- the expression of a statement stands where the statement says
abbrev pub statement_stands : List ArithNode → List TestNode → Statement → Bool
statement_stands ns ts (Set x i n) = arith_stands ns i
statement_stands ns ts (Sense x n) = true
statement_stands ns ts (Go n) = true
statement_stands ns ts (Branch i y n) = test_stands ns ts i

abbrev pub all_stand : List ArithNode → List TestNode → List Statement → Bool
all_stand ns ts [] = true
all_stand ns ts (s ∷ ss) = statement_stands ns ts s && all_stand ns ts ss
