-- The cell of a program that has been read, and the parts that answer for it. Assumes nothing.
use Rattle.std.specs.Prelude.{ℕ, suc, Bool, cond, List, length, ℤ, Some, None, vec_items, Option}
use Rattle.model.specs.Cells.{CellMeaning, at}
use Rattle.traces.specs.declared.range.Range.{Range}
use Rattle.traces.specs.Traces.{State, range_at}
use Rattle.traces.specs.Tables.{Instruction, above, next_states, each, span}
use Rattle.traces.specs.Codes.{unpacked, in_range, state_of, is_state}
use Rattle.machine.specs.declared.program.Program.{Program}
use Rattle.machine.specs.Trees.{ariths_of, tests_of}
use Rattle.machine.specs.Views.{view, views, statement_stands, arith_at, test_at, arith_stands, test_stands}
use Rattle.machine.specs.declared.statement.Statement.{Statement}
use Rattle.machine.specs.declared.statement.Statement.TheVariants.{Set, Sense, Go, Branch}
use Rattle.text.specs.Words.{register_index}
use Rattle.text.specs.Expressions.{Arith, Test}
use Rattle.machine.specs.Meanings.{meaning}

-- the instructions of a program
abbrev pub instructions : Program → List Instruction
instructions p = views (ariths_of p.expressions) (tests_of p.expressions) (vec_items p.statements)

-- a program's cell
abbrev pub cell_of : Program → CellMeaning
cell_of p = meaning p.ranges (instructions p) p.is

-- the values that a sum stands for, if it stands for values in range
abbrev pub values_in : List Range → ℕ → Option (List ℤ)
values_in rs n = cond (in_range rs n) (Some (unpacked rs n)) None

-- the state that a code stands for, if it is a state
abbrev pub state_in : Program → ℕ → Option State
state_in p x = cond (is_state p.ranges (length (instructions p)) x) (Some (state_of p.ranges x)) None

-- the next state at a place
abbrev pub outcome_in : Program → State → ℕ → Option State
outcome_in p σ place = at (next_states p.ranges (instructions p) σ) place

-- the instruction that a statement of a program stands for
abbrev pub viewed : Program → Statement → Instruction
viewed p s = view (ariths_of p.expressions) (tests_of p.expressions) s

-- the expression of a statement stands in the program
abbrev pub stands_in : Program → Statement → Bool
stands_in p s = statement_stands (ariths_of p.expressions) (tests_of p.expressions) s

abbrev pub tree_in : Program → ℕ → Arith
tree_in p i = arith_at (ariths_of p.expressions) i

abbrev pub test_in : Program → ℕ → Test
test_in p i = test_at (ariths_of p.expressions) (tests_of p.expressions) i

abbrev pub arith_in_stands : Program → ℕ → Bool
arith_in_stands p i = arith_stands (ariths_of p.expressions) i

abbrev pub test_in_stands : Program → ℕ → Bool
test_in_stands p i = test_stands (ariths_of p.expressions) (tests_of p.expressions) i

-- the states after a sense
abbrev pub sensed : Program → ℕ → ℕ → State → List State
sensed p x n σ = each n σ.values x (span (range_at p.ranges x))

-- how many next states a statement leads to
abbrev pub ways_of : List Range → Statement → ℕ
ways_of rs (Set x i n) = 1
ways_of rs (Sense x n) = suc (above (range_at rs (register_index x)).low (range_at rs (register_index x)).high)
ways_of rs (Go n) = 1
ways_of rs (Branch i y n) = 1
