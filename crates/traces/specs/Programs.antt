-- Cycle programs as trees, and their labels. Assumes nothing.
use Rattle.std.specs.Prelude.{ℕ, ◌+◌, List, map, pos, Some, None, Option, refl}
use Rattle.text.specs.Expressions.{Arith, Test}
use Rattle.traces.specs.declared.range.Range.{Range}

-- a component of a program: a statement, or a list of statements
pub data Part : Type 0 where
  -- x = A ;
  assign : ℕ → Arith → Part
  -- sense x ;
  sense : ℕ → Part
  -- ;
  skip : Part
  -- if (B) S
  if_then : Test → Part → Part
  -- if (B) S else S
  if_else : Test → Part → Part → Part
  -- while (B) S
  while : Test → Part → Part
  -- break ;
  break : Part
  -- { Sl }
  block : Part → Part
  -- the empty list
  empty : Part
  -- a list, and a statement behind it
  list : Part → Part → Part

-- the number of labels: of statements other than { }
abbrev pub size : Part → ℕ
size (assign x e) = 1
size (sense x) = 1
size skip = 1
size (if_then t s) = 1 + size s
size (if_else t s u) = 1 + (size s + size u)
size (while t s) = 1 + size s
size break = 1
size (block s) = size s
size empty = 0
size (list s u) = size s + size u

-- the label at which a component begins, where its labels are counted from ℓ and a is the label after it
abbrev pub begins : Part → ℕ → ℕ → ℕ
begins (assign x e) ℓ a = ℓ
begins (sense x) ℓ a = ℓ
begins skip ℓ a = ℓ
begins (if_then t s) ℓ a = ℓ
begins (if_else t s u) ℓ a = ℓ
begins (while t s) ℓ a = ℓ
begins break ℓ a = ℓ
begins (block s) ℓ a = begins s ℓ a
begins empty ℓ a = a
begins (list s u) ℓ a = begins s ℓ (begins u (ℓ + size s) a)

-- an undeclared register has the value 0 only
abbrev pub nil : Range
nil = record { low = pos 0; high = pos 0; from = pos 0; to = pos 0; sound = refl }

-- a register's range, declared or not
abbrev pub range : Option Range → Range
range None = nil
range (Some r) = r

-- a program: for each of the six registers its range or none, and the list of its statements
pub record Tree : Type 0 where
  pub declared : List (Option Range)
  pub body : Part

abbrev pub ranges : Tree → List Range
ranges t = map range t.declared
