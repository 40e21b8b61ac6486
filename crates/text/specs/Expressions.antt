-- Arithmetic and boolean expressions as trees, and what they say of a moment. Assumes nothing.
use Rattle.std.specs.Prelude.{ℕ, zero, suc, Bool, true, not, ◌&&◌, ◌||◌, List, [], ◌∷◌, ℤ, pos, ◌+ℤ◌, ◌-ℤ◌, int_le, int_lt}
use Rattle.model.specs.declared.moment.Moment.{Moment}

pub data Arith : Type 0 where
  -- a number
  number : ℕ → Arith
  -- a register's value now: 0 stands for register a, 5 for register f
  current : ℕ → Arith
  -- a register's value at the start of the run
  initial : ℕ → Arith
  plus : Arith → Arith → Arith
  minus : Arith → Arith → Arith

pub data Test : Type 0 where
  always : Test
  less : Arith → Arith → Test
  at_most : Arith → Arith → Test
  equal : Arith → Arith → Test
  both : Test → Test → Test
  either : Test → Test → Test
  not_both : Test → Test → Test

-- the value of a register in a list of six
abbrev pub register : List ℤ → ℕ → ℤ
register [] i = pos 0
register (v ∷ vs) zero = v
register (v ∷ vs) (suc i) = register vs i

-- the value of an arithmetic expression, exactly: nothing wraps
abbrev pub value : Moment → Arith → ℤ
value m (number n) = pos n
value m (current i) = register m.values i
value m (initial i) = register m.starts i
value m (plus a b) = value m a +ℤ value m b
value m (minus a b) = value m a -ℤ value m b

-- whether a boolean expression holds
abbrev pub holds : Moment → Test → Bool
holds m always = true
holds m (less a b) = int_lt (value m a) (value m b)
holds m (at_most a b) = int_le (value m a) (value m b)
holds m (equal a b) = int_le (value m a) (value m b) && int_le (value m b) (value m a)
holds m (both s t) = holds m s && holds m t
holds m (either s t) = holds m s || holds m t
holds m (not_both s t) = not (holds m s && holds m t)
