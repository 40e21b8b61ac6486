-- One register more is declared. Assumes nothing.
use Rattle.std.specs.Prelude.{◌≡◌, suc, ◌*◌, Some, slice_set}
use Rattle.text.specs.declared.word.Register.{Register}
use Rattle.text.specs.Words.{register_index}
use Rattle.traces.specs.declared.range.Range.{Range}
use Rattle.traces.specs.Tables.{above}
use Rattle.program.specs.declared.header.Header.{Header}

-- the register r has been declared with the range g
pub record Declared (r : Register) (g : Range) (x y : Header) : Type 0 where
  pub ranges : y.ranges ≡ slice_set x.ranges (register_index r) (Some g)
  pub settings : y.settings ≡ x.settings * suc (above g.from g.to)
  pub next : y.next ≡ suc (register_index r)
