-- What a table holds at a stored place: a key, and the place it was reached from. Assumes nothing.
use Rattle.std.specs.Prelude.{ℕ}

pub record Entry (K : Type 0) : Type 0 where
  pub key : K
  pub from : ℕ
