-- What a table that a check stores in is like. Assumes nothing.
use Rattle.std.specs.Prelude.{ℕ, ◌≤◌, List, length}
use Rattle.model.specs.Keys.{KeyMeaning}
use Rattle.store.specs.Chains.{Indexed}
use Rattle.store.specs.declared.record.Record.{Record}

-- the first m records of a table of at most 1,000,000 places are stored and indexed
pub record Sound {K : Type 0} (kind : KeyMeaning K) (xs : List (Record K)) (m : ℕ) : Type 0 where
  pub indexed : Indexed kind xs m
  pub small : length xs ≤ 1000000
