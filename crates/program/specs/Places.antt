-- What the readers of statements owe to those that call them. Assumes nothing.
use Rattle.std.specs.Prelude.{◌≡◌, ℕ, ◌+◌, Bool, List, ◌++◌}
use Rattle.grammar.specs.Answers.{fault}
use Rattle.model.specs.declared.refusal.Cause.{Cause}
use Rattle.text.specs.declared.word.Word.{Word}
use Rattle.text.specs.declared.word.Scope.{Scope}
use Rattle.text.specs.Table.{Item}
use Rattle.text.specs.Charges.{Memo, counting, with_parts, open_in, in_loop}
use Rattle.text.specs.Reading.{reads}

-- where a statement may stand: so many words are counted and so many statements read, these registers may stand, so many more may be opened, and some while is open or not
pub record Place (n p : ℕ) (s : Scope) (left : ℕ) (inside : Bool) (m : Memo) (k : List Item) : Type 0 where
  pub counted : m.counter ≡ n
  pub read : m.parts ≡ p
  pub scoped : m.scope ≡ s
  pub nested : open_in k + left ≡ 16
  pub looped : in_loop k ≡ inside

-- reading the words ws where js are owed, and whatever else, comes to reading rest where only that is owed
abbrev pub Goes : ℕ → ℕ → Scope → ℕ → Bool → List Item → List Word → List Word → ℕ → ℕ → Type 0
Goes n p s left inside js ws rest n' p' = (m : Memo) (k : List Item) → Place n p s left inside m k → reads ws m (js ++ k) ≡ reads rest (with_parts (counting m n') p') k

-- reading the words ws where js are owed, and whatever else, comes to this fault at the words v
abbrev pub Stops : ℕ → ℕ → Scope → ℕ → Bool → List Item → List Word → Cause → List Word → Type 0
Stops n p s left inside js ws c v = (m : Memo) (k : List Item) → Place n p s left inside m k → reads ws m (js ++ k) ≡ fault c v
