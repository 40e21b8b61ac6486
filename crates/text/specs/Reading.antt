-- What a reading function owes to those that call it. Assumes nothing.
use Rattle.std.specs.Prelude.{◌≡◌, ℕ, suc, ◌+◌, true, false, cond, List, [], ◌∷◌, ◌++◌}
use Rattle.grammar.specs.Answers.{Answer, fault, reading}
use Rattle.model.specs.declared.refusal.Cause.{Cause}
use Rattle.model.specs.declared.refusal.Cause.TheVariants.{Byte, Unexpected, Deep, Register}
use Rattle.text.specs.declared.reading.Fault.{Fault}
use Rattle.text.specs.declared.reading.Limits.{Limits}
use Rattle.text.specs.declared.word.Token.{Token}
use Rattle.text.specs.declared.word.Token.TheVariants.{Stray}
use Rattle.text.specs.declared.word.Word.{Word}
use Rattle.text.specs.Words.{at, allowed}
use Rattle.text.specs.declared.word.Scope.{Scope}
use Rattle.text.specs.Table.{Item, table}
use Rattle.text.specs.Charges.{Memo, causes, counting, open_in}

-- reading by the table of programs, sheets and monitors
abbrev pub reads : List Word → Memo → List Item → Answer Word Memo Cause
reads ws m k = reading table causes ws m k

-- the place of the first of the words, or the text's end
abbrev pub place_of : ℕ → List Word → ℕ
place_of end [] = end
place_of end (w ∷ ws) = w.place

-- where an expression may stand: n words are counted, these registers may stand, and so many more may be opened
pub record Here (n : ℕ) (s : Scope) (left : ℕ) (m : Memo) (k : List Item) : Type 0 where
  pub counted : m.counter ≡ n
  pub scoped : m.scope ≡ s
  pub nested : open_in k + left ≡ 16

-- reading the words ws where js are owed, and whatever else, comes to reading rest where only that is owed, with n' words counted
abbrev pub Goes : ℕ → Scope → ℕ → List Item → List Word → List Word → ℕ → Type 0
Goes n s left js ws rest n' = (m : Memo) (k : List Item) → Here n s left m k → reads ws m (js ++ k) ≡ reads rest (counting m n') k

-- reading the words ws where js are owed, and whatever else, comes to this fault at the words v
abbrev pub Stops : ℕ → Scope → ℕ → List Item → List Word → Cause → List Word → Type 0
Stops n s left js ws c v = (m : Memo) (k : List Item) → Here n s left m k → reads ws m (js ++ k) ≡ fault c v

-- the cause where no text goes on with these words
abbrev pub cause_of : List Word → Cause
cause_of [] = Unexpected
cause_of (w ∷ ws) = cond (at Stray w) Byte Unexpected

-- the fault where no text goes on with these words
pub record FaultAt (end : ℕ) (ws : List Word) (f : Fault) : Type 0 where
  pub cause_is : f.cause ≡ cause_of ws
  pub place_is : f.place ≡ place_of end ws

-- the words are a sign of this kind and rest
abbrev pub Skipped : Token → List Word → List Word → Type 0
Skipped t ws rest = (w : Word) × (ws ≡ w ∷ rest) × (at t w ≡ true)

-- the next word is of another kind, or there is none
abbrev pub Unlike : Token → List Word → Type 0
Unlike t [] = Unit {0}
Unlike t (w ∷ ws) = at t w ≡ false

-- one less may be opened, and the rest is as it was
pub record Deeper (x y : Limits) : Type 0 where
  pub left : suc y.left ≡ x.left
  pub scope : y.scope ≡ x.scope
  pub end : y.end ≡ x.end

-- the fault at a register's word that may not stand
pub record NotAllowed (x : Limits) (w : Word) (f : Fault) : Type 0 where
  pub why : allowed x.scope w.token ≡ false
  pub cause_is : f.cause ≡ Register
  pub place_is : f.place ≡ w.place

-- the fault at a word that opens something where no more may be opened
pub record TooDeep (x : Limits) (w : Word) (f : Fault) : Type 0 where
  pub none_left : x.left ≡ 0
  pub cause_is : f.cause ≡ Deep
  pub place_is : f.place ≡ w.place
