-- What reading a program answers. Assumes nothing.
use Rattle.std.specs.Prelude.{◌≡◌, ℕ, ◌<◌, ◌≤◌, ◌⊎◌, List, length, Ok, Err, Result}
use Rattle.grammar.specs.Answers.{Answer, good, fault, Deserved}
use Rattle.model.specs.declared.refusal.Cause.{Cause}
use Rattle.model.specs.declared.refusal.Refusal.{Refusal}
use Rattle.model.specs.Refusals.{reply, cause_number}
use Rattle.text.specs.declared.word.Word.{Word}
use Rattle.lexing.specs.Lexing.{words}
use Rattle.text.specs.Table.{table, program_start}
use Rattle.text.specs.Charges.{Memo, causes, program_memo}
use Rattle.text.specs.Reading.{place_of}
use Rattle.traces.specs.Programs.{Tree}
use Rattle.syntax.specs.Phrases.{Tells}
use Rattle.syntax.specs.Phrases.{Program as IsProgram}
use Rattle.machine.specs.declared.program.Program.{Program}
use Rattle.machine.specs.Meanings.{RunsAreTraces, TellsStates}
use Rattle.machine.specs.Cells.{cell_of}

-- the answer that the words of a program deserve: good, where they derive a program and no word is charged, or the first fault
abbrev pub Fair : List Word → Answer Word Memo Cause → Type 0
Fair ws a = Deserved table causes IsProgram program_memo program_start ws a

-- the answer that the words of a text deserve, and no other
abbrev pub Only : List Word → Answer Word Memo Cause → Type 0
Only ws a = Fair ws a × ((b : Answer Word Memo Cause) → Fair ws b → b ≡ a)

-- a text without fault
pub record Faultless (bs : List ℕ) (p : Program) : Type 0 where
  pub short : length bs ≤ 4096
  -- the text's words derive this tree, and no other
  pub tree : Tree
  pub derives : Tells (words bs) tree
  pub sole : (t : Tree) → Tells (words bs) t → t ≡ tree
  -- no word is faulty
  pub memo : Memo
  pub deserved : Only (words bs) (good memo)
  -- the runs of the program's cell are the prefix traces of the tree, and what it tells of their codes are their states
  pub runs : RunsAreTraces tree (cell_of p)
  pub states : TellsStates tree (cell_of p)

-- a text with a fault, the first, with the smallest cause there
pub record Faulty (bs : List ℕ) (f : Refusal) : Type 0 where
  pub short : length bs ≤ 4096
  pub cause : Cause
  -- the words from the faulty one on
  pub from : List Word
  pub deserved : Only (words bs) (fault cause from)
  pub is : reply f ≡ (2, cause_number cause, place_of (length bs) from)

-- a text that is too long
abbrev pub TooLong : List ℕ → Refusal → Type 0
TooLong bs f = (4096 < length bs) × (reply f ≡ (2, 3, 4096))

-- a refusal of a text
abbrev pub Refused : List ℕ → Refusal → Type 0
Refused bs f = TooLong bs f ⊎ Faulty bs f

-- what is answered to a text
abbrev pub Answered : List ℕ → Result Program Refusal → Type 0
Answered bs (Ok p) = Faultless bs p
Answered bs (Err f) = Refused bs f
