-- What reading a sheet answers. Assumes nothing.
use Rattle.std.specs.Prelude.{◌≡◌, ℕ, ◌<◌, ◌≤◌, ◌⊎◌, List, length, Ok, Err, Result}
use Rattle.grammar.specs.Answers.{Answer, good, fault, Deserved}
use Rattle.model.specs.declared.refusal.Cause.{Cause}
use Rattle.model.specs.declared.refusal.Cause.TheVariants.{Length}
use Rattle.model.specs.declared.refusal.Layer.TheVariants.{Sheet as SheetLayer}
use Rattle.model.specs.declared.refusal.Refusal.{Refusal}
use Rattle.text.specs.declared.reading.Fault.{Fault}
use Rattle.text.specs.declared.word.Word.{Word}
use Rattle.lexing.specs.Lexing.{words}
use Rattle.text.specs.Table.{table, sheet_start}
use Rattle.text.specs.Charges.{Memo, causes, open_memo}
use Rattle.text.specs.Reading.{place_of}
use Rattle.regular.specs.Words.{Regex}
use Rattle.regular.specs.Automaton.{FollowsWords}
use Rattle.sheet.specs.declared.sheet.Sheet.{Sheet}
use Rattle.sheet.specs.Texts.{SheetText}
use Rattle.sheet.specs.Sheets.{tree_of}

-- the words are a sheet
abbrev pub IsSheet : List Word → Type 0
IsSheet ws = (e : Regex) × SheetText ws e

-- the answer that the words of a sheet deserve: good, where they derive an expression and no word is charged, or the first fault
abbrev pub Fair : List Word → Answer Word Memo Cause → Type 0
Fair ws a = Deserved table causes IsSheet open_memo sheet_start ws a

-- the answer that the words of a text deserve, and no other
abbrev pub Only : List Word → Answer Word Memo Cause → Type 0
Only ws a = Fair ws a × ((b : Answer Word Memo Cause) → Fair ws b → b ≡ a)

-- a text without fault
pub record Faultless (bs : List ℕ) (s : Sheet) : Type 0 where
  pub short : length bs ≤ 4096
  -- the text's words derive the sheet's tree, and no other
  pub derives : SheetText (words bs) (tree_of s)
  pub sole : (e : Regex) → SheetText (words bs) e → e ≡ tree_of s
  -- no word is faulty
  pub memo : Memo
  pub deserved : Only (words bs) (good memo)
  -- what the sheet permits as a watch is what its words permit, and each state is the set of assertions that can be the last
  pub follows : FollowsWords (tree_of s)

-- a text with a fault, the first, with the smallest cause there
pub record Faulty (bs : List ℕ) (f : Refusal) : Type 0 where
  pub short : length bs ≤ 4096
  pub cause : Cause
  -- the words from the faulty one on
  pub from : List Word
  pub deserved : Only (words bs) (fault cause from)
  pub is : f ≡ record { layer = SheetLayer; cause = cause; place = place_of (length bs) from }

-- a text that is too long
abbrev pub TooLong : List ℕ → Refusal → Type 0
TooLong bs f = (4096 < length bs) × (f ≡ record { layer = SheetLayer; cause = Length; place = 4096 })

-- the refusal of a sheet with this fault
abbrev pub refused : Fault → Refusal
refused f = record { layer = SheetLayer; cause = f.cause; place = f.place }

-- what is answered to a text
abbrev pub Answered : List ℕ → Result Sheet Refusal → Type 0
Answered bs (Ok s) = Faultless bs s
Answered bs (Err f) = TooLong bs f ⊎ Faulty bs f
