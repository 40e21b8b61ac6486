-- What the reader of a whole program answers, and the program that is made of it. Assumes nothing.
use Rattle.std.specs.Prelude.{◌≡◌, List, map, None, vec_items, Option}
use Rattle.grammar.specs.Answers.{good as faultless}
use Rattle.text.specs.declared.word.Word.{Word}
use Rattle.text.specs.Table.{program_start}
use Rattle.text.specs.Charges.{Memo, program_memo}
use Rattle.text.specs.Reading.{reads}
use Rattle.traces.specs.Programs.{Part, size, range}
use Rattle.traces.specs.Tables.{table}
use Rattle.traces.proofs.Links.{drafts}
use Rattle.machine.specs.declared.program.Program.{Program}
use Rattle.machine.specs.Cells.{instructions}
use Rattle.syntax.specs.Phrases.{Bounds, Derives, Ranged}
use Rattle.program.specs.declared.board.Board.{Board}
use Rattle.program.specs.declared.header.Header.{Header}
use Rattle.program.specs.Outcomes.{DraftsFor}

-- the drafts of a board stand for the statements of the body
abbrev pub Stand : Board → Part → Type 0
Stand y body = DraftsFor (vec_items y.expressions.ariths) (vec_items y.expressions.tests) (vec_items y.drafts) (drafts body 0 None)

-- a whole program has been read: the words derive it, no word is charged, and its drafts stand on the board
pub record WholeRead (ws : List Word) (h : Header) (y : Board) : Type 0 where
  pub bounds : List (Option Bounds)
  pub body : Part
  pub derives : Derives ws bounds body
  pub ranged : Ranged bounds h.ranges
  pub memo : Memo
  pub good : reads ws program_memo program_start ≡ faultless memo
  pub stand : Stand y body

-- the program that is made of what has been read has the declared ranges and the table of the body
pub record Assembled (h : Header) (y : Board) (p : Program) : Type 0 where
  pub ranges : p.ranges ≡ map range h.ranges
  pub linked : (body : Part) → Stand y body → instructions p ≡ table body 0 (size body) (size body)
