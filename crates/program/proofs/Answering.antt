-- What is answered to a text is what its words deserve. Assumes nothing.
use Rattle.std.proofs.Common.{◌≡◌, ℕ, ◌≤◌, List, length, inl, ap, ◌∙◌, subst}
use Rattle.grammar.specs.Answers.{Answer, good, fault, SameTexts}
use Rattle.grammar.proofs.Meaning.{reading_stands}
use Rattle.model.specs.Refusals.{cause_number}
use Rattle.model.specs.declared.refusal.Cause.{Cause}
use Rattle.model.specs.declared.refusal.Layer.TheVariants.{Program as ProgramLayer}
use Rattle.text.specs.declared.reading.Fault.{Fault}
use Rattle.text.specs.declared.word.Word.{Word}
use Rattle.lexing.specs.Lexing.{words}
use Rattle.text.specs.Table.{Item, Role, table, program_start}
use Rattle.text.specs.Charges.{Memo, causes, program_memo}
use Rattle.text.specs.Reading.{reads}
use Rattle.text.proofs.Closed.{closable, program_lawful}
use Rattle.traces.specs.Programs.{Tree}
use Rattle.machine.specs.declared.program.Program.{Program}
use Rattle.machine.specs.Cells.{instructions}
use Rattle.machine.proofs.Runs.{runs_of, states_of}
use Rattle.syntax.specs.Phrases.{Derives, Tells, Program as IsProgram}
use Rattle.syntax.proofs.Forth.{program_reads}
use Rattle.syntax.proofs.Back.{reads_program}
use Rattle.syntax.proofs.Unique.{tells_one}
use Rattle.program.specs.declared.board.Board.{Board}
use Rattle.program.specs.declared.header.Header.{Header}
use Rattle.program.specs.Headers.{HeaderStopped}
use Rattle.program.specs.Wholes.{WholeRead, Assembled}
use Rattle.lexing.specs.Cut.{TooLong as Cut}
use Rattle.program.specs.Answered.{Fair, Only, Faultless, Faulty, Refused}

same_programs : SameTexts table program_start IsProgram
same_programs ws = (program_reads ws, reads_program ws)

-- the answer that reading comes to is the one that is deserved
deserved : (ws : List Word) (a : Answer Word Memo Cause) → reads ws program_memo program_start ≡ a → Only ws a
deserved ws a is =
    let s = reading_stands Item Word Role Memo Cause table causes closable program_start program_lawful IsProgram same_programs ws program_memo in
    (subst (Fair ws) is s.0, λ b d. s.1 b d ∙ is)

module _ (bs : List ℕ) (short : length bs ≤ 4096) (ws : List Word) (cut : ws ≡ words bs) where
  pub faultless : (h : Header) (y : Board) (p : Program) → WholeRead ws h y → Assembled h y p → Faultless bs p
  faultless h y p w a =
      let t : Tree = record { declared = h.ranges; body = w.body } in
      let d : Tells (words bs) t = record { bounds = w.bounds; derives = subst (λ (u : List Word). Derives u w.bounds w.body) cut w.derives; ranged = w.ranged } in
      let l = a.linked w.body w.stand in
      record {
        short = short;
        tree = t;
        derives = d;
        sole = λ u e. tells_one e d;
        memo = w.memo;
        deserved = subst (λ (u : List Word). Only u (good w.memo)) cut (deserved ws (good w.memo) w.good);
        runs = runs_of t p.ranges (instructions p) a.ranges l p.is;
        states = states_of t p.ranges (instructions p) a.ranges l p.is;
      }

  pub faulty : (f : Fault) → HeaderStopped (length bs) ws f → Faulty bs (record { layer = ProgramLayer; cause = f.cause; place = f.place })
  faulty f s = record {
    short = short;
    cause = f.cause;
    from = s.words;
    deserved = subst (λ (u : List Word). Only u (fault f.cause s.words)) cut (deserved ws (fault f.cause s.words) s.stops);
    is = ap (λ (n : ℕ). (2, cause_number f.cause, n)) s.place_is;
  }

pub too_long : (bs : List ℕ) (f : Fault) → Cut bs f → Refused bs (record { layer = ProgramLayer; cause = f.cause; place = f.place })
too_long bs f l = inl (l.long, ap (λ (c : Cause). (2, cause_number c, f.place)) l.cause_is ∙ ap (λ (n : ℕ). (2, 3, n)) l.place_is)
