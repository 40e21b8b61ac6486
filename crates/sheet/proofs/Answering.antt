-- What is answered to a text is what its words deserve. Assumes nothing.
use Rattle.std.proofs.Common.{◌≡◌, ℕ, ◌≤◌, List, [], ◌∷◌, length, vec_len, sym, refl, ap, ◌∙◌, subst}
use Rattle.grammar.specs.Answers.{Answer, good, fault}
use Rattle.grammar.proofs.Meaning.{reading_stands}
use Rattle.model.specs.declared.refusal.Cause.{Cause}
use Rattle.model.specs.declared.refusal.Cause.TheVariants.{Length}
use Rattle.model.specs.declared.refusal.Layer.TheVariants.{Sheet as SheetLayer}
use Rattle.text.specs.declared.reading.Fault.{Fault}
use Rattle.text.specs.declared.word.Word.{Word}
use Rattle.lexing.specs.Lexing.{words}
use Rattle.lexing.specs.Cut.{TooLong as TooLongToCut}
use Rattle.text.specs.Table.{Item, Role, table, sheet_start, expression}
use Rattle.text.specs.Charges.{Memo, causes, open_memo}
use Rattle.text.specs.Reading.{reads}
use Rattle.text.proofs.Closed.{closable, sheet_lawful}
use Rattle.regular.proofs.Told.{follows_words}
use Rattle.sheet.specs.declared.sheet.Sheet.{Sheet}
use Rattle.sheet.specs.declared.draft.Draft.{Draft}
use Rattle.sheet.specs.Texts.{SheetText}
use Rattle.sheet.specs.Sheets.{tree_of}
use Rattle.sheet.specs.Owed.{Now, noted, Stopped, WholeRead, WholeStops}
use Rattle.sheet.specs.Answered.{IsSheet, Fair, Only, Faultless, Faulty, TooLong, refused}
use Rattle.sheet.proofs.Meant.{same_sheets}
use Rattle.sheet.proofs.Sole.{sheet_one}

-- the answer that reading comes to is the one that is deserved
deserved : (ws : List Word) (a : Answer Word Memo Cause) → reads ws open_memo sheet_start ≡ a → Only ws a
deserved ws a is =
    let s = reading_stands Item Word Role Memo Cause table causes closable sheet_start sheet_lawful IsSheet same_sheets ws open_memo in
    (subst (Fair ws) is s.0, λ b d. s.1 b d ∙ is)

module _ (x : Draft) (counted : x.tests.counted ≡ 0) (parts : vec_len x.leaves ≡ 0) (signs : x.signs ≡ 0) (bs : List ℕ) (short : length bs ≤ 4096) (ws : List Word) (cut : ws ≡ words bs) where
  first_memo : Now x 16 open_memo (expression ∷ [])
  first_memo = record { counted = sym counted; parts = sym parts; signs = sym signs; scoped = refl; nested = refl }

  pub faultless : (y : Draft) (s : Sheet) (r : WholeRead x ws y) → tree_of s ≡ r.tree → Faultless bs s
  faultless y s r is =
      let d = subst (SheetText (words bs)) (sym is) (subst (λ (u : List Word). SheetText u r.tree) cut r.derives) in
      record {
        short = short;
        derives = d;
        sole = λ e h. sheet_one h d;
        memo = noted open_memo y;
        deserved = subst (λ (u : List Word). Only u (good (noted open_memo y))) cut (deserved ws (good (noted open_memo y)) (r.goes open_memo first_memo));
        follows = follows_words (tree_of s);
      }

  pub faulty : (f : Fault) → Stopped (WholeStops x ws) (length bs) f → Faulty bs (record { layer = SheetLayer; cause = f.cause; place = f.place })
  faulty f s = record {
    short = short;
    cause = f.cause;
    from = s.words;
    deserved = subst (λ (u : List Word). Only u (fault f.cause s.words)) cut (deserved ws (fault f.cause s.words) (s.stops open_memo first_memo));
    is = ap (λ (p : ℕ). record { layer = SheetLayer; cause = f.cause; place = p }) s.place_is;
  }

pub too_long : (bs : List ℕ) (f : Fault) → TooLongToCut bs f → TooLong bs (refused f)
too_long bs f h = (h.long, ap (λ (c : Cause). record { layer = SheetLayer; cause = c; place = f.place }) h.cause_is ∙ ap (λ (p : ℕ). record { layer = SheetLayer; cause = Length; place = p }) h.place_is)
