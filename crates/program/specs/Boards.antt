-- The drafts of a board, and the faults that its words may have. Assumes nothing.
use Rattle.std.specs.Prelude.{◌≡◌, ℕ, [], ◌∷◌, ◌++◌, vec_items, slice_set}
use Rattle.model.specs.declared.refusal.Cause.{Cause}
use Rattle.text.specs.declared.reading.Fault.{Fault}
use Rattle.text.specs.declared.word.Word.{Word}
use Rattle.program.specs.declared.draft.Draft.{Draft}
use Rattle.program.specs.declared.board.Board.{Board}

-- the word w has the fault f, of cause c, since P holds
pub record Charged (P : Type 0) (c : Cause) (w : Word) (f : Fault) : Type 0 where
  pub why : P
  pub cause_is : f.cause ≡ c
  pub place_is : f.place ≡ w.place

-- one more draft
pub record Pushed (d : Draft) (x y : Board) : Type 0 where
  pub drafts : vec_items y.drafts ≡ vec_items x.drafts ++ d ∷ []
  pub expressions : y.expressions ≡ x.expressions

-- the draft at a place has been replaced
pub record Replaced (i : ℕ) (d : Draft) (x y : Board) : Type 0 where
  pub drafts : vec_items y.drafts ≡ slice_set (vec_items x.drafts) i d
  pub expressions : y.expressions ≡ x.expressions
