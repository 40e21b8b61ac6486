-- What the reader of a list of statements answers. Assumes nothing.
use Rattle.std.specs.Prelude.{◌≡◌, ℕ, ◌<◌, true, false, ◌⊎◌, List, [], ◌∷◌, ◌++◌, vec_items, vec_len}
use Rattle.grammar.specs.Answers.{fault}
use Rattle.text.specs.declared.reading.Fault.{Fault}
use Rattle.text.specs.declared.word.Token.TheVariants.{CloseBrace, Else}
use Rattle.text.specs.declared.word.Word.{Word}
use Rattle.text.specs.Words.{at}
use Rattle.text.specs.Derivations.{Free}
use Rattle.text.specs.Table.{Item, statement, guard}
use Rattle.text.specs.Charges.{Memo, counting, with_parts}
use Rattle.text.specs.Outcomes.{TestRead}
use Rattle.text.specs.Reading.{reads, place_of, Deeper}
use Rattle.text.specs.declared.reading.Limits.{Limits}
use Rattle.traces.specs.Programs.{Part, empty}
use Rattle.traces.proofs.Links.{drafts}
use Rattle.syntax.specs.Phrases.{States, one, behind}
use Rattle.program.specs.declared.draft.Draft.{Draft}
use Rattle.program.specs.declared.board.Board.{Board}
use Rattle.program.specs.declared.site.Site.{Site}
use Rattle.program.specs.Places.{Place}
use Rattle.program.specs.Outcomes.{DraftsFor, Grown, PhraseRead, PhraseStopped, Guarded}

-- what is owed goes on with statements wherever the next word closes no block
abbrev pub Opens : List Item → Type 0
Opens k = (w : Word) (ws : List Word) (m : Memo) → at CloseBrace w ≡ false → reads (w ∷ ws) m k ≡ reads (w ∷ ws) m (statement ∷ k)

-- the next word closes a block, or there is none
abbrev pub Ended : List Word → Type 0
Ended [] = Unit {0}
Ended (w ∷ ws) = at CloseBrace w ≡ true

-- there is a next word, and it closes no block
abbrev pub Begun : List Word → Type 0
Begun [] = ⊥
Begun (w ∷ ws) = at CloseBrace w ≡ false

-- the site of a board
abbrev pub PlaceOn : Site → Board → Memo → List Item → Type 0
PlaceOn site x m k = Place x.expressions.counted (vec_len x.drafts) site.limits.scope site.limits.left site.inside m k

-- statements have been read behind the list s: from ws to rest, and their drafts stand on the board y, which was x
pub record ListRead (site : Site) (ws : List Word) (x y : Board) (rest : List Word) : Type 0 where
  pub tree : Part
  pub derives : (t : Part) (end : List Word) → States (behind tree) rest t end → States (behind empty) ws t end
  pub goes : (m : Memo) (k : List Item) → Opens k → PlaceOn site x m k → reads ws m k ≡ reads rest (with_parts (counting m y.expressions.counted) (vec_len y.drafts)) k
  pub added : List Draft
  pub appended : vec_items y.drafts ≡ vec_items x.drafts ++ added
  pub stand : DraftsFor (vec_items y.expressions.ariths) (vec_items y.expressions.tests) added (drafts tree (vec_len x.drafts) site.owner)
  pub grown : Grown x.expressions y.expressions

pub record ListDone (site : Site) (ws : List Word) (x y : Board) (rest : List Word) : Type 0 where
  pub read : ListRead site ws x y rest
  pub ended : Ended rest

pub record ListStopped (site : Site) (ws : List Word) (x : Board) (f : Fault) : Type 0 where
  pub words : List Word
  pub place_is : f.place ≡ place_of site.limits.end words
  pub stops : (m : Memo) (k : List Item) → Opens k → PlaceOn site x m k → reads ws m k ≡ fault f.cause words

-- an else with its statement has been read, or there is none and nothing changed
abbrev pub ElseRead : Site → List Word → Board → Board → List Word → Type 0
ElseRead site ws x y rest = (Free (Else ∷ []) ws × (rest ≡ ws) × (y ≡ x)) ⊎ ((w : Word) × (vs : List Word) × (ws ≡ w ∷ vs) × (w.token ≡ Else) × PhraseRead (statement ∷ []) (States one) site vs x y rest)

abbrev pub ElseStopped : Site → List Word → Board → Fault → Type 0
ElseStopped site ws x f = (w : Word) × (vs : List Word) × (ws ≡ w ∷ vs) × (w.token ≡ Else) × PhraseStopped (statement ∷ []) site vs x f

-- an if or while has been opened behind its first word: its test is read, a draft stands in its place, and so much less may be opened in it
pub record Entered (site : Site) (ws : List Word) (x b : Board) (label i : ℕ) (inner : Limits) (mid : List Word) : Type 0 where
  pub test : TestRead (guard ∷ []) Guarded site.limits.scope inner.left ws x.expressions b.expressions i mid
  pub draft : Draft
  pub pushed : vec_items b.drafts ≡ vec_items x.drafts ++ draft ∷ []
  pub label_is : label ≡ vec_len x.drafts
  pub few : vec_len x.drafts < 63
  pub deeper : Deeper site.limits inner
