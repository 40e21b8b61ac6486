-- What the readers of statements answer. Assumes nothing.
use Rattle.std.specs.Prelude.{◌≡◌, ℕ, ◌⊎◌, List, [], ◌∷◌, ◌++◌, Result, MatchResult, vec_items, vec_len}
use Rattle.std.proofs.Common.{Bor}
use Rattle.text.specs.declared.expressions.Expressions.{Expressions}
use Rattle.text.specs.declared.node.ArithNode.{ArithNode}
use Rattle.text.specs.declared.node.TestNode.{TestNode}
use Rattle.text.specs.declared.reading.Fault.{Fault}
use Rattle.text.specs.declared.word.Register.{Register}
use Rattle.text.specs.declared.word.Token.{Token}
use Rattle.text.specs.declared.word.Token.TheVariants.{Current, Initial, OpenParen, CloseParen}
use Rattle.text.specs.declared.word.Word.{Word}
use Rattle.text.specs.Expressions.{Test}
use Rattle.text.specs.Nodes.{ArithAt, TestAt}
use Rattle.text.specs.Words.{register_index}
use Rattle.text.specs.Table.{Item, statement}
use Rattle.syntax.specs.Phrases.{States, one}
use Rattle.text.specs.Reading.{place_of}
use Rattle.text.specs.Derivations.{Condition}
use Rattle.traces.specs.Programs.{Part}
use Rattle.traces.proofs.Links.{to_set, to_sense, to_skip, to_break, to_choose, to_repeat, Kind as PureKind, Draft as PureDraft, drafts}
use Rattle.program.specs.declared.draft.Kind.{Kind}
use Rattle.program.specs.declared.draft.Kind.TheVariants.{Set, Sense, Skip, Break, Choose, Repeat}
use Rattle.program.specs.declared.draft.Draft.{Draft}
use Rattle.program.specs.declared.board.Board.{Board}
use Rattle.program.specs.declared.site.Site.{Site}
use Rattle.program.specs.Places.{Goes, Stops}

-- what stands for a pure kind, over the nodes of expressions
abbrev pub KindFor : List ArithNode → List TestNode → Kind → PureKind → Type 0
KindFor ns ts k (to_set x e) = (r : Register) × (i : ℕ) × (k ≡ Set r i) × (register_index r ≡ x) × ArithAt ns i e
KindFor ns ts k (to_sense x) = (r : Register) × (k ≡ Sense r) × (register_index r ≡ x)
KindFor ns ts k to_skip = k ≡ Skip
KindFor ns ts k to_break = k ≡ Break
KindFor ns ts k (to_choose t m) = (i : ℕ) × (k ≡ Choose i m) × TestAt ns ts i t
KindFor ns ts k (to_repeat t) = (i : ℕ) × (k ≡ Repeat i) × TestAt ns ts i t

-- a draft stands for a pure one
pub record DraftFor (ns : List ArithNode) (ts : List TestNode) (d : Draft) (p : PureDraft) : Type 0 where
  pub kind_is : KindFor ns ts d.kind p.kind
  pub owner_is : d.owner ≡ p.owner
  pub end_is : d.end ≡ p.end

abbrev pub DraftsFor : List ArithNode → List TestNode → List Draft → List PureDraft → Type 0
DraftsFor ns ts [] [] = Unit {0}
DraftsFor ns ts [] (p ∷ ps) = ⊥
DraftsFor ns ts (d ∷ ds) [] = ⊥
DraftsFor ns ts (d ∷ ds) (p ∷ ps) = DraftFor ns ts d p × DraftsFor ns ts ds ps

-- expressions have been added behind those that were there
pub record Grown (x y : Expressions) : Type 0 where
  pub more_ariths : List ArithNode
  pub ariths : vec_items y.ariths ≡ vec_items x.ariths ++ more_ariths
  pub more_tests : List TestNode
  pub tests : vec_items y.tests ≡ vec_items x.tests ++ more_tests

-- a phrase has been read: from ws to rest, and its drafts stand on the board y, which was x
pub record PhraseRead (js : List Item) (D : List Word → Part → List Word → Type 0) (site : Site) (ws : List Word) (x y : Board) (rest : List Word) : Type 0 where
  pub tree : Part
  pub derives : D ws tree rest
  pub goes : Goes x.expressions.counted (vec_len x.drafts) site.limits.scope site.limits.left site.inside js ws rest y.expressions.counted (vec_len y.drafts)
  pub added : List Draft
  pub appended : vec_items y.drafts ≡ vec_items x.drafts ++ added
  pub stand : DraftsFor (vec_items y.expressions.ariths) (vec_items y.expressions.tests) added (drafts tree (vec_len x.drafts) site.owner)
  pub grown : Grown x.expressions y.expressions

-- a fault has been met: whatever else is owed, reading ws where js are owed comes to it
pub record PhraseStopped (js : List Item) (site : Site) (ws : List Word) (x : Board) (f : Fault) : Type 0 where
  pub words : List Word
  pub place_is : f.place ≡ place_of site.limits.end words
  pub stops : Stops x.expressions.counted (vec_len x.drafts) site.limits.scope site.limits.left site.inside js ws f.cause words

-- what the reader of a statement answers: the words behind it, or the fault
abbrev pub StatementAnswer : Site → List Word → Board → Board → Result (Bor (List Word)) Fault → Type 0
StatementAnswer site ws x y answer = MatchResult answer (λ r. PhraseRead (statement ∷ []) (States one) site ws x y r.now) (PhraseStopped (statement ∷ []) site ws x)

-- the token is the register's letter, small or capital
abbrev pub Letter : Token → Register → Type 0
Letter t r = (t ≡ Current r) ⊎ (t ≡ Initial r)

-- ( B )
pub data Guarded : List Word → Test → List Word → Type 0 where
  guarded : {o c : Word} {ws rest : List Word} {t : Test} → o.token ≡ OpenParen → Condition ws t (c ∷ rest) → c.token ≡ CloseParen → Guarded (o ∷ ws) t rest
