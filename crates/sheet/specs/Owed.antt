-- What the reading functions of sheets owe to one another. Assumes nothing.
use Rattle.std.specs.Prelude.{◌≡◌, ℕ, suc, ◌+◌, ◌≤◌, ◌⊎◌, List, [], ◌∷◌, ◌++◌, Result, MatchResult, vec_len}
use Rattle.grammar.specs.Answers.{fault, good}
use Rattle.model.specs.declared.refusal.Cause.{Cause}
use Rattle.model.specs.declared.refusal.Cause.TheVariants.{Many}
use Rattle.text.specs.declared.reading.Fault.{Fault}
use Rattle.text.specs.declared.reading.Limits.{Limits}
use Rattle.text.specs.declared.reading.Read.{Read}
use Rattle.text.specs.declared.word.Token.TheVariants.{Number, Empty, OpenParen, OpenBracket, CloseBracket, Colon, Question, Star, Plus}
use Rattle.text.specs.declared.word.Word.{Word}
use Rattle.text.specs.declared.word.Scope.TheVariants.{Every}
use Rattle.text.specs.Expressions.{Test}
use Rattle.text.specs.Derivations.{Condition}
use Rattle.text.specs.Table.{Item, unit, repeats, group, expression, colon, bracketed}
use Rattle.text.specs.Charges.{Memo, open_in, counting, with_parts, with_signs}
use Rattle.text.specs.Reading.{reads, place_of}
use Rattle.regular.specs.Words.{Regex, one, sequence, alternative, with_rest}
use Rattle.sheet.specs.declared.tree.Labels.{Labels}
use Rattle.sheet.specs.declared.tree.Node.{Node}
use Rattle.sheet.specs.declared.tree.Node.TheVariants.{Star as StarNode, Plus as PlusNode}
use Rattle.sheet.specs.declared.draft.Draft.{Draft}
use Rattle.sheet.specs.Parts.{labels_of}
use Rattle.sheet.specs.Texts.{Part, item, repeated, row, Derives, SheetText}
use Rattle.sheet.specs.Drafts.{SameParts, Pushed, Grown, Drawn}

-- so many words of expressions, assertions and signs are counted, every register may stand, and so many more may be opened
pub record Here (n p q left : ℕ) (m : Memo) (k : List Item) : Type 0 where
  pub counted : m.counter ≡ n
  pub parts : m.parts ≡ p
  pub signs : m.signs ≡ q
  pub scoped : m.scope ≡ Every
  pub nested : open_in k + left ≡ 16

-- what the draft counts
abbrev pub Now : Draft → ℕ → Memo → List Item → Type 0
Now x left m k = Here x.tests.counted (vec_len x.leaves) x.signs left m k

-- the memo with what the draft counts
abbrev pub noted : Memo → Draft → Memo
noted m y = with_signs (with_parts (counting m y.tests.counted) (vec_len y.leaves)) y.signs

-- reading ws where js are owed, and whatever else, comes to reading rest where only that is owed
abbrev pub Goes : Draft → ℕ → List Item → List Word → List Word → Draft → Type 0
Goes x left js ws rest y = (m : Memo) (k : List Item) → Now x left m k → reads ws m (js ++ k) ≡ reads rest (noted m y) k

-- reading ws where js are owed, and whatever else, comes to this fault at the words v
abbrev pub Stops : Draft → ℕ → List Item → List Word → Cause → List Word → Type 0
Stops x left js ws c v = (m : Memo) (k : List Item) → Now x left m k → reads ws m (js ++ k) ≡ fault c v

-- what may follow a row of items: the rest of a group, or of the whole expression
abbrev pub Tail : Item → Type 0
Tail z = (z ≡ group) ⊎ (z ≡ expression)

-- the same for rows of items and for alternatives, where a tail is owed behind them
abbrev pub RowGoes : Draft → ℕ → List Word → List Word → Draft → Type 0
RowGoes x left ws rest y = (m : Memo) (k : List Item) (z : Item) → Tail z → Now x left m (z ∷ k) → reads ws m (unit ∷ repeats ∷ z ∷ k) ≡ reads rest (noted m y) (z ∷ k)

abbrev pub RowStops : Draft → ℕ → List Word → Cause → List Word → Type 0
RowStops x left ws c v = (m : Memo) (k : List Item) (z : Item) → Tail z → Now x left m (z ∷ k) → reads ws m (unit ∷ repeats ∷ z ∷ k) ≡ fault c v

-- a fault has been met, and S says that reading comes to it
pub record Stopped (S : Cause → List Word → Type 0) (end : ℕ) (f : Fault) : Type 0 where
  -- the words from the faulty one on
  pub words : List Word
  pub place_is : f.place ≡ place_of end words
  pub stops : S f.cause words

-- [ B ]
abbrev pub Bracketed : List Word → Test → List Word → Type 0
Bracketed ws t rest = (o : Word) × (d : Word) × (inner : List Word) × (ws ≡ o ∷ inner) × (o.token ≡ OpenBracket) × Condition inner t (d ∷ rest) × (d.token ≡ CloseBracket)

-- `:` and [ B ] behind the labels of an assertion have been read; the assertion is counted already
pub record TestedRead (x : Draft) (ls : Labels) (left : ℕ) (ws : List Word) (y : Draft) (i : ℕ) (rest : List Word) : Type 0 where
  pub test : Test
  pub sign : Word
  pub inside : List Word
  pub is : ws ≡ sign ∷ inside
  pub is_colon : sign.token ≡ Colon
  pub derives : Bracketed inside test rest
  pub goes : (m : Memo) (k : List Item) → Here x.tests.counted (suc (vec_len x.leaves)) x.signs left m k → reads ws m (colon ∷ bracketed ∷ k) ≡ reads rest (noted m y) k
  pub grown : Drawn x y (one (record { labels = labels_of ls; test = test })) i

abbrev pub TestedStops : Draft → ℕ → List Word → Cause → List Word → Type 0
TestedStops x left ws c v = (m : Memo) (k : List Item) → Here x.tests.counted (suc (vec_len x.leaves)) x.signs left m k → reads ws m (colon ∷ bracketed ∷ k) ≡ fault c v

-- an item has been read, without the `*` and `+` behind it
pub record UnitRead (x : Draft) (left : ℕ) (ws : List Word) (y : Draft) (i : ℕ) (rest : List Word) : Type 0 where
  pub tree : Regex
  pub derives : Derives item ws tree rest
  pub goes : Goes x left (unit ∷ []) ws rest y
  pub grown : Drawn x y tree i

-- what the reader of an item answers, without the `*` and `+` behind it
abbrev pub UnitAnswer : Draft → Limits → List Word → Draft → Result Read Fault → Type 0
UnitAnswer x l ws y answer = MatchResult answer (λ r. UnitRead x l.left ws y r.index r.rest.now) (Stopped (Stops x l.left (unit ∷ []) ws) l.end)

-- the `*` and `+` behind the item at index i have been read
pub record RepeatsRead (x : Draft) (ws : List Word) (i : ℕ) (y : Draft) (j : ℕ) (rest : List Word) : Type 0 where
  pub goes : (left : ℕ) → Goes x left (repeats ∷ []) ws rest y
  pub grows : (d : Draft) (e : Regex) → Drawn d x e i → (f : Regex) × Derives (repeated e) ws f rest × Drawn d y f j

-- an item has been read, with the `*` and `+` behind it
pub record ItemRead (x : Draft) (left : ℕ) (ws : List Word) (y : Draft) (i : ℕ) (rest : List Word) : Type 0 where
  pub bare : Regex
  pub behind : List Word
  pub tree : Regex
  pub derives : Derives item ws bare behind
  pub repeating : Derives (repeated bare) behind tree rest
  pub goes : Goes x left (unit ∷ repeats ∷ []) ws rest y
  pub grown : Drawn x y tree i

abbrev pub RepeatsStop : Draft → List Word → Cause → List Word → Type 0
RepeatsStop x ws c v = (left : ℕ) → Stops x left (repeats ∷ []) ws c v

-- the words begin with `*` or `+`, and the node is that of the repeated item at index i
pub record RepeatSign (i : ℕ) (ws : List Word) (node : Node) (w : Word) (rest : List Word) : Type 0 where
  pub words : ws ≡ w ∷ rest
  pub sign : ((w.token ≡ Star) × (node ≡ StarNode i)) ⊎ ((w.token ≡ Plus) × (node ≡ PlusNode i))

-- a node has been added for a sign that has been counted
pub record Noded (x y : Draft) (node : Node) (j : ℕ) : Type 0 where
  pub between : Draft
  pub same : SameParts x between
  pub counted : between.signs ≡ suc x.signs
  pub pushed : Pushed between y node j

-- 256 signs have been counted, and this is one more
pub record TooMany (x : Draft) (place : ℕ) (f : Fault) : Type 0 where
  pub full : 256 ≤ x.signs
  pub cause_is : f.cause ≡ Many
  pub place_is : f.place ≡ place

-- there are 60 assertions, and this is one more
pub record NoRoom (x : Draft) (place : ℕ) (f : Fault) : Type 0 where
  pub full : 60 ≤ vec_len x.leaves
  pub cause_is : f.cause ≡ Many
  pub place_is : f.place ≡ place

-- a word that begins an item
pub data ItemWord (w : Word) : Type 0 where
  at_empty : w.token ≡ Empty → ItemWord w
  at_open : w.token ≡ OpenParen → ItemWord w
  at_question : w.token ≡ Question → ItemWord w
  at_number : (n : ℕ) → w.token ≡ Number n → ItemWord w

-- the words begin with an item's first word
pub record ItemBegins (ws : List Word) : Type 0 where
  pub word : Word
  pub behind : List Word
  pub is : ws ≡ word ∷ behind
  pub begins : ItemWord word

-- the row at index i has one more item
pub record NextItem (x : Draft) (left : ℕ) (i : ℕ) (ws : List Word) (y : Draft) (j : ℕ) (rest : List Word) : Type 0 where
  pub bare : Regex
  pub behind : List Word
  pub tree : Regex
  pub derives : Derives item ws bare behind
  pub repeating : Derives (repeated bare) behind tree rest
  pub goes : Goes x left (unit ∷ repeats ∷ []) ws rest y
  pub grows : (d : Draft) (e : Regex) → Drawn d x e i → Drawn d y (sequence e tree) j

-- a row of items, or alternatives, have been read
pub record RowRead (p : Part) (x : Draft) (left : ℕ) (ws : List Word) (y : Draft) (i : ℕ) (rest : List Word) : Type 0 where
  pub tree : Regex
  pub derives : Derives p ws tree rest
  pub goes : RowGoes x left ws rest y
  pub grown : Drawn x y tree i

-- what the reader of a row, or of alternatives, answers
abbrev pub RowAnswer : Part → Draft → Limits → List Word → Draft → Result Read Fault → Type 0
RowAnswer p x l ws y answer = MatchResult answer (λ r. RowRead p x l.left ws y r.index r.rest.now) (Stopped (RowStops x l.left ws) l.end)

-- reading ws where a tail is owed comes to reading rest there
abbrev pub TailGoes : Draft → ℕ → List Word → List Word → Draft → Type 0
TailGoes x left ws rest y = (m : Memo) (k : List Item) (z : Item) → Tail z → Now x left m (z ∷ k) → reads ws m (z ∷ k) ≡ reads rest (noted m y) (z ∷ k)

abbrev pub TailStops : Draft → ℕ → List Word → Cause → List Word → Type 0
TailStops x left ws c v = (m : Memo) (k : List Item) (z : Item) → Tail z → Now x left m (z ∷ k) → reads ws m (z ∷ k) ≡ fault c v

-- the alternatives at index i have one more row, behind its `|`
pub record NextRow (x : Draft) (left : ℕ) (i : ℕ) (ws vs : List Word) (y : Draft) (j : ℕ) (rest : List Word) : Type 0 where
  pub tree : Regex
  pub derives : Derives row vs tree rest
  pub goes : TailGoes x left ws rest y
  pub grows : (d : Draft) (e : Regex) → Drawn d x e i → Drawn d y (alternative e tree) j

-- `rest` has been read behind the expression at index i
pub record RestRead (x : Draft) (i : ℕ) (ws rest : List Word) (y : Draft) : Type 0 where
  pub ended : rest ≡ []
  pub goes : (m : Memo) → Now x 16 m (expression ∷ []) → reads ws m (expression ∷ []) ≡ good (noted m y)
  pub index : ℕ
  pub grows : (d : Draft) (e : Regex) → Grown d x e i → Grown d y (with_rest e) index

abbrev pub RestStops : Draft → List Word → Cause → List Word → Type 0
RestStops x ws c v = (m : Memo) → Now x 16 m (expression ∷ []) → reads ws m (expression ∷ []) ≡ fault c v

-- the whole sheet has been read
pub record WholeRead (x : Draft) (ws : List Word) (y : Draft) : Type 0 where
  pub tree : Regex
  pub derives : SheetText ws tree
  pub goes : (m : Memo) → Now x 16 m (expression ∷ []) → reads ws m (unit ∷ repeats ∷ expression ∷ []) ≡ good (noted m y)
  pub index : ℕ
  pub grown : Grown x y tree index

abbrev pub WholeStops : Draft → List Word → Cause → List Word → Type 0
WholeStops x ws c v = (m : Memo) → Now x 16 m (expression ∷ []) → reads ws m (unit ∷ repeats ∷ expression ∷ []) ≡ fault c v
